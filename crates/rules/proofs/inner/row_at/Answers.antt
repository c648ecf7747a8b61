-- `inner::row_at`: a row is read word by word, the roles at the step's action. Assumes nothing.
use mathlib.Core.Path.{◌≡◌, ap, ◌∙◌}
use native.Mathlib.Omega.{arith}
use lib.Dec.{lit≤}
use Rattle.rules.specs.Graph.{Graph, graph_of, roles_of, roles_of_action}
use Rattle.rules.proofs.inner.row_at.Goals as goal

pub word-requires-2 : goal.word-requires-2
word-requires-2 c = (lit≤ tt, omega (arith, c.action-a.ensures.1))

pub returns : goal.returns
returns c =
    let g : Graph = graph_of c.args.g.now in
    let roles : c.word-2.result ≡ roles_of (graph_of c.args.g.now) c.args.s =
    c.word-2.ensures ∙ ap (roles_of_action g) c.action-a.ensures.0 in
    simp (
      c.word-6.ensures,
      c.word-5.ensures,
      c.word-4.ensures,
      c.word-3.ensures,
      roles,
      c.word.ensures,
    )
