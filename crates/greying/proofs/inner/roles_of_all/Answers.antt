-- `inner::roles_of_all`: the rows of all sixteen people, gathered. Assumes nothing.
use Prim.Native.Nat.{ℕ}
use mathlib.Core.Path.{◌≡◌, ap, ◌∙◌}
use native.Mathlib.Omega.{arith}
use lib.ListN.{length}
use Rattle.sets.specs.Sets.{gather}
use Rattle.tables.specs.Laws.{rows_at}
use Rattle.rules.specs.Graph.{Graph, graph_of, roles_held}
use Rattle.greying.proofs.inner.roles_of_all.Goals as goal

pub returns : goal.returns
returns c =
    let block = c.args.g.now in
    let g : Graph = graph_of block in
    let whole : length block ≡ 404 = omega arith in
    let sixteen : length g.holds ≡ 16 = rows_at 324 16 block (omega arith) in
    c.roles_named.ensures ∙ ap (λ (k : ℕ). gather k (roles_held g)) sixteen
