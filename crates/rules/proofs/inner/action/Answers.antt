-- `inner::action`: a word of the actions, which are numbers below 64 in a graph with nothing against it. Assumes nothing.
use Prim.Native.Nat.{◌<◌}
use mathlib.Core.Path.{◌≡◌}
use native.Mathlib.Omega.{arith}
use Rattle.rules.specs.Graph.{Graph, graph_of, action_of}
use Rattle.rules.specs.Sound.{clear_sound}
use Rattle.rules.proofs.inner.action.Goals as goal
use Rattle.rules.proofs.inner.action.Goals.{After-word}

few : (c : After-word) → c.word.result < 64
few c =
    let g : Graph = graph_of c.args.g.now in
    let small : action_of (graph_of c.args.g.now) c.args.s < 64 = (clear_sound g c.requires.0).action_few c.args.s in
    let read : c.word.result ≡ action_of (graph_of c.args.g.now) c.args.s = c.word.ensures in
    omega arith

pub overflow_cast-result : goal.overflow_cast-result
overflow_cast-result c = let low : c.word.result < 64 = few c in omega arith

pub returns : goal.returns
returns c = (c.word.ensures, few c)
