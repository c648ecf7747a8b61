use Prim.Native.Nat.{◌*◌, ◌≤◌}
use mathlib.Core.Path.{◌≡◌}
use lib.ListN.{length, drop}
use Rattle.rules.specs.Graph.{graph_of}
use Rattle.journal.specs.Journal.{entries}
use Rattle.laps.specs.Decision.{leg_on}
use Rattle.laps.proofs.inner.go_through.Given as goal

abbrev pub invariant-loop-k : goal.invariant-loop-k
invariant-loop-k l =
    (l.count * 3 ≡ length l.j) × (length l.j ≤ 65535)
    × (leg_on (graph_of l.g) l.initial.at l.initial.left 0 (entries l.j)
    ≡ leg_on (graph_of l.g) l.at l.left l.k (entries (drop (3 * l.k) l.j)))
