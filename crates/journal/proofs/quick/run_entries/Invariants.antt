use Prim.Native.Nat.{◌*◌, ◌≤◌}
use mathlib.Core.Path.{◌≡◌}
use lib.ListN.{length, drop}
use Rattle.rules.specs.Graph.{graph_of}
use Rattle.journal.specs.Journal.{entries}
use Rattle.journal.specs.Inner.{run_on}
use Rattle.journal.proofs.quick.run_entries.Given as goal

abbrev pub invariant-loop-k : goal.invariant-loop-k
invariant-loop-k l =
    (l.count * 3 ≡ length l.j) × (length l.j ≤ 65535)
    × (run_on (graph_of l.g) l.initial.at 0 (entries l.j) ≡ run_on (graph_of l.g) l.at l.k (entries (drop (3 * l.k) l.j)))
