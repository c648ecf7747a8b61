use Prim.Native.Nat.{◌*◌, ◌^◌, ◌<◌}
use mathlib.Core.Path.{◌≡◌}
use lib.ListN.{length, drop}
use Rattle.rules.specs.Graph.{graph_of}
use Rattle.journal.specs.Journal.{entries}
use Rattle.records.specs.Records.{identity}
use Rattle.folding.specs.Laws.{compound}
use Rattle.folding.proofs.inner.fold_entries.Given as goal

abbrev pub invariant-loop-k : goal.invariant-loop-k
invariant-loop-k l =
    (l.count * 3 ≡ length l.j) × (length l.j < 2 ^ 64) × (l.r.dueclear ≡ l.r.done)
    × (compound (graph_of l.g) identity (entries l.j)
    ≡ compound (graph_of l.g) l.r (entries (drop (3 * l.k) l.j)))
