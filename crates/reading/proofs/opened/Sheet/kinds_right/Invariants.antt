use mathlib.Core.Path.{◌≡◌}
use Rattle.sets.specs.Sets.{gather}
use Rattle.reading.specs.Judged.{shared_at}
use Rattle.reading.proofs.opened.Sheet.kinds_right.Given as goal

abbrev pub invariant-loop-a : goal.invariant-loop-a
invariant-loop-a l = l.both ≡ gather l.a (shared_at l.table)
