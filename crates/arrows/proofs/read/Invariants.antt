use Rattle.std.proofs.Common.{◌-◌, ◌%◌, ◌≤◌, ◌≡◌, length}
use Rattle.arrows.specs.Loops.{Reading}
use Rattle.arrows.proofs.read.Given as goal

abbrev pub invariant-loop-stop : goal.invariant-loop-stop
invariant-loop-stop l = record {
  within : l.stop.at ≤ length l.s;
  whole : l.stop.at % 3 ≡ 0;
  reading : Reading l.n l.s l.initial.table l.stop.next l.stop.at l.table;
}

abbrev pub decreases-loop-stop : goal.decreases-loop-stop
decreases-loop-stop l = length l.s - l.stop.at
