use Rattle.sets.specs.Walk.{left}
use Rattle.arrows.specs.Loops.{SpillLeft}
use Rattle.arrows.proofs.spill.Given as goal

abbrev pub invariant-loop-a : goal.invariant-loop-a
invariant-loop-a l = SpillLeft l.x l.b l.initial.table (left l.a-iterator) l.table
