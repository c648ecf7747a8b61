use Rattle.sets.specs.Walk.{left}
use Rattle.arrows.specs.Loops.{RowLeft}
use Rattle.arrows.proofs.write_row.Given as goal

abbrev pub invariant-loop-b : goal.invariant-loop-b
invariant-loop-b l = RowLeft l.k l.a l.x l.at l.initial.room (left l.b-iterator) l.to l.room
