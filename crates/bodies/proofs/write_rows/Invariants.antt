use Rattle.numbers.specs.Numbers.{Spliced}
use Rattle.bodies.specs.Bodies.{rows_body}
use Rattle.bodies.proofs.write_rows.Given as goal

abbrev pub invariant-loop-row : goal.invariant-loop-row
invariant-loop-row l = Spliced (rows_body l.w l.row-index l.table) l.at l.initial.room l.room l.to
