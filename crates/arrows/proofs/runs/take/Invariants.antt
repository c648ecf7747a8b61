use Rattle.std.proofs.Common.{◌+◌, ◌-◌, length}
use Rattle.arrows.specs.Loops.{arrow_in}
use Rattle.arrows.specs.Runs.{Under, Puts, base, pointed, source_row}
use Rattle.arrows.proofs.runs.take.Given as goal

-- conditions are put as they are read
abbrev pub invariant-loop-b : goal.invariant-loop-b
invariant-loop-b l = record {
  under : Under l.n l.s l.at l.run;
  puts : Puts l.n l.s l.at l.fn.table (base l.s l.at + l.run.least) l.run.at l.table;
}

abbrev pub decreases-loop-b : goal.decreases-loop-b
decreases-loop-b l = length l.s - l.run.at

-- other arrows are put together, behind the last
abbrev pub invariant-loop-b-else-first-eq0 : goal.invariant-loop-b-else-first-eq0
invariant-loop-b-else-first-eq0 l = record {
  under : Under l.n l.s l.at l.run;
  puts : Puts l.n l.s l.at l.fn.table (base l.s l.at + l.run.least) l.run.at (pointed l.fn.table (source_row (arrow_in l.s l.at)) l.steps);
}

abbrev pub decreases-loop-b-else-first-eq0 : goal.decreases-loop-b-else-first-eq0
decreases-loop-b-else-first-eq0 l = length l.s - l.run.at
