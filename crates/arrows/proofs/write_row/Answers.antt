-- `write_row`: the arrows that are left, stored from where the loop stands, give what all of them give from the start. While a step is left
-- there is room for its arrow, since the whole row was promised room. Assumes nothing.
use Rattle.arrows.specs.Loops.{row_next, row_written}
use Rattle.arrows.proofs.write_row.Goals as goal

pub loop-b-preserved : goal.loop-b-preserved
loop-b-preserved c = row_next c.loop-b.invariant c.in-Some.ensures.steps

pub returns : goal.returns
returns c = row_written c.loop-b.invariant c.in-None.ensures.steps.0
