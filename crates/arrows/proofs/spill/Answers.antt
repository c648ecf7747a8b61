-- `spill`: the steps that are left, put into the table as it stands, give what all of them give at the start. Each is below 64, so it has a
-- row of its own. Assumes nothing.
use Rattle.sets.specs.Members.{members_below}
use Rattle.arrows.specs.Loops.{spill_next, spill_done}
use Rattle.arrows.proofs.spill.Goals as goal

pub bounds-table-a : goal.bounds-table-a
bounds-table-a c = members_below _ c.in-Some.ensures.steps

pub bounds-table-a-in-loop-a : goal.bounds-table-a-in-loop-a
bounds-table-a-in-loop-a c = members_below _ c.in-Some.ensures.steps

pub loop-a-preserved : goal.loop-a-preserved
loop-a-preserved c =
    let a = c.args in
    rw c.single-one.ensures (spill_next a.x a.b a.table.now c.loop-a.table c.loop-a.invariant c.in-Some.ensures.steps)

pub returns : goal.returns
returns c = let a = c.args in spill_done a.x a.b a.table.now c.loop-a.table c.loop-a.invariant c.in-None.ensures.steps.0
