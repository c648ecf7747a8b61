-- No row names more than 64 steps.
use Rattle.std.proofs.Common.{◌*◌, ◌≤◌}
use Rattle.showing.proofs.graphs.say_arrow_count.Given as goal

abbrev pub invariant-loop-x : goal.invariant-loop-x
invariant-loop-x l = l.total ≤ 64 * l.x-index
