use Rattle.std.proofs.Common.{◌≡◌}
use lib.Dec.{ltb}
use Rattle.sets.specs.Sets.{every}
use Rattle.bodies.specs.Bodies.{row_in}
use Rattle.bodies.proofs.actions_fit.Given as goal

abbrev pub invariant-loop-a : goal.invariant-loop-a
invariant-loop-a l = l.fit ≡ every l.a-index (λ j. ltb (row_in 1 l.body j) l.actions)
