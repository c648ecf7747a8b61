use Rattle.std.proofs.Common.{◌≡◌}
use Rattle.sets.specs.Sets.{gather}
use Rattle.bodies.specs.Bodies.{set_at}
use Rattle.bodies.proofs.role_sets_fit.Given as goal

abbrev pub invariant-loop-i : goal.invariant-loop-i
invariant-loop-i l = l.found ≡ gather l.i (set_at l.body)
