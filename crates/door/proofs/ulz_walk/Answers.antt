-- `ulz_walk`: number and values of what the walk says. Assumes nothing.
use Rattle.door.proofs.ulz_walk.Goals as goal

pub returns : goal.returns
returns c = rw c.walk_at-s.ensures at c.walked.ensures
