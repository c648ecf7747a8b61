-- `ulz_run`: the run's number and values. Assumes nothing.
use Rattle.door.proofs.ulz_run.Goals as goal

pub returns : goal.returns
returns c = rw c.run-o.ensures at c.ran.ensures
