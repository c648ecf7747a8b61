-- `ulz_check`: the number of the verdict on the block. Assumes nothing.
use Rattle.door.proofs.ulz_check.Goals as goal

pub returns : goal.returns
returns c = rw c.check-v.ensures at c.verdict.ensures
