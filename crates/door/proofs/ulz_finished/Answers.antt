-- `ulz_finished`: the ending's number and value. Assumes nothing.
use Rattle.door.proofs.ulz_finished.Goals as goal

pub returns : goal.returns
returns c = rw c.finished-o.ensures at c.ending.ensures
