-- `ulz_restore`: the restoring from what the bytes spell. Assumes nothing.
use Rattle.door.proofs.ulz_restore.Goals as goal

pub returns : goal.returns
returns c = rw (c.restore-o.ensures, c.record_in-x.ensures) at c.ran.ensures
