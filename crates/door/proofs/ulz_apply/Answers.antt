-- `ulz_apply`: the application of what the bytes spell. Assumes nothing.
use Rattle.door.proofs.ulz_apply.Goals as goal

pub returns : goal.returns
returns c = rw (c.apply-o.ensures, c.record_in-x.ensures) at c.applied.ensures
