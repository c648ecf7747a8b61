-- `ulz_record_read`: the reading's number, and the words as it leaves them. Assumes nothing.
use Rattle.door.proofs.ulz_record_read.Goals as goal

pub returns : goal.returns
returns c = rw c.read-o.ensures at c.spread.ensures
