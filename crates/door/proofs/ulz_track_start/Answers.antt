-- `ulz_track_start`: number and values of the tracker's answer. Assumes nothing.
use Rattle.door.proofs.ulz_track_start.Goals as goal

pub returns : goal.returns
returns c = rw c.start-o.ensures at c.tracked.ensures
