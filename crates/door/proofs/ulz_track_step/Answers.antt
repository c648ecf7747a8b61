-- `ulz_track_step`: number and values of the tracker's answer to the state handed in. Assumes nothing.
use Rattle.door.proofs.ulz_track_step.Goals as goal

pub returns : goal.returns
returns c = rw (c.advance-o.ensures, c.track.ensures) at c.tracked.ensures
