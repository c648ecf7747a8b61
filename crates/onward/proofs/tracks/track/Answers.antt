-- `track`: field by field. Assumes nothing.
use Rattle.onward.proofs.tracks.track.Goals as goal

pub returns : goal.returns
returns c = simp c.rank.ensures
