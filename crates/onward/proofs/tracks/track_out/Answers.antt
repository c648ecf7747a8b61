-- `track_out`: field by field; a flag is 1 or 0. Assumes nothing.
use Rattle.answers.specs.Laws.{as_flag}
use Rattle.onward.proofs.tracks.track_out.Goals as goal

pub returns : goal.returns
returns c = simp (as_flag c.args.t.flag)
