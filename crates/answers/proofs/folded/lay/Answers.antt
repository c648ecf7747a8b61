-- `lay`: word by word; never is 1 or 0. Assumes nothing.
use Rattle.answers.specs.Laws.{as_flag}
use Rattle.answers.proofs.folded.lay.Goals as goal

pub returns : goal.returns
returns c = simp (as_flag c.args.r.never)
