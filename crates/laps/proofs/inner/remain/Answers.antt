-- `inner::remain`: the operations are those of the definition. Assumes nothing.
use Rattle.laps.proofs.inner.remain.Goals as goal

pub returns : goal.returns
returns c = simp c.single.ensures
