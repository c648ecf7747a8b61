-- `inner::step_record`: the code is the definition, with 1 shifted by s for the set with s alone. Assumes nothing.
use Rattle.folding.proofs.inner.step_record.Goals as goal

pub returns : goal.returns
returns c = simp c.single-one.ensures
