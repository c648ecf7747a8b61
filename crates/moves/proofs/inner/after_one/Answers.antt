-- `inner::after_one`: the code is the definition, set by set. Assumes nothing.
use mathlib.Core.Path.{refl}
use Rattle.moves.proofs.inner.after_one.Goals as goal

pub returns : goal.returns
returns c = refl
