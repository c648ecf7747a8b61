-- `inner::length_fits`: the code is the definition. Assumes nothing.
use mathlib.Core.Path.{refl}
use Rattle.journal.proofs.inner.length_fits.Goals as goal

pub returns : goal.returns
returns c = refl
