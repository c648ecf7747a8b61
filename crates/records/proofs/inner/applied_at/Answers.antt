-- `inner::applied_at`: of the table's lines only the marking's and the last are left. Assumes nothing.
use mathlib.Core.Path.{sym, ap, ◌∙◌}
use mathlib.Core.Bool.{not}
use Rattle.std.proofs.Common.{arith}
use Rattle.moves.specs.First.{first, number_of}
use Rattle.records.specs.Answers.{applied_of, the_application}
use Rattle.records.specs.Answered.{applies_on}
use Rattle.records.proofs.inner.applied_at.Goals as goal

pub returns-then-not-fits : goal.returns-then-not-fits
unfolding the_application applied_of first number_of
returns-then-not-fits c = simp (c.from.ensures, c.requires.0, ap not (sym c.fits.ensures) ∙ ap not c.if-not-fits.true)

pub returns : goal.returns
returns c = grind (arith, applies_on)
