-- `Record::apply`: the tests are the table's lines, in its order. Assumes nothing.
use mathlib.Core.Path.{sym, ap, ◌∙◌}
use mathlib.Core.Bool.{not}
use Rattle.std.proofs.Common.{arith}
use Rattle.moves.specs.First.{first, number_of}
use Rattle.records.specs.Answers.{the_application, applied_of}
use Rattle.records.specs.Answered.{applies_on}
use Rattle.records.proofs.Record.apply.Goals as goal

pub returns-then-not-counts : goal.returns-then-not-counts
unfolding the_application applied_of first number_of
returns-then-not-counts c = simp (c.from.ensures, ap not (sym c.counts.ensures) ∙ ap not c.if-not-counts.true)

pub returns-then-not-fits : goal.returns-then-not-fits
unfolding the_application applied_of first number_of
returns-then-not-fits c = simp (
  ap not (sym c.counts.ensures) ∙ ap not c.if-not-counts.false,
  ap not (sym c.fits.ensures) ∙ ap not c.if-not-fits.true,
  c.from-then-not-fits.ensures,
)

pub returns-then-not-well_formed : goal.returns-then-not-well_formed
unfolding the_application applied_of first number_of
returns-then-not-well_formed c = simp (
  ap not (sym c.counts.ensures) ∙ ap not c.if-not-counts.false,
  ap not (sym c.fits.ensures) ∙ ap not c.if-not-fits.false,
  ap not (sym c.well_formed-2.ensures) ∙ ap not c.if-not-well_formed.true,
  c.from-then-not-well_formed.ensures,
)

pub returns : goal.returns
returns c = grind (arith, applies_on)
