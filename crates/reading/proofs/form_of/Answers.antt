-- `form_of`: byte 0 tells. Assumes nothing.
use mathlib.Core.Path.{sym}
use borrow.Author.Tests.{eq-eqb, ne_eqb}
use Rattle.reading.specs.Laws.{form_six, form_five}
use Rattle.reading.proofs.form_of.Goals as goal

pub returns-then-s-eq6 : goal.returns-then-s-eq6
returns-then-s-eq6 c = sym (form_six c.args.s.now (eq-eqb _ 6 c.if-s-eq6.true))

pub returns-else-s-eq6 : goal.returns-else-s-eq6
returns-else-s-eq6 c = sym (form_five c.args.s.now (ne_eqb _ 6 c.if-s-eq6.false))
