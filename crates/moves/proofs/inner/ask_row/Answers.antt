-- `inner::ask_row`: each test of the code is a line of the table, in the table's order. In each answer a place is named by the test that
-- was made last there. Assumes nothing.
use mathlib.Core.Path.{sym, ◌∙◌, ap}
use mathlib.Core.Bool.{not}
use borrow.Author.Tests.{ne_eqb, eq-eqb}
use Rattle.moves.specs.First.{first}
use Rattle.moves.proofs.inner.ask_row.Goals as goal

pub returns-then-not-has : goal.returns-then-not-has
unfolding first
returns-then-not-has c = simp (ap not (sym c.has.ensures) ∙ ap not c.if-not-has.true)

pub returns-then-not-has-2 : goal.returns-then-not-has-2
unfolding first
returns-then-not-has-2 c =
    simp (ap not (sym c.has.ensures) ∙ ap not c.if-not-has.false, ap not (sym c.has-2.ensures) ∙ ap not c.if-not-has-2.true)

pub returns-then-not-has-3 : goal.returns-then-not-has-3
unfolding first
returns-then-not-has-3 c =
    simp (
      ap not (sym c.has.ensures) ∙ ap not c.if-not-has.false,
      ap not (sym c.has-2.ensures) ∙ ap not c.if-not-has-2.false,
      ap not (sym c.has-3.ensures) ∙ ap not c.if-not-has-3.true,
    )

pub returns-then-open-ne0 : goal.returns-then-open-ne0
unfolding first
returns-then-open-ne0 c =
    simp (
      ap not (sym c.has.ensures) ∙ ap not c.if-not-has.false,
      ap not (sym c.has-2.ensures) ∙ ap not c.if-not-has-2.false,
      ap not (sym c.has-3.ensures) ∙ ap not c.if-not-has-3.false,
      ne_eqb _ 0 (λ q. c.if-open-ne0.true (c.waits-open.ensures ∙ q)),
      c.waits-open.ensures,
    )

pub returns : goal.returns
unfolding first
returns c =
    simp (
      ap not (sym c.has.ensures) ∙ ap not c.if-not-has.false,
      ap not (sym c.has-2.ensures) ∙ ap not c.if-not-has-2.false,
      ap not (sym c.has-3.ensures) ∙ ap not c.if-not-has-3.false,
      eq-eqb _ 0 (sym c.waits-open.ensures ∙ c.if-open-ne0.false),
    )
