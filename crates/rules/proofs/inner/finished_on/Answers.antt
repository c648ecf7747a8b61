-- `inner::finished_on`: the marking's refusal, then the test itself. Assumes nothing.
use mathlib.Core.Path.{◌≡◌, sym, ◌∙◌, ap}
use mathlib.Core.Bool.{Bool, true, false, cond}
use borrow.Author.Tests.{ne_eqb, eq-eqb}
use Rattle.rules.specs.declared.Ending.{Ending}
use Rattle.moves.specs.Move.{marking_fits}
use Rattle.rules.specs.Laws.{ending_outside, ending_inside}
use Rattle.rules.proofs.inner.finished_on.Goals as goal
use Rattle.std.specs.Prelude.{Ok}

pub returns-then-not-fits : goal.returns-then-not-fits
returns-then-not-fits c =
    let a = c.args in
    let out : marking_fits a.steps a.m ≡ false = sym c.fits.ensures ∙ c.if-not-fits.true in
    sym (ending_outside a.steps a.m out)

pub returns-then-m-eq0 : goal.returns-then-m-eq0
returns-then-m-eq0 c =
    let a = c.args in
    let within : marking_fits a.steps a.m ≡ true = sym c.fits.ensures
    ∙ c.if-not-fits.false in
    sym (ending_inside a.steps a.m within ∙ ap (λ (b : Bool). cond b (Ok Ending.Finished) (Ok Ending.Open)) (eq-eqb _ 0 c.if-m-eq0.true))

pub returns-else-m-eq0 : goal.returns-else-m-eq0
returns-else-m-eq0 c =
    let a = c.args in
    let within : marking_fits a.steps a.m ≡ true = sym c.fits.ensures
    ∙ c.if-not-fits.false in
    sym (ending_inside a.steps a.m within ∙ ap (λ (b : Bool). cond b (Ok Ending.Finished) (Ok Ending.Open)) (ne_eqb _ 0 c.if-m-eq0.false))
