-- `write`: 30 where the arms do not fit; else the sheet is written as that of any job. Assumes nothing.
use mathlib.Core.Path.{◌≡◌, sym, ◌∙◌}
use mathlib.Core.Bool.{true}
use borrow.Author.Rules.{rules}
use Rattle.cabinet.specs.Cabinet.{arms_fit}
use Rattle.cabinet.specs.Laws.{arms_low, arms_high, wrong_arms, right_arms}
use Rattle.cabinet.proofs.write.Goals as goal
use Rattle.cabinet.proofs.write.Goals.{Else-not-arms_fit}

pub returns-then-not-arms_fit : goal.returns-then-not-arms_fit
returns-then-not-arms_fit c =
    let a = c.args in
    let r = wrong_arms a.arms a.room.now (sym c.arms_fit.ensures ∙ c.if-not-arms_fit.true) in
    record { value = r.answer; room_after = r.room }

-- past the test the arms fit
fits : (c : Else-not-arms_fit) → arms_fit c.args.arms ≡ true
fits c = sym c.arms_fit.ensures ∙ c.if-not-arms_fit.false

pub fill-requires : goal.fill-requires
fill-requires c =
    let k = (goal.at.fill-requires c).Else-not-arms_fit in
    (arms_low _ (fits k), arms_high _ (fits k), search rules)

pub at_first-requires : goal.at_first-requires
at_first-requires c = arms_high _ (fits (goal.at.at_first-requires c).Else-not-arms_fit)

pub returns : goal.returns
returns c =
    let a = c.args in
    let r = right_arms a.arms a.room.now (fits (goal.at.returns c).Else-not-arms_fit) _ _ _ _ c.fill.ensures c.at_first.ensures
    c.write.ensures.value c.write.ensures.room_after in
    record { value = r.answer; room_after = r.room }
