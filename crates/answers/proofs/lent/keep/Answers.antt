-- `keep`: the move's number and step; the marking to keep is stored exactly where the number is 0. Assumes nothing.
use mathlib.Core.Path.{◌≡◌, sym, ◌∙◌}
use borrow.Author.Tests.{eq-eqb, ne_eqb}
use Rattle.moves.specs.Move.{number_of_move}
use Rattle.answers.proofs.lent.keep.Goals as goal

pub returns-then-r-eq0 : goal.returns-then-r-eq0
returns-then-r-eq0 c =
    let told = c.moved-told.ensures in
    let k = c.args.k in
    let none : number_of_move k.answer ≡ 0 = sym told.number_value ∙ c.if-r-eq0.true in
    record { number_value = told.number_value; waiting_value = told.waiting_value; words_after = simp (eq-eqb _ _ none) c.store.ensures }

pub returns : goal.returns
returns c =
    let told = c.moved-told.ensures in
    let k = c.args.k in
    let some : number_of_move k.answer ≡ 0 → ⊥ = λ z. c.if-r-eq0.false (told.number_value ∙ z) in
    record { number_value = told.number_value; waiting_value = told.waiting_value; words_after = simp (ne_eqb _ _ some) }
