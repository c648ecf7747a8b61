-- `label`: a step's own number, a byte of the body, or nothing past its end. Assumes nothing.
use Rattle.std.proofs.Common.{◌≡◌, ◌*◌, ◌≤◌, Bool, cond, length, sym, ap, ◌∙◌, arith, le-ltb}
use lib.Dec.{ltb}
use Rattle.bodies.specs.Bodies.{row_in}
use Rattle.bodies.specs.Laws.{row_past, row_byte}
use Rattle.bodies.proofs.label.Goals as goal
use Rattle.bodies.proofs.label.Goals.{Else-i-own}

-- from the steps on that are their own actions the body says which
by-body : (c : Else-i-own) → let a = c.args in cond (ltb a.i a.own) a.i (row_in 1 a.body.now a.i)
    ≡ row_in 1 a.body.now a.i
by-body c =
    let a = c.args in
    ap (λ (b : Bool). cond b a.i (row_in 1 a.body.now a.i)) (le-ltb a.i a.own c.if-i-own.false)

pub returns-then-i-body : goal.returns-then-i-body
returns-then-i-body c =
    let a = c.args in
    sym (by-body (goal.at.returns-then-i-body c).Else-i-own ∙ row_byte a.body.now a.i)

pub returns-else-i-body : goal.returns-else-i-body
returns-else-i-body c =
    let a = c.args in
    let past : length a.body.now ≤ 1 * a.i = omega (arith, c.if-i-body.false) in
    sym (by-body (goal.at.returns-else-i-body c).Else-i-own ∙ row_past 1 a.body.now a.i past)
