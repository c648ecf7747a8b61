-- `actions_fit`: the actions passed are below the count. Assumes nothing.
use Rattle.std.proofs.Common.{◌≡◌, ℕ, length, sym, ap, ◌∙◌, arith}
use lib.Dec.{ltb}
use Rattle.sets.specs.Sets.{every}
use Rattle.bodies.specs.Bodies.{row_in, actions_fit}
use Rattle.bodies.specs.Laws.{row_byte, actions_none, actions_more}
use Rattle.bodies.proofs.actions_fit.Goals as goal

pub loop-a-init : goal.loop-a-init
loop-a-init c = let a = c.args in sym (actions_none a.actions a.body.now)

pub loop-a-preserved : goal.loop-a-preserved
loop-a-preserved c =
    let l = c.loop-a in
    let a = c.args in
    actions_more a.actions l.a-index _ a.body.now l.fit l.invariant (sym (row_byte a.body.now l.a-index))

pub returns : goal.returns
unfolding actions_fit
returns c =
    let l = c.loop-a in
    let a = c.args in
    l.invariant ∙ ap (λ (k : ℕ). every k (λ j. ltb (row_in 1 a.body.now j) a.actions))
    (let e : l.a-index ≡ length a.body.now = omega arith in e)
