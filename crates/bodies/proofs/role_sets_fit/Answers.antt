-- `role_sets_fit`: found is what the role sets passed name. Assumes nothing.
use Rattle.std.proofs.Common.{◌≡◌, ℕ, ◌/◌, length, refl, sym, ap, ap₂, ◌∙◌, arith}
use Rattle.sets.specs.Sets.{within, union, gather}
use Rattle.sets.specs.Laws.{gather_more}
use Rattle.bodies.specs.Bodies.{set_at}
use Rattle.bodies.specs.Laws.{roles_together}
use Rattle.bodies.proofs.role_sets_fit.Goals as goal

pub loop-i-init : goal.loop-i-init
unfolding gather
loop-i-init c = refl

pub loop-i-preserved : goal.loop-i-preserved
loop-i-preserved c =
    let a = c.args in
    let l = c.loop-i in
    ap₂ union l.invariant c.role_set-found.ensures ∙ sym (gather_more l.i (set_at a.body.now))

pub returns : goal.returns
returns c =
    let a = c.args in
    let l = c.loop-i in
    c.within.ensures ∙ ap (within a.roles)
    (l.invariant ∙ ap (λ (k : ℕ). gather k (set_at a.body.now)) (let e : l.i ≡ length a.body.now / 2 = omega arith in e))
    ∙ roles_together a.roles a.body.now
