-- `inner::follow`: the three ways out are the cases of the rule: no x, x met, x not met. Assumes nothing.
use Prim.Native.Nat.{◌^◌, ◌<◌}
use mathlib.Core.Path.{sym, ◌∙◌}
use native.Mathlib.Omega.{arith}
use borrow.Author.Tests.{eq-eqb}
use Rattle.sets.specs.Sets.{lowest}
use Rattle.sets.specs.Laws.{lowest_below}
use Rattle.tracker.specs.Tracker.{track_after}
use Rattle.tracker.specs.Laws.{after_met, after_unmet}
use Rattle.tracker.proofs.inner.follow.Goals as goal

pub returns-then-ahead-eq0 : goal.returns-then-ahead-eq0
unfolding track_after
returns-then-ahead-eq0 c = simp (eq-eqb _ 0 (sym c.pool-ahead.ensures ∙ c.if-ahead-eq0.true))

pub meets-requires : goal.meets-requires
meets-requires c =
    let small : c.pool-ahead.result < 2 ^ 64 = omega arith in
    let low : lowest 64 c.pool-ahead.result < 64 =
    lowest_below 64 c.pool-ahead.result small c.if-ahead-eq0.false in
    omega (arith, c.lowest-x.ensures)

pub rank_of-requires : goal.rank_of-requires
rank_of-requires c =
    let small : c.pool-ahead.result < 2 ^ 64 = omega arith in
    let low : lowest 64 c.pool-ahead.result < 64 =
    lowest_below 64 c.pool-ahead.result small c.if-ahead-eq0.false in
    omega (arith, c.lowest-x.ensures)

pub returns-then-meets : goal.returns-then-meets
returns-then-meets c =
    let a = c.args in
    after_met a.t a.next a.e.0 c.pool-ahead.result
    c.lowest-x.result c.rank_of.result c.pool-ahead.ensures
    c.if-ahead-eq0.false c.lowest-x.ensures
    (sym c.meets.ensures ∙ c.if-meets.true) c.rank_of.ensures

pub returns : goal.returns
returns c =
    let a = c.args in
    after_unmet a.t a.next a.e.0 c.pool-ahead.result c.lowest-x.result
    c.pool-ahead.ensures c.lowest-x.ensures
    (sym c.meets.ensures ∙ c.if-meets.false)
