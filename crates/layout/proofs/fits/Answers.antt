-- `fits`: the lines that are left decide; a line that does not fit ends it. Assumes nothing.
use Prim.Native.Nat.{ℕ, ◌+◌, ◌-◌}
use mathlib.Core.Path.{◌≡◌, sym, ap, ap₂, ◌∙◌}
use mathlib.Core.Bool.{Bool, ◌&&◌}
use native.Mathlib.Omega.{arith}
use lib.ListN.{get_or}
use borrow.Author.Tests.{eq-eqb}
use Rattle.layout.specs.Layout.{size_at, follows}
use Rattle.layout.specs.Loops.{follows_more, follows_done}
use Rattle.layout.proofs.fits.Goals as goal

pub returns-then-not-line_fits : goal.returns-then-not-line_fits
returns-then-not-line_fits c =
    let a = c.args in
    let l = c.loop-i in
    let byte : get_or a.s.now 0 0 ≡ a.count = c.if-s-count.false in
    sym (ap₂ (λ (b f : Bool). b && f) (eq-eqb (get_or a.s.now 0 0) a.count byte)
    (l.invariant.left ∙ follows_more a.count l.i l.at a.s.now c.loop-i-test.true
    ∙ ap (λ (b : Bool). b && follows (a.count - (l.i + 1)) (l.i + 1) (l.at + size_at a.s.now l.i) a.s.now)
    (sym c.line_fits.ensures ∙ c.if-not-line_fits.true)))

pub loop-i-preserved : goal.loop-i-preserved
loop-i-preserved c =
    let a = c.args in
    let l = c.loop-i in record {
      low = omega (arith, c.size-at.ensures.1);
      left = l.invariant.left ∙ follows_more a.count l.i l.at a.s.now c.loop-i-test.true
          ∙ ap₂ (λ (b : Bool) (n : ℕ). b && follows (a.count - (l.i + 1)) (l.i + 1) (l.at + n) a.s.now)
          (sym c.line_fits.ensures ∙ c.if-not-line_fits.false) (sym c.size-at.ensures.0);
    }

pub returns : goal.returns
returns c =
    let a = c.args in
    let l = c.loop-i in
    let byte : get_or a.s.now 0 0 ≡ a.count = c.if-s-count.false in
    sym (ap₂ (λ (b f : Bool). b && f) (eq-eqb (get_or a.s.now 0 0) a.count byte)
    (l.invariant.left ∙ follows_done a.count l.i l.at a.s.now c.loop-i-test.false))
