-- The lines that are left decide; a line with a fault ends it, and behind the last the sizes decide.
use Rattle.std.proofs.Common.{rules, arith, ℕ, Bool, ◌+◌, ◌-◌, ◌&&◌, sym, ap, ap₂, ◌∙◌, length, is_ok, eq-eqb, ne_eqb}
use Rattle.std.proofs.lemmas.Result.{err_from_is_err_and}
use Rattle.layout.specs.Layout.{size_at, follows}
use Rattle.layout.specs.Loops.{follows_more, follows_done}
use Rattle.flaws.specs.Laid.{sizes_fit}
use Rattle.flaws.proofs.layouts.contents_fault.Goals as goal

pub returns-in_err-line_fault : goal.returns-in_err-line_fault
returns-in_err-line_fault c =
    let l = c.loop-i in
    let a = c.args in
    let s = a.s.now in
    let wrong = err_from_is_err_and c.from_residual.result c.from_residual.ensures.1 in
    let left = l.invariant.2 ∙ follows_more a.count l.i l.at s c.loop-i-test.true in
    let rest = follows (a.count - (l.i + 1)) (l.i + 1) (l.at + size_at s l.i) s in
    let none = ap (λ (b : Bool). b && rest) (sym (c.in_err-line_fault.ensures)) in
    ap is_ok wrong.1 ∙ sym (ap (λ (b : Bool). b && sizes_fit a.wants s) (left ∙ none))

pub loop-i-preserved : goal.loop-i-preserved
loop-i-preserved c =
    let l = c.loop-i in
    let a = c.args in
    let s = a.s.now in
    let left = l.invariant.2 ∙ follows_more a.count l.i l.at s c.loop-i-test.true in
    let more =
    ap₂ (λ (b : Bool) (n : ℕ). b && follows (a.count - (l.i + 1)) (l.i + 1) (l.at + n) s) (sym (c.in_ok-line_fault.ensures))
    (sym c.size-at.ensures.0) in
    (search rules, omega (arith, c.size-at.ensures.1), left ∙ more)

pub returns-then-at-s : goal.returns-then-at-s
returns-then-at-s c =
    let l = c.loop-i in
    let a = c.args in
    let s = a.s.now in
    sym (ap (λ (b : Bool). b && sizes_fit a.wants s)
    (l.invariant.2 ∙ follows_done a.count l.i l.at s c.loop-i-test.false ∙ ne_eqb l.at (length s) c.if-at-s.true))

pub returns : goal.returns
returns c =
    let l = c.loop-i in
    let a = c.args in
    let s = a.s.now in
    c.sizes_fault.ensures
    ∙ sym (ap (λ (b : Bool). b && sizes_fit a.wants s)
    (l.invariant.2 ∙ follows_done a.count l.i l.at s c.loop-i-test.false ∙ eq-eqb l.at (length s) c.if-at-s.false))
