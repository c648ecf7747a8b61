-- `sets::full`: the steps below n are 2 ^ (n - 1) and all digits below it, a sum that fits the word at n = 64 too. Assumes nothing.
use Prim.Native.Nat.{ℕ, ◌+◌, ◌-◌}
use mathlib.Core.Path.{◌≡◌, ◌∙◌, ap, sym}
use native.Mathlib.Nat.{not-suc-le-zero}
use native.Mathlib.Omega.{arith, ne_cases}
use Rattle.sets.specs.Sets.{full}
use Rattle.sets.specs.Laws.{full_double}
use Rattle.sets.proofs.full.Goals as goal

pub returns-then-n-eq0 : goal.returns-then-n-eq0
unfolding full
returns-then-n-eq0 c = sym (ap full c.if-n-eq0.true)

pub returns : goal.returns
returns c =
    let n = c.args.n in
    ap (λ (x : ℕ). x + (x - 1)) c.single-top.ensures ∙ full_double (n - 1)
    ∙ ap full (let z : n - 1 + 1 ≡ n =
    ne_cases n 0 (n - 1 + 1 ≡ n) c.if-n-eq0.false (λ h. absurd (not-suc-le-zero h)) (λ h. omega arith) in z)
