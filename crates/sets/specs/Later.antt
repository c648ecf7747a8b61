-- A set without its lowest step is the set met with the number one less: below the lowest step nothing stands, and taking one away turns
-- that step off and those below it on. Assumes nothing.
use Rattle.std.specs.Prelude.{ℕ, zero, suc, ◌-◌, ◌/◌, ◌%◌, ◌^◌, ◌<◌, ◌≡◌, refl, Bool, true, false, not, ◌&&◌, eqb}
use Rattle.std.proofs.Common.{sym, ap, ◌∙◌, true≢false, arith, eq-eqb, ne_eqb, eqb-true}
use Rattle.std.proofs.Math.Decide.{ℕ_discrete}
use Rattle.sets.specs.Sets.{has, single, meet, minus, lowest}
use Rattle.sets.specs.Laws.{lowest_least, lowest_has, has_half, has_low, has_meet, has_minus, has_single, ext}

odd : (x : ℕ) → has x 0 ≡ true → x % 2 ≡ 1
odd x e = eqb-true (x % 2) 1 (sym (has_low x (x % 2) refl) ∙ e)

even : (x : ℕ) → has x 0 ≡ false → x % 2 ≡ 0
even x e = go (ℕ_discrete (x % 2) 1)
  where
    go : Dec (x % 2 ≡ 1) → x % 2 ≡ 0
    go (yes h) = absurd (true≢false (sym (eq-eqb (x % 2) 1 h) ∙ sym (has_low x (x % 2) refl) ∙ e))
    go (no h) = omega arith

-- of the steps of x, all but the lowest are in x less one
less_one : (r x : ℕ) → ((t : ℕ) → t < r → has x t ≡ false) → has x r ≡ true → (s : ℕ) → has x s ≡ true → has (x - 1) s ≡ not (eqb r s)
less_one zero x none here zero e =
    let h : x % 2 ≡ 1 = odd x here in
    has_low (x - 1) ((x - 1) % 2) refl ∙ ne_eqb ((x - 1) % 2) 1 (λ z. let w : ⊥ = omega arith in w) ∙ ap not (sym (eq-eqb 0 0 refl))
less_one zero x none here (suc s) e =
    let h : x % 2 ≡ 1 = odd x here in
    has_half (x - 1) s
    ∙ ap (λ (y : ℕ). has y s) (let z : (x - 1) / 2 ≡ x / 2 = omega arith in z)
    ∙ sym (has_half x s)
    ∙ e
    ∙ ap not (sym (ne_eqb 0 (suc s) (λ z. let w : ⊥ = omega arith in w)))
less_one (suc r) x none here zero e = absurd (true≢false (sym e ∙ none 0 (omega arith)))
less_one (suc r) x none here (suc s) e =
    let h : x % 2 ≡ 0 = even x (none 0 (omega arith)) in
    has_half (x - 1) s
    ∙ ap (λ (y : ℕ). has y s) (let z : (x - 1) / 2 ≡ x / 2 - 1 = omega arith in z)
    ∙ less_one r (x / 2) (λ t l. sym (has_half x t) ∙ none (suc t) (omega arith)) (sym (has_half x r) ∙ here) s (sym (has_half x s) ∙ e)
    ∙ ap not (same (ℕ_discrete r s))
  where
    same : Dec (r ≡ s) → eqb r s ≡ eqb (suc r) (suc s)
    same (yes z) = eq-eqb r s z ∙ sym (eq-eqb (suc r) (suc s) (ap suc z))
    same (no z) = ne_eqb r s z ∙ sym (ne_eqb (suc r) (suc s) (λ w. z (omega arith)))

-- the steps of x but the lowest
abbrev pub later : ℕ → ℕ
later x = meet x (x - 1)

pub later_minus : (n x : ℕ) → x < 2 ^ n → (x ≡ 0 → ⊥) → later x ≡ minus x (single (lowest n x))
later_minus n x small some =
    ext (later x) (minus x (single r))
    (λ s.
    has_meet x (x - 1) s
    ∙ go s (has x s) refl
    ∙ sym (has_minus x (single r) s ∙ ap (λ (b : Bool). has x s && not b) (has_single r s)))
  where
    r : ℕ
    r = lowest n x

    go : (s : ℕ) (b : Bool) → has x s ≡ b → (has x s && has (x - 1) s) ≡ (has x s && not (eqb r s))
    go s true e = ap (λ (b : Bool). has x s && b) (less_one r x (lowest_least n x).none (lowest_has n x small some) s e)
    go s false e = ap (λ (b : Bool). b && has (x - 1) s) e ∙ sym (ap (λ (b : Bool). b && not (eqb r s)) e)
