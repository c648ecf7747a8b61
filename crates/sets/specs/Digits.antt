-- A law of sets, from a test over the digits 0 and 1. A digit of a union, a meet or a difference is that of the digits, so a
-- formula of sets says at each step what it says of digits, and there it can be tried case by case. Assumes nothing.
use Rattle.std.specs.Prelude.{ℕ, zero, suc, ◌%◌, ◌^◌, ◌<◌, ◌≡◌, refl, List, [], ◌∷◌, Bool, true, false, not, ◌&&◌, ◌||◌, eqb, length}
use Rattle.std.proofs.Math.Nat.{zero-div}
use Rattle.std.proofs.Common.{arith, sym, ap, ◌∙◌, true≢false, eqb-true, eq-eqb}
use Rattle.sets.specs.Sets.{has}
use Rattle.sets.specs.Truth.{and_left, and_right}
use Rattle.sets.specs.Laws.{bit, bit_lt, bit_union, bit_meet, bit_xor_lem, ext}

pub bit_zero : (i : ℕ) → bit 0 i ≡ 0
bit_zero i = ap (λ (x : ℕ). x % 2) (zero-div (2 ^ i))

pub ruleset at_digit = (bit_union, bit_meet, bit_xor_lem, bit_zero)

-- digit i of each of some sets
abbrev pub digits : ℕ → List ℕ → List ℕ
digits i [] = []
digits i (x ∷ xs) = bit x i ∷ digits i xs

-- the test holds of every list of k digits
abbrev pub tried : ℕ → (List ℕ → Bool) → Bool
tried zero p = p []
tried (suc k) p = tried k (λ w. p (0 ∷ w)) && tried k (λ w. p (1 ∷ w))

tried_at : (i : ℕ) (v : List ℕ) (p : List ℕ → Bool) → tried (length v) p ≡ true → p (digits i v) ≡ true
tried_at i [] p e = e
tried_at i (x ∷ v) p e = go (bit x i) (bit_lt x i) (λ d h. tried_at i v (λ w. p (d ∷ w)) h)
  where
    none : Bool
    none = tried (length v) (λ w. p (0 ∷ w))

    one : Bool
    one = tried (length v) (λ w. p (1 ∷ w))

    go : (d : ℕ) → d < 2 → ((d : ℕ) → tried (length v) (λ w. p (d ∷ w)) ≡ true → p (d ∷ digits i v) ≡ true) → p (d ∷ digits i v) ≡ true
    go zero l rest = rest 0 (and_left none one e)
    go (suc zero) l rest = rest 1 (and_right none one e)
    go (suc (suc d)) l rest = absurd (let z : ⊥ = omega arith in z)

or_known : (p q : Bool) → (not p || q) ≡ true → p ≡ true → q ≡ true
or_known true q e f = e
or_known false q e f = absurd (true≢false (sym f))

-- f says at each step what it says of the digits there
abbrev pub ByDigit : (List ℕ → ℕ) → List ℕ → Type 0
ByDigit f v = (i : ℕ) → bit (f v) i ≡ f (digits i v)

-- where no step is in h, f and g are the same set
pub by_digits : (h f g : List ℕ → ℕ) (v : List ℕ) → ByDigit h v → ByDigit f v → ByDigit g v
    → tried (length v) (λ w. not (eqb (h w) 0) || eqb (f w) (g w)) ≡ true → h v ≡ 0 → f v ≡ g v
unfolding has
by_digits h f g v ph pf pg test e = ext (f v) (g v) (λ i. ap (λ (d : ℕ). eqb d 1) (at i))
  where
    at : (i : ℕ) → bit (f v) i ≡ bit (g v) i
    at i =
        pf i
        ∙ eqb-true (f (digits i v)) (g (digits i v))
        (or_known (eqb (h (digits i v)) 0) (eqb (f (digits i v)) (g (digits i v)))
        (tried_at i v (λ w. not (eqb (h w) 0) || eqb (f w) (g w)) test)
        (eq-eqb (h (digits i v)) 0 (sym (ph i) ∙ ap (λ (x : ℕ). bit x i) e ∙ bit_zero i)))
        ∙ sym (pg i)

-- f and g are the same set
pub as_sets : (f g : List ℕ → ℕ) (v : List ℕ) → ByDigit f v → ByDigit g v → tried (length v) (λ w. eqb (f w) (g w)) ≡ true → f v ≡ g v
as_sets f g v pf pg test = by_digits (λ w. 0) f g v (λ i. bit_zero i) pf pg test refl
