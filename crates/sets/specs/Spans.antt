-- The laws of a step alone and of the steps from one number up to another. Assumes nothing.
use Rattle.std.specs.Prelude.{ℕ, ◌+◌, ◌^◌, ◌≤◌, ◌<◌, ◌≡◌, refl, Bool, true, false, not, ◌&&◌, ◌||◌, eqb, ltb}
use Rattle.std.proofs.Common.{arith, lt_of_lt_of_le, sym, ap, ap₂, ◌∙◌, pow_mono, lt-ltb, le-ltb, eq-eqb, ne_eqb, eqb-true}
use Rattle.std.proofs.Math.Decide.{dec_lt}
use Rattle.sets.specs.Sets.{has, single, union, meet, empty, full, span}
use Rattle.sets.specs.Truth.{or_first, or_second, dec_eq}
use Rattle.sets.specs.Laws.{ext, has_zero, has_union, has_meet, has_minus, has_single, has_full, full_lt, minus_lt, members_empty}

-- a step that is not in x has nothing in common with it
pub single_apart : (s x : ℕ) → has x s ≡ false → empty (meet (single s) x) ≡ true
single_apart s x out =
    members_empty (meet (single s) x) (λ t. has_meet (single s) x t ∙ ap (λ (b : Bool). b && has x t) (has_single s t) ∙ go t (eqb s t) refl)
  where
    go : (t : ℕ) (b : Bool) → eqb s t ≡ b → (b && has x t) ≡ false
    go t true e = ap (has x) (sym (eqb-true s t e)) ∙ out
    go t false e = refl

pub has_span : (a c s : ℕ) → has (span a c) s ≡ (ltb s c && not (ltb s a))
has_span a c s = has_minus (full c) (full a) s ∙ ap₂ (λ (p q : Bool). p && not q) (has_full c s) (has_full a s)

pub span_in : (a c s : ℕ) → a ≤ s → s < c → has (span a c) s ≡ true
span_in a c s h l = has_span a c s ∙ ap₂ (λ (p q : Bool). p && not q) (lt-ltb s c l) (le-ltb s a h)

pub span_below : (a c s : ℕ) → s < a → has (span a c) s ≡ false
span_below a c s h = has_span a c s ∙ ap (λ (q : Bool). ltb s c && not q) (lt-ltb s a h) ∙ gone (ltb s c)
  where
    gone : (p : Bool) → (p && false) ≡ false
    gone true = refl
    gone false = refl

pub span_above : (a c s : ℕ) → c ≤ s → has (span a c) s ≡ false
span_above a c s h = has_span a c s ∙ ap (λ (p : Bool). p && not (ltb s a)) (le-ltb s c h)

pub span_lt : (n a c : ℕ) → c ≤ n → span a c < 2 ^ n
span_lt n a c h = minus_lt n (full c) (full a) (lt_of_lt_of_le (full_lt c) (pow_mono h))

-- nothing lies from c on and below c
pub span_none : (c : ℕ) → span c c ≡ 0
span_none c = ext (span c c) 0 (λ s. go s (dec_lt s c) ∙ sym (has_zero s))
  where
    go : (s : ℕ) → Dec (s < c) → has (span c c) s ≡ false
    go s (yes h) = span_below c c s h
    go s (no h) = span_above c c s (omega arith)

-- a span of one step more
pub span_last : (a c : ℕ) → a ≤ c → span a (c + 1) ≡ union (span a c) (single c)
span_last a c h =
    ext (span a (c + 1)) (union (span a c) (single c)) (λ s.
    go s (dec_lt s a) (dec_lt s c) (dec_eq c s)
    ∙ sym (has_union (span a c) (single c) s ∙ ap (λ (t : Bool). has (span a c) s || t) (has_single c s)))
  where
    go : (s : ℕ) → Dec (s < a) → Dec (s < c) → Dec (c ≡ s) → has (span a (c + 1)) s ≡ (has (span a c) s || eqb c s)
    go s (yes l) q e =
        span_below a (c + 1) s l
        ∙ sym (ap₂ ◌||◌ (span_below a c s l) (ne_eqb c s (λ z. let w : ⊥ = omega arith in w)))
    go s (no l) (yes q) e = span_in a (c + 1) s (omega arith) (omega arith) ∙ sym (or_first (eqb c s) (span_in a c s (omega arith) q))
    go s (no l) (no q) (yes e) =
        span_in a (c + 1) s (omega arith) (omega arith) ∙ sym (or_second (has (span a c) s) (eq-eqb c s e))
    go s (no l) (no q) (no e) =
        span_above a (c + 1) s (omega arith)
        ∙ sym (ap₂ ◌||◌ (span_above a c s (omega arith)) (ne_eqb c s e))
