-- The laws of tests and of sets over a range of numbers. Assumes nothing.
use Rattle.std.specs.Prelude.{ℕ, zero, suc, ◌+◌, ◌/◌, ◌%◌, ◌^◌, ◌≤◌, ◌<◌, ◌≡◌, refl, Bool, true, false, not, ◌&&◌, ◌||◌, cond, eqb, ltb}
use Rattle.std.proofs.Common.{not-suc-le-zero, le_refl, div-one, div-le_self, lt_of_le_of_lt, lt_of_lt_of_le, arith, sym, ap, ap₂, ◌∙◌, true≢false, shr-shr, pow_mono, lt-ltb, le-ltb, eq-eqb, eqb-true}
use Rattle.std.proofs.Math.Nat.{div-eq_of_lt}
use Rattle.std.proofs.Math.Decide.{dec_lt}
use Rattle.std.proofs.lemmas.Bool.{false≢true, eqb-false}
use Rattle.std.specs.Int.Bits.{or_zero_r}
use mir.Val.{bool_byte}
use Rattle.sets.specs.Sets.{has, single, union, meet, empty, lowest, gather, every, any, those}
use Rattle.sets.specs.Truth.{same_truth, and_intro, and_right, or_and, or_first, or_second, or_split}
use Rattle.sets.specs.Laws.{ext, has_zero, has_union, has_meet, has_those, bit_lt, lt_of_members, empty_members, empty_gather, lowest_has, lowest_below}

-- ---- a test holds somewhere in a range exactly if it holds at one of its numbers

pub any_at : (k : ℕ) (p : ℕ → Bool) → any k p ≡ true → (i : ℕ) × (i < k) × (p i ≡ true)
unfolding any
any_at zero p e = absurd (false≢true e)
any_at (suc k) p e =
    or_split (any k p) (p k) ((i : ℕ) × (i < suc k) × (p i ≡ true)) e
    (λ t. let w = any_at k p t in let h : w.0 < k = w.1 in (w.0, (let z : w.0 < suc k = omega arith in z), w.2))
    (λ t. (k, le_refl (suc k), t))

pub any_of : (k : ℕ) (p : ℕ → Bool) (i : ℕ) → i < k → p i ≡ true → any k p ≡ true
unfolding any
any_of zero p i h e = absurd (not-suc-le-zero h)
any_of (suc k) p i h e = go (any_of k p i) (dec_lt i k)
  where
    go : (i < k → p i ≡ true → any k p ≡ true) → Dec (i < k) → (any k p || p k) ≡ true
    go below (yes l) = or_first (p k) (below l e)
    go below (no l) = or_second (any k p) (ap p (let z : k ≡ i = omega arith in z) ∙ e)

pub any_same : (k : ℕ) (p q : ℕ → Bool) → ((i : ℕ) → i < k → p i ≡ q i) → any k p ≡ any k q
unfolding any
any_same zero p q same = refl
any_same (suc k) p q same = ap₂ ◌||◌ (any_same k p q (λ i h. same i (let z : i < suc k = omega arith in z))) (same k (le_refl (suc k)))

-- what does not depend on the number goes before the range
pub any_and : (k : ℕ) (p : ℕ → Bool) (b : Bool) → any k (λ i. p i && b) ≡ (any k p && b)
unfolding any
any_and zero p b = refl
any_and (suc k) p b = ap (λ (x : Bool). x || (p k && b)) (any_and k p b) ∙ sym (or_and (any k p) (p k) b)

-- a test fails somewhere exactly if it does not hold everywhere
pub any_not : (k : ℕ) (p : ℕ → Bool) → any k (λ i. not (p i)) ≡ not (every k p)
unfolding any every
any_not zero p = refl
any_not (suc k) p = ap (λ (x : Bool). x || not (p k)) (any_not k p) ∙ either (every k p) (p k)
  where
    either : (x y : Bool) → (not x || not y) ≡ not (x && y)
    either true y = refl
    either false y = refl

-- a set of numbers below k has one of them exactly if it is not empty
pub any_member : (k x : ℕ) → x < 2 ^ k → any k (has x) ≡ not (empty x)
any_member k x h = same_truth (any k (has x)) (not (empty x)) there back
  where
    there : any k (has x) ≡ true → not (empty x) ≡ true
    there e = go (empty x) refl
      where
        go : (b : Bool) → empty x ≡ b → not (empty x) ≡ true
        go true none = let w = any_at k (has x) e in absurd (true≢false (sym w.2 ∙ empty_members x none w.0))
        go false none = ap not none

    back : not (empty x) ≡ true → any k (has x) ≡ true
    back e =
        let some : x ≡ 0 → ⊥ = λ none. absurd (false≢true (ap not (sym (eq-eqb x 0 none)) ∙ e)) in
        any_of k (has x) (lowest k x) (lowest_below k x h some) (lowest_has k x h some)

-- ---- sets gathered over a range

pub meet_gather : (k : ℕ) (f : ℕ → ℕ) (a : ℕ) → meet (gather k f) a ≡ gather k (λ i. meet (f i) a)
unfolding gather
meet_gather zero f a = refl
meet_gather (suc k) f a = meet_union (gather k f) (f k) a ∙ ap (λ (x : ℕ). union x (meet (f k) a)) (meet_gather k f a)
  where
    meet_union : (x y z : ℕ) → meet (union x y) z ≡ union (meet x z) (meet y z)
    meet_union x y z =
        ext _ _ (λ s. has_meet (union x y) z s ∙ ap (λ (b : Bool). b && has z s) (has_union x y s)
        ∙ or_and (has x s) (has y s) (has z s)
        ∙ sym (has_union (meet x z) (meet y z) s ∙ ap₂ ◌||◌ (has_meet x z s) (has_meet y z s)))

-- one of the sets has something in common with a exactly if all of them together have
pub any_meets : (k : ℕ) (f : ℕ → ℕ) (a : ℕ) → any k (λ i. not (empty (meet (f i) a))) ≡ not (empty (meet (gather k f) a))
any_meets k f a = any_not k (λ i. empty (meet (f i) a))
    ∙ ap not (sym (ap empty (meet_gather k f a) ∙ empty_gather k (λ i. meet (f i) a)))

-- where the sets from k on are empty, those below k are all
pub gather_less : (n k : ℕ) (f : ℕ → ℕ) → k ≤ n → ((i : ℕ) → k ≤ i → f i ≡ 0) → gather n f ≡ gather k f
unfolding gather
gather_less zero k f most none = ap (λ (j : ℕ). gather j f) (let z : 0 ≡ k = omega arith in z)
gather_less (suc n) k f most none = go (gather_less n k f) (dec_lt n k)
  where
    go : (k ≤ n → ((i : ℕ) → k ≤ i → f i ≡ 0) → gather n f ≡ gather k f) → Dec (n < k) → union (gather n f) (f n) ≡ gather k f
    go fewer (yes h) = ap (λ (j : ℕ). gather j f) (let z : suc n ≡ k = omega arith in z)
    go fewer (no h) =
        let l : k ≤ n = omega arith in
        ap₂ union (fewer l none) (none n l) ∙ or_zero_r (gather k f)

-- ---- the steps below n of which a test holds

-- no other step is one of them
pub those_lt : (n : ℕ) (p : ℕ → Bool) → those n p < 2 ^ n
those_lt n p = lt_of_members n (those n p) (λ s h. has_those n p s ∙ ap (λ (b : Bool). b && p s) (le-ltb s n h))

-- they are found from the highest down: those from s on, each counted from s, are those from s + 1 on moved up by one, and s if its test holds
pub those_down : (n : ℕ) (p : ℕ → Bool) (s : ℕ) → s < n
    → those n p / 2 ^ s ≡ (those n p / 2 ^ (s + 1) + those n p / 2 ^ (s + 1)) + bool_byte (p s)
unfolding has
those_down n p s h =
    let x = those n p / 2 ^ s in
    let up : x / 2 ≡ those n p / 2 ^ (s + 1) = shr-shr (those n p) s 1 in
    let low : x % 2 ≡ bool_byte (p s) = digit (p s) (x % 2) (bit_lt (those n p) s)
    (has_those n p s ∙ ap (λ (b : Bool). b && p s) (lt-ltb s n h)) in
    omega arith
  where
    digit : (b : Bool) (d : ℕ) → d < 2 → eqb d 1 ≡ b → d ≡ bool_byte b
    digit true d l e = eqb-true d 1 e
    digit false d l e = let z : d ≡ 1 → ⊥ = eqb-false d 1 e in omega arith

-- and fit on the way whatever all of them fit
pub those_room : (n w : ℕ) (p : ℕ → Bool) (s : ℕ) → n ≤ w → those n p / 2 ^ s < 2 ^ w
those_room n w p s h = lt_of_le_of_lt (div-le_self (those n p) (2 ^ s)) (lt_of_lt_of_le (those_lt n p) (pow_mono h))

pub those_start : (n : ℕ) (p : ℕ → Bool) → those n p / 2 ^ n ≡ 0
those_start n p = div-eq_of_lt (those_lt n p)

pub those_end : (n : ℕ) (p : ℕ → Bool) → those n p / 2 ^ 0 ≡ those n p
those_end n p = div-one (those n p)

pub those_same : (n : ℕ) (p q : ℕ → Bool) → ((s : ℕ) → s < n → p s ≡ q s) → those n p ≡ those n q
unfolding gather
those_same zero p q same = refl
those_same (suc n) p q same =
    ap₂ union (those_same n p q (λ s h. same s (let z : s < suc n = omega arith in z)))
    (ap (λ (b : Bool). cond b (single n) 0) (same n (le_refl (suc n))))

pub those_meet : (n : ℕ) (p : ℕ → Bool) (x : ℕ) → meet (those n p) x ≡ those n (λ s. p s && has x s)
those_meet n p x =
    ext _ _ (λ s. has_meet (those n p) x s ∙ ap (λ (b : Bool). b && has x s) (has_those n p s)
    ∙ regroup (ltb s n) (p s) (has x s)
    ∙ sym (has_those n (λ s. p s && has x s) s))
  where
    regroup : (a b c : Bool) → ((a && b) && c) ≡ (a && (b && c))
    regroup true b c = refl
    regroup false b c = refl

-- where the test holds of any of them, it holds of the lowest of those of which it holds
pub lowest_those : (n : ℕ) (p : ℕ → Bool) → any n p ≡ true → p (lowest n (those n p)) ≡ true
lowest_those n p e =
    let w = any_at n p e in
    let member : has (those n p) w.0 ≡ true = has_those n p w.0 ∙ and_intro (lt-ltb w.0 n w.1) w.2 in
    let some : those n p ≡ 0 → ⊥ = λ z. true≢false (sym member ∙ ap (λ (x : ℕ). has x w.0) z ∙ has_zero w.0) in
    let k = lowest n (those n p) in
    and_right (ltb k n) (p k) (sym (has_those n p k) ∙ lowest_has n (those n p) (those_lt n p) some)
