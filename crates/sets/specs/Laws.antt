-- The laws of step sets, grouped by operation. All go through membership: `has` of each operation, and `ext`, two sets with
-- the same members are the same number. None has a bound that it does not need. Assumes nothing.
use Rattle.std.specs.Prelude.{ℕ, zero, suc, ◌+◌, ◌-◌, ◌*◌, ◌/◌, ◌%◌, ◌^◌, ◌≤◌, ◌<◌, ◌≡◌, refl, Bool, true, false, not, ◌&&◌, ◌||◌, cond, eqb, ltb, leb}
use Rattle.std.proofs.Common.{zero-le, suc-le-suc, not-suc-le-zero, mod-lt, div-one, lt_of_lt_of_le, lt_of_le_of_lt, le_of_suc-le-suc, one-mul, div-lt_iff_lt-mul, le_trans, le_refl, add-zero, add-one, arith, sym, ap, ap₂, ◌∙◌, subst, true≢false, lit<, pow_pos, pow_mono, shr-shr, lt_of_le_ones, shl_exact, lt-ltb, le-ltb, eq-eqb, ne_eqb, eqb-true, ltb-true, le-leb, leb-true}
use Rattle.std.proofs.Math.Nat.{two-pow-succ, div-eq_of_lt, zero-div}
use Rattle.std.proofs.Math.Decide.{dec_lt}
use Rattle.std.proofs.Math.Path.{fun_ext}
use Rattle.std.proofs.lemmas.Bool.{false≢true}
use Rattle.std.proofs.Math.Dec.{eqb-zero-suc, eqb-suc-zero, eqb-suc-suc, leb-suc-suc}
use Rattle.std.specs.Int.Bits.{bit_xor, or_add_and, and_zero_r, xor_zero_r}
use Rattle.std.proofs.lemmas.Nat.{and_shr, or_shr, xor_shr, and_mod, or_mod, xor_mod, or_lt, xor_lt, and_le_l, and_le_r}
use Rattle.std.specs.Int.Count.{count_trailing_zeros, under}
use Rattle.std.proofs.Math.Pow.{pow-lt, ones_lt, le_ones}
use Rattle.sets.specs.Sets.{has, single, union, meet, minus, empty, subset, within, full, scan, lowest, gather, every, those}
use Rattle.sets.specs.Truth.{same_truth, and_intro, and_left, and_right, and_exchange, or_false, and_false, and_true, is_false}

-- ---- digits

-- digit s of x
abbrev pub bit : ℕ → ℕ → ℕ
bit x s = x / 2 ^ s % 2

pub bit_lt : (x s : ℕ) → bit x s < 2
bit_lt x s = mod-lt (x / 2 ^ s) (zero_le_suc 1)
  where
    zero_le_suc : (n : ℕ) → 0 < suc n
    zero_le_suc n = suc-le-suc zero-le

-- what holds of the digits 0 and 1 holds of any two digits
on_digits : (P : ℕ → ℕ → Type 0) → P 0 0 → P 0 1 → P 1 0 → P 1 1 → (x y : ℕ) → x < 2 → y < 2 → P x y
on_digits P p q r s zero zero h k = p
on_digits P p q r s zero (suc zero) h k = q
on_digits P p q r s (suc zero) zero h k = r
on_digits P p q r s (suc zero) (suc zero) h k = s
on_digits P p q r s zero (suc (suc y)) h k = absurd (let z : ⊥ = omega arith in z)
on_digits P p q r s (suc zero) (suc (suc y)) h k = absurd (let z : ⊥ = omega arith in z)
on_digits P p q r s (suc (suc x)) y h k = absurd (let z : ⊥ = omega arith in z)

pub bit_union : (a b s : ℕ) → bit (union a b) s ≡ union (bit a s) (bit b s)
bit_union a b s = ap (λ (x : ℕ). x % 2) (or_shr a b s) ∙ or_mod (a / 2 ^ s) (b / 2 ^ s) 1

pub bit_meet : (a b s : ℕ) → bit (meet a b) s ≡ meet (bit a s) (bit b s)
bit_meet a b s = ap (λ (x : ℕ). x % 2) (and_shr a b s) ∙ and_mod (a / 2 ^ s) (b / 2 ^ s) 1

pub bit_xor_lem : (a b s : ℕ) → bit (bit_xor a b) s ≡ bit_xor (bit a s) (bit b s)
bit_xor_lem a b s = ap (λ (x : ℕ). x % 2) (xor_shr a b s) ∙ xor_mod (a / 2 ^ s) (b / 2 ^ s) 1

bit_minus : (a b s : ℕ) → bit (minus a b) s ≡ minus (bit a s) (bit b s)
bit_minus a b s = bit_xor_lem a (meet a b) s ∙ ap (λ (x : ℕ). bit_xor (bit a s) x) (bit_meet a b s)

-- ---- members

pub has_union : (a b s : ℕ) → has (union a b) s ≡ (has a s || has b s)
unfolding has
has_union a b s =
    ap (λ (x : ℕ). eqb x 1) (bit_union a b s)
    ∙ on_digits (λ x y. eqb (union x y) 1 ≡ (eqb x 1 || eqb y 1)) refl refl refl refl (bit a s) (bit b s) (bit_lt a s) (bit_lt b s)

pub has_meet : (a b s : ℕ) → has (meet a b) s ≡ (has a s && has b s)
unfolding has
has_meet a b s =
    ap (λ (x : ℕ). eqb x 1) (bit_meet a b s)
    ∙ on_digits (λ x y. eqb (meet x y) 1 ≡ (eqb x 1 && eqb y 1)) refl refl refl refl (bit a s) (bit b s) (bit_lt a s) (bit_lt b s)

pub has_minus : (a b s : ℕ) → has (minus a b) s ≡ (has a s && not (has b s))
unfolding has
has_minus a b s =
    ap (λ (x : ℕ). eqb x 1) (bit_minus a b s)
    ∙ on_digits (λ x y. eqb (minus x y) 1 ≡ (eqb x 1 && not (eqb y 1))) refl refl refl refl (bit a s) (bit b s) (bit_lt a s) (bit_lt b s)

pub has_zero : (s : ℕ) → has 0 s ≡ false
unfolding has
has_zero s = ap (λ (x : ℕ). eqb (x % 2) 1) (zero-div (2 ^ s))

lt_two_pow : (n : ℕ) → n < 2 ^ n
lt_two_pow zero = suc-le-suc zero-le
lt_two_pow (suc n) = let h : n < 2 ^ n = lt_two_pow n in rw two-pow-succ (omega arith)

-- ---- extensionality

-- the digits above the lowest are those of the half
bit_half : (x s : ℕ) → bit (x / 2) s ≡ bit x (suc s)
bit_half x s = ap (λ (y : ℕ). y % 2) (shr-shr x 1 s ∙ ap (λ (k : ℕ). x / 2 ^ k) (let e : 1 + s ≡ suc s = omega arith in e))

bit_low : (x : ℕ) → bit x 0 ≡ x % 2
bit_low x = ap (λ (y : ℕ). y % 2) (div-one x)

bits_equal : (k a b : ℕ) → a < 2 ^ k → b < 2 ^ k → ((s : ℕ) → bit a s ≡ bit b s) → a ≡ b
bits_equal zero a b h l same = omega arith
bits_equal (suc k) a b h l same =
    let p : 2 ^ suc k ≡ 2 ^ k + 2 ^ k = two-pow-succ k in
    let low : a % 2 ≡ b % 2 = sym (bit_low a) ∙ same 0 ∙ bit_low b in
    let ha : a / 2 < 2 ^ k = omega arith in
    let hb : b / 2 < 2 ^ k = omega arith in
    let high : a / 2 ≡ b / 2 = bits_equal k (a / 2) (b / 2) ha hb (λ s. bit_half a s ∙ same (suc s) ∙ sym (bit_half b s)) in
    omega arith

digit_of_test : (x y : ℕ) → x < 2 → y < 2 → eqb x 1 ≡ eqb y 1 → x ≡ y
digit_of_test = on_digits (λ x y. eqb x 1 ≡ eqb y 1 → x ≡ y) (λ e. refl) (λ e. absurd (false≢true e)) (λ e. absurd (true≢false e))
    (λ e. refl)

-- two sets with the same members are the same
pub ext : (a b : ℕ) → ((s : ℕ) → has a s ≡ has b s) → a ≡ b
unfolding has
ext a b same =
    let ha : a < 2 ^ (a + b) = lt_of_lt_of_le (lt_two_pow a) (pow_mono (let h : a ≤ a + b = omega arith in h)) in
    let hb : b < 2 ^ (a + b) = lt_of_lt_of_le (lt_two_pow b) (pow_mono (let h : b ≤ a + b = omega arith in h)) in
    bits_equal (a + b) a b ha hb (λ s. digit_of_test (bit a s) (bit b s) (bit_lt a s) (bit_lt b s) (same s))

-- ---- one step

pow_half : (s : ℕ) → 2 ^ suc s / 2 ≡ 2 ^ s
pow_half s = let p : 2 ^ suc s ≡ 2 ^ s + 2 ^ s = two-pow-succ s in omega arith

pow_even : (s : ℕ) → 2 ^ suc s % 2 ≡ 0
pow_even s = let p : 2 ^ suc s ≡ 2 ^ s + 2 ^ s = two-pow-succ s in omega arith

bit_single : (s t : ℕ) → eqb (bit (single s) t) 1 ≡ eqb s t
bit_single zero zero = refl
bit_single zero (suc t) =
    ap (λ (x : ℕ). eqb (x % 2) 1) (div-eq_of_lt (pow-lt {i = 0} {j = suc t} (suc-le-suc zero-le))) ∙ sym (eqb-zero-suc t)
bit_single (suc s) zero = ap (λ (x : ℕ). eqb x 1) (bit_low (2 ^ suc s) ∙ pow_even s) ∙ sym (eqb-suc-zero s)
bit_single (suc s) (suc t) =
    ap (λ (x : ℕ). eqb x 1) (sym (bit_half (2 ^ suc s) t) ∙ ap (λ (x : ℕ). bit x t) (pow_half s)) ∙ bit_single s t ∙ sym (eqb-suc-suc s t)

pub has_single : (s t : ℕ) → has (single s) t ≡ eqb s t
unfolding has
has_single s t = bit_single s t

-- ---- the steps below n

bit_full : (n s : ℕ) → eqb (bit (full n) s) 1 ≡ ltb s n
unfolding full
bit_full zero s = ap (λ (x : ℕ). eqb (x % 2) 1) (zero-div (2 ^ s)) ∙ sym (le-ltb s 0 zero-le)
bit_full (suc n) zero =
    let p : 2 ^ suc n ≡ 2 ^ n + 2 ^ n = two-pow-succ n in
    let q : 0 < 2 ^ n = pow_pos n in
    let r : (2 ^ suc n - 1) % 2 ≡ 1 = omega arith in
    ap (λ (x : ℕ). eqb x 1) (bit_low (2 ^ suc n - 1) ∙ r) ∙ sym (lt-ltb 0 (suc n) (suc-le-suc zero-le))
bit_full (suc n) (suc s) =
    let p : 2 ^ suc n ≡ 2 ^ n + 2 ^ n = two-pow-succ n in
    let q : 0 < 2 ^ n = pow_pos n in
    let r : (2 ^ suc n - 1) / 2 ≡ 2 ^ n - 1 = omega arith in
    ap (λ (x : ℕ). eqb x 1) (sym (bit_half (2 ^ suc n - 1) s) ∙ ap (λ (x : ℕ). bit x s) r) ∙ bit_full n s ∙ sym (leb-suc-suc (suc s) n)

pub has_full : (n s : ℕ) → has (full n) s ≡ ltb s n
unfolding has
has_full n s = bit_full n s

-- the machine's `1 << s`
pub shifted_one : (s : ℕ) → s < 64 → 1 * 2 ^ s % 2 ^ 64 ≡ single s
shifted_one s h = shl_exact 1 s 64 (lit< tt) (let z : 1 + s ≤ 64 = omega arith in z) ∙ one-mul (2 ^ s)

pub full_double : (s : ℕ) → single s + (single s - 1) ≡ full (s + 1)
unfolding full
full_double s = rw (add-one, two-pow-succ) (let q : 0 < 2 ^ s = pow_pos s in omega arith)

pub within_full : (n x : ℕ) → leb x (full n) ≡ within n x
unfolding full
within_full n x =
    same_truth (leb x (2 ^ n - 1)) (ltb x (2 ^ n))
    (λ e. lt-ltb x (2 ^ n) (lt_of_le_ones n (leb-true x (2 ^ n - 1) e)))
    (λ e. le-leb x (2 ^ n - 1) (le_ones n (ltb-true x (2 ^ n) e)))

-- ---- bounds

pub has_above : (n x s : ℕ) → x < 2 ^ n → n ≤ s → has x s ≡ false
unfolding has
has_above n x s h l = ap (λ (y : ℕ). eqb (y % 2) 1) (div-eq_of_lt (lt_of_lt_of_le h (pow_mono l)))

-- a member of a set of steps below n is below n
pub member_below : (n x s : ℕ) → x < 2 ^ n → has x s ≡ true → s < n
member_below n x s b h = go (dec_lt s n)
  where
    go : Dec (s < n) → s < n
    go (yes l) = l
    go (no l) = absurd (true≢false (sym h ∙ has_above n x s b (omega arith)))

bit_shift : (x n s : ℕ) → bit (x / 2 ^ n) s ≡ bit x (n + s)
bit_shift x n s = ap (λ (y : ℕ). y % 2) (shr-shr x n s)

pub lt_of_members : (n x : ℕ) → ((s : ℕ) → n ≤ s → has x s ≡ false) → x < 2 ^ n
unfolding has
lt_of_members n x none =
    let gone : x / 2 ^ n ≡ 0 =
    ext (x / 2 ^ n) 0 (λ s. ap (λ (y : ℕ). eqb y 1) (bit_shift x n s) ∙ none (n + s) (let h : n ≤ n + s = omega arith in h)
    ∙ sym (has_zero s)) in
    let small : x / 2 ^ n < 1 = omega arith in
    let b : x < 1 * 2 ^ n = (div-lt_iff_lt-mul (pow_pos n)).0 small in
    omega arith

pub union_lt : (n a b : ℕ) → a < 2 ^ n → b < 2 ^ n → union a b < 2 ^ n
union_lt = or_lt

pub meet_lt : (n a b : ℕ) → a < 2 ^ n → meet a b < 2 ^ n
meet_lt n a b h = lt_of_le_of_lt (and_le_l a b) h

pub minus_lt : (n a b : ℕ) → a < 2 ^ n → minus a b < 2 ^ n
minus_lt n a b h = xor_lt n a (meet a b) h (meet_lt n a b h)

pub single_lt : (n s : ℕ) → s < n → single s < 2 ^ n
single_lt n s h = pow-lt h

pub full_lt : (n : ℕ) → full n < 2 ^ n
unfolding full
full_lt n = ones_lt n

-- ---- the empty set and subsets

union_le_left : (a b : ℕ) → a ≤ union a b
union_le_left a b = let s : union a b + meet a b ≡ a + b = or_add_and a b in let l : meet a b ≤ b = and_le_r a b in omega arith

union_le_right : (a b : ℕ) → b ≤ union a b
union_le_right a b = let s : union a b + meet a b ≡ a + b = or_add_and a b in let l : meet a b ≤ a = and_le_l a b in omega arith

pub empty_union : (a b : ℕ) → empty (union a b) ≡ (empty a && empty b)
empty_union a b =
    same_truth (empty (union a b)) (empty a && empty b)
    (λ e. let u : union a b ≡ 0 = eqb-true (union a b) 0 e in
    let l : a ≤ union a b = union_le_left a b in
    let r : b ≤ union a b = union_le_right a b in
    and_intro (eq-eqb a 0 (omega arith)) (eq-eqb b 0 (omega arith)))
    (λ e. eq-eqb (union a b) 0
    (ap₂ union (eqb-true a 0 (and_left (empty a) (empty b) e)) (eqb-true b 0 (and_right (empty a) (empty b) e))))

pub within_union : (n a b : ℕ) → within n (union a b) ≡ (within n a && within n b)
within_union n a b =
    same_truth (within n (union a b)) (within n a && within n b)
    (λ e. let h : union a b < 2 ^ n = ltb-true (union a b) (2 ^ n) e in
    and_intro (lt-ltb a (2 ^ n) (lt_of_le_of_lt (union_le_left a b) h)) (lt-ltb b (2 ^ n) (lt_of_le_of_lt (union_le_right a b) h)))
    (λ e. lt-ltb (union a b) (2 ^ n)
    (union_lt n a b (ltb-true a (2 ^ n) (and_left (within n a) (within n b) e))
    (ltb-true b (2 ^ n) (and_right (within n a) (within n b) e))))

pub minus_zero : (x : ℕ) → minus x 0 ≡ x
minus_zero x = ap (bit_xor x) (and_zero_r x) ∙ xor_zero_r x

-- a set is empty exactly if it has no member
pub empty_members : (x : ℕ) → empty x ≡ true → (s : ℕ) → has x s ≡ false
empty_members x e s = ap (λ (y : ℕ). has y s) (eqb-true x 0 e) ∙ has_zero s

pub members_empty : (x : ℕ) → ((s : ℕ) → has x s ≡ false) → empty x ≡ true
members_empty x none = eq-eqb x 0 (ext x 0 (λ s. none s ∙ sym (has_zero s)))

and_not_false : (p q : Bool) → (p && not q) ≡ false → p ≡ true → q ≡ true
and_not_false true true e f = refl
and_not_false true false e f = sym e
and_not_false false q e f = absurd (false≢true f)

not_and_of : (p q : Bool) → (p ≡ true → q ≡ true) → (p && not q) ≡ false
not_and_of true true f = refl
not_and_of true false f = sym (f refl)
not_and_of false q f = refl

-- a is within b exactly if every member of a is one of b
pub subset_members : (a b : ℕ) → subset a b ≡ true → (s : ℕ) → has a s ≡ true → has b s ≡ true
subset_members a b e s = and_not_false (has a s) (has b s) (sym (has_minus a b s) ∙ empty_members (minus a b) e s)

pub members_subset : (a b : ℕ) → ((s : ℕ) → has a s ≡ true → has b s ≡ true) → subset a b ≡ true
members_subset a b all = members_empty (minus a b) (λ s. has_minus a b s ∙ not_and_of (has a s) (has b s) (all s))

not_both : (p : Bool) → p ≡ true → p ≡ false → ⊥
not_both p e f = true≢false (sym e ∙ f)

-- within n is within the steps below n
pub subset_full : (n x : ℕ) → subset x (full n) ≡ within n x
subset_full n x =
    same_truth (subset x (full n)) (within n x)
    (λ e. lt-ltb x (2 ^ n) (lt_of_members n x (λ s h. is_false (has x s)
    (λ m. not_both (ltb s n) (sym (has_full n s) ∙ subset_members x (full n) e s m) (le-ltb s n h)))))
    (λ e. members_subset x (full n) (λ s m. has_full n s ∙ lt-ltb s n (below s m e)))
  where
    below : (s : ℕ) → has x s ≡ true → within n x ≡ true → s < n
    below s m e = go (dec_lt s n)
      where
        go : Dec (s < n) → s < n
        go (yes h) = h
        go (no h) = absurd (not_both (has x s) m (has_above n x s (ltb-true x (2 ^ n) e) (omega arith)))

-- ---- the lowest step

-- r is the lowest step in x of those below n, or n where there is none
pub record Least (n x r : ℕ) : Type 0 where
  pub small : r ≤ n
  pub none : (t : ℕ) → t < r → has x t ≡ false
  pub here : r < n → has x r ≡ true

pub least_unique : (n x r q : ℕ) → Least n x r → Least n x q → r ≡ q
least_unique n x r q a b = go (dec_lt r q) (dec_lt q r)
  where
    apart : (r q : ℕ) → Least n x r → Least n x q → r < q → ⊥
    apart r q a b h = not_both (has x r) (a.here (lt_of_lt_of_le h b.small)) (b.none r h)

    go : Dec (r < q) → Dec (q < r) → r ≡ q
    go (yes h) e = absurd (apart r q a b h)
    go (no h) (yes k) = absurd (apart q r b a k)
    go (no h) (no k) = omega arith

scan_least : (k s x : ℕ) → ((t : ℕ) → t < s → has x t ≡ false) → Least (k + s) x (scan k s x)
unfolding scan
scan_least zero s x none = record { small = omega arith; none = none; here = λ h. absurd (let z : ⊥ = omega arith in z) }
scan_least (suc k) s x none = go (has x s) refl (λ e. scan_least k (suc s) x (more e))
  where
    more : has x s ≡ false → (t : ℕ) → t < suc s → has x t ≡ false
    more e t h = pick (dec_lt t s)
      where
        pick : Dec (t < s) → has x t ≡ false
        pick (yes l) = none t l
        pick (no l) = ap (has x) (let z : t ≡ s = omega arith in z) ∙ e

    go : (b : Bool) → has x s ≡ b → (has x s ≡ false → Least (k + suc s) x (scan k (suc s) x))
        → Least (suc k + s) x (cond b s (scan k (suc s) x))
    go true e rest = record { small = omega arith; none = none; here = λ h. e }
    go false e rest = subst (λ (n : ℕ). Least n x (scan k (suc s) x)) (let z : k + suc s ≡ suc k + s = omega arith in z) (rest e)

pub lowest_least : (n x : ℕ) → Least n x (lowest n x)
unfolding lowest
lowest_least n x = subst (λ (m : ℕ). Least m x (scan n 0 x)) (add-zero n) (scan_least n 0 x (λ t h. absurd (not-suc-le-zero h)))

-- where a set of steps below n has a step, its lowest is one
pub lowest_has : (n x : ℕ) → x < 2 ^ n → (x ≡ 0 → ⊥) → has x (lowest n x) ≡ true
lowest_has n x h some = l.here (go (dec_lt (lowest n x) n))
  where
    l : Least n x (lowest n x)
    l = lowest_least n x

    go : Dec (lowest n x < n) → lowest n x < n
    go (yes k) = k
    go (no k) = absurd (some (eqb-true x 0 (members_empty x (λ s. gone s (dec_lt s n)))))
      where
        gone : (s : ℕ) → Dec (s < n) → has x s ≡ false
        gone s (yes m) = l.none s (let b : lowest n x ≤ n = l.small in omega arith)
        gone s (no m) = has_above n x s h (omega arith)

-- where a set of steps below n has a step, its lowest is below n
pub lowest_below : (n x : ℕ) → x < 2 ^ n → (x ≡ 0 → ⊥) → lowest n x < n
lowest_below n x h some = go (dec_lt (lowest n x) n)
  where
    go : Dec (lowest n x < n) → lowest n x < n
    go (yes k) = k
    go (no k) = absurd (true≢false (sym (lowest_has n x h some) ∙ has_above n x (lowest n x) h (omega arith)))

-- a wider look finds the same lowest step
pub lowest_wider : (n m x : ℕ) → n ≤ m → x < 2 ^ n → (x ≡ 0 → ⊥) → lowest m x ≡ lowest n x
lowest_wider n m x h l some =
    least_unique m x (lowest m x) (lowest n x) (lowest_least m x)
    (record { small = le_trans (lowest_least n x).small h; none = (lowest_least n x).none; here = λ k. lowest_has n x l some })

-- the steps above 0 are those of the half
pub has_half : (x s : ℕ) → has x (suc s) ≡ has (x / 2) s
unfolding has
has_half x s = ap (λ (y : ℕ). eqb y 1) (sym (bit_half x s))

pub has_low : (x d : ℕ) → x % 2 ≡ d → has x 0 ≡ eqb d 1
unfolding has
has_low x d e = ap (λ (y : ℕ). eqb y 1) (bit_low x ∙ e)

-- the machine's count of the zeros below the lowest digit
pub trailing_least : (n x : ℕ) → Least n x (count_trailing_zeros n x)
unfolding count_trailing_zeros
trailing_least zero x = record { small = zero-le; none = λ t h. absurd (not-suc-le-zero h); here = λ h. absurd (not-suc-le-zero h) }
trailing_least (suc n) x = go (x % 2) refl (trailing_least n (x / 2))
  where
    go : (d : ℕ) → x % 2 ≡ d → Least n (x / 2) (count_trailing_zeros n (x / 2)) → Least (suc n) x (under d (count_trailing_zeros n (x / 2)))
    go zero e l = record {
      small = suc-le-suc l.small;
      none = none;
      here = λ h. has_half x (count_trailing_zeros n (x / 2))
          ∙ l.here (le_of_suc-le-suc h);
    }
      where
        none : (t : ℕ) → t < suc (count_trailing_zeros n (x / 2)) → has x t ≡ false
        none zero h = has_low x 0 e
        none (suc t) h = has_half x t ∙ l.none t (le_of_suc-le-suc h)
    go (suc d) e l = record { small = zero-le; none = λ t h. absurd (not-suc-le-zero h); here = λ h. has_low x (suc d) e ∙ one d e }
      where
        one : (d : ℕ) → x % 2 ≡ suc d → eqb (suc d) 1 ≡ true
        one d e = eq-eqb (suc d) 1 (let z : suc d ≡ 1 = omega arith in z)

-- ---- sets gathered over a range

-- nothing is gathered exactly if each of the sets is empty
pub empty_gather : (k : ℕ) (f : ℕ → ℕ) → empty (gather k f) ≡ every k (λ i. empty (f i))
unfolding gather every
empty_gather zero f = refl
empty_gather (suc k) f = empty_union (gather k f) (f k) ∙ ap (λ (b : Bool). b && empty (f k)) (empty_gather k f)

-- what is gathered is within n exactly if each of the sets is
pub within_gather : (n k : ℕ) (f : ℕ → ℕ) → within n (gather k f) ≡ every k (λ i. within n (f i))
unfolding gather every
within_gather n zero f = lt-ltb 0 (2 ^ n) (pow_pos n)
within_gather n (suc k) f = within_union n (gather k f) (f k) ∙ ap (λ (b : Bool). b && within n (f k)) (within_gather n k f)

-- the next set of the range
pub gather_more : (k : ℕ) (f : ℕ → ℕ) → gather (k + 1) f ≡ union (gather k f) (f k)
unfolding gather
gather_more k f = rw add-one refl

-- the steps below n of which q holds
pub has_those : (n : ℕ) (q : ℕ → Bool) (s : ℕ) → has (those n q) s ≡ (ltb s n && q s)
unfolding gather
has_those zero q s = has_zero s ∙ sym (ap (λ (b : Bool). b && q s) (le-ltb s 0 zero-le))
has_those (suc n) q s =
    has_union (those n q) (cond (q n) (single n) 0) s
    ∙ ap₂ ◌||◌ (has_those n q s) (one (q n))
    ∙ go (dec_lt s n) (dec_lt n s)
  where
    one : (b : Bool) → has (cond b (single n) 0) s ≡ (b && eqb n s)
    one true = has_single n s
    one false = has_zero s

    go : Dec (s < n) → Dec (n < s) → ((ltb s n && q s) || (q n && eqb n s)) ≡ (ltb s (suc n) && q s)
    go (yes h) k = simp (lt-ltb s n h, lt-ltb s (suc n) (omega arith), ne_eqb n s (λ e. omega arith), and_false, or_false)
    go (no h) (yes k) = simp (le-ltb s n (omega arith), le-ltb s (suc n) (omega arith), ne_eqb n s (λ e. omega arith), and_false)
    go (no h) (no k) =
        let same : n ≡ s = omega arith in
        simp (le-ltb s n (omega arith), lt-ltb s (suc n) (omega arith), eq-eqb n s same, and_true) (ap q same)

-- a test over a range holds exactly if it holds at each of its numbers
pub every_at : (k : ℕ) (p : ℕ → Bool) → every k p ≡ true → (i : ℕ) → i < k → p i ≡ true
unfolding every
every_at zero p e i h = absurd (not-suc-le-zero h)
every_at (suc k) p e i h = go (every_at k p (and_left (every k p) (p k) e) i) (dec_lt i k)
  where
    go : (i < k → p i ≡ true) → Dec (i < k) → p i ≡ true
    go below (yes l) = below l
    go below (no l) = ap p (let z : i ≡ k = omega arith in z) ∙ and_right (every k p) (p k) e

pub every_of : (k : ℕ) (p : ℕ → Bool) → ((i : ℕ) → i < k → p i ≡ true) → every k p ≡ true
unfolding every
every_of zero p all = refl
every_of (suc k) p all = and_intro (every_of k p (λ i h. all i (let z : i < suc k = omega arith in z))) (all k (le_refl (suc k)))

pub every_same : (k : ℕ) (p q : ℕ → Bool) → ((i : ℕ) → p i ≡ q i) → every k p ≡ every k q
every_same k p q e = ap (every k) (fun_ext e)

-- two tests over a range hold together exactly if each does
pub every_and : (k : ℕ) (p q : ℕ → Bool) → every k (λ i. p i && q i) ≡ (every k p && every k q)
unfolding every
every_and zero p q = refl
every_and (suc k) p q = ap (λ (b : Bool). b && (p k && q k)) (every_and k p q) ∙ and_exchange (every k p) (every k q) (p k) (q k)
