-- Two well-formed records that act alike at every marking of n steps are the same. Each is shown by what it does at a few
-- markings: its own needs and no more, its own needs with all that it lets be included, and everything. Assumes nothing.
use Rattle.std.specs.Prelude.{ℕ, ◌^◌, ◌<◌, ◌≡◌, refl, List, [], ◌∷◌, Bool, true, false, not, ◌&&◌, cond, get_or}
use Rattle.std.proofs.Common.{sym, ap, ap₂, ◌∙◌, true≢false, pow_pos, eqb-true, eq-eqb, lt-ltb}
use Rattle.std.proofs.Math.Option.{none, some}
use Rattle.std.specs.Int.Bits.{bit_xor, xor_self, and_zero_r, or_zero_r}
use Rattle.sets.specs.Sets.{union, meet, minus, full}
use Rattle.sets.specs.Laws.{union_lt, minus_lt, full_lt, subset_full, minus_zero}
use Rattle.sets.specs.Digits.{at_digit, as_sets, by_digits}
use Rattle.moves.specs.declared.Marking.{Marking}
use Rattle.moves.specs.Inside.{Inside}
use Rattle.records.specs.declared.Record.{Record}
use Rattle.records.specs.Records.{applies, gives, acts}
use Rattle.records.specs.Laws.{lacks, applies_lacks, applies_none, applies_never, acts_some}
use Rattle.records.specs.WellFormed.{Bounded, WellFormed}

-- ---- sets that are told by what is made of them

none_of : {a b : ℕ} → a ≡ 0 → b ≡ 0 → union a b ≡ 0
none_of e f = ap₂ union e f

same_of : {a b : ℕ} → a ≡ b → bit_xor a b ≡ 0
same_of {a} {b} e = ap (bit_xor a) (sym e) ∙ xor_self a

-- what was set, where nothing of it was there
told_set : (x c s d t : ℕ) → meet s x ≡ 0 → meet t x ≡ 0 → union (minus x c) s ≡ union (minus x d) t → s ≡ t
told_set x c s d t p q e =
    by_digits
    (λ v. union (union (meet (get_or v 2 0) (get_or v 0 0)) (meet (get_or v 4 0) (get_or v 0 0)))
    (bit_xor (union (minus (get_or v 0 0) (get_or v 1 0)) (get_or v 2 0)) (union (minus (get_or v 0 0) (get_or v 3 0)) (get_or v 4 0))))
    (λ v. get_or v 2 0) (λ v. get_or v 4 0)
    (x ∷ c ∷ s ∷ d ∷ t ∷ []) (λ i. simp at_digit) (λ i. refl) (λ i. refl) refl
    (none_of (none_of p q) (same_of e))

-- what was cleared, where all of it was there
told_clear : (x c s d t : ℕ) → minus c x ≡ 0 → minus d x ≡ 0 → meet s c ≡ 0 → meet t d ≡ 0 → union (minus x c) s ≡ union (minus x d) t
    → c ≡ d
told_clear x c s d t p q k l e =
    by_digits
    (λ v. union (union (union (minus (get_or v 1 0) (get_or v 0 0)) (minus (get_or v 3 0) (get_or v 0 0)))
    (union (meet (get_or v 2 0) (get_or v 1 0)) (meet (get_or v 4 0) (get_or v 3 0))))
    (bit_xor (union (minus (get_or v 0 0) (get_or v 1 0)) (get_or v 2 0)) (union (minus (get_or v 0 0) (get_or v 3 0)) (get_or v 4 0))))
    (λ v. get_or v 1 0) (λ v. get_or v 3 0)
    (x ∷ c ∷ s ∷ d ∷ t ∷ []) (λ i. simp at_digit) (λ i. refl) (λ i. refl) refl
    (none_of (none_of (none_of p q) (none_of k l)) (same_of e))

-- ---- the markings

-- a record's own needs, with the steps of x included
abbrev own : Record → ℕ → Marking
own r x = record { done = r.needex; due = 0; included = union r.needin x }

-- all that the record lets be included beside its own needs
abbrev spare : ℕ → Record → ℕ
spare n r = minus (full n) r.needout

abbrev pub everything : ℕ → Marking
everything n = record { done = full n; due = full n; included = full n }

own_inside : (n : ℕ) (r : Record) (x : ℕ) → Bounded n r → x < 2 ^ n → Inside n (own r x)
own_inside n r x b h = record { done_in = b.needex_in; due_in = pow_pos n; included_in = union_lt n r.needin x b.needin_in h }

pub everything_inside : (n : ℕ) → Inside n (everything n)
everything_inside n = record { done_in = full_lt n; due_in = full_lt n; included_in = full_lt n }

inside_full : (n x : ℕ) → x < 2 ^ n → minus x (full n) ≡ 0
inside_full n x h = eqb-true (minus x (full n)) 0 (subset_full n x ∙ lt-ltb x (2 ^ n) h)

-- ---- records of the needs in a list

abbrev one_of : List ℕ → Record
one_of v =
    record {
      never = false;
      needin = get_or v 0 0;
      needex = get_or v 1 0;
      needout = get_or v 2 0;
      done = 0;
      dueset = 0;
      dueclear = 0;
      inset = 0;
      inclear = 0;
    }

abbrev other_of : List ℕ → Record
other_of v =
    record {
      never = false;
      needin = get_or v 3 0;
      needex = get_or v 4 0;
      needout = get_or v 5 0;
      done = 0;
      dueset = 0;
      dueclear = 0;
      inset = 0;
      inclear = 0;
    }

-- ---- where a record applies

applies_of : (r : Record) (m : Marking) → r.never ≡ false → lacks r m ≡ 0 → applies r m ≡ true
applies_of r m off e = applies_lacks r m ∙ ap₂ (λ (p q : Bool). not p && q) off (eq-eqb (lacks r m) 0 e)

applies_own : (n : ℕ) (r : Record) (x : ℕ) → WellFormed n r → r.never ≡ false → meet x r.needout ≡ 0 → applies r (own r x) ≡ true
applies_own n r x w off e =
    applies_of r (own r x) off
    (by_digits (λ v. union (meet (get_or v 0 0) (get_or v 2 0)) (meet (get_or v 3 0) (get_or v 2 0)))
    (λ v. lacks (one_of v) (own (one_of v) (get_or v 3 0))) (λ v. 0)
    (r.needin ∷ r.needex ∷ r.needout ∷ x ∷ []) (λ i. simp at_digit) (λ i. simp at_digit) (λ i. simp at_digit) refl
    (none_of w.needin_needout e))

pub applies_everything : (n : ℕ) (r : Record) → Bounded n r → r.never ≡ false → applies r (everything n) ≡ true
applies_everything n r b off =
    applies_of r (everything n) off
    (by_digits (λ v. union (union (minus (get_or v 0 0) (get_or v 3 0)) (minus (get_or v 1 0) (get_or v 3 0))) (minus (get_or v 2 0) (get_or v 3 0)))
    (λ v. lacks (one_of v) (record { done = get_or v 3 0; due = get_or v 3 0; included = get_or v 3 0 })) (λ v. 0)
    (r.needin ∷ r.needex ∷ r.needout ∷ full n ∷ []) (λ i. simp at_digit) (λ i. simp at_digit) (λ i. simp at_digit) refl
    (none_of (none_of (inside_full n r.needin b.needin_in) (inside_full n r.needex b.needex_in))
    (inside_full n r.needout b.needout_in)))

spare_apart : (n : ℕ) (r : Record) → meet (spare n r) r.needout ≡ 0
spare_apart n r = as_sets (λ v. meet (minus (get_or v 0 0) (get_or v 1 0)) (get_or v 1 0)) (λ v. 0) (full n ∷ r.needout ∷ [])
    (λ i. simp at_digit) (λ i. simp at_digit) refl

-- ---- the needs are the same

needin_same : (a b : Record) → lacks b (own a 0) ≡ 0 → lacks a (own b 0) ≡ 0 → a.needin ≡ b.needin
needin_same a b p q =
    by_digits (λ v. union (lacks (other_of v) (own (one_of v) 0)) (lacks (one_of v) (own (other_of v) 0))) (λ v. get_or v 0 0)
    (λ v. get_or v 3 0)
    (a.needin ∷ a.needex ∷ a.needout ∷ b.needin ∷ b.needex ∷ b.needout ∷ []) (λ i. simp at_digit) (λ i. refl) (λ i. refl) refl
    (none_of p q)

needex_same : (a b : Record) → lacks b (own a 0) ≡ 0 → lacks a (own b 0) ≡ 0 → a.needex ≡ b.needex
needex_same a b p q =
    by_digits (λ v. union (lacks (other_of v) (own (one_of v) 0)) (lacks (one_of v) (own (other_of v) 0))) (λ v. get_or v 1 0)
    (λ v. get_or v 4 0)
    (a.needin ∷ a.needex ∷ a.needout ∷ b.needin ∷ b.needex ∷ b.needout ∷ []) (λ i. simp at_digit) (λ i. refl) (λ i. refl) refl
    (none_of p q)

needout_same : (n : ℕ) (a b : Record) → WellFormed n a → WellFormed n b → lacks b (own a (spare n a)) ≡ 0 → lacks a (own b (spare n b)) ≡ 0
    → a.needout ≡ b.needout
needout_same n a b wa wb p q =
    by_digits
    (λ v. union (union (lacks (other_of v) (own (one_of v) (minus (get_or v 6 0) (get_or v 2 0))))
    (lacks (one_of v) (own (other_of v) (minus (get_or v 6 0) (get_or v 5 0)))))
    (union (union (meet (get_or v 1 0) (get_or v 2 0)) (meet (get_or v 4 0) (get_or v 5 0)))
    (union (minus (get_or v 2 0) (get_or v 6 0)) (minus (get_or v 5 0) (get_or v 6 0)))))
    (λ v. get_or v 2 0) (λ v. get_or v 5 0)
    (a.needin ∷ a.needex ∷ a.needout ∷ b.needin ∷ b.needex ∷ b.needout ∷ full n ∷ []) (λ i. simp at_digit) (λ i. refl)
    (λ i. refl) refl
    (none_of (none_of p q) (none_of (none_of wa.needex_needout wb.needex_needout)
    (none_of (inside_full n a.needout wa.bounded.needout_in) (inside_full n b.needout wb.bounded.needout_in))))

-- ---- alike

-- at every marking of n steps the two do the same
abbrev pub Alike : ℕ → Record → Record → Type 0
Alike n a b = (m : Marking) → Inside n m → acts a m ≡ acts b m

-- where one applies, so does the other, and gives the same
alike_at : (a b : Record) (m : Marking) → acts a m ≡ acts b m → applies a m ≡ true → (applies b m ≡ true) × (gives a m ≡ gives b m)
unfolding acts
alike_at a b m e t =
    let found = acts_some b m (gives a m) (sym e ∙ ap (λ (p : Bool). cond p (some (gives a m)) none) t) in
    (found.0, sym found.1)

module _ (n : ℕ) (a b : Record) (wa : WellFormed n a) (wb : WellFormed n b) (alike : Alike n a b) where
  -- where never is off, the other applies to a's own needs
  meets : a.never ≡ false → (x : ℕ) → x < 2 ^ n → meet x a.needout ≡ 0 → (applies b (own a x) ≡ true)
      × (gives a (own a x) ≡ gives b (own a x))
  meets off x h e = alike_at a b (own a x) (alike (own a x) (own_inside n a x wa.bounded h)) (applies_own n a x wa off e)

  never_off : a.never ≡ false → b.never ≡ false
  never_off off = go b.never refl
    where
      go : (p : Bool) → b.never ≡ p → b.never ≡ false
      go true on = absurd (true≢false (sym (meets off 0 (pow_pos n) refl).0 ∙ applies_never b (own a 0) on))
      go false q = q

-- two records that are not never
off_unique : (n : ℕ) (a b : Record) → WellFormed n a → WellFormed n b → Alike n a b → a.never ≡ false → b.never ≡ false → a ≡ b
off_unique n a b wa wb alike aoff boff =
    let back : Alike n b a = λ m h. sym (alike m h) in
    let ab = meets n a b wa wb alike aoff 0 (pow_pos n) refl in
    let ba = meets n b a wb wa back boff 0 (pow_pos n) refl in
    let ab' = meets n a b wa wb alike aoff (spare n a) (minus_lt n (full n) a.needout (full_lt n)) (spare_apart n a) in
    let ba' = meets n b a wb wa back boff (spare n b) (minus_lt n (full n) b.needout (full_lt n)) (spare_apart n b) in
    let lack : lacks b (own a 0) ≡ 0 = applies_none b (own a 0) ab.0 in
    let lack' : lacks a (own b 0) ≡ 0 = applies_none a (own b 0) ba.0 in
    let in_same : a.needin ≡ b.needin = needin_same a b lack lack' in
    let ex_same : a.needex ≡ b.needex = needex_same a b lack lack' in
    let out_same : a.needout ≡ b.needout =
    needout_same n a b wa wb (applies_none b (own a (spare n a)) ab'.0) (applies_none a (own b (spare n b)) ba'.0) in
    let given = ab.1 in
    let all = (alike_at a b (everything n) (alike (everything n) (everything_inside n)) (applies_everything n a wa.bounded aoff)).1 in
    let done_same : a.done ≡ b.done =
    told_set a.needex 0 a.done 0 b.done wa.done_needex (ap (meet b.done) ex_same ∙ wb.done_needex)
    (ap (λ (x : ℕ). union x a.done) (minus_zero a.needex) ∙ ap (λ (m : Marking). m.done) given
    ∙ ap (λ (x : ℕ). union x b.done) (sym (minus_zero a.needex))) in
    let due_set : a.dueset ≡ b.dueset =
    told_set 0 a.dueclear a.dueset b.dueclear b.dueset (and_zero_r a.dueset) (and_zero_r b.dueset)
    (ap (λ (m : Marking). m.due) given) in
    let in_set : a.inset ≡ b.inset =
    told_set (union a.needin 0) a.inclear a.inset b.inclear b.inset
    (ap (meet a.inset) (or_zero_r a.needin) ∙ wa.inset_needin)
    (ap (meet b.inset) (or_zero_r a.needin ∙ in_same) ∙ wb.inset_needin) (ap (λ (m : Marking). m.included) given) in
    let due_clear : a.dueclear ≡ b.dueclear =
    told_clear (full n) a.dueclear a.dueset b.dueclear b.dueset (inside_full n a.dueclear wa.bounded.dueclear_in)
    (inside_full n b.dueclear wb.bounded.dueclear_in)
    wa.dueset_dueclear wb.dueset_dueclear (ap (λ (m : Marking). m.due) all) in
    let in_clear : a.inclear ≡ b.inclear =
    told_clear (full n) a.inclear a.inset b.inclear b.inset (inside_full n a.inclear wa.bounded.inclear_in)
    (inside_full n b.inclear wb.bounded.inclear_in)
    wa.inset_inclear wb.inset_inclear (ap (λ (m : Marking). m.included) all) in
    λ i. record {
      never = (aoff ∙ sym boff) i;
      needin = in_same i;
      needex = ex_same i;
      needout = out_same i;
      done = done_same i;
      dueset = due_set i;
      dueclear = due_clear i;
      inset = in_set i;
      inclear = in_clear i;
    }

-- two well-formed records that act alike are the same
pub unique : (n : ℕ) (a b : Record) → WellFormed n a → WellFormed n b → Alike n a b → a ≡ b
unique n a b wa wb alike = go a.never refl b.never refl
  where
    go : (p : Bool) → a.never ≡ p → (q : Bool) → b.never ≡ q → a ≡ b
    go true aon true bon = wa.blank aon ∙ sym (wb.blank bon)
    go false aoff q e = off_unique n a b wa wb alike aoff (never_off n a b wa wb alike aoff)
    go true aon false boff = absurd (true≢false (sym aon ∙ never_off n b a wb wa (λ m h. sym (alike m h)) boff))
