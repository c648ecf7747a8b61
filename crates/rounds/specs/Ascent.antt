-- The test of number 5 in words: the arrows fit exactly if each has a kind of at most 3 and steps that there are, and any earlier one
-- comes before any later one as triples. The test looks at neighbours only; the order of triples carries it on to every pair. Assumes
-- nothing.
use Rattle.std.specs.Prelude.{ℕ, zero, suc, ◌≤◌, ◌<◌, ◌≡◌, refl, ◌↔◌, ◌⊎◌, List, [], ◌∷◌, Bool, true, ◌&&◌, ◌||◌, length, get_or, eqb, ltb, leb}
use Rattle.std.proofs.Common.{◌∙◌, inl, inr, not-suc-le-zero, le_of_suc-le-suc, arith, lt-ltb, le-leb, eq-eqb, ltb-true, leb-true, eqb-true}
use Rattle.sets.specs.Truth.{and_left, and_right, and_intro, or_cases, or_first, or_second}
use Rattle.arrows.specs.Arrows.{Arrow, links, before, all_link, ascending, link_in_order}

-- ---- the order of triples

abbrev pub Before : Arrow → Arrow → Type 0
Before x y = (x.kind < y.kind) ⊎ ((x.kind ≡ y.kind) × ((x.from < y.from) ⊎ ((x.from ≡ y.from) × (x.to < y.to))))

module _ (x y : Arrow) where
  abbrev inner : Bool
  inner = ltb x.from y.from || (eqb x.from y.from && ltb x.to y.to)

  pub test_before : before x y ≡ true → Before x y
  test_before e = outside (or_cases (ltb x.kind y.kind) (eqb x.kind y.kind && inner) e)
    where
      inside : (ltb x.from y.from ≡ true) ⊎ ((eqb x.from y.from && ltb x.to y.to) ≡ true) → (x.from < y.from)
          ⊎ ((x.from ≡ y.from) × (x.to < y.to))
      inside (inl f) = inl (ltb-true x.from y.from f)
      inside (inr f) = inr (
        eqb-true x.from y.from (and_left (eqb x.from y.from) (ltb x.to y.to) f),
        ltb-true x.to y.to (and_right (eqb x.from y.from) (ltb x.to y.to) f),
      )

      outside : (ltb x.kind y.kind ≡ true) ⊎ ((eqb x.kind y.kind && inner) ≡ true) → Before x y
      outside (inl f) = inl (ltb-true x.kind y.kind f)
      outside (inr f) = inr (
        eqb-true x.kind y.kind (and_left (eqb x.kind y.kind) inner f),
        inside (or_cases (ltb x.from y.from) (eqb x.from y.from && ltb x.to y.to)
            (and_right (eqb x.kind y.kind) inner f)),
      )

  pub before_test : Before x y → before x y ≡ true
  before_test (inl h) = or_first (eqb x.kind y.kind && inner) (lt-ltb x.kind y.kind h)
  before_test (inr (e, inl h)) =
      or_second (ltb x.kind y.kind)
      (and_intro (eq-eqb x.kind y.kind e)
      (or_first (eqb x.from y.from && ltb x.to y.to) (lt-ltb x.from y.from h)))
  before_test (inr (e, inr (f, h))) =
      or_second (ltb x.kind y.kind)
      (and_intro (eq-eqb x.kind y.kind e)
      (or_second (ltb x.from y.from) (and_intro (eq-eqb x.from y.from f) (lt-ltb x.to y.to h))))

before_then : (x y z : Arrow) → Before x y → Before y z → Before x z
before_then x y z (inl a) (inl b) = inl (omega arith)
before_then x y z (inl a) (inr b) = inl (let e : y.kind ≡ z.kind = b.0 in omega arith)
before_then x y z (inr a) (inl b) = inl (let e : x.kind ≡ y.kind = a.0 in omega arith)
before_then x y z (inr (e, inl a)) (inr (f, inl b)) = inr (e ∙ f, inl (omega arith))
before_then x y z (inr (e, inl a)) (inr (f, inr b)) = inr (e ∙ f, inl (let q : y.from ≡ z.from = b.0 in omega arith))
before_then x y z (inr (e, inr a)) (inr (f, inl b)) = inr (e ∙ f, inl (let q : x.from ≡ y.from = a.0 in omega arith))
before_then x y z (inr (e, inr a)) (inr (f, inr b)) =
    inr (e ∙ f, inr (a.0 ∙ b.0, let p : x.to < y.to = a.1 in let q : y.to < z.to = b.1 in omega arith))

-- ---- lists of arrows

-- arrow i of a list; past the end it is of no account
abbrev pub arrow_no : List Arrow → ℕ → Arrow
arrow_no l i = get_or l i (record { kind = 0; from = 0; to = 0 })

pub record Known (n : ℕ) (x : Arrow) : Type 0 where
  pub kind_known : x.kind ≤ 3
  pub from_known : x.from < n
  pub to_known : x.to < n

test_known : (n : ℕ) (x : Arrow) → links n x ≡ true → Known n x
test_known n x e =
    let k = leb x.kind 3 in
    let a = ltb x.from n in
    let b = ltb x.to n in
    record {
      kind_known = leb-true x.kind 3 (and_left k a (and_left (k && a) b e));
      from_known = ltb-true x.from n (and_right k a (and_left (k && a) b e));
      to_known = ltb-true x.to n (and_right (k && a) b e);
    }

known_test : (n : ℕ) (x : Arrow) → Known n x → links n x ≡ true
known_test n x k = and_intro (and_intro (le-leb x.kind 3 k.kind_known) (lt-ltb x.from n k.from_known))
    (lt-ltb x.to n k.to_known)

abbrev pub AllKnown : ℕ → List Arrow → Type 0
AllKnown n l = (i : ℕ) → i < length l → Known n (arrow_no l i)

-- any earlier one comes before any later one
abbrev pub Ascending : List Arrow → Type 0
Ascending l = (i j : ℕ) → i < j → j < length l → Before (arrow_no l i) (arrow_no l j)

all_known : (n : ℕ) (l : List Arrow) → all_link n l ≡ true → AllKnown n l
unfolding all_link
all_known n [] e i h = absurd (not-suc-le-zero h)
all_known n (x ∷ rest) e zero h = test_known n x (and_left (links n x) (all_link n rest) e)
all_known n (x ∷ rest) e (suc i) h = all_known n rest (and_right (links n x) (all_link n rest) e) i (le_of_suc-le-suc h)

known_all : (n : ℕ) (l : List Arrow) → AllKnown n l → all_link n l ≡ true
unfolding all_link
known_all n [] k = refl
known_all n (x ∷ rest) k = and_intro (known_test n x (k 0 (omega arith))) (known_all n rest (λ i h. k (suc i) (omega arith)))

-- the first of an ascending list comes before every other
head_before : (x : Arrow) (l : List Arrow) → ascending (x ∷ l) ≡ true → (j : ℕ) → j < length l → Before x (arrow_no l j)
unfolding ascending
head_before x [] e j h = absurd (not-suc-le-zero h)
head_before x (y ∷ rest) e zero h = test_before x y (and_left (before x y) (ascending (y ∷ rest)) e)
head_before x (y ∷ rest) e (suc j) h =
    before_then x y (arrow_no rest j) (test_before x y (and_left (before x y) (ascending (y ∷ rest)) e))
    (head_before y rest (and_right (before x y) (ascending (y ∷ rest)) e) j (le_of_suc-le-suc h))

ascending_tail : (x : Arrow) (l : List Arrow) → ascending (x ∷ l) ≡ true → ascending l ≡ true
unfolding ascending
ascending_tail x [] e = refl
ascending_tail x (y ∷ rest) e = and_right (before x y) (ascending (y ∷ rest)) e

ascends_all : (l : List Arrow) → ascending l ≡ true → Ascending l
ascends_all [] e i j h k = absurd (not-suc-le-zero k)
ascends_all (x ∷ rest) e i zero h k = absurd (not-suc-le-zero h)
ascends_all (x ∷ rest) e zero (suc j) h k = head_before x rest e j (le_of_suc-le-suc k)
ascends_all (x ∷ rest) e (suc i) (suc j) h k = ascends_all rest (ascending_tail x rest e) i j (le_of_suc-le-suc h) (le_of_suc-le-suc k)

all_ascends : (l : List Arrow) → Ascending l → ascending l ≡ true
unfolding ascending
all_ascends [] a = refl
all_ascends (x ∷ []) a = refl
all_ascends (x ∷ y ∷ rest) a =
    and_intro (before_test x y (a 0 1 (omega arith) (omega arith)))
    (all_ascends (y ∷ rest) (λ i j h k. a (suc i) (suc j) (omega arith) (omega arith)))

-- 5 is not given exactly if this holds
pub arrows_exactly : (n : ℕ) (l : List Arrow) → (link_in_order n l ≡ true) ↔ (AllKnown n l × Ascending l)
arrows_exactly n l = (
  λ e. (all_known n l (and_left (all_link n l) (ascending l) e), ascends_all l (and_right (all_link n l) (ascending l) e)),
  λ p. and_intro (known_all n l p.0) (all_ascends l p.1),
)
