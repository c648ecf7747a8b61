-- The steps of a set in order: the lowest, and then those of the rest. What is listed depends on the numbers looked at alone, and below the
-- lowest step there is none. Assumes nothing.
use Rattle.std.specs.Prelude.{ℕ, zero, suc, ◌+◌, ◌-◌, ◌^◌, ◌≤◌, ◌<◌, ◌≡◌, refl, List, [], ◌∷◌, ◌++◌, Bool, true, false, not, ◌&&◌, length, get_or, drop}
use Rattle.std.proofs.Common.{sym, ap, ap₂, ◌∙◌, true≢false, suc-add, arith, eq-eqb, ne_eqb}
use Rattle.std.proofs.Math.Decide.{dec_lt}
use Rattle.sets.specs.Sets.{has, single, minus, lowest, kept_if, listed, members}
use Rattle.sets.specs.Laws.{Least, lowest_least, lowest_has, has_minus, has_single, has_zero, has_above, ext, meet_lt}
use Rattle.sets.specs.Truth.{and_false, and_true}
use Rattle.sets.specs.Later.{later, later_minus}

-- ---- what is listed depends on the numbers looked at alone

pub listed_same : (k s : ℕ) (f g : ℕ → Bool) → ((p : ℕ) → s ≤ p → p < s + k → f p ≡ g p) → listed k s f ≡ listed k s g
unfolding listed
listed_same zero s f g e = refl
listed_same (suc k) s f g e =
    let here : f s ≡ g s = e s (omega arith) (omega arith) in
    let rest : listed k (suc s) f ≡ listed k (suc s) g = listed_same k (suc s) f g (λ p h l. e p (omega arith) (omega arith)) in
    ap₂ (λ (b : Bool) (l : List ℕ). kept_if b s l) here rest

-- two runs of numbers, one after the other
pub listed_add : (a b s : ℕ) (f : ℕ → Bool) → listed (a + b) s f ≡ listed a s f ++ listed b (s + a) f
unfolding listed
listed_add zero b s f = ap₂ (λ (k t : ℕ). listed k t f) (let z : 0 + b ≡ b = omega arith in z) (let z : s ≡ s + 0 = omega arith in z)
listed_add (suc a) b s f =
    ap (λ (k : ℕ). listed k s f) (suc-add a b)
    ∙ ap (λ (l : List ℕ). kept_if (f s) s l)
    (listed_add a b (suc s) f ∙ ap (λ (t : ℕ). listed a (suc s) f ++ listed b t f) (let z : suc s + a ≡ s + suc a = omega arith in z))
    ∙ split (f s)
  where
    split : (c : Bool) → kept_if c s (listed a (suc s) f ++ listed b (s + suc a) f) ≡ kept_if c s (listed a (suc s) f)
        ++ listed b (s + suc a) f
    split true = refl
    split false = refl

-- nothing is listed where nothing holds
pub listed_none : (k s : ℕ) (f : ℕ → Bool) → ((p : ℕ) → s ≤ p → p < s + k → f p ≡ false) → listed k s f ≡ []
unfolding listed
listed_none zero s f e = refl
listed_none (suc k) s f e =
    ap₂ (λ (b : Bool) (l : List ℕ). kept_if b s l) (e s (omega arith) (omega arith))
    (listed_none k (suc s) f (λ p h l. e p (omega arith) (omega arith)))

-- the first that holds comes first
pub listed_first : (r d : ℕ) (f : ℕ → Bool) → ((p : ℕ) → p < r → f p ≡ false) → f r ≡ true → listed (r + suc d) 0 f ≡ r ∷ listed d (suc r) f
unfolding listed
listed_first r d f none here =
    listed_add r (suc d) 0 f
    ∙ ap₂ (λ (l : List ℕ) (t : ℕ). l ++ listed (suc d) t f) (listed_none r 0 f (λ p h l. none p (omega arith)))
    (let z : 0 + r ≡ r = omega arith in z)
    ∙ ap (λ (b : Bool). kept_if b r (listed d (suc r) f)) here

-- ---- the steps of a set, in order

pub members_none : members 0 ≡ []
members_none = listed_none 64 0 (has 0) (λ p h l. has_zero p)

-- the lowest, and then the others
pub members_more : (x : ℕ) → x < 2 ^ 64 → (x ≡ 0 → ⊥) → members x ≡ lowest 64 x ∷ members (minus x (single (lowest 64 x)))
unfolding listed
members_more x small some =
    let r = lowest 64 x in
    let y = minus x (single r) in
    let l : Least 64 x r = lowest_least 64 x in
    let here : has x r ≡ true = lowest_has 64 x small some in
    let low : r < 64 = below r here (dec_lt r 64) in
    let d = 63 - r in
    let e : r + suc d ≡ 64 = omega arith in
    let gone : has y r ≡ false =
    has_minus x (single r) r ∙ ap (λ (b : Bool). has x r && not b) (has_single r r ∙ eq-eqb r r refl) ∙ and_false (has x r) in
    let low_none : listed r 0 (has y) ≡ [] =
    listed_none r 0 (has y)
    (λ p h i. has_minus x (single r) p ∙ ap (λ (b : Bool). b && not (has (single r) p)) (l.none p (omega arith))) in
    let high_same : listed d (suc r) (has y) ≡ listed d (suc r) (has x) =
    listed_same d (suc r) (has y) (has x)
    (λ p h i. has_minus x (single r) p
    ∙ ap (λ (b : Bool). has x p && not b) (has_single r p ∙ ne_eqb r p (λ q. let z : ⊥ = omega arith in z))
    ∙ and_true (has x p)) in
    let rest : listed 64 0 (has y) ≡ listed d (suc r) (has x) =
    ap (λ (k : ℕ). listed k 0 (has y)) (sym e)
    ∙ listed_add r (suc d) 0 (has y)
    ∙ ap₂ (λ (m : List ℕ) (t : ℕ). m ++ listed (suc d) t (has y)) low_none (let z : 0 + r ≡ r = omega arith in z)
    ∙ ap (λ (b : Bool). kept_if b r (listed d (suc r) (has y))) gone
    ∙ high_same in
    ap (λ (k : ℕ). listed k 0 (has x)) (sym e) ∙ listed_first r d (has x) l.none here ∙ ap (λ (m : List ℕ). r ∷ m) (sym rest)
  where
    below : (r : ℕ) → has x r ≡ true → Dec (r < 64) → r < 64
    below r h (yes l) = l
    below r h (no l) = absurd (true≢false (sym h ∙ has_above 64 x r small (omega arith)))

-- what is left behind the lowest
pub members_later : (x : ℕ) → x < 2 ^ 64 → (x ≡ 0 → ⊥) → members x ≡ lowest 64 x ∷ members (later x)
members_later x small some = members_more x small some ∙ ap (λ (y : ℕ). lowest 64 x ∷ members y) (sym (later_minus 64 x small some))

-- the first that is listed is one of the numbers looked at
listed_head : (k s : ℕ) (f : ℕ → Bool) → 0 < length (listed k s f) → (s ≤ get_or (listed k s f) 0 0) × (get_or (listed k s f) 0 0 < s + k)
unfolding listed
listed_head zero s f some = absurd (let z : ⊥ = omega arith in z)
listed_head (suc k) s f some = go (f s) (listed_head k (suc s) f) some
  where
    go : (b : Bool)
        → (0 < length (listed k (suc s) f) → (suc s ≤ get_or (listed k (suc s) f) 0 0) × (get_or (listed k (suc s) f) 0 0 < suc s + k))
        → 0 < length (kept_if b s (listed k (suc s) f))
        → (s ≤ get_or (kept_if b s (listed k (suc s) f)) 0 0) × (get_or (kept_if b s (listed k (suc s) f)) 0 0 < s + suc k)
    go true rest l = (omega arith, omega arith)
    go false rest l = let h = rest l in (omega arith, omega arith)

-- what is listed tells what holds
listed_inj : (k s : ℕ) (f g : ℕ → Bool) → listed k s f ≡ listed k s g → (p : ℕ) → s ≤ p → p < s + k → f p ≡ g p
unfolding listed
listed_inj zero s f g e p h l = absurd (let z : ⊥ = omega arith in z)
listed_inj (suc k) s f g e p h l = go (f s) (g s) refl refl (listed_inj k (suc s) f g) e (dec_lt s p)
  where
    apart : (f g : ℕ → Bool) → s ∷ listed k (suc s) f ≡ listed k (suc s) g → f p ≡ g p
    apart f g e =
        let some : 0 < length (listed k (suc s) g) = rw (← e) (omega arith) in
        let low = (listed_head k (suc s) g some).0 in
        let first : s ≡ get_or (listed k (suc s) g) 0 0 = ap (λ (l : List ℕ). get_or l 0 0) e in
        absurd (let z : ⊥ = omega arith in z)

    here : (b : Bool) → f s ≡ b → g s ≡ b → (s < p → ⊥) → f p ≡ g p
    here b u v m = let q : p ≡ s = omega arith in ap f q ∙ u ∙ sym v ∙ ap g (sym q)

    go : (a b : Bool) → f s ≡ a → g s ≡ b
        → (listed k (suc s) f ≡ listed k (suc s) g → (q : ℕ) → suc s ≤ q → q < suc s + k → f q ≡ g q)
        → kept_if a s (listed k (suc s) f) ≡ kept_if b s (listed k (suc s) g)
        → Dec (s < p)
        → f p ≡ g p
    go true true u v rest e (yes m) = rest (ap (drop 1) e) p m (omega arith)
    go true true u v rest e (no m) = here true u v m
    go false false u v rest e (yes m) = rest e p m (omega arith)
    go false false u v rest e (no m) = here false u v m
    go true false u v rest e d = apart f g e
    go false true u v rest e d = sym (apart g f (sym e))

-- sets with the same steps are the same
pub members_inj : (x y : ℕ) → x < 2 ^ 64 → y < 2 ^ 64 → members x ≡ members y → x ≡ y
members_inj x y h l e = ext x y (λ s. go s (dec_lt s 64))
  where
    go : (s : ℕ) → Dec (s < 64) → has x s ≡ has y s
    go s (yes low) = listed_inj 64 0 (has x) (has y) e s (omega arith) low
    go s (no high) = has_above 64 x s h (omega arith) ∙ sym (has_above 64 y s l (omega arith))

-- ---- one turn of a walk, from the list of what is left

-- each step is one of 64
pub members_below : {s : ℕ} {more : List ℕ} (x : ℕ) → members x ≡ s ∷ more → s < 64
members_below {s} {more} x e =
    let some : 0 < length (members x) = rw e (omega arith) in
    let low : get_or (members x) 0 0 < 64 = (listed_head 64 0 (has x) some).1 in
    rw e at low

-- where a step is given, the set has steps
pub members_some : {s : ℕ} {more : List ℕ} (x : ℕ) → members x ≡ s ∷ more → x ≡ 0 → ⊥
members_some x e none = let n = ap length (sym e ∙ ap members none ∙ members_none) in let z : ⊥ = omega arith in z

-- the step is the lowest, and the others are left
pub members_turn : {s : ℕ} (x y : ℕ) → x < 2 ^ 64 → y < 2 ^ 64 → members x ≡ s ∷ members y → (s ≡ lowest 64 x) × (y ≡ later x)
members_turn x y h l e =
    let both = sym e ∙ members_later x h (members_some x e) in (
      ap (λ (l : List ℕ). get_or l 0 0) both,
      members_inj y (later x) l (meet_lt 64 x (x - 1) h) (ap (drop 1) both),
    )

-- nothing is left of the set with no step alone
pub members_end : (x : ℕ) → x < 2 ^ 64 → members x ≡ [] → x ≡ 0
members_end x h e = members_inj x 0 h (omega arith) (e ∙ sym members_none)
