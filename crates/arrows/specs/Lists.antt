-- Numbers listed in order. One law ties the two ways to give such a list: a strictly ascending list is what `listed` gives of its members.
-- Assumes nothing.
use Rattle.std.specs.Prelude.{ℕ, zero, suc, ◌+◌, ◌≤◌, ◌<◌, ◌≡◌, refl, List, [], ◌∷◌, Bool, true, false, ◌&&◌, ◌||◌, length, eqb, ltb, leb}
use Rattle.std.proofs.Common.{sym, ap, ap₂, ◌∙◌, subst, true≢false, arith, le-ltb, le-leb, leb-true, eq-eqb, ne_eqb}
use Rattle.std.proofs.lemmas.Bool.{false≢true}
use Rattle.std.proofs.Math.Decide.{dec_lt}
use Rattle.sets.specs.Truth.{and_left, and_right, and_intro}
use Rattle.arrows.specs.Arrows.{listed, kept_if}
pub use Rattle.sets.specs.Members.{listed_same, listed_add, listed_none, listed_first}

-- the numbers go up, from s on
unfoldable pub up_from : ℕ → List ℕ → Bool
up_from s [] = true
up_from s (p ∷ rest) = leb s p && up_from (suc p) rest

-- each is below m
unfoldable pub all_below : ℕ → List ℕ → Bool
all_below m [] = true
all_below m (p ∷ rest) = ltb p m && all_below m rest

unfoldable pub member : List ℕ → ℕ → Bool
member [] x = false
member (p ∷ rest) x = eqb p x || member rest x

-- ---- a list and its members

below_not_member : (s : ℕ) (l : List ℕ) → up_from s l ≡ true → (x : ℕ) → x < s → member l x ≡ false
unfolding up_from member
below_not_member s [] h x l = refl
below_not_member s (p ∷ rest) h x l =
    let low : s ≤ p = leb-true s p (and_left (leb s p) (up_from (suc p) rest) h) in
    ap₂ (λ (a b : Bool). a || b) (ne_eqb p x (λ e. let z : ⊥ = omega arith in z))
    (below_not_member (suc p) rest (and_right (leb s p) (up_from (suc p) rest) h) x (omega arith))

up_weaker : (s t : ℕ) (l : List ℕ) → t ≤ s → up_from s l ≡ true → up_from t l ≡ true
unfolding up_from
up_weaker s t [] h e = refl
up_weaker s t (p ∷ rest) h e =
    let low : s ≤ p = leb-true s p (and_left (leb s p) (up_from (suc p) rest) e) in
    and_intro (le-leb t p (omega arith)) (and_right (leb s p) (up_from (suc p) rest) e)

-- a strictly ascending list is what is listed of its members
pub listed_members : (k s : ℕ) (l : List ℕ) → up_from s l ≡ true → all_below (s + k) l ≡ true → listed k s (member l) ≡ l
unfolding listed up_from all_below member
listed_members k s [] up low = listed_none k s (member []) (λ p h i. below_not_member (suc p) [] refl p (omega arith))
listed_members zero s (p ∷ rest) up low =
    absurd (let a : s ≤ p = leb-true s p (and_left (leb s p) (up_from (suc p) rest) up) in
    let b : ltb p (s + 0) ≡ true = and_left (ltb p (s + 0)) (all_below (s + 0) rest) low in
    true≢false (sym b ∙ le-ltb p (s + 0) (omega arith)))
listed_members (suc k) s (p ∷ rest) up low = go (dec_lt s p) (listed_members k (suc s) (p ∷ rest)) (listed_members k (suc s) rest)
  where
    a : s ≤ p
    a = leb-true s p (and_left (leb s p) (up_from (suc p) rest) up)

    wider : all_below (suc s + k) (p ∷ rest) ≡ true
    wider = subst (λ (m : ℕ). all_below m (p ∷ rest) ≡ true) (let z : s + suc k ≡ suc s + k = omega arith in z) low

    go : Dec (s < p) → (up_from (suc s) (p ∷ rest) ≡ true → all_below (suc s + k) (p ∷ rest) ≡ true → listed k (suc s) (member (p ∷ rest)) ≡ p
        ∷ rest)
        → (up_from (suc s) rest ≡ true → all_below (suc s + k) rest ≡ true → listed k (suc s) (member rest) ≡ rest)
        → kept_if (member (p ∷ rest) s) s (listed k (suc s) (member (p ∷ rest))) ≡ p ∷ rest
    go (yes h) later same =
        let up' : up_from (suc s) (p ∷ rest) ≡ true = and_intro (le-leb (suc s) p h) (and_right (leb s p) (up_from (suc p) rest) up) in
        ap₂ (λ (b : Bool) (l : List ℕ). kept_if b s l) (below_not_member (suc s) (p ∷ rest) up' s (omega arith)) (later up' wider)
    go (no h) later same =
        let e : p ≡ s = omega (arith, a) in
        let up' : up_from (suc s) rest ≡ true =
        subst (λ (q : ℕ). up_from (suc q) rest ≡ true) e (and_right (leb s p) (up_from (suc p) rest) up) in
        let tail : listed k (suc s) (member (p ∷ rest)) ≡ rest =
        listed_same k (suc s) (member (p ∷ rest)) (member rest) (λ q i j. skip q (omega arith))
        ∙ same up' (and_right (ltb p (suc s + k)) (all_below (suc s + k) rest) wider) in
        ap₂ (λ (b : Bool) (l : List ℕ). kept_if b s l) (first e) tail ∙ ap (λ (q : ℕ). q ∷ rest) (sym e)
      where
        skip : (q : ℕ) → p < q → member (p ∷ rest) q ≡ member rest q
        skip q i = ap (λ (b : Bool). b || member rest q) (ne_eqb p q (λ e. let z : ⊥ = omega arith in z))

        first : p ≡ s → member (p ∷ rest) s ≡ true
        first e = ap (λ (b : Bool). b || member rest s) (eq-eqb p s e)

-- what is listed goes up
pub listed_up : (k s : ℕ) (f : ℕ → Bool) → up_from s (listed k s f) ≡ true
unfolding listed up_from
listed_up zero s f = refl
listed_up (suc k) s f = go (f s) (listed_up k (suc s) f)
  where
    go : (b : Bool) → up_from (suc s) (listed k (suc s) f) ≡ true → up_from s (kept_if b s (listed k (suc s) f)) ≡ true
    go true e = and_intro (le-leb s s (omega arith)) e
    go false e = up_weaker (suc s) s (listed k (suc s) f) (omega arith) e

-- the members of what is listed are those that hold
pub member_listed : (k s : ℕ) (f : ℕ → Bool) (x : ℕ) → s ≤ x → x < s + k → member (listed k s f) x ≡ f x
unfolding listed member
member_listed zero s f x h l = absurd (let z : ⊥ = omega arith in z)
member_listed (suc k) s f x h l = go (f s) refl (dec_lt s x) (member_listed k (suc s) f x)
  where
    later : (b : Bool) → s < x → member (kept_if b s (listed k (suc s) f)) x ≡ member (listed k (suc s) f) x
    later true i = ap (λ (c : Bool). c || member (listed k (suc s) f) x) (ne_eqb s x (λ e. let z : ⊥ = omega arith in z))
    later false i = refl

    here : (b : Bool) → f s ≡ b → s ≡ x → member (kept_if b s (listed k (suc s) f)) x ≡ f x
    here true e q = ap (λ (c : Bool). c || member (listed k (suc s) f) x) (eq-eqb s x q) ∙ sym e ∙ ap f q
    here false e q = below_not_member (suc s) (listed k (suc s) f) (listed_up k (suc s) f) x (omega arith) ∙ sym e ∙ ap f q

    go : (b : Bool) → f s ≡ b → Dec (s < x) → (suc s ≤ x → x < suc s + k → member (listed k (suc s) f) x ≡ f x)
        → member (kept_if (f s) s (listed k (suc s) f)) x ≡ f x
    go b e (yes i) rest = later (f s) i ∙ rest i (omega arith)
    go b e (no i) rest = ap (λ (c : Bool). member (kept_if c s (listed k (suc s) f)) x) e ∙ here b e (omega arith)

-- ---- how many are listed

-- of two tests that never both hold, as many as there are numbers at most
pub listed_apart : (k s : ℕ) (f g : ℕ → Bool) → ((p : ℕ) → f p ≡ true → g p ≡ true → ⊥) → length (listed k s f) + length (listed k s g) ≤ k
unfolding listed
listed_apart zero s f g apart = omega arith
listed_apart (suc k) s f g apart = go (f s) (g s) refl refl (listed_apart k (suc s) f g apart)
  where
    go : (a b : Bool) → f s ≡ a → g s ≡ b → length (listed k (suc s) f) + length (listed k (suc s) g) ≤ k
        → length (kept_if (f s) s (listed k (suc s) f)) + length (kept_if (g s) s (listed k (suc s) g)) ≤ suc k
    go true true p q h = absurd (apart s p q)
    go true false p q h = rw (p, q) (omega arith)
    go false true p q h = rw (p, q) (omega arith)
    go false false p q h = rw (p, q) (omega arith)

pub listed_length : (k s : ℕ) (f : ℕ → Bool) → length (listed k s f) ≤ k
listed_length k s f =
    let h : length (listed k s f) + length (listed k s (λ p. false)) ≤ k = listed_apart k s f (λ p. false) (λ p a b. false≢true b) in
    omega arith
