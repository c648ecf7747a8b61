-- Which number is given: the first that holds, and so the lowest. Assumes nothing.
use Rattle.std.specs.Prelude.{ℕ, ◌≤◌, ◌<◌, ◌≡◌, refl, ◌↔◌, List, [], ◌∷◌, ◌++◌, Bool, true, false, ◌&&◌, ◌||◌, cond, eqb, ltb}
use Rattle.std.proofs.Common.{sym, ap, ◌∙◌, subst, true≢false, lt_trans, arith, ltb-true, eq-eqb, eqb-true}
use Rattle.std.proofs.lemmas.Bool.{false≢true}
use Rattle.sets.specs.Truth.{and_left, and_right, and_intro, or_first, or_second, or_split}
use Rattle.moves.specs.declared.Refusal.{Refusal}
use Rattle.moves.specs.First.{Verdict}
use Rattle.moves.specs.First.{Line, first, number_of_verdict, number_of}
use Rattle.std.specs.Prelude.{Ok, Err}

-- ---- the first line that holds

-- a table with nothing against it hands on to the next
pub first_clear : (a b : List Line) → first a ≡ Ok tt → first (a ++ b) ≡ first b
unfolding first
first_clear [] b e = refl
first_clear (l ∷ a) b e = go l.1 refl (first_clear a b)
  where
    go : (h : Bool) → l.1 ≡ h → (first a ≡ Ok tt → first (a ++ b) ≡ first b)
        → cond l.1 (Err l.0) (first (a ++ b)) ≡ first b
    go true p rest = absurd (let z : ◌≡◌ {A = ℕ} 0 1 = cc in let w : ⊥ = omega arith in w)
    go false p rest = ap (λ (h : Bool). cond h (Err l.0) (first (a ++ b))) p
        ∙ rest (ap (λ (h : Bool). cond h (Err l.0) (first a)) (sym p) ∙ e)

-- a refusal of a table stands whatever follows
pub first_refused : (a b : List Line) (r : Refusal) → first a ≡ Err r → first (a ++ b) ≡ Err r
unfolding first
first_refused [] b r e = absurd (let z : ◌≡◌ {A = ℕ} 0 1 = cc in let w : ⊥ = omega arith in w)
first_refused (l ∷ a) b r e = go l.1 refl (first_refused a b r)
  where
    go : (h : Bool) → l.1 ≡ h → (first a ≡ Err r → first (a ++ b) ≡ Err r)
        → cond l.1 (Err l.0) (first (a ++ b)) ≡ Err r
    go true p rest = ap (λ (h : Bool). cond h (Err l.0) (first (a ++ b))) p
        ∙ ap (λ (h : Bool). cond h (Err l.0) (first a)) (sym p) ∙ e
    go false p rest = ap (λ (h : Bool). cond h (Err l.0) (first (a ++ b))) p
        ∙ rest (ap (λ (h : Bool). cond h (Err l.0) (first a)) (sym p) ∙ e)

-- in a table with nothing against it no line holds
pub clear_head : (l : Line) (a : List Line) → first (l ∷ a) ≡ Ok tt → l.1 ≡ false
unfolding first
clear_head l a e = go l.1 refl
  where
    go : (h : Bool) → l.1 ≡ h → l.1 ≡ false
    go true p = absurd (let z : ◌≡◌ {A = ℕ} 0 1 = cc in let w : ⊥ = omega arith in w)
    go false p = p

pub clear_tail : (l : Line) (a : List Line) → first (l ∷ a) ≡ Ok tt → first a ≡ Ok tt
unfolding first
clear_tail l a e = ap (λ (h : Bool). cond h (Err l.0) (first a)) (sym (clear_head l a e)) ∙ e

-- where nothing in two tables holds, nothing in either does
pub clear_front : (a b : List Line) → first (a ++ b) ≡ Ok tt → first a ≡ Ok tt
clear_front a b e = go (first a) refl
  where
    go : (v : Verdict) → first a ≡ v → first a ≡ Ok tt
    go (Ok _) p = p
    go (Err r) p =
        absurd (let s : Err r ≡ (Ok tt) = sym (first_refused a b r p) ∙ e in let z : ◌≡◌ {A = ℕ} 0 1 = cc in let w : ⊥ =
        omega arith in w)

pub clear_back : (a b : List Line) → first (a ++ b) ≡ Ok tt → first b ≡ Ok tt
clear_back a b e = sym (first_clear a b (clear_front a b e)) ∙ e

-- what is clear is not refused
pub clear_refused : {A : Type 0} (v : Verdict) (r : Refusal) → v ≡ Ok tt → v ≡ Err r → A
clear_refused v r p q = absurd (let z : ◌≡◌ {A = ℕ} 0 1 = cc in let w : ⊥ = omega arith in w)

-- every number of the table is below k
unfoldable pub numbers_below : ℕ → List Line → Bool
numbers_below k [] = true
numbers_below k (l ∷ rest) = ltb (number_of l.0) k && numbers_below k rest

pub first_below : (k : ℕ) (a : List Line) (r : Refusal) → numbers_below k a ≡ true → first a ≡ Err r → number_of r < k
unfolding first numbers_below
first_below k [] r h e = absurd (let z : ◌≡◌ {A = ℕ} 0 1 = cc in let w : ⊥ = omega arith in w)
first_below k (l ∷ a) r h e = go l.1 refl (first_below k a r (and_right (ltb (number_of l.0) k) (numbers_below k a) h))
  where
    go : (b : Bool) → l.1 ≡ b → (first a ≡ Err r → number_of r < k) → number_of r < k
    go true p rest =
        let same : l.0 ≡ r = cc in
        subst (λ (q : Refusal). number_of q < k) same
        (ltb-true (number_of l.0) k (and_left (ltb (number_of l.0) k) (numbers_below k a) h))
    go false p rest = rest (ap (λ (h : Bool). cond h (Err l.0) (first a)) (sym p) ∙ e)

-- a refusal whose number is not below k is that of the second table, where all numbers of the first are
pub first_late : (k : ℕ) (a b : List Line) (r : Refusal) → numbers_below k a ≡ true → first (a ++ b) ≡ Err r → k ≤ number_of r
    → (first a ≡ Ok tt) × (first b ≡ Err r)
first_late k a b r low e high = go (first a) refl
  where
    go : (v : Verdict) → first a ≡ v → (first a ≡ Ok tt) × (first b ≡ Err r)
    go (Ok _) p = (p, sym (first_clear a b p) ∙ e)
    go (Err q) p =
        let both : Err q ≡ Err r = sym (first_refused a b q p) ∙ e in
        let same : q ≡ r = cc in
        let below : number_of r < k = first_below k a r low (p ∙ ap Err same) in
        absurd (let w : ⊥ = omega arith in w)

-- ---- the number given is the lowest that holds

-- number k holds in the table
unfoldable pub holds : ℕ → List Line → Bool
holds k [] = false
holds k (l ∷ rest) = (eqb (number_of l.0) k && l.1) || holds k rest

-- the table goes up, from above k
unfoldable pub ascends : ℕ → List Line → Bool
ascends k [] = true
ascends k (l ∷ rest) = ltb k (number_of l.0) && ascends (number_of l.0) rest

-- the number given lies above where its table starts
pub first_above : (k : ℕ) (a : List Line) (r : Refusal) → ascends k a ≡ true → first a ≡ Err r → k < number_of r
unfolding first ascends
first_above k [] r h e = absurd (let z : ◌≡◌ {A = ℕ} 0 1 = cc in let w : ⊥ = omega arith in w)
first_above k (l ∷ a) r h e =
    go l.1 refl (first_above (number_of l.0) a r (and_right (ltb k (number_of l.0)) (ascends (number_of l.0) a) h))
  where
    here : k < number_of l.0
    here = ltb-true k (number_of l.0) (and_left (ltb k (number_of l.0)) (ascends (number_of l.0) a) h)

    go : (b : Bool) → l.1 ≡ b → (first a ≡ Err r → number_of l.0 < number_of r) → k < number_of r
    go true p rest = let same : l.0 ≡ r = cc in subst (λ (q : Refusal). k < number_of q) same here
    go false p rest = lt_trans here (rest (ap (λ (h : Bool). cond h (Err l.0) (first a)) (sym p) ∙ e))

-- the number given holds
pub first_holds : (a : List Line) (r : Refusal) → first a ≡ Err r → holds (number_of r) a ≡ true
unfolding first holds
first_holds [] r e = absurd (let z : ◌≡◌ {A = ℕ} 0 1 = cc in let w : ⊥ = omega arith in w)
first_holds (l ∷ a) r e = go l.1 refl (first_holds a r)
  where
    go : (b : Bool) → l.1 ≡ b → (first a ≡ Err r → holds (number_of r) a ≡ true)
        → ((eqb (number_of l.0) (number_of r) && l.1) || holds (number_of r) a) ≡ true
    go true p rest =
        let same : l.0 ≡ r = cc in
        or_first (holds (number_of r) a) (and_intro (eq-eqb (number_of l.0) (number_of r) (ap number_of same)) p)
    go false p rest = or_second (eqb (number_of l.0) (number_of r) && l.1)
        (rest (ap (λ (h : Bool). cond h (Err l.0) (first a)) (sym p) ∙ e))

above : (k : ℕ) (a : List Line) (j : ℕ) → ascends k a ≡ true → holds j a ≡ true → k < j
unfolding ascends holds
above k [] j h e = absurd (false≢true e)
above k (l ∷ a) j h e =
    let here : k < number_of l.0 = ltb-true k (number_of l.0) (and_left (ltb k (number_of l.0)) (ascends (number_of l.0) a) h) in
    or_split (eqb (number_of l.0) j && l.1) (holds j a) (k < j) e
    (λ t. let q : number_of l.0 ≡ j = eqb-true (number_of l.0) j (and_left (eqb (number_of l.0) j) l.1 t) in omega arith)
    (λ t. let later : number_of l.0 < j =
    above (number_of l.0) a j (and_right (ltb k (number_of l.0)) (ascends (number_of l.0) a) h) t in omega arith)

-- no lower number holds; and where none is given none holds
pub first_lowest : (k : ℕ) (a : List Line) → ascends k a ≡ true → (j : ℕ) → holds j a ≡ true → (0 < number_of_verdict (first a))
    × (number_of_verdict (first a) ≤ j)
unfolding ascends holds first number_of_verdict
first_lowest k [] h j e = absurd (false≢true e)
first_lowest k (l ∷ a) h j e =
    go l.1 refl (first_lowest (number_of l.0) a (and_right (ltb k (number_of l.0)) (ascends (number_of l.0) a) h) j)
  where
    here : k < number_of l.0
    here = ltb-true k (number_of l.0) (and_left (ltb k (number_of l.0)) (ascends (number_of l.0) a) h)

    go : (b : Bool) → l.1 ≡ b → (holds j a ≡ true → (0 < number_of_verdict (first a)) × (number_of_verdict (first a) ≤ j))
        → (0 < number_of_verdict (cond l.1 (Err l.0) (first a)))
        × (number_of_verdict (cond l.1 (Err l.0) (first a)) ≤ j)
    go true p rest =
        subst (λ (b : Bool). (0 < number_of_verdict (cond b (Err l.0) (first a)))
        × (number_of_verdict (cond b (Err l.0) (first a)) ≤ j)) (sym p) (
          let up : k < number_of l.0 = here in omega arith,
          or_split (eqb (number_of l.0) j && l.1) (holds j a) (number_of l.0 ≤ j) e
              (λ t. let q : number_of l.0 ≡ j = eqb-true (number_of l.0) j (and_left (eqb (number_of l.0) j) l.1 t) in omega arith)
              (λ t. let later : number_of l.0 < j =
              above (number_of l.0) a j (and_right (ltb k (number_of l.0)) (ascends (number_of l.0) a) h) t in omega arith),
        )
    go false p rest =
        subst (λ (b : Bool). (0 < number_of_verdict (cond b (Err l.0) (first a)))
        × (number_of_verdict (cond b (Err l.0) (first a)) ≤ j)) (sym p)
        (rest (or_split (eqb (number_of l.0) j && l.1) (holds j a) (holds j a ≡ true) e
        (λ t. absurd (true≢false (sym (and_right (eqb (number_of l.0) j) l.1 t) ∙ p)))
        (λ t. t)))

-- ---- each number exactly

-- number k holds in the table, and no lower one
pub record Lowest (k : ℕ) (lines : List Line) : Type 0 where
  pub here : holds k lines ≡ true
  pub least : (j : ℕ) → holds j lines ≡ true → k ≤ j

-- what is given holds
given_holds : (lines : List Line) (v : Verdict) → first lines ≡ v → 0 < number_of_verdict v → holds (number_of_verdict v) lines ≡ true
unfolding number_of_verdict
given_holds lines (Ok _) e h = absurd (let z : ⊥ = omega arith in z)
given_holds lines (Err r) e h = first_holds lines r e

-- a table whose numbers go up gives a number exactly if it is the lowest that holds
pub given_exactly : (lines : List Line) → ascends 0 lines ≡ true → (k : ℕ) → 0 < k → (number_of_verdict (first lines) ≡ k) ↔ Lowest k lines
given_exactly lines up k h = (there, back)
  where
    there : number_of_verdict (first lines) ≡ k → Lowest k lines
    there e = record {
      here = subst (λ (j : ℕ). holds j lines ≡ true) e (given_holds lines (first lines) refl (subst (λ (j : ℕ). 0 < j) (sym e) h));
      least = λ j t. subst (λ (n : ℕ). n ≤ j) e (first_lowest 0 lines up j t).1;
    }

    back : Lowest k lines → number_of_verdict (first lines) ≡ k
    back l =
        let low = first_lowest 0 lines up k l.here in
        let high : k ≤ number_of_verdict (first lines) =
        l.least (number_of_verdict (first lines)) (given_holds lines (first lines) refl low.0) in
        let most : number_of_verdict (first lines) ≤ k = low.1 in
        omega arith

-- nothing is given exactly if no number holds
pub nothing_exactly : (lines : List Line) → ascends 0 lines ≡ true → (number_of_verdict (first lines) ≡ 0) ↔ ((j : ℕ) → holds j lines ≡ false)
unfolding number_of_verdict
nothing_exactly lines up = (there, back (first lines) refl)
  where
    there : number_of_verdict (first lines) ≡ 0 → (j : ℕ) → holds j lines ≡ false
    there e j = go (holds j lines) refl
      where
        go : (b : Bool) → holds j lines ≡ b → holds j lines ≡ false
        go true t = absurd (let z : 0 < number_of_verdict (first lines) = (first_lowest 0 lines up j t).0 in let w : ⊥ = omega arith in w)
        go false t = t

    back : (v : Verdict) → first lines ≡ v → ((j : ℕ) → holds j lines ≡ false) → number_of_verdict (first lines) ≡ 0
    back (Ok _) e none = ap number_of_verdict e
    back (Err r) e none = absurd (true≢false (sym (first_holds lines r e) ∙ none (number_of r)))

-- number k holds of two tables together exactly if it holds of one of them
pub holds_append : (k : ℕ) (a b : List Line) → holds k (a ++ b) ≡ (holds k a || holds k b)
unfolding holds
holds_append k [] b = refl
holds_append k (l ∷ a) b = ap (λ (x : Bool). (eqb (number_of l.0) k && l.1) || x) (holds_append k a b)
    ∙ or_assoc (eqb (number_of l.0) k && l.1) (holds k a) (holds k b)
  where
    or_assoc : (p q r : Bool) → (p || (q || r)) ≡ ((p || q) || r)
    or_assoc true q r = refl
    or_assoc false q r = refl
