-- Well-formed records: what that means set by set, and that tidying and joining give well-formed records.
-- Assumes nothing.
use Rattle.std.specs.Prelude.{ℕ, ◌^◌, ◌<◌, ◌≡◌, refl, List, [], ◌∷◌, Bool, true, false, not, ◌&&◌, ◌||◌, cond, get_or, leb}
use Rattle.std.proofs.Common.{sym, ap, ◌∙◌, pow_pos, eqb-true, eq-eqb, ltb-true, lt-ltb}
use Rattle.std.proofs.lemmas.Bool.{false≢true}
use Rattle.sets.specs.Sets.{union, meet, minus, empty, within, full}
use Rattle.sets.specs.Truth.{and_left, and_right, and_intro}
use Rattle.sets.specs.Laws.{union_lt, meet_lt, minus_lt, within_full, within_union, empty_union}
use Rattle.sets.specs.Digits.{at_digit, as_sets}
use Rattle.records.specs.declared.Record.{Record}
use Rattle.records.specs.Records.{sets_of, clashes, each, well_formed, compose, sorted, tidy, impossible, join, identity}

-- ---- well-formed, set by set

-- every set holds only steps below n
pub record Bounded (n : ℕ) (r : Record) : Type 0 where
  pub needin_in : r.needin < 2 ^ n
  pub needex_in : r.needex < 2 ^ n
  pub needout_in : r.needout < 2 ^ n
  pub done_in : r.done < 2 ^ n
  pub dueset_in : r.dueset < 2 ^ n
  pub dueclear_in : r.dueclear < 2 ^ n
  pub inset_in : r.inset < 2 ^ n
  pub inclear_in : r.inclear < 2 ^ n

pub record WellFormed (n : ℕ) (r : Record) : Type 0 where
  pub bounded : Bounded n r
  pub needin_needout : meet r.needin r.needout ≡ 0
  pub needex_needout : meet r.needex r.needout ≡ 0
  pub done_needex : meet r.done r.needex ≡ 0
  pub inset_needin : meet r.inset r.needin ≡ 0
  pub inset_inclear : meet r.inset r.inclear ≡ 0
  pub dueset_dueclear : meet r.dueset r.dueclear ≡ 0
  pub blank : r.never ≡ true → r ≡ impossible

-- P holds of each
abbrev Each : (ℕ → Type 0) → List ℕ → Type 0
Each P [] = Unit {0}
Each P (x ∷ xs) = P x × Each P xs

each_of : (p : ℕ → Bool) (P : ℕ → Type 0) → ((x : ℕ) → p x ≡ true → P x) → (xs : List ℕ) → each p xs ≡ true → Each P xs
unfolding each
each_of p P f [] e = tt
each_of p P f (x ∷ xs) e = (f x (and_left (p x) (each p xs) e), each_of p P f xs (and_right (p x) (each p xs) e))

of_each : (p : ℕ → Bool) (P : ℕ → Type 0) → ((x : ℕ) → P x → p x ≡ true) → (xs : List ℕ) → Each P xs → each p xs ≡ true
unfolding each
of_each p P f [] h = refl
of_each p P f (x ∷ xs) h = and_intro (f x h.0) (of_each p P f xs h.1)

pub well_formed_lem : (n : ℕ) (r : Record) → well_formed n r ≡ true → WellFormed n r
unfolding well_formed
well_formed_lem n r e =
    let sets = each (within n) (sets_of r) in
    let pairs = each empty (clashes r) in
    let rest = not r.never || each empty (sets_of r) in
    let b = each_of (within n) (λ x. x < 2 ^ n) (λ x q. ltb-true x (2 ^ n) q) (sets_of r)
    (and_left sets pairs (and_left (sets && pairs) rest e)) in
    let c = each_of empty (λ x. x ≡ 0) (λ x q. eqb-true x 0 q) (clashes r) (and_right sets pairs (and_left (sets && pairs) rest e)) in
    record {
      bounded =
          record {
            needin_in = b.0;
            needex_in = b.1.0;
            needout_in = b.1.1.0;
            done_in = b.1.1.1.0;
            dueset_in = b.1.1.1.1.0;
            dueclear_in = b.1.1.1.1.1.0;
            inset_in = b.1.1.1.1.1.1.0;
            inclear_in = b.1.1.1.1.1.1.1.0;
          };
      needin_needout = c.0;
      needex_needout = c.1.0;
      done_needex = c.1.1.0;
      inset_needin = c.1.1.1.0;
      inset_inclear = c.1.1.1.1.0;
      dueset_dueclear = c.1.1.1.1.1.0;
      blank = λ on. blank on
          (each_of empty (λ x. x ≡ 0) (λ x q. eqb-true x 0 q) (sets_of r)
          (known r.never (each empty (sets_of r)) on (and_right (sets && pairs) rest e)));
    }
  where
    known : (p q : Bool) → p ≡ true → (not p || q) ≡ true → q ≡ true
    known true q on h = h
    known false q on h = absurd (false≢true on)

    blank : r.never ≡ true → Each (λ x. x ≡ 0) (sets_of r) → r ≡ impossible
    blank on z i =
        record {
          never = on i;
          needin = z.0 i;
          needex = z.1.0 i;
          needout = z.1.1.0 i;
          done = z.1.1.1.0 i;
          dueset = z.1.1.1.1.0 i;
          dueclear = z.1.1.1.1.1.0 i;
          inset = z.1.1.1.1.1.1.0 i;
          inclear = z.1.1.1.1.1.1.1.0 i;
        }

pub of_well_formed : (n : ℕ) (r : Record) → WellFormed n r → well_formed n r ≡ true
unfolding well_formed each
of_well_formed n r w =
    let b : Bounded n r = w.bounded in
    and_intro
    (and_intro
    (of_each (within n) (λ x. x < 2 ^ n) (λ x h. lt-ltb x (2 ^ n) h) (sets_of r)
    (b.needin_in, (b.needex_in, (b.needout_in, (b.done_in, (b.dueset_in, (b.dueclear_in, (b.inset_in, (b.inclear_in, tt)))))))))
    (of_each empty (λ x. x ≡ 0) (λ x h. eq-eqb x 0 h) (clashes r)
    (w.needin_needout, (w.needex_needout, (w.done_needex, (w.inset_needin, (w.inset_inclear, (w.dueset_dueclear, tt))))))))
    (go r.never refl)
  where
    go : (p : Bool) → r.never ≡ p → (not p || each empty (sets_of r)) ≡ true
    go true on = ap (λ (q : Record). each empty (sets_of q)) (w.blank on)
    go false off = refl

-- ---- composing and tidying keep to the steps below n

ruleset bounds = (union_lt, minus_lt, meet_lt)

pub compose_bounded : (n : ℕ) (a b : Record) → Bounded n a → Bounded n b → Bounded n (compose a b)
compose_bounded n a b p q = search bounds depth 9

sorted_bounded : (n : ℕ) (r : Record) → Bounded n r → Bounded n (sorted r)
sorted_bounded n r p = search bounds depth 9

-- ---- tidying makes a record well-formed

left_apart : (x y z : ℕ) → meet x (minus y (union x z)) ≡ 0
left_apart x y z =
    as_sets (λ v. meet (get_or v 0 0) (minus (get_or v 1 0) (union (get_or v 0 0) (get_or v 2 0)))) (λ v. 0)
    (x ∷ y ∷ z ∷ []) (λ i. simp at_digit) (λ i. simp at_digit) refl

found_apart : (x y z : ℕ) → meet (union z (meet x y)) (minus y (union x z)) ≡ 0
found_apart x y z =
    as_sets (λ v. meet (union (get_or v 2 0) (meet (get_or v 0 0) (get_or v 1 0))) (minus (get_or v 1 0) (union (get_or v 0 0) (get_or v 2 0))))
    (λ v. 0)
    (x ∷ y ∷ z ∷ []) (λ i. simp at_digit) (λ i. simp at_digit) refl

minus_apart : (x y : ℕ) → meet (minus x y) y ≡ 0
minus_apart x y = as_sets (λ v. meet (minus (get_or v 0 0) (get_or v 1 0)) (get_or v 1 0)) (λ v. 0) (x ∷ y ∷ []) (λ i. simp at_digit)
    (λ i. simp at_digit) refl

apart_minus : (x y : ℕ) → meet x (minus y x) ≡ 0
apart_minus x y = as_sets (λ v. meet (get_or v 0 0) (minus (get_or v 1 0) (get_or v 0 0))) (λ v. 0) (x ∷ y ∷ []) (λ i. simp at_digit)
    (λ i. simp at_digit) refl

less_apart : (x y z : ℕ) → meet (minus x z) (minus y x) ≡ 0
less_apart x y z =
    as_sets (λ v. meet (minus (get_or v 0 0) (get_or v 2 0)) (minus (get_or v 1 0) (get_or v 0 0))) (λ v. 0)
    (x ∷ y ∷ z ∷ []) (λ i. simp at_digit) (λ i. simp at_digit) refl

sorted_well_formed : (n : ℕ) (r : Record) → Bounded n r → WellFormed n (sorted r)
sorted_well_formed n r b =
    record {
      bounded = sorted_bounded n r b;
      needin_needout = left_apart r.needin r.needout r.needex;
      needex_needout = found_apart r.needin r.needout r.needex;
      done_needex = minus_apart r.done (union r.needex (meet r.needin r.needout));
      inset_needin = minus_apart r.inset r.needin;
      inset_inclear = less_apart r.inset r.inclear r.needin;
      dueset_dueclear = apart_minus r.dueset r.dueclear;
      blank = λ on. absurd (false≢true on);
    }

pub identity_well_formed : (n : ℕ) → WellFormed n identity
identity_well_formed n = sorted_well_formed n identity (search pow_pos)

pub impossible_well_formed : (n : ℕ) → WellFormed n impossible
impossible_well_formed n =
    record {
      bounded = search pow_pos;
      needin_needout = refl;
      needex_needout = refl;
      done_needex = refl;
      inset_needin = refl;
      inset_inclear = refl;
      dueset_dueclear = refl;
      blank = λ on. refl;
    }

pub tidy_well_formed : (n : ℕ) (r : Record) → Bounded n r → WellFormed n (tidy r)
unfolding tidy
tidy_well_formed n r b = go r.never
  where
    go : (p : Bool) → WellFormed n (cond p impossible (sorted r))
    go true = impossible_well_formed n
    go false = sorted_well_formed n r b

-- the join of any two well-formed records is well-formed
pub join_well_formed : (n : ℕ) (a b : Record) → WellFormed n a → WellFormed n b → WellFormed n (join a b)
unfolding join
join_well_formed n a b p q = tidy_well_formed n (compose a b) (compose_bounded n a b p.bounded q.bounded)

-- ---- tests on all the sets at once

-- in one of the sets
abbrev together : ℕ → List ℕ → ℕ
together x [] = x
together x (y ∷ ys) = together (union x y) ys

-- in one of a record's sets, and in both of one of its pairs
abbrev pub all_of : Record → ℕ
all_of r = together r.needin (r.needex ∷ r.needout ∷ r.done ∷ r.dueset ∷ r.dueclear ∷ r.inset ∷ r.inclear ∷ [])

abbrev pub clash_of : Record → ℕ
clash_of r =
    together (meet r.needin r.needout)
    (meet r.needex r.needout ∷ meet r.done r.needex ∷ meet r.inset r.needin ∷ meet r.inset r.inclear
    ∷ meet r.dueset r.dueclear ∷ [])

each_together : (p : ℕ → Bool) → ((a b : ℕ) → p (union a b) ≡ (p a && p b)) → (x : ℕ) (ys : List ℕ) → p (together x ys) ≡ each p (x ∷ ys)
unfolding each
each_together p h x [] = sym (and_true (p x))
  where
    and_true : (q : Bool) → (q && true) ≡ q
    and_true true = refl
    and_true false = refl
each_together p h x (y ∷ ys) = each_together p h (union x y) ys ∙ ap (λ (q : Bool). q && each p ys) (h x y)
    ∙ regroup (p x) (p y) (each p ys)
  where
    regroup : (q s t : Bool) → (q && s && t) ≡ (q && (s && t))
    regroup true s t = refl
    regroup false s t = refl

-- a record is well-formed exactly if all its sets together are within the steps, its clashes together are empty, and so are
-- its sets where never is on
pub well_formed_sum : (n : ℕ) (r : Record)
    → (leb (all_of r) (full n) && empty (clash_of r) && (not r.never || empty (all_of r))) ≡ well_formed n r
unfolding well_formed
well_formed_sum n r =
    ap (λ (p : Bool). p && empty (clash_of r) && (not r.never || empty (all_of r)))
    (within_full n (all_of r) ∙ each_together (within n) (within_union n) r.needin _)
    ∙ ap (λ (p : Bool). each (within n) (sets_of r) && p && (not r.never || empty (all_of r)))
    (each_together empty empty_union (meet r.needin r.needout) _)
    ∙ ap (λ (p : Bool). each (within n) (sets_of r) && each empty (clashes r) && (not r.never || p))
    (each_together empty empty_union r.needin _)
