-- What records do: composing, tidying and joining, for all records, well-formed or not. Each formula of sets is tried on the
-- digits 0 and 1 with the definitions themselves. Assumes nothing.
use Rattle.std.specs.Prelude.{ℕ, ◌≡◌, refl, List, [], ◌∷◌, Bool, true, false, not, ◌&&◌, ◌||◌, cond, get_or}
use Rattle.std.proofs.Common.{sym, ap, ◌∙◌, true≢false, eqb-true}
use Rattle.std.proofs.Math.Option.{Option, none, some, bind, some-injective, none-ne-some}
use Rattle.std.specs.Int.Bits.{or_zero_r}
use Rattle.sets.specs.Sets.{union, meet, minus, empty}
use Rattle.sets.specs.Truth.{and_right}
use Rattle.sets.specs.Laws.{empty_union, minus_zero}
use Rattle.sets.specs.Digits.{at_digit, as_sets, by_digits}
use Rattle.moves.specs.declared.Marking.{Marking}
use Rattle.records.specs.declared.Record.{Record}
use Rattle.records.specs.Records.{applies, gives, acts, compose, sorted, tidy, impossible, join, identity}

-- ---- what a marking lacks

-- the steps at which a marking is not as the three needs have it
abbrev lack : ℕ → ℕ → ℕ → Marking → ℕ
lack needin needex needout m =
    union (union (minus needin m.included) (minus needex m.done)) (minus (meet needout m.included) m.done)

-- and a record's needs
abbrev pub lacks : Record → Marking → ℕ
lacks r m = lack r.needin r.needex r.needout m

-- a record applies exactly if never is off and the marking lacks nothing
pub applies_lacks : (r : Record) (m : Marking) → applies r m ≡ (not r.never && empty (lacks r m))
unfolding applies
applies_lacks r m = regroup (not r.never) _ _ _
    ∙ ap (λ (b : Bool). not r.never && b)
    (sym (three (minus r.needin m.included) (minus r.needex m.done) (minus (meet r.needout m.included) m.done)))
  where
    regroup : (p q s t : Bool) → (p && q && s && t) ≡ (p && (q && s && t))
    regroup true q s t = refl
    regroup false q s t = refl

    three : (x y z : ℕ) → empty (union (union x y) z) ≡ (empty x && empty y && empty z)
    three x y z = empty_union (union x y) z ∙ ap (λ (b : Bool). b && empty z) (empty_union x y)

pub applies_none : (r : Record) (m : Marking) → applies r m ≡ true → lacks r m ≡ 0
applies_none r m e = eqb-true (lacks r m) 0 (and_right (not r.never) (empty (lacks r m)) (sym (applies_lacks r m) ∙ e))

-- ---- records and markings whose sets stand in a list; what the list does not reach is empty

abbrev marking_of : List ℕ → Marking
marking_of v = record { done = get_or v 0 0; due = 0; included = get_or v 1 0 }

abbrev record_of : List ℕ → Record
record_of v =
    record {
      never = false;
      needin = get_or v 2 0;
      needex = get_or v 3 0;
      needout = get_or v 4 0;
      done = get_or v 5 0;
      dueset = 0;
      dueclear = 0;
      inset = get_or v 6 0;
      inclear = get_or v 7 0;
    }

-- ---- composing

-- what needs put together lack
lack_sum : (i e o i' e' o' : ℕ) (m : Marking) → lack (union i i') (union e e') (union o o') m ≡ union (lack i e o m) (lack i' e' o' m)
lack_sum i e o i' e' o' m =
    as_sets (λ v. lack (union (get_or v 2 0) (get_or v 5 0)) (union (get_or v 3 0) (get_or v 6 0)) (union (get_or v 4 0) (get_or v 7 0)) (marking_of v))
    (λ v. union (lack (get_or v 2 0) (get_or v 3 0) (get_or v 4 0) (marking_of v)) (lack (get_or v 5 0) (get_or v 6 0) (get_or v 7 0) (marking_of v)))
    (m.done ∷ m.included ∷ i ∷ e ∷ o ∷ i' ∷ e' ∷ o' ∷ []) (λ i. simp at_digit) (λ i. simp at_digit) refl

gained_twice : (x d e : ℕ) → union x (union d e) ≡ union (union x d) e
gained_twice x d e =
    as_sets (λ v. union (get_or v 0 0) (union (get_or v 1 0) (get_or v 2 0))) (λ v. union (union (get_or v 0 0) (get_or v 1 0)) (get_or v 2 0))
    (x ∷ d ∷ e ∷ []) (λ i. simp at_digit) (λ i. simp at_digit) refl

-- a record's changes, with no needs, and its needs, with no changes
abbrev changes : Record → Record
changes r =
    record {
      never = false;
      needin = 0;
      needex = 0;
      needout = 0;
      done = r.done;
      dueset = 0;
      dueclear = 0;
      inset = r.inset;
      inclear = r.inclear;
    }

abbrev needs : Record → Record
needs r =
    record {
      never = false;
      needin = r.needin;
      needex = r.needex;
      needout = r.needout;
      done = 0;
      dueset = 0;
      dueclear = 0;
      inset = 0;
      inclear = 0;
    }

-- the steps that the second needs included and the first leaves excluded
abbrev barred : Record → Record → ℕ
barred a b = meet b.needin (minus a.inclear a.inset)

-- what b lacks after the changes of a
lacks_after : (a b : Record) (m : Marking) → union (lacks (compose (changes a) (needs b)) m) (barred a b) ≡ lacks b (gives a m)
lacks_after a b m =
    as_sets (λ v. union (lacks (compose (changes (record_of v)) (needs (record_of v))) (marking_of v)) (barred (record_of v) (record_of v)))
    (λ v. lacks (record_of v) (gives (record_of v) (marking_of v)))
    (m.done ∷ m.included ∷ b.needin ∷ b.needex ∷ b.needout ∷ a.done ∷ a.inset ∷ a.inclear ∷ [])
    (λ i. simp at_digit) (λ i. simp at_digit) refl

-- what is lacking for a composition, with the steps that make it impossible
lacks_compose : (a b : Record) (m : Marking) → union (lacks (compose a b) m) (barred a b) ≡ union (lacks a m) (lacks b (gives a m))
lacks_compose a b m =
    let rest : Record = compose (changes a) (needs b) in
    ap (λ (x : ℕ). union x (barred a b)) (lack_sum a.needin a.needex a.needout rest.needin rest.needex rest.needout m)
    ∙ sym (gained_twice (lacks a m) (lacks rest m) (barred a b))
    ∙ ap (union (lacks a m)) (lacks_after a b m)

-- a composition applies exactly when the first applies, and the second applies to what the first gives
pub applies_compose : (a b : Record) (m : Marking) → applies (compose a b) m ≡ (applies a m && applies b (gives a m))
applies_compose a b m =
    applies_lacks (compose a b) m
    ∙ truths a.never b.never (empty (barred a b)) (empty (lacks (compose a b) m)) (empty (lacks a m)) (empty (lacks b (gives a m)))
    (sym (empty_union (lacks (compose a b) m) (barred a b)) ∙ ap empty (lacks_compose a b m)
    ∙ empty_union (lacks a m) (lacks b (gives a m)))
    ∙ sym (both (applies_lacks a m) (applies_lacks b (gives a m)))
  where
    both : {p q s t : Bool} → p ≡ q → s ≡ t → (p && s) ≡ (q && t)
    both e f i = e i && f i

    truths : (an bn clear all la lb : Bool) → (all && clear) ≡ (la && lb)
        → (not (an || bn || not clear) && all) ≡ ((not an && la) && (not bn && lb))
    truths true bn clear all la lb e = refl
    truths false true clear all true lb e = refl
    truths false true clear all false lb e = refl
    truths false false true true la lb e = e
    truths false false true false la lb e = e
    truths false false false true la lb e = e
    truths false false false false la lb e = e

-- to clear and set, and then to clear and set again
changed_twice : (x c s d t : ℕ) → union (minus x (union c d)) (union (minus s d) t) ≡ union (minus (union (minus x c) s) d) t
changed_twice x c s d t =
    as_sets (λ v. union (minus (get_or v 0 0) (union (get_or v 1 0) (get_or v 3 0))) (union (minus (get_or v 2 0) (get_or v 3 0)) (get_or v 4 0)))
    (λ v. union (minus (union (minus (get_or v 0 0) (get_or v 1 0)) (get_or v 2 0)) (get_or v 3 0)) (get_or v 4 0))
    (x ∷ c ∷ s ∷ d ∷ t ∷ []) (λ i. simp at_digit) (λ i. simp at_digit) refl

-- a composition gives what the second gives after the first
pub gives_compose : (a b : Record) (m : Marking) → gives (compose a b) m ≡ gives b (gives a m)
gives_compose a b m i =
    record {
      done = gained_twice m.done a.done b.done i;
      due = changed_twice m.due a.dueclear a.dueset b.dueclear b.dueset i;
      included = changed_twice m.included a.inclear a.inset b.inclear b.inset i;
    }

-- what is done under two tests, one after the other
acts_both : (p q : Bool) (x y : Marking) (k : Marking → Option Marking) → k x ≡ cond q (some y) none
    → cond (p && q) (some y) none ≡ bind (cond p (some x) none) k
unfolding bind
acts_both true q x y k e = sym e
acts_both false q x y k e = refl

-- first a, then b
pub acts_compose : (a b : Record) (m : Marking) → acts (compose a b) m ≡ bind (acts a m) (acts b)
unfolding acts
acts_compose a b m =
    ap (λ (p : Bool). cond p (some (gives (compose a b) m)) none) (applies_compose a b m)
    ∙ ap (λ (x : Marking). cond (applies a m && applies b (gives a m)) (some x) none) (gives_compose a b m)
    ∙ acts_both (applies a m) (applies b (gives a m)) (gives a m) (gives b (gives a m))
    (λ x. cond (applies b x) (some (gives b x)) none) refl

-- ---- what a record gives, given twice

changed_again : (x c s : ℕ) → union (minus (union (minus x c) s) c) s ≡ union (minus x c) s
changed_again x c s =
    as_sets (λ v. union (minus (union (minus (get_or v 0 0) (get_or v 1 0)) (get_or v 2 0)) (get_or v 1 0)) (get_or v 2 0))
    (λ v. union (minus (get_or v 0 0) (get_or v 1 0)) (get_or v 2 0))
    (x ∷ c ∷ s ∷ []) (λ i. simp at_digit) (λ i. simp at_digit) refl

gained_again : (x d : ℕ) → union (union x d) d ≡ union x d
gained_again x d =
    as_sets (λ v. union (union (get_or v 0 0) (get_or v 1 0)) (get_or v 1 0)) (λ v. union (get_or v 0 0) (get_or v 1 0))
    (x ∷ d ∷ []) (λ i. simp at_digit) (λ i. simp at_digit) refl

pub gives_again : (r : Record) (m : Marking) → gives r (gives r m) ≡ gives r m
gives_again r m i =
    record {
      done = gained_again m.done r.done i;
      due = changed_again m.due r.dueclear r.dueset i;
      included = changed_again m.included r.inclear r.inset i;
    }

-- ---- tidying

lacks_sorted : (r : Record) (m : Marking) → lacks (sorted r) m ≡ lacks r m
lacks_sorted r m =
    as_sets (λ v. lacks (sorted (record_of v)) (marking_of v)) (λ v. lacks (record_of v) (marking_of v))
    (m.done ∷ m.included ∷ r.needin ∷ r.needex ∷ r.needout ∷ [])
    (λ i. simp at_digit) (λ i. simp at_digit) refl

-- where the record applies, what it would do again is left out
done_sorted : (r : Record) (m : Marking) → lacks r m ≡ 0 → (gives (sorted r) m).done ≡ (gives r m).done
done_sorted r m =
    by_digits (λ v. lacks (record_of v) (marking_of v)) (λ v. (gives (sorted (record_of v)) (marking_of v)).done)
    (λ v. (gives (record_of v) (marking_of v)).done)
    (m.done ∷ m.included ∷ r.needin ∷ r.needex ∷ r.needout ∷ r.done ∷ [])
    (λ i. simp at_digit) (λ i. simp at_digit) (λ i. simp at_digit) refl

included_sorted : (r : Record) (m : Marking) → lacks r m ≡ 0 → (gives (sorted r) m).included ≡ (gives r m).included
included_sorted r m =
    by_digits (λ v. lacks (record_of v) (marking_of v)) (λ v. (gives (sorted (record_of v)) (marking_of v)).included)
    (λ v. (gives (record_of v) (marking_of v)).included)
    (m.done ∷ m.included ∷ r.needin ∷ r.needex ∷ r.needout ∷ r.done ∷ r.inset ∷ r.inclear ∷ [])
    (λ i. simp at_digit) (λ i. simp at_digit) (λ i. simp at_digit) refl

due_sorted : (x c s : ℕ) → union (minus x (minus c s)) s ≡ union (minus x c) s
due_sorted x c s =
    as_sets (λ v. union (minus (get_or v 0 0) (minus (get_or v 1 0) (get_or v 2 0))) (get_or v 2 0))
    (λ v. union (minus (get_or v 0 0) (get_or v 1 0)) (get_or v 2 0))
    (x ∷ c ∷ s ∷ []) (λ i. simp at_digit) (λ i. simp at_digit) refl

gives_sorted : (r : Record) (m : Marking) → lacks r m ≡ 0 → gives (sorted r) m ≡ gives r m
gives_sorted r m e i =
    record {
      done = done_sorted r m e i;
      due = due_sorted m.due r.dueclear r.dueset i;
      included = included_sorted r m e i;
    }

applies_sorted : (r : Record) (m : Marking) → r.never ≡ false → applies (sorted r) m ≡ applies r m
applies_sorted r m off =
    applies_lacks (sorted r) m
    ∙ ap empty (lacks_sorted r m)
    ∙ ap (λ (b : Bool). not b && empty (lacks r m)) (sym off)
    ∙ sym (applies_lacks r m)

pub applies_never : (r : Record) (m : Marking) → r.never ≡ true → applies r m ≡ false
applies_never r m on = applies_lacks r m ∙ ap (λ (b : Bool). not b && empty (lacks r m)) on

-- tidying changes nothing in when a record applies, and what it gives then
pub applies_tidy : (r : Record) (m : Marking) → applies (tidy r) m ≡ applies r m
unfolding tidy
applies_tidy r m = go r.never refl
  where
    go : (n : Bool) → r.never ≡ n → applies (cond n impossible (sorted r)) m ≡ applies r m
    go true on = applies_never impossible m refl ∙ sym (applies_never r m on)
    go false off = applies_sorted r m off

pub gives_tidy : (r : Record) (m : Marking) → applies r m ≡ true → gives (tidy r) m ≡ gives r m
unfolding tidy
gives_tidy r m e = go r.never refl
  where
    go : (n : Bool) → r.never ≡ n → gives (cond n impossible (sorted r)) m ≡ gives r m
    go true on = absurd (true≢false (sym e ∙ applies_never r m on))
    go false off = gives_sorted r m (applies_none r m e)

pub acts_tidy : (r : Record) (m : Marking) → acts (tidy r) m ≡ acts r m
unfolding acts
acts_tidy r m = ap (λ (p : Bool). cond p (some (gives (tidy r) m)) none) (applies_tidy r m) ∙ go (applies r m) refl
  where
    go : (p : Bool) → applies r m ≡ p → cond p (some (gives (tidy r) m)) none ≡ cond p (some (gives r m)) none
    go true e = ap some (gives_tidy r m e)
    go false e = refl

-- ---- joining

-- it applies exactly when the first applies, and the second applies to what the first gives
pub applies_join : (a b : Record) (m : Marking) → applies (join a b) m ≡ (applies a m && applies b (gives a m))
unfolding join
applies_join a b m = applies_tidy (compose a b) m ∙ applies_compose a b m

-- and ends where that ends
pub gives_join : (a b : Record) (m : Marking) → applies (join a b) m ≡ true → gives (join a b) m ≡ gives b (gives a m)
unfolding join
gives_join a b m e = gives_tidy (compose a b) m (sym (applies_tidy (compose a b) m) ∙ e) ∙ gives_compose a b m

-- first a, then b
pub acts_join : (a b : Record) (m : Marking) → acts (join a b) m ≡ bind (acts a m) (acts b)
unfolding join
acts_join a b m = acts_tidy (compose a b) m ∙ acts_compose a b m

-- ---- the identity

pub gives_identity : (m : Marking) → gives identity m ≡ m
gives_identity m i =
    record {
      done = or_zero_r m.done i;
      due = (or_zero_r (minus m.due 0) ∙ minus_zero m.due) i;
      included = (or_zero_r (minus m.included 0) ∙ minus_zero m.included) i;
    }

pub acts_identity : (m : Marking) → acts identity m ≡ some m
unfolding acts applies
acts_identity m = ap some (gives_identity m)

-- ---- records that never apply

pub acts_impossible : (m : Marking) → acts impossible m ≡ none
unfolding acts
acts_impossible m = ap (λ (p : Bool). cond p (some (gives impossible m)) none) (applies_never impossible m refl)

-- ---- what it means that a record acts

pub acts_some : (r : Record) (m x : Marking) → acts r m ≡ some x → (applies r m ≡ true) × (gives r m ≡ x)
unfolding acts
acts_some r m x e = go (applies r m) refl e
  where
    go : (p : Bool) → applies r m ≡ p → cond p (some (gives r m)) none ≡ some x → (applies r m ≡ true) × (gives r m ≡ x)
    go true q f = (q, some-injective (gives r m) x f)
    go false q f = absurd (none-ne-some x f)

pub acts_none : (r : Record) (m : Marking) → acts r m ≡ none → applies r m ≡ false
unfolding acts
acts_none r m e = go (applies r m) refl e
  where
    go : (p : Bool) → applies r m ≡ p → cond p (some (gives r m)) none ≡ none → applies r m ≡ false
    go true q f = absurd (none-ne-some (gives r m) (sym f))
    go false q f = q
