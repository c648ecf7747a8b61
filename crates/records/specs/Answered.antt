-- The laws of the answers: what an answer that is no refusal says of what was handed in. Assumes nothing.
use Rattle.std.specs.Prelude.{ℕ, ◌≤◌, ◌≡◌, refl, Bool, true, false, not, cond, leb, Ok, Err}
use Rattle.std.proofs.Common.{ap, arith, leb-true}
use Rattle.sets.specs.Sets.{minus}
use Rattle.sets.specs.Truth.{and_right}
use Rattle.sets.specs.Laws.{union_lt, minus_lt}
use Rattle.moves.specs.declared.Marking.{Marking}
use Rattle.moves.specs.declared.Refusal.TheVariants.{Counts, Outside, IllFormed, NotApplied}
use Rattle.moves.specs.First.{Verdict, first, number_of_verdict, number_of}
use Rattle.moves.specs.Move.{within1to, marking_fits, denied}
use Rattle.moves.specs.Inside.{Inside}
use Rattle.records.specs.declared.Record.{Record}
use Rattle.records.specs.Records.{applies, gives, well_formed, join}
use Rattle.records.specs.WellFormed.{Bounded}
use Rattle.records.specs.Answers.{recorded_of, the_join, applied_of, applied_on, the_application, number_of_recorded, number_of_applied}

-- there are at most 64 steps
pub counts_most : (n : ℕ) → within1to n 64 ≡ true → n ≤ 64
counts_most n e = leb-true n 64 (and_right (leb 1 n) (leb n 64) e)

-- two well-formed records are joined
pub joins : (n : ℕ) (a b : Record) → within1to n 64 ≡ true → well_formed n a ≡ true → well_formed n b ≡ true
    → the_join n a b ≡ Ok (join a b)
unfolding the_join recorded_of first
joins n a b c p q = simp (c, p, q)

-- where counts, marking and record are as they should be, only 16 is left
pub applies_on : (n : ℕ) (r : Record) (m : Marking) → within1to n 64 ≡ true → marking_fits n m ≡ true → well_formed n r ≡ true
    → the_application n r m ≡ applied_on r m
unfolding the_application applied_of first number_of
applies_on n r m c f g = simp (c, f, g) (go (applies r m))
  where
    go : (p : Bool) → applied_of (cond (not p) (Err NotApplied) (Ok tt)) m (gives r m) ≡ cond p (Ok (gives r m))
        (Err (denied m NotApplied))
    go true = refl
    go false = refl

-- what a record that was applied shows
pub record Applying (n : ℕ) (r : Record) (m x : Marking) : Type 0 where
  pub counts : within1to n 64 ≡ true
  pub fits : marking_fits n m ≡ true
  pub good : well_formed n r ≡ true
  pub suits : applies r m ≡ true
  pub given : gives r m ≡ x

pub applying : (n : ℕ) (r : Record) (m x : Marking) → the_application n r m ≡ Ok x → Applying n r m x
unfolding the_application applied_of first
applying n r m x e = go (within1to n 64) (marking_fits n m) (well_formed n r) (applies r m) refl refl refl refl e
  where
    go : (c f g s : Bool) → within1to n 64 ≡ c → marking_fits n m ≡ f → well_formed n r ≡ g → applies r m ≡ s
        → applied_of (cond (not c) (Err Counts)
        (cond (not f) (Err Outside)
        (cond (not g) (Err IllFormed) (cond (not s) (Err NotApplied) (Ok tt))))) m
        (gives r m) ≡ Ok x
        → Applying n r m x
    go true true true true c f g s q = record { counts = c; fits = f; good = g; suits = s; given = cc }
    go true true true false c f g s q = absurd (let z : ◌≡◌ {A = ℕ} 0 1 = cc in let w : ⊥ = omega arith in w)
    go true true false s' c f g s q = absurd (let z : ◌≡◌ {A = ℕ} 0 1 = cc in let w : ⊥ = omega arith in w)
    go true false g' s' c f g s q = absurd (let z : ◌≡◌ {A = ℕ} 0 1 = cc in let w : ⊥ = omega arith in w)
    go false f' g' s' c f g s q = absurd (let z : ◌≡◌ {A = ℕ} 0 1 = cc in let w : ⊥ = omega arith in w)

pub applied_of_lem : (n : ℕ) (r : Record) (m x : Marking) → Applying n r m x → the_application n r m ≡ Ok x
unfolding the_application applied_of first
applied_of_lem n r m x a = simp (a.counts, a.fits, a.good, a.suits) (ap Ok a.given)

-- what a record gives stays within its steps
pub gives_inside : (n : ℕ) (r : Record) (m : Marking) → Bounded n r → Inside n m → Inside n (gives r m)
gives_inside n r m b i =
    record {
      done_in = union_lt n m.done r.done i.done_in b.done_in;
      due_in = union_lt n (minus m.due r.dueclear) r.dueset (minus_lt n m.due r.dueclear i.due_in) b.dueset_in;
      included_in = union_lt n (minus m.included r.inclear) r.inset (minus_lt n m.included r.inclear i.included_in)
          b.inset_in;
    }

-- the number of an answer is the first that holds of its table
pub number_recorded : (v : Verdict) (r : Record) → number_of_recorded (recorded_of v r) ≡ number_of_verdict v
unfolding number_of_recorded recorded_of number_of_verdict
number_recorded (Ok _) r = refl
number_recorded (Err q) r = refl

pub number_applied : (v : Verdict) (m x : Marking) → number_of_applied (applied_of v m x) ≡ number_of_verdict v
unfolding number_of_applied applied_of number_of_verdict
number_applied (Ok _) m x = refl
number_applied (Err q) m x = refl
