-- Taking a step on its row (Definitions 4 and 5): when an entry is allowed, and the marking after it. All tests read the marking before.
use Rattle.std.specs.Prelude.{ℕ, ◌+◌, List, [], ◌∷◌, Bool, not, ◌&&◌, cond, leb, Result, Ok, Err}
use Rattle.sets.specs.Sets.{has, single, union, meet, minus, empty, within}
use Rattle.moves.specs.declared.inner.Row.{Row}
use Rattle.moves.specs.declared.Marking.{Marking}
use Rattle.moves.specs.declared.Entry.{Entry}
use Rattle.moves.specs.declared.Refusal.{Refusal}
use Rattle.moves.specs.declared.Refusal.TheVariants.{Outside, NotHeld, NotOnStep, Excluded, Waits}
use Rattle.moves.specs.declared.Denied.{Denied}
use Rattle.moves.specs.First.{Verdict, Line, number_of, waiting_of}

-- person p takes step s in role r
abbrev pub entry_of : ℕ → ℕ → ℕ → Entry
entry_of p s r = record { person = p; step = record { 0 = s }; role = r }

-- Definition 5: p as r
abbrev pub person_holds : Row → Entry → Bool
person_holds w e = has w.held e.role

-- Definition 5: a as r
abbrev pub step_has : Row → Entry → Bool
step_has w e = has w.allows e.role

-- Definition 4 (iii): e ∈ In'
abbrev pub is_included : Marking → Entry → Bool
is_included m e = has m.included e.step.0

-- the conditions of e that are in In' and not in Ex'. Definition 4 (iv) says that there are none
abbrev pub waits_for : ℕ → Marking → ℕ
waits_for conditions m = minus (meet conditions m.included) m.done

-- Definition 4 (ii), (v), (vi): the marking after the step that is alone in `one`, whose row is w
abbrev pub after_one : Row → Marking → ℕ → Marking
after_one w m one =
    record {
      done = union m.done one;
      due = union (minus m.due one) w.responses;
      included = minus (union m.included w.includes) w.excludes;
    }

-- the marking after step s
abbrev pub after : Row → Marking → ℕ → Marking
after w m s = after_one w m (single s)

-- no step is both due and included
abbrev pub is_finished : Marking → Bool
is_finished m = empty (meet m.due m.included)

-- a marking of a graph with n steps names only its steps
abbrev pub marking_fits : ℕ → Marking → Bool
marking_fits n m = within n m.done && within n m.due && within n m.included

-- the rank of a step: steps count from 0, ranks from 1. No other place turns the one into the other
abbrev pub rank_of : ℕ → ℕ
rank_of s = s + 1

-- k is one of 1, 2, .., most
abbrev pub within1to : ℕ → ℕ → Bool
within1to k most = leb 1 k && leb k most

-- ---- the tables

abbrev pub size_lines : ℕ → Marking → List Line
size_lines n m = (Outside, not (marking_fits n m)) ∷ []

abbrev pub row_lines : Row → Marking → Entry → List Line
row_lines w m e =
    (NotHeld, not (person_holds w e))
    ∷ (NotOnStep, not (step_has w e))
    ∷ (Excluded, not (is_included m e))
    ∷ (Waits (waits_for w.conditions m), not (empty (waits_for w.conditions m)))
    ∷ []

-- ---- the answers

abbrev pub no_marking : Marking
no_marking = record { done = 0; due = 0; included = 0 }

-- the marking after a step; or a refusal, with the marking that goes with it
abbrev pub Move : Type 0
Move = Result Marking Denied

abbrev pub denied : Marking → Refusal → Denied
denied m r = record { marking = m; refusal = r }

-- the marking that goes with a refusal: from 11 on the one handed in, below with zeros
abbrev pub given_back : Marking → Refusal → Marking
given_back before r = cond (leb 11 (number_of r)) before no_marking

-- taking a step: ask, and if it is allowed the marking after
unfoldable pub move_of : Verdict → Marking → Marking → Move
move_of (Ok _) before next = Ok next
move_of (Err r) before next = Err (denied (given_back before r) r)

-- ---- number and values of each case

-- 0 where the entry is allowed
unfoldable pub number_of_asked : Verdict → ℕ
number_of_asked (Ok _) = 0
number_of_asked (Err r) = number_of r

-- with 15 the steps that are waited for
unfoldable pub waiting_of_asked : Verdict → ℕ
waiting_of_asked (Ok _) = 0
waiting_of_asked (Err r) = waiting_of r

-- 0 where the step is taken
unfoldable pub number_of_move : Move → ℕ
number_of_move (Ok m) = 0
number_of_move (Err d) = number_of d.refusal

-- with 15 the steps that are waited for
unfoldable pub waiting_of_move : Move → ℕ
waiting_of_move (Ok m) = 0
waiting_of_move (Err d) = waiting_of d.refusal

-- the marking after, or what is given back
unfoldable pub marking_of_move : Move → Marking
marking_of_move (Ok m) = m
marking_of_move (Err d) = d.marking
