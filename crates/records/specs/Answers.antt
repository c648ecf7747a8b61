-- What the calls answer: the table "Numbers on the door" for each, in its order, and the answer.
use Rattle.std.specs.Prelude.{ℕ, List, [], ◌∷◌, not, ◌&&◌, cond, leb, Result, Ok, Err}
use Rattle.moves.specs.declared.Marking.{Marking}
use Rattle.moves.specs.declared.Refusal.{Refusal}
use Rattle.moves.specs.declared.Refusal.TheVariants.{Counts, Outside, IllFormed, NotApplied}
use Rattle.moves.specs.First.{Verdict, Line, first, number_of}
use Rattle.moves.specs.Move.{Move, denied, within1to, marking_fits, no_marking}
use Rattle.records.specs.declared.Record.{Record}
use Rattle.records.specs.Records.{applies, gives, well_formed, join}

-- a record, or why there is none
abbrev pub Recorded : Type 0
Recorded = Result Record Refusal

-- a record where nothing is against it; a refusal has no place for one
unfoldable pub recorded_of : Verdict → Record → Recorded
recorded_of (Ok _) r = Ok r
recorded_of (Err q) r = Err q

-- ---- join: 2, 10

abbrev pub join_lines : ℕ → Record → Record → List Line
join_lines n a b = (Counts, not (within1to n 64)) ∷ (IllFormed, not (well_formed n a && well_formed n b)) ∷ []

unfoldable pub the_join : ℕ → Record → Record → Recorded
the_join n a b = recorded_of (first (join_lines n a b)) (join a b)

-- ---- apply: 2, 8, 10, 16

abbrev pub apply_lines : ℕ → Record → Marking → List Line
apply_lines n r m =
    (Counts, not (within1to n 64))
    ∷ (Outside, not (marking_fits n m))
    ∷ (IllFormed, not (well_formed n r))
    ∷ (NotApplied, not (applies r m))
    ∷ []

-- 16 gives back the marking handed in; below 11 zeros
unfoldable pub applied_of : Verdict → Marking → Marking → Move
applied_of (Ok _) before next = Ok next
applied_of (Err q) before next = Err (denied (cond (leb 11 (number_of q)) before no_marking) q)

-- a record that is well-formed at a marking that fits: 16
abbrev pub applied_on : Record → Marking → Move
applied_on r m = cond (applies r m) (Ok (gives r m)) (Err (denied m NotApplied))

unfoldable pub the_application : ℕ → Record → Marking → Move
the_application n r m = applied_of (first (apply_lines n r m)) m (gives r m)

-- ---- number and values of each case: 0 where it is answered

unfoldable pub number_of_recorded : Recorded → ℕ
number_of_recorded (Ok r) = 0
number_of_recorded (Err q) = number_of q

unfoldable pub number_of_applied : Move → ℕ
number_of_applied (Ok m) = 0
number_of_applied (Err d) = number_of d.refusal

-- the marking after, or what is given back
unfoldable pub marking_of_applied : Move → Marking
marking_of_applied (Ok m) = m
marking_of_applied (Err d) = d.marking
