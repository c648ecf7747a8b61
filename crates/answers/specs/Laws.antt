-- The laws of the answers at the border. Assumes nothing.
use Rattle.std.specs.Prelude.{ℕ, ◌≡◌, refl, List, Bool, true, false, cond}
use mir.Val.{bool_byte}
use Rattle.sets.specs.Truth.{and_false}
use Rattle.moves.specs.declared.Marking.{Marking}
use Rattle.moves.specs.First.{Verdict, number_of_verdict}
use Rattle.sheet.specs.Sheet.{answer_of, if_clear}
use Rattle.records.specs.Records.{each, well_formed}
use Rattle.answers.specs.Lent.{marking_words, number_of_read, marking_out}
use Rattle.answers.specs.Folded.{spoilt}
use Rattle.std.specs.Prelude.{Ok, Err}

-- what stands in for no record is refused with 10 for every n
pub spoilt_ill : (n : ℕ) → well_formed n spoilt ≡ false
unfolding well_formed each
spoilt_ill n = simp and_false

-- a flag as a number
pub as_flag : (b : Bool) → bool_byte b ≡ cond b 1 0
as_flag true = refl
as_flag false = refl

-- what is kept only where nothing is against a sheet may be anything otherwise
pub clear_twice : (v : Verdict) (m z : Marking) (before : List ℕ)
    → if_clear v (marking_words (if_clear v m z)) before ≡ if_clear v (marking_words m) before
unfolding if_clear
clear_twice (Ok _) m z before = refl
clear_twice (Err r) m z before = refl

-- what reading a sheet answers has the number of what is against it
pub read_number : (v : Verdict) (m : Marking) → number_of_read (answer_of v m) ≡ number_of_verdict v
unfolding number_of_read answer_of number_of_verdict
read_number (Ok _) m = refl
read_number (Err r) m = refl

-- and lays its marking down where nothing is
pub read_marking : (v : Verdict) (m : Marking) (before : List ℕ) → marking_out (answer_of v m) before ≡ if_clear v (marking_words m) before
unfolding marking_out answer_of if_clear
read_marking (Ok _) m before = refl
read_marking (Err r) m before = refl
