-- Values that the border tells of an answer, and that do not stand beside the answer's own definition.
use Rattle.std.specs.Prelude.{ℕ}
use Rattle.moves.specs.First.{Verdict}
use Rattle.rules.specs.declared.Ending.{Ending}
use Rattle.journal.specs.Ran.{Walked}
use Rattle.std.specs.Prelude.{Ok, Err, Some, None, Result}
use Rattle.moves.specs.declared.Refusal.{Refusal}

-- 1 where no step is both due and included
unfoldable pub finished_of_ending : (Result Ending Refusal) → ℕ
finished_of_ending (Ok Ending.Finished) = 1
finished_of_ending (Ok Ending.Open) = 0
finished_of_ending (Err r) = 0

-- 1 where no entry is left
unfoldable pub ended_of_walked : Walked → ℕ
ended_of_walked (Ok (Some e)) = 0
ended_of_walked (Ok None) = 1
ended_of_walked (Err r) = 0

-- how many bytes of a record are written
unfoldable pub length_of_spelling : Verdict → ℕ
length_of_spelling (Ok _) = 65
length_of_spelling (Err r) = 0
