-- What a run and a walk answer.
use Rattle.std.specs.Prelude.{ℕ, Option, Result}
use Rattle.moves.specs.declared.Marking.{Marking}
use Rattle.moves.specs.declared.Entry.{Entry}
use Rattle.moves.specs.declared.Refusal.{Refusal}
use Rattle.journal.specs.declared.Ended.{Ended}
use Rattle.journal.specs.declared.Stopped.{Stopped}

abbrev pub Ran : Type 0
Ran = Result Ended Stopped

abbrev pub ended : Marking → ℕ → Ended
ended m k = record { marking = m; entries = k }

abbrev pub stopped : ℕ → Marking → Refusal → Stopped
stopped k m r = record { index = k; marking = m; refusal = r }

abbrev pub Walked : Type 0
Walked = Result (Option Entry) Refusal
