-- The values of a lap's answer.
use Rattle.std.specs.Prelude.{ℕ, List, ◌≡◌}
use Rattle.moves.specs.declared.Marking.{Marking}
use Rattle.rules.specs.Graph.{Graph}
use Rattle.laps.specs.Lapped as answers
use Rattle.laps.specs.Laps.{LapAnswer, number_of_lap, waiting_of_lap, starved_of_lap, index_of_lap, pass_of_lap}
use Rattle.onward.specs.declared.Lapped.{Lapped}
use Rattle.std.specs.Prelude.{Ok, Err}
use Rattle.laps.specs.declared.Endless.{Endless}
use Rattle.laps.specs.declared.Broken.{Broken}

-- accepted, starved, or neither
unfoldable pub verdict_of_lap : answers.Lapped → ℕ
verdict_of_lap (Ok Endless.Accepted) = 1
verdict_of_lap (Ok (Endless.Starved s)) = 2
verdict_of_lap (Err (Broken.Refused r)) = 0
verdict_of_lap (Err (Broken.Stopped k p r)) = 0

abbrev pub lapped_of : answers.Lapped → Lapped
lapped_of o =
    record {
      number = number_of_lap o;
      waiting = waiting_of_lap o;
      verdict = verdict_of_lap o;
      step = starved_of_lap o;
      index = index_of_lap o;
      pass = pass_of_lap o;
    }

-- the values of an answer that is right for the infinite run
pub record LapTold (g : Graph) (m : Marking) (stem lap : List ℕ) (r : Lapped) : Type 0 where
  pub answer : answers.Lapped
  pub right : LapAnswer g m stem lap answer
  pub told : r ≡ lapped_of answer
