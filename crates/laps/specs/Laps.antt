-- A stem and a lap: the stem is run once, and then the lap again and again, without end.
use Rattle.std.specs.Prelude.{ℕ, ◌+◌, ◌-◌, ◌%◌, ◌≡◌, List, [], ◌∷◌, ◌++◌, not, ◌&&◌, cond, length, get_or, eqb, ltb}
use Rattle.rules.specs.Graph.{Graph, graph_lines}
use Rattle.moves.specs.Move.{entry_of}
use Rattle.moves.specs.declared.Marking.{Marking}
use Rattle.moves.specs.declared.Entry.{Entry}
use Rattle.moves.specs.declared.Refusal.{Refusal}
use Rattle.moves.specs.declared.Refusal.TheVariants.{Length, EmptyLap}
use Rattle.moves.specs.First.{Verdict}
use Rattle.moves.specs.First.{Line, first, number_of, waiting_of}
use Rattle.rules.specs.Answers.{marking_lines}
use Rattle.journal.specs.Journal.{entries, length_fits}
use Rattle.laps.specs.Lapped.{Lapped}
use Rattle.laps.specs.declared.Pass.{Pass}
use Rattle.laps.specs.Endless.{RefusedAt, GoesOn, Accepting, Starves}
use Rattle.std.specs.Prelude.{Ok, Err}
use Rattle.laps.specs.declared.Endless.{Endless}
use Rattle.laps.specs.declared.Broken.{Broken}

-- ---- the run

-- the entry at position i of stem, lap, lap, .. (the lap has at least one entry)
unfoldable pub endless_run : List Entry → List Entry → ℕ → Entry
endless_run stem lap i = cond (ltb i (length stem)) (get_or stem i (entry_of 0 0 0)) (get_or lap ((i - length stem) % length lap) (entry_of 0 0 0))

-- its index in the stem or lap
unfoldable pub index_at : List Entry → List Entry → ℕ → ℕ
index_at stem lap i = cond (ltb i (length stem)) i ((i - length stem) % length lap)

-- its pass: 0 in the stem, 1 the first time round the lap, 2 the second, 3 later
unfoldable pub pass_at : List Entry → List Entry → ℕ → ℕ
pass_at stem lap i =
    cond (ltb i (length stem)) 0
    (cond (ltb i (length stem + length lap)) 1
    (cond (ltb i (length stem + length lap + length lap)) 2 3))

-- ---- number and values of each case

unfoldable pub number_of_pass : Pass → ℕ
number_of_pass Pass.Stem = 0
number_of_pass Pass.First = 1
number_of_pass Pass.Second = 2
number_of_pass Pass.Later = 3

-- 0 where the run goes on for ever
unfoldable pub number_of_lap : Lapped → ℕ
number_of_lap (Ok Endless.Accepted) = 0
number_of_lap (Ok (Endless.Starved s)) = 0
number_of_lap (Err (Broken.Refused r)) = number_of r
number_of_lap (Err (Broken.Stopped k p r)) = number_of r

-- with 15 the steps that are waited for
unfoldable pub waiting_of_lap : Lapped → ℕ
waiting_of_lap (Ok Endless.Accepted) = 0
waiting_of_lap (Ok (Endless.Starved s)) = 0
waiting_of_lap (Err (Broken.Refused r)) = waiting_of r
waiting_of_lap (Err (Broken.Stopped k p r)) = waiting_of r

-- the step that starves
unfoldable pub starved_of_lap : Lapped → ℕ
starved_of_lap (Ok Endless.Accepted) = 0
starved_of_lap (Ok (Endless.Starved s)) = s.0
starved_of_lap (Err (Broken.Refused r)) = 0
starved_of_lap (Err (Broken.Stopped k p r)) = 0

-- the index of the refused entry
unfoldable pub index_of_lap : Lapped → ℕ
index_of_lap (Ok Endless.Accepted) = 0
index_of_lap (Ok (Endless.Starved s)) = 0
index_of_lap (Err (Broken.Refused r)) = 0
index_of_lap (Err (Broken.Stopped k p r)) = k

-- its pass
unfoldable pub pass_of_lap : Lapped → ℕ
pass_of_lap (Ok Endless.Accepted) = 0
pass_of_lap (Ok (Endless.Starved s)) = 0
pass_of_lap (Err (Broken.Refused r)) = 0
pass_of_lap (Err (Broken.Stopped k p r)) = number_of_pass p

-- ---- the table, before any entry is looked at: 2, 4, 6, 7, 8, 17

abbrev pub lengths_lines : List ℕ → List ℕ → List Line
lengths_lines stem lap = (Length, not (length_fits stem && length_fits lap)) ∷ []

abbrev pub empty_lines : List ℕ → List Line
empty_lines lap = (EmptyLap, eqb (length lap) 0) ∷ []

abbrev pub lap_lines : Graph → Marking → List ℕ → List ℕ → List Line
lap_lines g m stem lap = graph_lines g ++ lengths_lines stem lap ++ marking_lines g m ++ empty_lines lap

-- ---- the answer

-- entry k of pass p is the first that is not allowed
pub record Stops (g : Graph) (m : Marking) (stem lap : List Entry) (k : ℕ) (p : Pass) (r : Refusal) : Type 0 where
  pub position : ℕ
  pub refused : RefusedAt g m (endless_run stem lap) position r
  pub index : k ≡ index_at stem lap position
  pub pass : number_of_pass p ≡ pass_at stem lap position

-- What is right to answer. Before any entry is looked at, the table. Then the earliest entry that is not allowed, by index and pass; or,
-- where the run goes on for ever, accepted, or starved with the lowest step that starves
unfoldable pub LapAnswer : Graph → Marking → List ℕ → List ℕ → Lapped → Type 0
LapAnswer g m stem lap (Err (Broken.Refused r)) = first (lap_lines g m stem lap) ≡ Err r
LapAnswer g m stem lap (Err (Broken.Stopped k p r)) = first (lap_lines g m stem lap) ≡ Ok tt
    × Stops g m (entries stem) (entries lap) k p r
LapAnswer g m stem lap (Ok Endless.Accepted) =
    (first (lap_lines g m stem lap) ≡ Ok tt)
    × GoesOn g m (endless_run (entries stem) (entries lap))
    × Accepting g m (endless_run (entries stem) (entries lap))
LapAnswer g m stem lap (Ok (Endless.Starved s)) =
    (first (lap_lines g m stem lap) ≡ Ok tt)
    × GoesOn g m (endless_run (entries stem) (entries lap))
    × Starves g m (endless_run (entries stem) (entries lap)) s.0
