-- What the code finds, row by row, on its way to an answer. No promise of a public call speaks of it.
use Rattle.std.specs.Prelude.{ℕ, ◌<◌, ◌≤◌, List, Bool, not, ◌&&◌, length}
use Rattle.sets.specs.Sets.{meet, empty, those}
use Rattle.moves.specs.declared.Marking.{Marking}
use Rattle.moves.specs.Move.{waits_for}
use Rattle.tables.specs.Tables.{row}
use Rattle.rules.specs.Graph.{Graph, conditions_of, roles_of}

-- who holds these roles has one that the row allows, and its step waits for nothing
abbrev pub row_passes : ℕ → ℕ → ℕ → Marking → Bool
row_passes held allows conditions m = not (empty (meet held allows)) && empty (waits_for conditions m)

-- tables with a row for each of `count` steps, of which each action that is named has a row of roles
pub record Tabled (count : ℕ) (labels allows conditions : List ℕ) : Type 0 where
  pub few : count ≤ 64
  pub labels_reach : count ≤ length labels
  pub allows_reach : count ≤ length allows
  pub conditions_reach : count ≤ length conditions
  pub action_row : (s : ℕ) → row labels s < length allows

-- the rows of step s let pass: its roles stand in the row of its action
abbrev pub passes_at : List ℕ → List ℕ → List ℕ → ℕ → Marking → ℕ → Bool
passes_at labels allows conditions held m s = row_passes held (row allows (row labels s)) (row conditions s) m

-- the steps whose rows let pass
abbrev pub rows_passing : List ℕ → List ℕ → List ℕ → ℕ → ℕ → Marking → ℕ
rows_passing labels allows conditions count held m = those count (passes_at labels allows conditions held m)

-- the same of step s of a graph
abbrev pub step_passes : Graph → Marking → ℕ → ℕ → Bool
step_passes g m held s = row_passes held (roles_of g s) (conditions_of g s) m

-- the steps that pass and are included
unfoldable pub steps_for : Graph → Marking → ℕ → ℕ
steps_for g m held = meet (those g.steps (step_passes g m held)) m.included
