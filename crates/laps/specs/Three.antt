-- A run of a stem and a lap is refused, or it goes on and is accepted, or it goes on and starves a step. That exactly one of the three
-- holds is `one_of_three` of proofs/Laws.antt. Assumes nothing.
use Rattle.std.specs.Prelude.{ℕ, ◌⊎◌, List}
use Rattle.rules.specs.Graph.{Graph}
use Rattle.moves.specs.declared.Marking.{Marking}
use Rattle.moves.specs.declared.Entry.{Entry}
use Rattle.moves.specs.declared.Refusal.{Refusal}
use Rattle.journal.specs.Journal.{entries}
use Rattle.laps.specs.declared.Pass.{Pass}
use Rattle.laps.specs.Endless.{GoesOn, Accepting, Starving}
use Rattle.laps.specs.Laps.{endless_run, Stops}

module _ (g : Graph) (m : Marking) (stem lap : List ℕ) where
  abbrev S : List Entry
  S = entries stem

  abbrev L : List Entry
  L = entries lap

  abbrev e : ℕ → Entry
  e i = endless_run S L i

  abbrev pub IsRefused : Type 0
  IsRefused = (k : ℕ) × (p : Pass) × (r : Refusal) × Stops g m S L k p r

  abbrev pub IsAccepted : Type 0
  IsAccepted = GoesOn g m e × Accepting g m e

  abbrev pub IsStarved : Type 0
  IsStarved = GoesOn g m e × ((s : ℕ) × Starving g m e s)

  pub record OneOfThree : Type 0 where
    pub one : IsRefused ⊎ (IsAccepted ⊎ IsStarved)
    pub refused_accepted : IsRefused → IsAccepted → ⊥
    pub refused_starved : IsRefused → IsStarved → ⊥
    pub accepted_starved : IsAccepted → IsStarved → ⊥
