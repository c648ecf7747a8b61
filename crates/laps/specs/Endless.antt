-- Runs without end (Definition 4): from marking m on graph g, any endless sequence of entries e 0, e 1, e 2, ..
use Rattle.std.specs.Prelude.{ℕ, zero, suc, ◌≤◌, ◌<◌, ◌≡◌, ◌⊎◌, true, false}
use Rattle.sets.specs.Sets.{has}
use Rattle.rules.specs.Graph.{Graph}
use Rattle.moves.specs.declared.Marking.{Marking}
use Rattle.moves.specs.declared.Entry.{Entry}
use Rattle.moves.specs.declared.Refusal.{Refusal}
use Rattle.moves.specs.Move.{Move}
use Rattle.rules.specs.Answers.{row_of, the_move}
use Rattle.moves.specs.Move.{after}
use Rattle.std.specs.Prelude.{Ok, Err}
use Rattle.moves.specs.Move.{denied}

module _ (g : Graph) (m : Marking) (e : ℕ → Entry) where
  -- the step done at position i
  abbrev pub step_at : ℕ → ℕ
  step_at i = (e i).step.0

  -- the marking at position i: at 0 the one handed in, at i + 1 the one after the step at i
  unfoldable pub marking_at : ℕ → Marking
  marking_at zero = m
  marking_at (suc i) = after (row_of g (e i).person (step_at i)) (marking_at i) (step_at i)

  -- s is due at i: s ∈ Re_i
  abbrev pub DueAt : ℕ → ℕ → Type 0
  DueAt i s = has (marking_at i).due s ≡ true

  -- s is included at i: s ∈ In_i
  abbrev pub IncludedAt : ℕ → ℕ → Type 0
  IncludedAt i s = has (marking_at i).included s ≡ true

  -- s ∉ In_i
  abbrev pub ExcludedAt : ℕ → ℕ → Type 0
  ExcludedAt i s = has (marking_at i).included s ≡ false

  -- s is the step done at i
  abbrev pub DoneAt : ℕ → ℕ → Type 0
  DoneAt i s = s ≡ step_at i

  -- what the move answers to the entry at i, in the marking at i
  abbrev pub moved_at : ℕ → Move
  moved_at i = the_move g (marking_at i) (e i)

  -- the entry at i is taken
  abbrev pub TakenAt : ℕ → Type 0
  TakenAt i = moved_at i ≡ Ok (marking_at (suc i))

  -- the entry at i is the first that is not allowed, with refusal r
  pub record RefusedAt (i : ℕ) (r : Refusal) : Type 0 where
    pub before : (j : ℕ) → j < i → TakenAt j
    pub here : moved_at i ≡ Err (denied (marking_at i) r)

  -- every entry is allowed
  abbrev pub GoesOn : Type 0
  GoesOn = (i : ℕ) → TakenAt i

  -- "∀ i ≥ 0, e ∈ Re_i. ∃ j ≥ i. (e = e_j ∨ e ∉ In_j)"
  abbrev pub Accepting : Type 0
  Accepting = (i s : ℕ) → DueAt i s → (j : ℕ) × (i ≤ j) × (DoneAt j s ⊎ ExcludedAt j s)

  -- at i step s is due, included, and neither done nor excluded
  pub record Waiting (i s : ℕ) : Type 0 where
    pub due : DueAt i s
    pub included : IncludedAt i s
    pub undone : DoneAt i s → ⊥

  -- from position p on step s waits at every position
  abbrev pub Starving : ℕ → Type 0
  Starving s = (p : ℕ) × ((i : ℕ) → p ≤ i → Waiting i s)

  -- s is the lowest step that starves
  pub record Starves (s : ℕ) : Type 0 where
    pub starving : Starving s
    pub lowest : (t : ℕ) → t < s → Starving t → ⊥
