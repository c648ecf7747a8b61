-- The words in which the dead-end report is stated: journals that end the job, and a store that runs over.
use Rattle.std.specs.Prelude.{ℕ, suc, ◌<◌, ◌≡◌, List, true, false, length}
use Rattle.numbers.specs.Numbers.{Bytes}
use Rattle.moves.specs.declared.Marking.{Marking}
use Rattle.moves.specs.Move.{is_finished}
use Rattle.rules.specs.Graph.{Graph}
use Rattle.journal.specs.Run.{the_run}
use Rattle.deadend.specs.DeadEnd.{found, at}
use Rattle.std.specs.Prelude.{Ok}
use Rattle.journal.specs.Ran.{ended}

-- some allowed journal of n entries, run from m, ends finished
pub record JournalEnds (g : Graph) (m : Marking) (n : ℕ) : Type 0 where
  pub journal : List ℕ
  pub last : Marking
  pub lent : Bytes journal
  pub allowed : the_run g m journal ≡ Ok (ended last n)
  pub finished : is_finished last ≡ true

-- and none of fewer entries does
pub record FewestEntries (g : Graph) (m : Marking) (n : ℕ) : Type 0 where
  pub can : JournalEnds g m n
  pub none_less : (k : ℕ) → k < n → JournalEnds g m k → ⊥

-- none of the first n markings looked at is finished
abbrev pub Unfinished : Graph → Marking → ℕ → Type 0
Unfinished g m n = (j : ℕ) → j < n → is_finished (at g m j) ≡ false

-- a store for c runs over: a marking has its turn, neither it nor one before it is finished, and with its steps more markings are found than
-- there is room for
pub record Overflows (c : ℕ) (g : Graph) (m : Marking) : Type 0 where
  pub turn : ℕ
  pub there : turn < length (found g m turn)
  pub unended : Unfinished g m (suc turn)
  pub over : c < length (found g m (suc turn))
