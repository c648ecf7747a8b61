-- The words in which it is said what a cabinet's journals are like: their steps, those since the last reboot, and the checks among them.
use Rattle.std.specs.Prelude.{ℕ, zero, suc, ◌+◌, ◌<◌, ◌≡◌, List, [], ◌∷◌, ◌++◌, ◌&&◌, cond, length, get_or, eqb, leb}
use Rattle.moves.specs.declared.Entry.{Entry}
use Rattle.journal.specs.Journal.{entries}
use Rattle.bodies.specs.Tables.{tabled}
use Rattle.cabinet.specs.Cabinet.{reboot, publish, climber, desk}

-- the steps of entries, and of a journal, in order
unfoldable pub steps_taken : List Entry → List ℕ
steps_taken [] = []
steps_taken (e ∷ rest) = e.step.0 ∷ steps_taken rest

abbrev pub steps_of : List ℕ → List ℕ
steps_of j = steps_taken (entries j)

-- the checks among some steps
unfoldable pub checks_in : ℕ → List ℕ → List ℕ
checks_in b [] = []
checks_in b (s ∷ rest) = cond (leb 1 s && leb s b) (s ∷ checks_in b rest) (checks_in b rest)

-- 1, 2, .., k
abbrev pub one_to : ℕ → List ℕ
one_to k = tabled k suc

-- step k is among them
abbrev pub Occurs : ℕ → List ℕ → Type 0
Occurs k steps = (i : ℕ) × (i < length steps) × (get_or steps i 0 ≡ k)

-- ---- two ways to say what comes since the last reboot

-- by a cut: those that came since it, and then more steps
unfoldable pub kept_on : List ℕ → List ℕ → List ℕ
kept_on kept [] = kept
kept_on kept (s ∷ rest) = kept_on (cond (eqb s reboot) [] (kept ++ (s ∷ []))) rest

abbrev pub since_reboot : List ℕ → List ℕ
since_reboot steps = kept_on [] steps

-- without one: `behind` are the last steps, a reboot stands before them or nothing at all, and none among them is a reboot
pub data Behind (steps behind : List ℕ) : Type 0 where
  rebooted : (before : List ℕ) → steps ≡ before ++ (reboot ∷ behind) → (Occurs reboot behind → ⊥) → Behind steps behind
  started : steps ≡ behind → (Occurs reboot behind → ⊥) → Behind steps behind

-- ---- a whole round

-- the climber does d checks from check k + 1 on, as bytes of a journal
unfoldable pub checking_from : ℕ → ℕ → List ℕ
checking_from k zero = []
checking_from k (suc d) = climber ∷ (k + 1) ∷ climber ∷ checking_from (k + 1) d

-- the climber reboots and checks every arm from the ground up, and then the desk publishes. Person and role have the same number
abbrev pub whole_round : ℕ → List ℕ
whole_round b = climber ∷ reboot ∷ climber ∷ (checking_from 0 b ++ (desk ∷ publish b ∷ desk ∷ []))
