-- The paper's signs for sets, and for the three sets of a marking.
use Rattle.std.specs.Prelude.{ℕ, Bool}
use Rattle.sets.specs.Sets.{has, union, meet, minus}
use Rattle.moves.specs.declared.Marking.{Marking}

infixl 70 ◌∩◌
infixl 66 ◌∖◌
infixl 65 ◌∪◌
infix 50 ◌∈◌
abbrev pub ◌∩◌ : ℕ → ℕ → ℕ
a ∩ b = meet a b

abbrev pub ◌∖◌ : ℕ → ℕ → ℕ
a ∖ b = minus a b

abbrev pub ◌∪◌ : ℕ → ℕ → ℕ
a ∪ b = union a b

abbrev pub ◌∈◌ : ℕ → ℕ → Bool
e ∈ x = has x e

-- M = (Ex, Re, In)
abbrev pub Ex : Marking → ℕ
Ex M = M.done

abbrev pub Re : Marking → ℕ
Re M = M.due

abbrev pub In : Marking → ℕ
In M = M.included
