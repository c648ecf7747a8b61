-- Markings in lent memory, as three words: done, due, included.
use Rattle.std.specs.Prelude.{ℕ, List, [], ◌∷◌, cond, get_or, eqb, Result, Ok, Err}
use Rattle.moves.specs.declared.Marking.{Marking}
use Rattle.moves.specs.declared.Refusal.{Refusal}
use Rattle.moves.specs.First.{number_of}
use Rattle.moves.specs.Move.{number_of_move}
use Rattle.kept.specs.declared.Kept.{Kept}

abbrev pub marking_of_words : List ℕ → Marking
marking_of_words words = record { done = get_or words 0 0; due = get_or words 1 0; included = get_or words 2 0 }

abbrev pub marking_words : Marking → List ℕ
marking_words m = m.done ∷ m.due ∷ m.included ∷ []

-- the kept marking is changed where it lies, only where the number is 0
abbrev pub kept_out : Kept → List ℕ → List ℕ
kept_out k before = cond (eqb (number_of_move k.answer) 0) (marking_words k.marking) before

-- reading a sheet: 0, or what is against it
unfoldable pub number_of_read : Result Marking Refusal → ℕ
number_of_read (Ok m) = 0
number_of_read (Err r) = number_of r

-- the first marking, or the memory as it was
unfoldable pub marking_out : Result Marking Refusal → List ℕ → List ℕ
marking_out (Ok m) before = marking_words m
marking_out (Err r) before = before
