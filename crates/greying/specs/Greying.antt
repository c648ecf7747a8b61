-- Which steps are allowed to a person, and to anyone: those that `ask` allows in some role.
use Rattle.std.specs.Prelude.{ℕ, List, [], ◌∷◌, ◌++◌, Bool, true, false, not, ltb, Result, Ok, Err}
use Rattle.sets.specs.Sets.{any, those}
use Rattle.moves.specs.declared.Marking.{Marking}
use Rattle.moves.specs.declared.Refusal.TheVariants.{Unknown}
use Rattle.moves.specs.declared.Refusal.{Refusal}
use Rattle.moves.specs.First.{Verdict, Line, first, number_of}
use Rattle.moves.specs.Move.{entry_of}
use Rattle.rules.specs.Graph.{Graph, graph_lines}
use Rattle.rules.specs.Answers.{the_asked, marking_lines}

-- the answer to who asks is yes
unfoldable pub granted : Verdict → Bool
granted (Ok _) = true
granted (Err r) = false

-- step s is allowed to person p: in one of the roles `ask` allows it
unfoldable pub allowed_to : Graph → Marking → ℕ → ℕ → Bool
allowed_to g m p s = any g.roles (λ r. granted (the_asked g m (entry_of p s r)))

-- and to someone: it is allowed to one of the people
unfoldable pub allowed_to_someone : Graph → Marking → ℕ → Bool
allowed_to_someone g m s = any g.people (λ p. allowed_to g m p s)

-- ---- the tables

abbrev pub person_lines : Graph → ℕ → List Line
person_lines g p = (Unknown, not (ltb p g.people)) ∷ []

abbrev pub choice_lines : Graph → Marking → ℕ → List Line
choice_lines g m p = graph_lines g ++ marking_lines g m ++ person_lines g p

-- ---- the answers

-- the steps to choose from; or why there are none to choose from
abbrev pub Choice : Type 0
Choice = Result ℕ Refusal

unfoldable pub choice_of : Verdict → ℕ → Choice
choice_of (Ok _) steps = Ok steps
choice_of (Err r) steps = Err r

-- the steps that are allowed to person p
unfoldable pub the_choice : Graph → Marking → ℕ → Choice
the_choice g m p = choice_of (first (choice_lines g m p)) (those g.steps (allowed_to g m p))

-- the steps that are allowed to someone
unfoldable pub the_choice_of_all : Graph → Marking → Choice
the_choice_of_all g m = choice_of (first (graph_lines g ++ marking_lines g m)) (those g.steps (allowed_to_someone g m))

-- ---- number and values of each case

-- 0 where a set is answered, be it empty
unfoldable pub number_of_choice : Choice → ℕ
number_of_choice (Ok steps) = 0
number_of_choice (Err r) = number_of r

-- with a refusal the empty set
unfoldable pub steps_of_choice : Choice → ℕ
steps_of_choice (Ok steps) = steps
steps_of_choice (Err r) = 0
