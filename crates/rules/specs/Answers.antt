-- Asking for a step and taking it (Definitions 4 and 5): when an entry is allowed, and the marking after it. All tests read the marking
-- before.
use Rattle.std.specs.Prelude.{ℕ, List, ◌∷◌, ◌++◌, Bool, not, ◌&&◌, cond, ltb}
use Rattle.rules.specs.Graph.{Graph, graph_lines, conditions_of, responses_of, includes_of, excludes_of, roles_of, roles_held}
use Rattle.moves.specs.declared.inner.Row.{Row}
use Rattle.moves.specs.declared.Marking.{Marking}
use Rattle.moves.specs.declared.Entry.{Entry}
use Rattle.moves.specs.declared.Refusal.{Refusal}
use Rattle.moves.specs.declared.Refusal.TheVariants.{Unknown}
use Rattle.moves.specs.First.{Verdict}
use Rattle.moves.specs.Move.{Move}
use Rattle.rules.specs.declared.Ending.{Ending}
use Rattle.moves.specs.First.{Line, first, number_of}
use Rattle.moves.specs.Move.{after, is_finished, size_lines, row_lines, move_of}
use Rattle.std.specs.Prelude.{Ok, Err, Result}

-- what person p and step s meet of the graph: {r | p as r}, {r | s as r}, {a | a →• s}, {b | s •→ b}, {b | s →+ b}, {b | s →% b}
abbrev pub row_of : Graph → ℕ → ℕ → Row
row_of g p s =
    record {
      held = roles_held g p;
      allows = roles_of g s;
      conditions = conditions_of g s;
      responses = responses_of g s;
      includes = includes_of g s;
      excludes = excludes_of g s;
    }

-- the entry names a person, a step and a role that there are
abbrev pub entry_known : Graph → Entry → Bool
entry_known g e = ltb e.person g.people && ltb e.step.0 g.steps && ltb e.role g.roles

-- ---- the tables

abbrev pub marking_lines : Graph → Marking → List Line
marking_lines g m = size_lines g.steps m

abbrev pub entry_lines : Graph → Marking → Entry → List Line
entry_lines g m e = (Unknown, not (entry_known g e)) ∷ row_lines (row_of g e.person e.step.0) m e

abbrev pub move_lines : Graph → Marking → Entry → List Line
move_lines g m e = graph_lines g ++ marking_lines g m ++ entry_lines g m e

-- ---- the answers

-- the marking after the entry's step
abbrev pub after_entry : Graph → Marking → Entry → Marking
after_entry g m e = after (row_of g e.person e.step.0) m e.step.0

-- any entry on anything: is it allowed?
unfoldable pub the_asked : Graph → Marking → Entry → Verdict
the_asked g m e = first (move_lines g m e)

-- and taken: ask, and if it is allowed the marking after
unfoldable pub the_move : Graph → Marking → Entry → Move
the_move g m e = move_of (the_asked g m e) m (after_entry g m e)

unfoldable pub ending_of : Verdict → Bool → Result Ending Refusal
ending_of (Ok _) done = cond done (Ok Ending.Finished) (Ok Ending.Open)
ending_of (Err r) done = Err r

-- is the job finished?
unfoldable pub the_ending : Graph → Marking → Result Ending Refusal
the_ending g m = ending_of (first (graph_lines g ++ marking_lines g m)) (is_finished m)

-- ---- number and values of each case

-- 0 where the job is finished or not
unfoldable pub number_of_ending : (Result Ending Refusal) → ℕ
number_of_ending (Ok Ending.Finished) = 0
number_of_ending (Ok Ending.Open) = 0
number_of_ending (Err r) = number_of r

-- ---- the same on a graph, and then a marking, that are as they should be: what the calls go by inside

unfoldable pub asked_on : Graph → Marking → Entry → Verdict
asked_on g m e = first (marking_lines g m ++ entry_lines g m e)

unfoldable pub entry_asked : Graph → Marking → Entry → Verdict
entry_asked g m e = first (entry_lines g m e)

unfoldable pub entry_move : Graph → Marking → Entry → Move
entry_move g m e = move_of (entry_asked g m e) m (after_entry g m e)

-- the refusal of an entry that is not allowed; of one that is, nobody asks
unfoldable pub refusal_in : Verdict → Refusal
refusal_in (Ok _) = Unknown
refusal_in (Err r) = r

unfoldable pub ending_on : ℕ → Marking → Result Ending Refusal
ending_on n m = ending_of (first (size_lines n m)) (is_finished m)
