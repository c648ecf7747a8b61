-- What the calls answer: the table "Numbers on the door" for each, in its order, and the answer.
use Rattle.std.specs.Prelude.{ℕ, List, [], ◌∷◌, ◌++◌, not, cond}
use Rattle.rules.specs.Graph.{Graph, graph_lines}
use Rattle.moves.specs.declared.Marking.{Marking}
use Rattle.moves.specs.declared.Refusal.TheVariants.{IllFormed, NotApplied}
use Rattle.moves.specs.First.{Line, first}
use Rattle.rules.specs.Answers.{marking_lines}
use Rattle.journal.specs.Ran.{Ran}
use Rattle.journal.specs.Journal.{entries}
use Rattle.journal.specs.Run.{run_from, ran_of, length_lines}
use Rattle.records.specs.declared.Record.{Record}
use Rattle.records.specs.Answers.{Recorded}
use Rattle.records.specs.Records.{applies, gives, well_formed}
use Rattle.records.specs.Answers.{recorded_of}
use Rattle.folding.specs.Fold.{fold_of}
use Rattle.std.specs.Prelude.{Err}
use Rattle.journal.specs.Ran.{stopped}

-- ---- fold: 2, 4, 6, 7. An entry that no marking could allow is no refusal

abbrev pub fold_lines : Graph → List ℕ → List Line
fold_lines g j = graph_lines g ++ length_lines j

unfoldable pub the_fold : Graph → List ℕ → Recorded
the_fold g j = recorded_of (first (fold_lines g j)) (fold_of g (entries j))

-- ---- restore: 2, 4, 6, 7, 8, 10, then 16, then 11 to 15 of the earliest refused entry

abbrev pub restore_lines : Graph → Record → List ℕ → Marking → List Line
restore_lines g r j m = graph_lines g ++ length_lines j ++ marking_lines g m ++ (IllFormed, not (well_formed g.steps r)) ∷ []

-- 16 gives back the marking handed in; no entry is looked at before the record has applied
unfoldable pub the_restoring : Graph → Record → List ℕ → Marking → Ran
the_restoring g r j m =
    ran_of (first (restore_lines g r j m)) (cond (applies r m) (run_from g (gives r m) 0 (entries j)) (Err (stopped 0 m NotApplied)))
