-- Running a journal.
use Rattle.std.specs.Prelude.{ℕ, ◌+◌, List, [], ◌∷◌, ◌++◌, not}
use Rattle.rules.specs.Graph.{Graph, graph_lines}
use Rattle.moves.specs.declared.Marking.{Marking}
use Rattle.moves.specs.declared.Entry.{Entry}
use Rattle.moves.specs.declared.Refusal.TheVariants.{Length}
use Rattle.moves.specs.First.{Verdict}
use Rattle.moves.specs.Move.{Move}
use Rattle.moves.specs.First.{Line, first, number_of, waiting_of}
use Rattle.rules.specs.Answers.{the_move, marking_lines}
use Rattle.moves.specs.Move.{no_marking}
use Rattle.journal.specs.Ran.{Ran}
use Rattle.journal.specs.Journal.{entries, length_fits}
use Rattle.std.specs.Prelude.{Ok, Err}
use Rattle.journal.specs.Ran.{ended}
use Rattle.journal.specs.Ran.{stopped}

-- entry k in marking m: where it is allowed the run goes on with the marking after, else it stops with the marking before
unfoldable pub go_on : ℕ → Marking → Move → (Marking → Ran) → Ran
go_on k m (Ok next) rest = rest next
go_on k m (Err d) rest = Err (stopped k m d.refusal)

-- the entries are taken in turn until one is not allowed: its index, its refusal and the marking it met are the answer. Where none is
-- refused, the last marking and the count of entries are. Here of the entries from entry k on, in marking m
unfoldable pub run_from : Graph → Marking → ℕ → List Entry → Ran
run_from g m k [] = Ok (ended m k)
run_from g m k (e ∷ rest) = go_on k m (the_move g m e) (λ next. run_from g next (k + 1) rest)

-- ---- the table, before any entry is looked at

abbrev pub length_lines : List ℕ → List Line
length_lines j = (Length, not (length_fits j)) ∷ []

abbrev pub run_lines : Graph → Marking → List ℕ → List Line
run_lines g m j = graph_lines g ++ length_lines j ++ marking_lines g m

-- ---- the answer

-- a refusal below 11 holds zeros in every further place
unfoldable pub ran_of : Verdict → Ran → Ran
ran_of (Ok _) ran = ran
ran_of (Err r) ran = Err (stopped 0 no_marking r)

-- any journal on anything
unfoldable pub the_run : Graph → Marking → List ℕ → Ran
the_run g m j = ran_of (first (run_lines g m j)) (run_from g m 0 (entries j))

-- ---- number and values of each case

-- 0 where all pass
unfoldable pub number_of_run : Ran → ℕ
number_of_run (Ok e) = 0
number_of_run (Err d) = number_of d.refusal

-- the number of entries, or the index of the refused one
unfoldable pub index_of_run : Ran → ℕ
index_of_run (Ok e) = e.entries
index_of_run (Err d) = d.index

-- with 15 the steps that are waited for
unfoldable pub waiting_of_run : Ran → ℕ
waiting_of_run (Ok e) = 0
waiting_of_run (Err d) = waiting_of d.refusal

-- the end marking, or the marking before the refused entry
unfoldable pub marking_of_run : Ran → Marking
marking_of_run (Ok e) = e.marking
marking_of_run (Err d) = d.marking
