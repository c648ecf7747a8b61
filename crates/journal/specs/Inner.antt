-- What the code runs by: where nothing is against graph and marking, only the entry itself is left to be tested. Nothing here has to be
-- believed: `run_from_lem` says that it is the run. Assumes nothing.
use Rattle.std.specs.Prelude.{ℕ, ◌+◌, ◌≡◌, refl, List, [], ◌∷◌}
use Rattle.std.proofs.Common.{ap, ◌∙◌}
use Rattle.moves.specs.declared.Marking.{Marking}
use Rattle.moves.specs.declared.Entry.{Entry}
use Rattle.moves.specs.First.{Verdict}
use Rattle.moves.specs.Move.{Move}
use Rattle.moves.specs.Inside.{Inside, inside_fits}
use Rattle.rules.specs.Graph.{Graph, graph_verdict}
use Rattle.rules.specs.Answers.{entry_move}
use Rattle.rules.specs.Laws.{move_inside}
use Rattle.rules.specs.Sound.{clear_sound}
use Rattle.rules.specs.Entries.{entry_inside}
use Rattle.journal.specs.Ran.{Ran}
use Rattle.journal.specs.Run.{go_on, run_from}
use Rattle.std.specs.Prelude.{Ok, Err}
use Rattle.journal.specs.Ran.{ended}

-- the entries from entry k on, in marking m
unfoldable pub run_on : Graph → Marking → ℕ → List Entry → Ran
run_on g m k [] = Ok (ended m k)
run_on g m k (e ∷ rest) = go_on k m (entry_move g m e) (λ next. run_on g next (k + 1) rest)

-- an allowed entry keeps the marking within the graph, so that graph and marking need not be tested again
pub run_from_lem : (g : Graph) (m : Marking) (k : ℕ) (es : List Entry) → graph_verdict g ≡ Ok tt → Inside g.steps m
    → run_from g m k es ≡ run_on g m k es
unfolding run_from run_on go_on
run_from_lem g m k [] clear i = refl
run_from_lem g m k (e ∷ rest) clear i =
    ap (λ (o : Move). go_on k m o (λ next. run_from g next (k + 1) rest)) (move_inside g m e clear (inside_fits g.steps m i))
    ∙ go (entry_move g m e) refl (λ next. run_from_lem g next (k + 1) rest clear)
  where
    go : (o : Move) → entry_move g m e ≡ o
        → ((next : Marking) → Inside g.steps next → run_from g next (k + 1) rest ≡ run_on g next (k + 1) rest)
        → go_on k m o (λ next. run_from g next (k + 1) rest) ≡ go_on k m o (λ next. run_on g next (k + 1) rest)
    go (Ok next) q more = more next (entry_inside g m next e (clear_sound g clear) i q)
    go (Err d) q more = refl
