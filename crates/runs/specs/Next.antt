-- One entry more. Whoever has run a journal and asks for an entry at its end is told what running the journal with that entry behind it
-- would tell. So an entry that is written only where it is allowed leaves a journal that runs through, and one that is not allowed would
-- have stopped it. Assumes nothing.
use Rattle.std.specs.Prelude.{ℕ, ◌+◌, ◌%◌, ◌≤◌, ◌≡◌, refl, List, [], ◌∷◌, ◌++◌, true, length}
use Rattle.std.proofs.Common.{ap, ◌∙◌, arith, length-append, eq-eqb, le-leb}
use Rattle.sets.specs.Truth.{and_intro}
use Rattle.moves.specs.declared.Marking.{Marking}
use Rattle.moves.specs.First.{Verdict}
use Rattle.moves.specs.Move.{entry_of, move_of}
use Rattle.rules.specs.Graph.{Graph}
use Rattle.rules.specs.Answers.{the_asked, the_move, after_entry}
use Rattle.journal.specs.Ran.{Ran}
use Rattle.journal.specs.Journal.{entries, length_fits}
use Rattle.journal.specs.Run.{go_on, run_from, the_run}
use Rattle.journal.specs.Laws.{fits_threes, entries_append, run_clear}
use Rattle.runs.specs.Runs.{and_then, run_append, Runnable, ended_passes, passes_run}
use Rattle.std.specs.Prelude.{Ok, Err}
use Rattle.journal.specs.Ran.{ended}
use Rattle.journal.specs.Ran.{stopped}

-- what is told of entry k, asked for in marking m, with `next` the marking after it
unfoldable pub next_of : ℕ → Marking → Verdict → Marking → Ran
next_of k m (Ok _) next = Ok (ended next (k + 1))
next_of k m (Err r) next = Err (stopped k m r)

-- there is room for it: a full journal has none
pub room_fits : (j : List ℕ) (p s r : ℕ) → length_fits j ≡ true → length j + 3 ≤ 65535 → length_fits (j ++ p ∷ s ∷ r ∷ []) ≡ true
room_fits j p s r f room =
    let more : length (j ++ p ∷ s ∷ r ∷ []) ≡ length j + 3 = length-append j (p ∷ s ∷ r ∷ []) in
    let threes : length j % 3 ≡ 0 = fits_threes j f in
    and_intro (eq-eqb (length (j ++ p ∷ s ∷ r ∷ []) % 3) 0 (omega arith)) (le-leb (length (j ++ p ∷ s ∷ r ∷ [])) 65535 (omega arith))

pub asked_next : (g : Graph) (m m' : Marking) (k : ℕ) (j : List ℕ) (p s r : ℕ) → the_run g m j ≡ Ok (ended m' k) → length j + 3 ≤ 65535
    → the_run g m (j ++ p ∷ s ∷ r ∷ []) ≡ next_of k m' (the_asked g m' (entry_of p s r)) (after_entry g m' (entry_of p s r))
unfolding and_then run_from go_on entries the_move move_of next_of
asked_next g m m' k j p s r e room =
    let all = ended_passes g m m' k j e in
    let ready : Runnable g m j = all.0 in
    let ran : run_from g m 0 (entries j) ≡ Ok (ended m' k) =
    passes_run g m m' 0 (entries j) all.2
    ∙ ap (λ (x : ℕ). Ok (ended m' x)) (let count : k ≡ length (entries j) = all.1 in let z : 0 + length (entries j) ≡ k = omega arith in z) in
    run_clear g m (j ++ p ∷ s ∷ r ∷ []) ready.clear (room_fits j p s r ready.long room) ready.within
    ∙ ap (run_from g m 0) (entries_append j (p ∷ s ∷ r ∷ []) (fits_threes j ready.long))
    ∙ run_append g m 0 (entries j) (entry_of p s r ∷ [])
    ∙ ap (λ (v : Ran). and_then v (λ n i. run_from g n i (entry_of p s r ∷ []))) ran
    ∙ go (the_asked g m' (entry_of p s r))
  where
    go : (o : Verdict)
        → go_on k m' (move_of o m' (after_entry g m' (entry_of p s r))) (λ next. Ok (ended next (k + 1)))
        ≡ next_of k m' o (after_entry g m' (entry_of p s r))
    go (Ok _) = refl
    go (Err q) = refl
