-- What walks are like, and that walk and run agree.
-- Assumes nothing.
use Rattle.std.specs.Prelude.{ℕ, zero, suc, ◌+◌, ◌*◌, ◌≤◌, ◌<◌, ◌≡◌, refl, List, [], ◌∷◌, true, false, length, take, drop}
use Rattle.std.proofs.Common.{sym, ap, ◌∙◌, subst, arith, take_all, drop-drop}
use Rattle.std.proofs.Math.Seq.{take-nil}
use Rattle.rules.specs.Graph.{Graph}
use Rattle.moves.specs.Move.{entry_of}
use Rattle.moves.specs.declared.Marking.{Marking}
use Rattle.moves.specs.declared.Entry.{Entry}
use Rattle.moves.specs.declared.Refusal.{Refusal}
use Rattle.moves.specs.Move.{Move}
use Rattle.moves.specs.First.{number_of}
use Rattle.rules.specs.Answers.{the_move}
use Rattle.journal.specs.Ran.{Ran}
use Rattle.journal.specs.Ran.{Walked}
use Rattle.journal.specs.declared.Stride.{Stride}
use Rattle.journal.specs.Journal.{entries, entry_at, length_fits}
use Rattle.journal.specs.Run.{the_run}
use Rattle.journal.specs.Walk.{hand_out, stride_at}
use Rattle.journal.specs.Laws.{walk_fits, walk_length, walk_entry, walk_end, fits_threes, entries_length, entries_at}
use Rattle.runs.specs.Runs.{Passes, ended_passes, stopped_first}
use Rattle.std.specs.Prelude.{Ok, Err, Some, None}
use Rattle.moves.specs.Move.{denied}
use Rattle.journal.specs.Ran.{ended}
use Rattle.journal.specs.Ran.{stopped}

-- ---- walk and run agree entry by entry

-- an entry that is handed out stands before what is handed out later
unfoldable pub handed_before : Walked → List Entry → List Entry
handed_before (Ok (Some e)) later = e ∷ later
handed_before (Ok None) later = later
handed_before (Err r) later = later

-- what n calls of a walk hand out, from place k on
unfoldable pub handed : ℕ → List ℕ → ℕ → List Entry
handed zero j k = []
handed (suc n) j k = handed_before (stride_at j k).said (handed n j (stride_at j k).place)

-- it is the entries from entry k on, at most n of them, in their order, and none twice
pub walk_hands : (n : ℕ) (j : List ℕ) (k : ℕ) → length_fits j ≡ true → handed n j k ≡ take n (drop k (entries j))
unfolding handed handed_before hand_out
walk_hands zero j k f = refl
walk_hands (suc n) j k f = go (drop k (entries j)) refl (λ i. walk_hands n j i f)
  where
    go : (es : List Entry) → drop k (entries j) ≡ es → ((i : ℕ) → handed n j i ≡ take n (drop i (entries j)))
        → handed_before (stride_at j k).said (handed n j (stride_at j k).place) ≡ take (suc n) (drop k (entries j))
    go [] q more =
        ap (λ (s : Stride). handed_before s.said (handed n j s.place)) (walk_fits j k f ∙ ap (hand_out k) q)
        ∙ more k ∙ ap (take n) q ∙ take-nil n ∙ ap (take (suc n)) (sym q)
    go (e ∷ rest) q more =
        ap (λ (s : Stride). handed_before s.said (handed n j s.place)) (walk_fits j k f ∙ ap (hand_out k) q)
        ∙ ap (λ (t : List Entry). e ∷ t) (more (k + 1) ∙ ap (take n) (sym (drop-drop 1 k (entries j)) ∙ ap (drop 1) q))
        ∙ ap (take (suc n)) (sym q)

-- over a journal of bad length nothing is ever handed out
pub walk_hands_none : (n : ℕ) (j : List ℕ) (k : ℕ) → length_fits j ≡ false → handed n j k ≡ []
unfolding handed handed_before
walk_hands_none zero j k f = refl
walk_hands_none (suc n) j k f =
    ap (λ (s : Stride). handed_before s.said (handed n j s.place)) (walk_length j k f) ∙ walk_hands_none n j k f

-- where a run stops, the walk hands out the entry that it stopped at, after those that passed
pub stopped_walk : (g : Graph) (m m' : Marking) (k : ℕ) (r : Refusal) (j : List ℕ) → the_run g m j ≡ Err (stopped k m' r) → 11 ≤ number_of r
    → Passes g m (handed k j 0) m' × ((stride_at j k).said ≡ Ok (Some (entry_at j k))) × (the_move g m' (entry_at j k) ≡ Err (denied m' r))
stopped_walk g m m' k r j e high =
    let known = stopped_first g m m' k r j e high in
    let count : length (entries j) * 3 ≡ length j = entries_length j (fits_threes j known.0.long) in
    let low : k < length (entries j) = known.1.small in
    let room : 3 * k + 3 ≤ length j = omega arith in (
      subst (λ (es : List Entry). Passes g m es m') (sym (walk_hands k j 0 known.0.long)) known.1.before,
      ap (λ (s : Stride). s.said) (walk_entry j k known.0.long room),
      ap (the_move g m') (sym (entries_at j k (entry_of 0 0 0) room)) ∙ known.1.refused (entry_of 0 0 0),
    )

-- where a run ends, the walk has handed out what passed, and says so
pub ended_walk : (g : Graph) (m m' : Marking) (n : ℕ) (j : List ℕ) → the_run g m j ≡ Ok (ended m' n) → Passes g m (handed n j 0) m'
    × ((stride_at j n).said ≡ Ok None)
ended_walk g m m' n j e =
    let known = ended_passes g m m' n j e in
    let count : length (entries j) * 3 ≡ length j = entries_length j (fits_threes j known.0.long) in
    let all : n ≡ length (entries j) = known.1 in
    let past : length j ≤ 3 * n = omega arith in (
      subst (λ (es : List Entry). Passes g m es m')
          (sym (walk_hands n j 0 known.0.long ∙ take_all n (entries j) (let z : length (entries j) ≤ n = omega arith in z))) known.2,
      ap (λ (s : Stride). s.said) (walk_end j n known.0.long past),
    )
