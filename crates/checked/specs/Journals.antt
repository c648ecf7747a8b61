-- The request's two sentences over journals, and the accident that they rule out, with records too. Each is said twice: over the cut behind
-- the last reboot, and over whatever steps stand behind it (`Behind`). Assumes nothing.
use Rattle.std.specs.Prelude.{ℕ, suc, ◌+◌, ◌%◌, ◌≤◌, ◌<◌, ◌≡◌, refl, ◌↔◌, List, ◌∷◌, ◌++◌, Bool, true, false}
use Rattle.std.specs.Prelude.{cond, length, get_or, take, drop, replicate, Result, Ok}
use Rattle.std.proofs.Common.{sym, ap, ◌∙◌, subst, append_assoc, arith}
use Rattle.std.proofs.Math.Seq.{split_at}
use Rattle.moves.specs.declared.Marking.{Marking}
use Rattle.moves.specs.declared.Refusal.{Refusal}
use Rattle.moves.specs.declared.Entry.{Entry}
use Rattle.moves.specs.Move.{entry_of, is_finished}
use Rattle.moves.specs.Inside.{Inside, fits_inside, inside_fits}
use Rattle.rules.specs.declared.Ending.{Ending}
use Rattle.rules.specs.Graph.{graph_verdict}
use Rattle.rules.specs.Answers.{the_asked, the_ending}
use Rattle.rules.specs.Laws.{ending_clear, ending_inside}
use Rattle.rules.proofs.Taken.{asked_allowed}
use Rattle.journal.specs.Ran.{ended}
use Rattle.journal.specs.Journal.{entries}
use Rattle.journal.specs.Run.{the_run}
use Rattle.journal.specs.Laws.{entries_append}
use Rattle.runs.specs.Runs.{Passes, passes_both, passes_within, ended_passes}
use Rattle.records.specs.declared.Record.{Record}
use Rattle.folding.specs.Answers.{the_fold, the_restoring}
use Rattle.folded.specs.Theorems.{restore_passes}
use Rattle.cabinet.specs.Cabinet.{reboot, publish, cabinet, at_first, arms_fit}
use Rattle.cabinet.specs.Laws.{arms_low, arms_high, cabinet_clear, first_fits}
use Rattle.checked.specs.Words.{steps_taken, steps_of, checks_in, one_to, Occurs, since_reboot, Behind, rebooted}
use Rattle.checked.specs.Lists.{behind_since, counted_occurs, steps_append}
use Rattle.checked.specs.Checked.{included_all, published_all, finished_all, finished_counted, only_checks}

pub clear : (b : ℕ) → arms_fit b ≡ true → graph_verdict (cabinet b) ≡ Ok tt
clear b arms = cabinet_clear b (let h : 2 ≤ b = arms_low b arms in omega arith) (arms_high b arms)

pub inside_first : (b : ℕ) → Inside (b + 2) (at_first b)
inside_first b = fits_inside (b + 2) (at_first b) (first_fits b)

-- the ending of a marking that was reached
pub ending_reached : (b : ℕ) → arms_fit b ≡ true → (m : Marking) → Inside (b + 2) m
    → the_ending (cabinet b) m ≡ cond (is_finished m) (Ok Ending.Finished) (Ok Ending.Open)
ending_reached b arms m i = ending_clear (cabinet b) m (clear b arms) ∙ ending_inside (b + 2) m (inside_fits (b + 2) m i)

by_ending : (f : Bool) (e : Result Ending Refusal) → e ≡ cond f (Ok Ending.Finished) (Ok Ending.Open)
    → (e ≡ Ok Ending.Finished) ↔ (f ≡ true)
by_ending true e q = (λ z. refl, λ z. q)
by_ending false e q = (
  λ z. absurd (let s : Ok Ending.Open ≡ Ok Ending.Finished = sym q ∙ z in let y : ◌≡◌ {A = ℕ} 0 1 = cc in let w : ⊥ = omega arith in w),
  λ z. absurd (let y : ◌≡◌ {A = ℕ} 0 1 = cc in let w : ⊥ = omega arith in w),
)

both_ways : {A B C : Type 0} → A ↔ B → B ↔ C → A ↔ C
both_ways p q = (λ a. q.0 (p.0 a), λ c. p.1 (q.1 c))

-- ---- over entries that pass from the start

module _ (b : ℕ) (arms : arms_fit b ≡ true) (es : List Entry) (m : Marking) (p : Passes (cabinet b) (at_first b) es m) where
  reached : Inside (b + 2) m
  reached = passes_within (cabinet b) (at_first b) m es (clear b arms) (inside_first b) p

  pub ended_exactly : (the_ending (cabinet b) m ≡ Ok Ending.Finished) ↔ (is_finished m ≡ true)
  ended_exactly = by_ending (is_finished m) (the_ending (cabinet b) m) (ending_reached b arms m reached)

  pub asked_all : (person role : ℕ) → the_asked (cabinet b) m (entry_of person (publish b) role) ≡ Ok tt
      → checks_in b (since_reboot (steps_taken es)) ≡ one_to b
  asked_all person role e =
      let all = included_all b arms es m p (asked_allowed (cabinet b) m (entry_of person (publish b) role) e).1.included in
      only_checks b (since_reboot (steps_taken es)) all.0 all.1

  pub behind_all : (front after behind : List ℕ) → steps_taken es ≡ front ++ (publish b ∷ after) → Behind front behind
      → (r : ℕ) × (behind ≡ one_to b ++ replicate r (publish b))
  behind_all front after behind e h =
      let all = published_all b arms es m p front after e in
      (all.0, sym (behind_since front behind h) ∙ all.1)

-- ---- over a journal that runs through from the start

module _ (b : ℕ) (arms : arms_fit b ≡ true) (j : List ℕ) (m : Marking) (n : ℕ) (ran : the_run (cabinet b) (at_first b) j ≡ Ok (ended m n)) where
  passed : Passes (cabinet b) (at_first b) (entries j) m
  passed = (ended_passes (cabinet b) (at_first b) m n j ran).2

  -- What is published was checked: behind the reboot that came last, or from the start on, stand check 1 to check b, in this order, once
  pub published_checked : (i : ℕ) → i < length (steps_of j) → get_or (steps_of j) i 0 ≡ publish b
      → checks_in b (since_reboot (take i (steps_of j))) ≡ one_to b
  published_checked i h e =
      let all = published_all b arms (entries j) m passed (take i (steps_of j)) (drop (suc i) (steps_of j))
      (split_at (steps_of j) i 0 h ∙ ap (λ (s : ℕ). take i (steps_of j) ++ (s ∷ drop (suc i) (steps_of j))) e) in
      only_checks b (since_reboot (take i (steps_of j))) all.0 all.1

  -- the same with no cut: wherever a publish stands
  pub published_behind : (front after behind : List ℕ) → steps_of j ≡ front ++ (publish b ∷ after) → Behind front behind
      → checks_in b behind ≡ one_to b
  published_behind front after behind e h =
      let all = behind_all b arms (entries j) m passed front after behind e h in
      only_checks b behind all.0 all.1

  -- and besides the checks only publishing: what was published once may be published again
  pub published_only : (front after behind : List ℕ) → steps_of j ≡ front ++ (publish b ∷ after) → Behind front behind
      → (r : ℕ) × (behind ≡ one_to b ++ replicate r (publish b))
  published_only front after behind e h = behind_all b arms (entries j) m passed front after behind e h

  -- The job is finished if, and only if, no check is missing behind the last reboot, or from the start on
  pub finished_checked : (the_ending (cabinet b) m ≡ Ok Ending.Finished) ↔ ((k : ℕ) → 1 ≤ k → k ≤ b → Occurs k (since_reboot (steps_of j)))
  finished_checked = both_ways (ended_exactly b arms (entries j) m passed) (finished_all b arms (entries j) m passed)

  pub finished_listed : (the_ending (cabinet b) m ≡ Ok Ending.Finished) ↔ (checks_in b (since_reboot (steps_of j)) ≡ one_to b)
  finished_listed = both_ways (ended_exactly b arms (entries j) m passed) (finished_counted b arms (entries j) m passed)

  -- the same with no cut
  pub finished_behind : (behind : List ℕ) → Behind (steps_of j) behind
      → (the_ending (cabinet b) m ≡ Ok Ending.Finished) ↔ ((k : ℕ) → 1 ≤ k → k ≤ b → Occurs k behind)
  finished_behind behind h =
      subst (λ (l : List ℕ). (the_ending (cabinet b) m ≡ Ok Ending.Finished) ↔ ((k : ℕ) → 1 ≤ k → k ≤ b → Occurs k l))
      (behind_since (steps_of j) behind h) finished_checked

  -- nobody may publish in any role before they have
  pub publish_held : (person role : ℕ) → the_asked (cabinet b) m (entry_of person (publish b) role) ≡ Ok tt
      → checks_in b (since_reboot (steps_of j)) ≡ one_to b
  publish_held person role e = asked_all b arms (entries j) m passed person role e

-- ---- the accident

-- After a reboot no journal publishes before the whole round: of the entries between them, of which none reboots, every check is one
pub accident : (b : ℕ) → arms_fit b ≡ true → (before between after : List ℕ) (p r q t : ℕ) (m : Marking) (n : ℕ)
    → the_run (cabinet b) (at_first b) (before ++ (p ∷ reboot ∷ r ∷ (between ++ (q ∷ publish b ∷ t ∷ after)))) ≡ Ok (ended m n)
    → length before % 3 ≡ 0 → length between % 3 ≡ 0 → (Occurs reboot (steps_of between) → ⊥)
    → (k : ℕ) → 1 ≤ k → k ≤ b → Occurs k (steps_of between)
unfolding entries steps_taken
accident b arms before between after p r q t m n ran whole_before whole-between none k h l =
    let steps : steps_of (before ++ (p ∷ reboot ∷ r ∷ (between ++ (q ∷ publish b ∷ t ∷ after))))
    ≡ (steps_of before ++ (reboot ∷ steps_of between)) ++ (publish b ∷ steps_of after) =
    ap steps_taken (entries_append before (p ∷ reboot ∷ r ∷ (between ++ (q ∷ publish b ∷ t ∷ after))) whole_before
    ∙ ap (λ (es : List Entry). entries before ++ (entry_of p reboot r ∷ es)) (entries_append between (q ∷ publish b ∷ t ∷ after) whole-between))
    ∙ steps_append (entries before) (entry_of p reboot r ∷ (entries between ++ (entry_of q (publish b) t ∷ entries after)))
    ∙ ap (λ (s : List ℕ). steps_of before ++ (reboot ∷ s)) (steps_append (entries between) (entry_of q (publish b) t ∷ entries after))
    ∙ sym (append_assoc (steps_of before) (reboot ∷ steps_of between) (publish b ∷ steps_of after)) in
    let all = published_only b arms (before ++ (p ∷ reboot ∷ r ∷ (between ++ (q ∷ publish b ∷ t ∷ after)))) m n ran
    (steps_of before ++ (reboot ∷ steps_of between)) (steps_of after) (steps_of between) steps (rebooted (steps_of before) refl none) in
    subst (Occurs k) (sym all.1) (counted_occurs k b (replicate all.0 (publish b)) h l)

-- Nor where a part of the journal was folded, and the rest went on from its record: `first` was run, `folded` is known by its record alone
module _ (b : ℕ) (arms : arms_fit b ≡ true) (first folded rest : List ℕ) (p : Record) (x m : Marking) (k n : ℕ)
    (ran : the_run (cabinet b) (at_first b) first ≡ Ok (ended x k)) (made : the_fold (cabinet b) folded ≡ Ok p)
    (restored : the_restoring (cabinet b) p rest x ≡ Ok (ended m n)) where
  abbrev steps : List ℕ
  steps = steps_of first ++ (steps_of folded ++ steps_of rest)

  abbrev all_entries : List Entry
  all_entries = entries first ++ (entries folded ++ entries rest)

  all_passed : Passes (cabinet b) (at_first b) (entries first ++ (entries folded ++ entries rest)) m
  all_passed =
      passes_both (cabinet b) (at_first b) x m (entries first) (entries folded ++ entries rest)
      (ended_passes (cabinet b) (at_first b) x k first ran).2 (restore_passes (cabinet b) folded rest p x m n made restored)

  all_steps : steps_taken (entries first ++ (entries folded ++ entries rest)) ≡ steps
  all_steps = steps_append (entries first) (entries folded ++ entries rest)
      ∙ ap (λ (s : List ℕ). steps_of first ++ s) (steps_append (entries folded) (entries rest))

  pub accident_restored : (front after behind : List ℕ) → steps ≡ front ++ (publish b ∷ after) → Behind front behind → checks_in b behind ≡ one_to b
  accident_restored front after behind e h =
      let all = behind_all b arms all_entries m all_passed front after behind (all_steps ∙ e) h in
      only_checks b behind all.0 all.1

  -- whoever asks to publish after it is refused before all checks have occurred
  pub held_restored : (person role : ℕ) → the_asked (cabinet b) m (entry_of person (publish b) role) ≡ Ok tt
      → checks_in b (since_reboot steps) ≡ one_to b
  held_restored person role e =
      ap (λ (s : List ℕ). checks_in b (since_reboot s)) (sym all_steps) ∙ asked_all b arms all_entries m all_passed person role e

  -- and the job is finished as after the journal itself
  pub finished_restored : (behind : List ℕ) → Behind steps behind
      → (the_ending (cabinet b) m ≡ Ok Ending.Finished) ↔ ((i : ℕ) → 1 ≤ i → i ≤ b → Occurs i behind)
  finished_restored behind h =
      subst (λ (l : List ℕ). (the_ending (cabinet b) m ≡ Ok Ending.Finished) ↔ ((i : ℕ) → 1 ≤ i → i ≤ b → Occurs i l))
      (ap since_reboot all_steps ∙ behind_since steps behind h)
      (both_ways (ended_exactly b arms all_entries m all_passed) (finished_all b arms all_entries m all_passed))
