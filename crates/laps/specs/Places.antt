-- Where the positions of stem, lap, lap, .. stand; that entries and markings come again from the second lap on; and so that a lap
-- which passes twice passes for ever. Assumes nothing.
use Rattle.std.specs.Prelude.{ℕ, ◌+◌, ◌-◌, ◌%◌, ◌≤◌, ◌<◌, refl, ◌⊎◌, List, Bool, cond, get_or}
use Rattle.std.proofs.Math.Path.{◌≡◌, ap}
use Rattle.std.proofs.Common.{sym, ◌∙◌, inl, inr, mod-eq_of_lt}
use Rattle.std.proofs.Math.Bool.{true, false}
use Rattle.std.proofs.Math.Nat.{add-mod_right}
use native.Mathlib.Omega.{arith}
use Rattle.std.proofs.Math.Decide.{dec_lt}
use Rattle.std.proofs.Math.ListN.{length}
use Rattle.std.proofs.Math.Dec.{ltb}
use borrow.Author.Tests.{lt-ltb, le-ltb}
use Rattle.sets.specs.Sets.{has}
use Rattle.rules.specs.Graph.{Graph, graph_verdict}
use Rattle.moves.specs.Move.{entry_of}
use Rattle.moves.specs.Move.{Move}
use Rattle.moves.specs.Inside.{Inside}
use Rattle.moves.specs.declared.Marking.{Marking}
use Rattle.moves.specs.declared.Entry.{Entry}
use Rattle.moves.specs.declared.Refusal.{Refusal}
use Rattle.moves.specs.First.{Verdict}
use Rattle.folding.specs.Effect.{after_all}
use Rattle.folding.specs.Laws.{after_twice}
use Rattle.laps.specs.declared.Pass.{Pass}
use Rattle.laps.specs.Endless.{moved_at, TakenAt, marking_at, DueAt, Waiting, Starving}
use Rattle.laps.specs.Inner.{verdict_at, Unbarred, taken_clear, moves_at}
use Rattle.laps.specs.Laps.{endless_run, index_at, pass_at, number_of_pass, Stops}
use Rattle.laps.specs.Legs.{chunk, chunk_is, after_chunk, Throughout}
use Rattle.laps.specs.Repeats.{Decides, for_ever, starving_from, period_decides}
use Rattle.std.specs.Prelude.{Ok, Err}
use Rattle.moves.specs.Move.{denied}

-- ---- where a position stands

module _ (stem lap : List Entry) (some : 0 < length lap) where
  -- the lap's first and second time begin at
  abbrev first_lap_at : ℕ
  first_lap_at = length stem

  abbrev second_lap_at : ℕ
  second_lap_at = length stem + length lap

  pub in_stem : (d : ℕ) → d < length stem → (endless_run stem lap d ≡ get_or stem d (entry_of 0 0 0)) × (index_at stem lap d ≡ d)
      × (pass_at stem lap d ≡ 0)
  unfolding endless_run index_at pass_at
  in_stem d h = let q : ltb d (length stem) ≡ true = lt-ltb d (length stem) h in (simp q, simp q, simp q)

  -- the place in the lap
  place : (i d : ℕ) → d < length lap → (i ≡ length stem + d) ⊎ (i ≡ length stem + length lap + d) → (i - length stem) % length lap ≡ d
  place i d h (inl p) = ap (λ (x : ℕ). x % length lap) (let z : i - length stem ≡ d = omega arith in z) ∙ mod-eq_of_lt h
  place i d h (inr p) = ap (λ (x : ℕ). x % length lap) (let z : i - length stem ≡ d + length lap = omega arith in z)
      ∙ add-mod_right d (length lap) ∙ mod-eq_of_lt h

  pub in_lap : (i d : ℕ) → d < length lap → (i ≡ length stem + d) ⊎ (i ≡ length stem + length lap + d) → length stem ≤ i
      → (endless_run stem lap i ≡ get_or lap d (entry_of 0 0 0)) × (index_at stem lap i ≡ d)
  unfolding endless_run index_at
  in_lap i d h p l =
      let q : ltb i (length stem) ≡ false = le-ltb i (length stem) l in
      let r : (i - length stem) % length lap ≡ d = place i d h p in
      (simp (q, r), simp (q, r))

  pub pass_first : (i : ℕ) → length stem ≤ i → i < second_lap_at → pass_at stem lap i ≡ 1
  unfolding pass_at
  pass_first i h l =
      let q : ltb i (length stem) ≡ false = le-ltb i (length stem) h in
      let r : ltb i (length stem + length lap) ≡ true = lt-ltb i (length stem + length lap) l in
      simp (q, r)

  pub pass_second : (i : ℕ) → second_lap_at ≤ i → i < second_lap_at + length lap → pass_at stem lap i ≡ 2
  unfolding pass_at
  pass_second i h l =
      let q : ltb i (length stem) ≡ false = le-ltb i (length stem) (let z : length stem ≤ i = omega arith in z) in
      let r : ltb i (length stem + length lap) ≡ false = le-ltb i (length stem + length lap) h in
      let t : ltb i (length stem + length lap + length lap) ≡ true = lt-ltb i (length stem + length lap + length lap) l in
      simp (q, r, t)

  -- before the third time there is no pass 3
  pass_low : (i : ℕ) → i < second_lap_at + length lap → pass_at stem lap i < 3
  unfolding pass_at
  pass_low i h = go (ltb i (length stem)) (ltb i (length stem + length lap))
    where
      low : ltb i (length stem + length lap + length lap) ≡ true
      low = lt-ltb i (length stem + length lap + length lap) h

      go : (p q : Bool) → cond p 0 (cond q 1 (cond (ltb i (length stem + length lap + length lap)) 2 3)) < 3
      go true q = omega arith
      go false true = omega arith
      go false false = simp low (omega arith)

  -- from the lap on the entries come again with every lap
  run_again : (i : ℕ) → length stem ≤ i → endless_run stem lap (i + length lap) ≡ endless_run stem lap i
  unfolding endless_run
  run_again i h =
      let q : ltb i (length stem) ≡ false = le-ltb i (length stem) h in
      let r : ltb (i + length lap) (length stem) ≡ false =
      le-ltb (i + length lap) (length stem) (let z : length stem ≤ i + length lap = omega arith in z) in
      let t : (i + length lap - length stem) % length lap ≡ (i - length stem) % length lap =
      ap (λ (x : ℕ). x % length lap) (let z : i + length lap - length stem ≡ i - length stem + length lap = omega arith in z)
      ∙ add-mod_right (i - length stem) (length lap) in
      simp (q, r, t)

  pub stem_stands : chunk (endless_run stem lap) (length stem) 0 ≡ stem
  stem_stands = chunk_is (endless_run stem lap) (entry_of 0 0 0) stem 0
      (λ k h. ap (endless_run stem lap) (let z : 0 + k ≡ k = omega arith in z) ∙ (in_stem k h).0)

  pub lap_stands : chunk (endless_run stem lap) (length lap) first_lap_at ≡ lap
  lap_stands =
      chunk_is (endless_run stem lap) (entry_of 0 0 0) lap first_lap_at
      (λ k h. (in_lap (length stem + k) k h (inl refl) (let z : length stem ≤ length stem + k = omega arith in z)).0)

  pub lap_stands_again : chunk (endless_run stem lap) (length lap) second_lap_at ≡ lap
  lap_stands_again =
      chunk_is (endless_run stem lap) (entry_of 0 0 0) lap second_lap_at
      (λ k h. (in_lap (length stem + length lap + k) k h (inr refl)
      (let z : length stem ≤ length stem + length lap + k = omega arith in z)).0)

  -- ---- what a lap does, done twice, is what it does once: the marking comes again

  module _ (g : Graph) (m : Marking) where
    abbrev e : ℕ → Entry
    e i = endless_run stem lap i

    abbrev M : ℕ → Marking
    M i = marking_at g m e i

    abbrev says : ℕ → Verdict
    says i = verdict_at g m e i

    marking_again : M (second_lap_at + length lap) ≡ M second_lap_at
    marking_again =
        let one : M second_lap_at ≡ after_all g (M first_lap_at) lap = sym (after_chunk g m e (length lap) first_lap_at)
        ∙ ap (after_all g (M first_lap_at)) lap_stands in
        let two : M (second_lap_at + length lap) ≡ after_all g (M second_lap_at) lap = sym (after_chunk g m e (length lap) second_lap_at)
        ∙ ap (after_all g (M second_lap_at)) lap_stands_again in
        two ∙ ap (λ (x : Marking). after_all g x lap) one ∙ after_twice g lap (M first_lap_at) ∙ sym one

    entry_again : (i : ℕ) → second_lap_at ≤ i → e (i + length lap) ≡ e i
    entry_again i h = run_again i (let z : length stem ≤ i = omega arith in z)

    -- a lap allowed twice is allowed for ever
    pub twice_for_ever : ((i : ℕ) → i < second_lap_at + length lap → says i ≡ Ok tt) → Unbarred g m e
    twice_for_ever h = for_ever g m e second_lap_at (length lap) some entry_again marking_again h

    -- the steps that wait throughout the second lap are those that starve
    pub second_decides : (w x : ℕ) → Throughout g m e second_lap_at (length lap) w x → ((i s : ℕ) → DueAt g m e i s → has w s ≡ true)
        → Decides g m e x
    second_decides = period_decides g m e second_lap_at (length lap) some entry_again marking_again

    -- a step that starves waits at every position from the end of the first lap on
    pub starving_laps : (s : ℕ) → Starving g m e s → (i : ℕ) → second_lap_at ≤ i → Waiting g m e i s
    starving_laps = starving_from g m e second_lap_at (length lap) some entry_again marking_again

    -- pass 3 never occurs
    pub never_later : graph_verdict g ≡ Ok tt → Inside g.steps m → (k : ℕ) (r : Refusal) → Stops g m stem lap k Pass.Later r → ⊥
    unfolding number_of_pass
    never_later clear within k r s = go (dec_lt s.position (second_lap_at + length lap))
      where
        go : Dec (s.position < second_lap_at + length lap) → ⊥
        go (yes h) = let low : pass_at stem lap s.position < 3 = pass_low s.position h in let is : 3 ≡ pass_at stem lap s.position =
            s.pass in omega arith
        go (no h) =
            let all = twice_for_ever (λ i l. taken_clear g m e i (s.refused.before i (let z : i < s.position = omega arith in z))) in
            let taken : TakenAt g m e s.position = moves_at g m e clear within s.position (λ j l. all j) (all s.position) in
            let no : moved_at g m e s.position ≡ Err (denied (M s.position) r) = s.refused.here in
            let z : ◌≡◌ {A = ℕ} 0 1 = cc in omega arith
