-- Runs that repeat: from position b on the entries come again every l, and so does the marking. What holds in one such period then decides
-- the whole run. Assumes nothing.
use Prim.Native.Nat.{ℕ, zero, suc, ◌+◌, ◌-◌, ◌≤◌, ◌<◌, zero-le}
use Rattle.std.specs.Prelude.{◌≡◌, refl, ◌⊎◌, true, false}
use Rattle.std.proofs.Common.{sym, ◌∙◌, subst, inl, inr, true≢false, le_refl}
use Rattle.std.proofs.Math.Path.{ap, ap₂}
use native.Mathlib.Omega.{arith}
use Rattle.std.proofs.Math.Decide.{dec_lt}
use Rattle.sets.specs.Sets.{has}
use Rattle.rules.specs.Graph.{Graph}
use Rattle.moves.specs.declared.Marking.{Marking}
use Rattle.moves.specs.declared.Entry.{Entry}
use Rattle.moves.specs.First.{Verdict}
use Rattle.moves.specs.First.{first}
use Rattle.rules.specs.Answers.{row_of, entry_lines}
use Rattle.moves.specs.Move.{after}
use Rattle.laps.specs.Endless.{marking_at, DueAt, DoneAt, ExcludedAt, Accepting, Waiting, Starving}
use Rattle.laps.specs.Inner.{verdict_at, Unbarred}
use Rattle.laps.specs.Legs.{done_between, Ends, Throughout}
use Rattle.std.specs.Prelude.{Ok}

module _ (g : Graph) (m : Marking) (e : ℕ → Entry) where
  abbrev M : ℕ → Marking
  M i = marking_at g m e i

  abbrev says : ℕ → Verdict
  says i = verdict_at g m e i

  -- the run looks the same at i and at j
  pub record Same (i j : ℕ) : Type 0 where
    pub marking : M i ≡ M j
    pub entry : e i ≡ e j

  same_verdict : (i j : ℕ) → Same i j → says i ≡ says j
  same_verdict i j f = ap₂ (λ (x : Marking) (y : Entry). first (entry_lines g x y)) f.marking f.entry

  same_due : (i j s : ℕ) → Same i j → has (M i).due s ≡ has (M j).due s
  same_due i j s f = ap (λ (x : Marking). has x.due s) f.marking

  same_included : (i j s : ℕ) → Same i j → has (M i).included s ≡ has (M j).included s
  same_included i j s f = ap (λ (x : Marking). has x.included s) f.marking

  same_done : (i j s : ℕ) → Same i j → DoneAt g m e i s → DoneAt g m e j s
  same_done i j s f d = d ∙ ap (λ (y : Entry). y.step.0) f.entry

  same_back : (i j : ℕ) → Same i j → Same j i
  same_back i j f = record { marking = sym f.marking; entry = sym f.entry }

  same_waiting : (i j s : ℕ) → Same i j → Waiting g m e i s → Waiting g m e j s
  same_waiting i j s f w =
      record {
        due = sym (same_due i j s f) ∙ w.due;
        included = sym (same_included i j s f) ∙ w.included;
        undone = λ d. w.undone (same_done j i s (same_back i j f) d);
      }

  same_ends : (i j s : ℕ) → Same i j → Ends g m e i s → Ends g m e j s
  same_ends i j s f (inl p) = inl (sym (same_due i j s f) ∙ p)
  same_ends i j s f (inr (inl p)) = inr (inl (same_done i j s f p))
  same_ends i j s f (inr (inr p)) = inr (inr (sym (same_included i j s f) ∙ p))

  -- where a step waits its waiting does not end
  waits_ends : (i s : ℕ) → Waiting g m e i s → Ends g m e i s → ⊥
  waits_ends i s v (inl p) = true≢false (sym v.due ∙ p)
  waits_ends i s v (inr (inl p)) = v.undone p
  waits_ends i s v (inr (inr p)) = true≢false (sym v.included ∙ p)

  -- where the waiting of a step that was due ends, the step has been done or is not included
  ends_after : (i s : ℕ) → DueAt g m e i s → (j : ℕ) → i ≤ j → Ends g m e j s → (k : ℕ) × (i ≤ k)
      × (DoneAt g m e k s ⊎ ExcludedAt g m e k s)
  ends_after i s due j h (inl p) =
      let d = done_between g m e (j - i) i s due (ap (λ (k : ℕ). has (M k).due s) (let z : i + (j - i) ≡ j = omega arith in z) ∙ p) in
      (d.0, d.1, inl d.2)
  ends_after i s due j h (inr p) = (j, h, p)

  -- x are the steps that starve, and the run is accepting where there are none
  pub record Decides (x : ℕ) : Type 0 where
    pub starving : (s : ℕ) → has x s ≡ true → Starving g m e s
    pub others : (s : ℕ) → has x s ≡ false → Starving g m e s → ⊥
    pub accepting : ((s : ℕ) → has x s ≡ false) → Accepting g m e

  module _ (b l : ℕ) (some : 0 < l) (again : (i : ℕ) → b ≤ i → e (i + l) ≡ e i) (back : M (b + l) ≡ M b) where
    markings_again : (d : ℕ) → M (d + b + l) ≡ M (d + b)
    unfolding marking_at
    markings_again zero = ap M (let z : 0 + b + l ≡ b + l = omega arith in z) ∙ back ∙ ap M (let z : b ≡ 0 + b = omega arith in z)
    markings_again (suc d) =
        ap M (let z : suc d + b + l ≡ suc (d + b + l) = omega arith in z)
        ∙ ap₂ (λ (x : Marking) (y : Entry). after (row_of g y.person y.step.0) x y.step.0) (markings_again d)
        (again (d + b) (let z : b ≤ d + b = omega arith in z))
        ∙ ap M (let z : suc (d + b) ≡ suc d + b = omega arith in z)

    one_on : (i : ℕ) → b ≤ i → Same (i + l) i
    one_on i h =
        record {
          marking = subst (λ (k : ℕ). M (k + l) ≡ M k) (let z : i - b + b ≡ i = omega arith in z) (markings_again (i - b));
          entry =
              again i h;
        }

    -- what is seen at i is seen again later than any p
    later : (p i : ℕ) → b ≤ i → (j : ℕ) × (p ≤ j) × (b ≤ j) × Same j i
    later zero i h = (i, zero-le, h, record { marking = refl; entry = refl })
    later (suc p) i h =
        let r = later p i h in
        let up : p ≤ r.0 = r.1 in
        let in_laps : b ≤ r.0 = r.2 in
        let f = one_on r.0 in_laps in (
          r.0 + l,
          let z : suc p ≤ r.0 + l = omega arith in z,
          let z : b ≤ r.0 + l = omega arith in z,
          record { marking = f.marking ∙ r.3.marking; entry = f.entry ∙ r.3.entry },
        )

    -- and was seen within the first period
    earlier : (n i : ℕ) → i ≤ n → b ≤ i → (j : ℕ) × (b ≤ j) × (j < b + l) × Same i j
    earlier zero i h k = (i, k, let z : i < b + l = omega arith in z, record { marking = refl; entry = refl })
    earlier (suc n) i h k = go (dec_lt i (b + l)) (earlier n (i - l))
      where
        go : Dec (i < b + l) → (i - l ≤ n → b ≤ i - l → (j : ℕ) × (b ≤ j) × (j < b + l) × Same (i - l) j) → (j : ℕ) × (b ≤ j) × (j < b + l)
            × Same i j
        go (yes p) rest = (i, k, p, record { marking = refl; entry = refl })
        go (no p) rest =
            let low : b ≤ i - l = omega arith in
            let r = rest (let z : i - l ≤ n = omega arith in z) low in
            let f : Same i (i - l) = subst (λ (x : ℕ). Same x (i - l)) (let z : i - l + l ≡ i = omega arith in z) (one_on (i - l) low) in
            (r.0, r.1, r.2, record { marking = f.marking ∙ r.3.marking; entry = f.entry ∙ r.3.entry })

    -- allowed through the first period: allowed for ever
    pub for_ever : ((i : ℕ) → i < b + l → says i ≡ Ok tt) → Unbarred g m e
    for_ever h i = go (dec_lt i b)
      where
        go : Dec (i < b) → says i ≡ Ok tt
        go (yes p) = h i (let z : i < b + l = omega arith in z)
        go (no p) =
            let r = earlier i i (le_refl i) (let z : b ≤ i = omega arith in z) in
            same_verdict i r.0 r.3 ∙ h r.0 r.2

    -- a step that waits through the first period waits from b on
    waits_on : (s : ℕ) → ((j : ℕ) → b ≤ j → j < b + l → Waiting g m e j s) → (i : ℕ) → b ≤ i → Waiting g m e i s
    waits_on s h i k =
        let r = earlier i i (le_refl i) k in
        same_waiting r.0 i s (same_back i r.0 r.3) (h r.0 r.1 r.2)

    -- a step that starves waits from b on
    pub starving_from : (s : ℕ) → Starving g m e s → (i : ℕ) → b ≤ i → Waiting g m e i s
    starving_from s st i h =
        let r = later st.0 i h in
        same_waiting r.0 i s r.3 (st.1 r.0 r.1)

    -- what the steps that wait throughout the first period tell of the run
    pub period_decides : (w x : ℕ) → Throughout g m e b l w x → ((i s : ℕ) → DueAt g m e i s → has w s ≡ true) → Decides x
    period_decides w x kept known =
        record {
          starving = λ s h. (b, waits_on s (kept.only s h).1);
          others = λ s h st. let f = kept.gone s (known b s (starving_from s st b (le_refl b)).due) h in
              waits_ends f.0 s (starving_from s st f.0 f.1) f.3;
          accepting = λ none i s due. let f = kept.gone s (known i s due) (none s) in
              let r = later i f.0 f.1 in
              ends_after i s due r.0 r.1 (same_ends f.0 r.0 s (same_back r.0 f.0 r.3) f.3);
        }
