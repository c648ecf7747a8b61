-- Where the job stands after k checks since the last reboot: the checks from k + 1 on are due, and besides the reboot only step k + 1 is let
-- in. So a reboot goes back to no check, check k + 1 on to the next, and publishing, which is let in after all of them, changes nothing.
-- What is done before is never asked. Assumes nothing.
use Rattle.std.specs.Prelude.{ℕ, ◌+◌, ◌≤◌, ◌<◌, ◌≡◌, refl, Bool, true, false, not, ◌&&◌, ◌||◌, ◌⊎◌, eqb}
use Rattle.std.proofs.Common.{sym, ap, ap₂, ◌∙◌, true≢false, inl, inr, arith, lit<, eq-eqb, ne_eqb, eqb-true}
use Rattle.std.proofs.Math.Decide.{dec_lt}
use Rattle.sets.specs.Sets.{has, single, union, span}
use Rattle.sets.specs.Truth.{or_cases, or_false, or_first, or_second, and_true, and_false, dec_eq}
use Rattle.sets.specs.Laws.{ext, has_union, has_single, has_zero}
use Rattle.sets.specs.Spans.{span_in, span_below, span_above, span_none}
use Rattle.moves.specs.declared.Marking.{Marking}
use Rattle.moves.specs.Move.{after, is_finished}
use Rattle.rules.specs.Graph.{excludes_of}
use Rattle.rules.specs.Answers.{row_of}
use Rattle.rules.specs.Paper.{after_due, after_included, finished_apart, apart_finished}
use Rattle.bodies.specs.Tables.{row_tabled}
use Rattle.cabinet.specs.Cabinet.{reboot, publish, checks, responses_at, following, includes_at, excludes_at, cabinet, at_first}
use Rattle.cabinet.specs.Laws.{by_reboot, by_check, by_publish, following_next}

pub record Stands (b k : ℕ) (m : Marking) : Type 0 where
  pub low : k ≤ b
  pub due_on : m.due ≡ span (k + 1) (publish b)
  pub let_in : m.included ≡ union (single reboot) (single (k + 1))

pub stands_first : (b : ℕ) → Stands b 0 (at_first b)
stands_first b = record { low = omega arith; due_on = refl; let_in = refl }

-- the members of a set of two
in_two : (a c s : ℕ) → has (union (single a) (single c)) s ≡ (eqb a s || eqb c s)
in_two a c s = has_union (single a) (single c) s ∙ ap₂ ◌||◌ (has_single a s) (has_single c s)

module _ (b k : ℕ) (m : Marking) (here : Stands b k m) where
  -- what is let in is the reboot, or the step after the last check
  pub in_which : (s : ℕ) → has m.included s ≡ true → (s ≡ reboot) ⊎ (s ≡ k + 1)
  in_which s e = go (or_cases (eqb 0 s) (eqb (k + 1) s) (sym (ap (λ (x : ℕ). has x s) here.let_in ∙ in_two 0 (k + 1) s) ∙ e))
    where
      go : (eqb 0 s ≡ true) ⊎ (eqb (k + 1) s ≡ true) → (s ≡ reboot) ⊎ (s ≡ k + 1)
      go (inl p) = inl (sym (eqb-true 0 s p))
      go (inr p) = inr (sym (eqb-true (k + 1) s p))

  -- it is finished exactly after all checks
  pub stands_finished : k ≡ b → is_finished m ≡ true
  stands_finished e =
      apart_finished m (λ s d. absurd (true≢false (sym d ∙ ap (λ (x : ℕ). has x s)
      (here.due_on ∙ ap (λ (x : ℕ). span (x + 1) (b + 1)) e ∙ span_none (b + 1)) ∙ has_zero s)))

  pub finished_stands : is_finished m ≡ true → k ≡ b
  finished_stands e = go (dec_lt k b)
    where
      go : Dec (k < b) → k ≡ b
      go (no l) = let h : k ≤ b = here.low in omega arith
      go (yes l) =
          let due : has m.due (k + 1) ≡ true =
          ap (λ (x : ℕ). has x (k + 1)) here.due_on ∙ span_in (k + 1) (b + 1) (k + 1) (omega arith) (omega arith) in
          let in_it : has m.included (k + 1) ≡ true =
          ap (λ (x : ℕ). has x (k + 1)) here.let_in ∙ in_two 0 (k + 1) (k + 1)
          ∙ ap₂ ◌||◌ (ne_eqb 0 (k + 1) (λ z. let w : ⊥ = omega arith in w)) (eq-eqb (k + 1) (k + 1) refl) in
          absurd (true≢false (sym in_it ∙ finished_apart m e (k + 1) due))

  -- ---- one step more

  module _ (p e : ℕ) (small : e < 64) where
    abbrev next : Marking
    next = after (row_of (cabinet b) p e) m e

    -- by what the step makes due, lets in and shuts out
    due_by : (x s : ℕ) → responses_at b e ≡ x → has next.due s ≡ ((has (span (k + 1) (b + 1)) s && not (eqb e s)) || has x s)
    due_by x s h =
        after_due (cabinet b) m p e s
        ∙ ap₂ (λ (u v : ℕ). (has u s && not (eqb e s)) || has v s) here.due_on (row_tabled 64 (responses_at b) e small ∙ h)

    in_by : (x y s : ℕ) → includes_at b e ≡ x → excludes_at b e ≡ y
        → has next.included s ≡ (((eqb 0 s || eqb (k + 1) s) || has x s) && not (has y s))
    in_by x y s h l =
        after_included (cabinet b) m p e s
        ∙ ap₂ (λ (u : Bool) (v : ℕ). (u || has v s) && not (has (excludes_of (cabinet b) e) s))
        (ap (λ (z : ℕ). has z s) here.let_in ∙ in_two 0 (k + 1) s) (row_tabled 64 (includes_at b) e small ∙ h)
        ∙ ap (λ (v : ℕ). ((eqb 0 s || eqb (k + 1) s) || has x s) && not (has v s)) (row_tabled 64 (excludes_at b) e small ∙ l)

  -- a reboot goes back to no check
  pub on_reboot : (p : ℕ) → 1 ≤ b → Stands b 0 (after (row_of (cabinet b) p reboot) m reboot)
  on_reboot p some =
      record {
        low = omega arith;
        due_on = ext (next p 0 (lit< tt)).due (checks b)
            (λ s. due_by p 0 (lit< tt) (checks b) s (by_reboot b 0 (checks b) 0 0 refl) ∙ due s (dec_lt s 1) (dec_lt s (b + 1)));
        let_in = ext (next p 0 (lit< tt)).included (union (single 0) (single 1))
            (λ s. in_by p 0 (lit< tt) (single 1) others s (by_reboot b 0 (single 1) (single (following b 0)) 0 refl)
            (by_reboot b 0 others (single 0) 0 refl)
            ∙ ap (λ (t : Bool). ((eqb 0 s || eqb (k + 1) s) || t) && not (has others s)) (has_single 1 s)
            ∙ ins s (dec_lt s 2) (dec_lt (b + 1) s)
            ∙ sym (in_two 0 1 s));
      }
    where
      others : ℕ
      others = union (span 2 (publish b)) (single (publish b))

      due : (s : ℕ) → Dec (s < 1) → Dec (s < b + 1)
          → ((has (span (k + 1) (b + 1)) s && not (eqb 0 s)) || has (checks b) s) ≡ has (checks b) s
      due s (yes h) l =
          ap (λ (t : Bool). (t && not (eqb 0 s)) || has (checks b) s) (span_below (k + 1) (b + 1) s (omega arith))
      due s (no h) (no l) =
          ap (λ (t : Bool). (t && not (eqb 0 s)) || has (checks b) s) (span_above (k + 1) (b + 1) s (omega arith))
      due s (no h) (yes l) =
          let all : has (checks b) s ≡ true = span_in 1 (b + 1) s (omega arith) l in
          or_second (has (span (k + 1) (b + 1)) s && not (eqb 0 s)) all ∙ sym all

      others_by : (s : ℕ) → has others s ≡ (has (span 2 (b + 1)) s || eqb (b + 1) s)
      others_by s = has_union (span 2 (b + 1)) (single (b + 1)) s ∙ ap (λ (t : Bool). has (span 2 (b + 1)) s || t) (has_single (b + 1) s)

      others_in : (s : ℕ) → 2 ≤ s → s ≤ b + 1 → has others s ≡ true
      others_in s h l = others_by s ∙ go (dec_lt s (b + 1))
        where
          go : Dec (s < b + 1) → (has (span 2 (b + 1)) s || eqb (b + 1) s) ≡ true
          go (yes q) = or_first (eqb (b + 1) s) (span_in 2 (b + 1) s h q)
          go (no q) = or_second (has (span 2 (b + 1)) s) (eq-eqb (b + 1) s (omega arith))

      others_out : (s : ℕ) → s < 2 → has others s ≡ false
      others_out s h =
          others_by s
          ∙ ap₂ ◌||◌ (span_below 2 (b + 1) s h) (ne_eqb (b + 1) s (λ z. let w : ⊥ = omega arith in w))

      ins : (s : ℕ) → Dec (s < 2) → Dec (b + 1 < s)
          → (((eqb 0 s || eqb (k + 1) s) || eqb 1 s) && not (has others s)) ≡ (eqb 0 s || eqb 1 s)
      ins s (yes h) l =
          ap (λ (t : Bool). ((eqb 0 s || eqb (k + 1) s) || eqb 1 s) && not t) (others_out s h)
          ∙ and_true ((eqb 0 s || eqb (k + 1) s) || eqb 1 s)
          ∙ low (dec_eq 0 s)
        where
          low : Dec (0 ≡ s) → ((eqb 0 s || eqb (k + 1) s) || eqb 1 s) ≡ (eqb 0 s || eqb 1 s)
          low (yes z) = simp (eq-eqb 0 s z)
          low (no z) =
              or_second (eqb 0 s || eqb (k + 1) s) (eq-eqb 1 s (omega arith)) ∙ sym (or_second (eqb 0 s) (eq-eqb 1 s (omega arith)))
      ins s (no h) l =
          let zero : eqb 0 s ≡ false = ne_eqb 0 s (λ z. let w : ⊥ = omega arith in w) in
          let one : eqb 1 s ≡ false = ne_eqb 1 s (λ z. let w : ⊥ = omega arith in w) in
          high zero one l ∙ sym (ap₂ ◌||◌ zero one)
        where
          high : eqb 0 s ≡ false → eqb 1 s ≡ false → Dec (b + 1 < s)
              → (((eqb 0 s || eqb (k + 1) s) || eqb 1 s) && not (has others s)) ≡ false
          high zero one (yes q) =
              let up : k ≤ b = here.low in
              ap₂ (λ (t u : Bool). (t || u) && not (has others s))
              (ap₂ ◌||◌ zero (ne_eqb (k + 1) s (λ z. let w : ⊥ = omega arith in w))) one
          high zero one (no q) =
              ap (λ (t : Bool). ((eqb 0 s || eqb (k + 1) s) || eqb 1 s) && not t) (others_in s (omega arith) (omega arith))
              ∙ and_false ((eqb 0 s || eqb (k + 1) s) || eqb 1 s)

  -- check k + 1 goes on to the next
  pub on_check : (p : ℕ) → b ≤ 16 → k < b → Stands b (k + 1) (after (row_of (cabinet b) p (k + 1)) m (k + 1))
  on_check p few l =
      record {
        low = omega arith;
        due_on = ext (next p (k + 1) small).due (span (k + 1 + 1) (publish b))
            (λ s. due_by p (k + 1) small 0 s (by_check b (k + 1) (checks b) 0 0 (omega arith) (omega arith))
            ∙ ap (λ (t : Bool). (has (span (k + 1) (b + 1)) s && not (eqb (k + 1) s)) || t) (has_zero s)
            ∙ or_false (has (span (k + 1) (b + 1)) s && not (eqb (k + 1) s))
            ∙ due s (dec_lt s (k + 1)) (dec_eq (k + 1) s) (dec_lt s (b + 1)));
        let_in = ext (next p (k + 1) small).included (union (single 0) (single (k + 1 + 1)))
            (λ s. in_by p (k + 1) small (single (k + 1 + 1)) (single (k + 1)) s
            (by_check b (k + 1) (single 1) (single (following b (k + 1))) 0 (omega arith) (omega arith)
            ∙ ap single (following_next b (k + 1) (omega arith)))
            (by_check b (k + 1) (union (span 2 (publish b)) (single (publish b))) (single (k + 1)) 0 (omega arith) (omega arith))
            ∙ ap₂ (λ (t u : Bool). ((eqb 0 s || eqb (k + 1) s) || t) && not u) (has_single (k + 1 + 1) s) (has_single (k + 1) s)
            ∙ ins s (dec_eq (k + 1) s)
            ∙ sym (in_two 0 (k + 1 + 1) s));
      }
    where
      small : k + 1 < 64
      small = omega arith

      due : (s : ℕ) → Dec (s < k + 1) → Dec (k + 1 ≡ s) → Dec (s < b + 1)
          → (has (span (k + 1) (b + 1)) s && not (eqb (k + 1) s)) ≡ has (span (k + 1 + 1) (b + 1)) s
      due s (yes h) q r =
          ap (λ (t : Bool). t && not (eqb (k + 1) s)) (span_below (k + 1) (b + 1) s h) ∙ sym (span_below (k + 1 + 1) (b + 1) s (omega arith))
      due s (no h) (yes q) r =
          ap (λ (t : Bool). has (span (k + 1) (b + 1)) s && not t) (eq-eqb (k + 1) s q) ∙ and_false (has (span (k + 1) (b + 1)) s)
          ∙ sym (span_below (k + 1 + 1) (b + 1) s (omega arith))
      due s (no h) (no q) (yes r) =
          ap₂ (λ (t u : Bool). t && not u) (span_in (k + 1) (b + 1) s (omega arith) r) (ne_eqb (k + 1) s q)
          ∙ sym (span_in (k + 1 + 1) (b + 1) s (omega arith) r)
      due s (no h) (no q) (no r) =
          ap (λ (t : Bool). t && not (eqb (k + 1) s)) (span_above (k + 1) (b + 1) s (omega arith))
          ∙ sym (span_above (k + 1 + 1) (b + 1) s (omega arith))

      ins : (s : ℕ) → Dec (k + 1 ≡ s)
          → (((eqb 0 s || eqb (k + 1) s) || eqb (k + 1 + 1) s) && not (eqb (k + 1) s)) ≡ (eqb 0 s || eqb (k + 1 + 1) s)
      ins s (yes q) =
          ap (λ (t : Bool). ((eqb 0 s || eqb (k + 1) s) || eqb (k + 1 + 1) s) && not t) (eq-eqb (k + 1) s q)
          ∙ and_false ((eqb 0 s || eqb (k + 1) s) || eqb (k + 1 + 1) s)
          ∙ sym (ap₂ ◌||◌ (ne_eqb 0 s (λ z. let w : ⊥ = omega arith in w)) (ne_eqb (k + 1 + 1) s (λ z. let w : ⊥ = omega arith in w)))
      ins s (no q) =
          ap (λ (t : Bool). ((eqb 0 s || t) || eqb (k + 1 + 1) s) && not t) (ne_eqb (k + 1) s q)
          ∙ and_true ((eqb 0 s || false) || eqb (k + 1 + 1) s)
          ∙ ap (λ (t : Bool). t || eqb (k + 1 + 1) s) (or_false (eqb 0 s))

  -- publishing changes nothing of it
  pub on_publish : (p : ℕ) → b ≤ 16 → k ≡ b → Stands b k (after (row_of (cabinet b) p (publish b)) m (publish b))
  on_publish p few e =
      record {
        low = here.low;
        due_on = ext (next p (b + 1) small).due (span (k + 1) (publish b))
            (λ s. due_by p (b + 1) small 0 s (by_publish b (b + 1) (checks b) 0 0 refl)
            ∙ ap (λ (t : Bool). (has (span (k + 1) (b + 1)) s && not (eqb (b + 1) s)) || t) (has_zero s)
            ∙ or_false (has (span (k + 1) (b + 1)) s && not (eqb (b + 1) s))
            ∙ ap (λ (t : Bool). t && not (eqb (b + 1) s)) (none s) ∙ sym (none s));
        let_in = ext (next p (b + 1) small).included (union (single 0) (single (k + 1)))
            (λ s. in_by p (b + 1) small 0 0 s (by_publish b (b + 1) (single 1) (single (following b (b + 1))) 0 refl)
            (by_publish b (b + 1) (union (span 2 (publish b)) (single (publish b))) (single (b + 1)) 0 refl)
            ∙ ap (λ (t : Bool). ((eqb 0 s || eqb (k + 1) s) || t) && not t) (has_zero s)
            ∙ and_true ((eqb 0 s || eqb (k + 1) s) || false)
            ∙ or_false (eqb 0 s || eqb (k + 1) s)
            ∙ sym (in_two 0 (k + 1) s));
      }
    where
      small : b + 1 < 64
      small = omega arith

      none : (s : ℕ) → has (span (k + 1) (b + 1)) s ≡ false
      none s = ap (λ (x : ℕ). has (span (x + 1) (b + 1)) s) e ∙ ap (λ (x : ℕ). has x s) (span_none (b + 1)) ∙ has_zero s
