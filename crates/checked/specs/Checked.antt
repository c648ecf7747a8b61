-- What is published was checked. Since its last reboot, or since the start, a cabinet has taken checks 1 to k in order, and behind check b
-- it may have published; this is kept up by every step that is allowed (`Standing`). Assumes nothing.
use Prim.Native.Nat.{ℕ, suc, ◌+◌, ◌≤◌, ◌<◌}
use Rattle.std.specs.Prelude.{◌≡◌, ◌↔◌, ◌⊎◌, Bool, true, false, cond, length, replicate, eqb, Ok}
use Rattle.std.proofs.Math.Path.{refl, ap, subst}
use Rattle.std.proofs.Common.{sym, ap₂, ◌∙◌, inl, inr, arith, add-one, eq-eqb, ne_eqb}
use mathlib.Core.List.{List, [], ◌∷◌, ◌++◌, append_assoc, append-nil}
use Rattle.std.proofs.Math.Decide.{dec_lt}
use Rattle.sets.specs.Sets.{has}
use Rattle.moves.specs.declared.Marking.{Marking}
use Rattle.moves.specs.declared.Entry.{Entry}
use Rattle.moves.specs.Move.{after, is_finished}
use Rattle.rules.specs.Answers.{the_move, row_of}
use Rattle.rules.specs.Paper.{Ready, Allowed}
use Rattle.rules.proofs.Taken.{taken_allowed}
use Rattle.runs.specs.Runs.{Passes, passes_parts}
use Rattle.bodies.specs.Tables.{tabled, length_tabled}
use Rattle.cabinet.specs.Cabinet.{reboot, publish, cabinet, at_first, arms_fit}
use Rattle.cabinet.specs.Laws.{arms_low, arms_high}
use Rattle.checked.specs.Words.{steps_taken, checks_in, one_to, Occurs, kept_on, since_reboot}
use Rattle.checked.specs.Lists.{checks_append, checks_counted, checks_none, counted_occurs, occurs_counted}
use Rattle.checked.specs.Lists.{replicate_more, parted}
use Rattle.checked.specs.Standing.{Stands, stands_first, in_which, on_reboot, on_check, on_publish, stands_finished, finished_stands}

-- the marking is one after these steps since the last reboot
pub record Seen (b : ℕ) (m : Marking) (since : List ℕ) : Type 0 where
  pub count : ℕ
  pub published : ℕ
  pub stands : Stands b count m
  pub listed : since ≡ one_to count ++ replicate published (publish b)
  pub early : count < b → published ≡ 0

-- the checks of such steps are those from 1 to the count
seen_checks : (b : ℕ) (m : Marking) (since : List ℕ) (seen : Seen b m since) → checks_in b since ≡ one_to seen.count
seen_checks b m since seen =
    ap (checks_in b) seen.listed
    ∙ checks_append b (one_to seen.count) (replicate seen.published (publish b))
    ∙ ap₂ ◌++◌ (checks_counted b seen.count seen.stands.low) (checks_none b seen.published)
    ∙ append-nil (one_to seen.count)

-- all of them have occurred exactly after b
seen_occur : (b : ℕ) (m : Marking) (since : List ℕ) (seen : Seen b m since) → 1 ≤ b
    → ((k : ℕ) → 1 ≤ k → k ≤ b → Occurs k since) → seen.count ≡ b
seen_occur b m since seen some all = go (dec_lt seen.count b)
  where
    go : Dec (seen.count < b) → seen.count ≡ b
    go (no h) = let l : seen.count ≤ b = seen.stands.low in omega arith
    go (yes h) =
        let only : since ≡ one_to seen.count =
        seen.listed ∙ ap (λ (r : ℕ). one_to seen.count ++ replicate r (publish b)) (seen.early h) ∙ append-nil (one_to seen.count) in
        let last : b ≤ seen.count = occurs_counted b seen.count (subst (Occurs b) only (all b some (omega arith))) in
        absurd (let w : ⊥ = omega arith in w)

occur_seen : (b : ℕ) (m : Marking) (since : List ℕ) (seen : Seen b m since) → seen.count ≡ b
    → (k : ℕ) → 1 ≤ k → k ≤ b → Occurs k since
occur_seen b m since seen e k h l =
    subst (Occurs k) (sym seen.listed) (counted_occurs k seen.count (replicate seen.published (publish b)) h (omega arith))

module _ (b : ℕ) (arms : arms_fit b ≡ true) where
  some : 1 ≤ b
  some = let h : 2 ≤ b = arms_low b arms in omega arith

  few : b ≤ 16
  few = arms_high b arms

  -- ---- every allowed step keeps it up

  seen_on : (m x : Marking) (since : List ℕ) (e : Entry) → Seen b m since → the_move (cabinet b) m e ≡ Ok x
      → Seen b x (cond (eqb e.step.0 reboot) [] (since ++ (e.step.0 ∷ [])))
  unfolding tabled
  seen_on m x since e seen moved = go (in_which b k m here s taken.1.included) (dec_lt k b)
    where
      s : ℕ
      s = e.step.0

      k : ℕ
      k = seen.count

      here : Stands b seen.count m
      here = seen.stands

      taken : Ready (cabinet b) m e × Allowed (cabinet b) m e × (x ≡ after (row_of (cabinet b) e.person e.step.0) m e.step.0)
      taken = taken_allowed (cabinet b) m x e moved

      -- by the step that it is
      at : (c y : ℕ) → s ≡ y → Stands b c (after (row_of (cabinet b) e.person y) m y) → Stands b c x
      at c y q there =
          subst (Stands b c) (sym taken.2)
          (subst (λ (z : ℕ). Stands b c (after (row_of (cabinet b) e.person z) m z)) (sym q) there)

      kept : eqb s reboot ≡ false → cond (eqb s reboot) [] (since ++ (s ∷ [])) ≡ since ++ (s ∷ [])
      kept q = ap (λ (t : Bool). cond t [] (since ++ (s ∷ []))) q

      go : (s ≡ reboot) ⊎ (s ≡ k + 1) → Dec (k < b) → Seen b x (cond (eqb s reboot) [] (since ++ (s ∷ [])))
      go (inl q) l =
          record {
            count = 0;
            published = 0;
            stands = at 0 reboot q (on_reboot b k m here e.person some);
            listed = ap (λ (t : Bool). cond t [] (since ++ (s ∷ []))) (eq-eqb s reboot q);
            early = λ h. refl;
          }
      go (inr q) (yes l) =
          record {
            count = k + 1;
            published = 0;
            stands = at (k + 1) (k + 1) q (on_check b k m here e.person few l);
            listed =
                kept (ne_eqb s reboot (λ z. let w : ⊥ = omega arith in w))
                ∙ ap₂ (λ (a : List ℕ) (y : ℕ). a ++ (y ∷ []))
                (seen.listed ∙ ap (λ (r : ℕ). one_to k ++ replicate r (publish b)) (seen.early l) ∙ append-nil (one_to k)) (q ∙ add-one k)
                ∙ sym (append-nil (one_to (k + 1)) ∙ ap one_to (add-one k));
            early = λ h. refl;
          }
      go (inr q) (no l) =
          let full : k ≡ b = (let h : k ≤ b = here.low in omega arith) in
          let last : s ≡ publish b = (let z : s ≡ b + 1 = omega arith in z) in
          record {
            count = k;
            published = suc seen.published;
            stands = at k (publish b) last (on_publish b k m here e.person few full);
            listed =
                kept (ne_eqb s reboot (λ z. let w : ⊥ = omega arith in w))
                ∙ ap₂ (λ (a : List ℕ) (y : ℕ). a ++ (y ∷ [])) seen.listed last
                ∙ append_assoc (one_to k) (replicate seen.published (publish b)) (publish b ∷ [])
                ∙ ap (λ (a : List ℕ). one_to k ++ a) (replicate_more seen.published (publish b));
            early = λ h. absurd (let w : ⊥ = omega arith in w);
          }

  seen_all : (m x : Marking) (kept : List ℕ) (es : List Entry) → Seen b m kept → Passes (cabinet b) m es x → Seen b x (kept_on kept (steps_taken es))
  unfolding Passes kept_on steps_taken
  seen_all m x kept [] seen p = subst (λ (y : Marking). Seen b y kept) p seen
  seen_all m x kept (e ∷ es) seen p =
      seen_all p.0 x (cond (eqb e.step.0 reboot) [] (kept ++ (e.step.0 ∷ []))) es (seen_on m p.0 kept e seen p.1) p.2

  seen_first : Seen b (at_first b) []
  unfolding tabled
  seen_first = record { count = 0; published = 0; stands = stands_first b; listed = refl; early = λ h. refl }

  pub passes_seen : (es : List Entry) (x : Marking) → Passes (cabinet b) (at_first b) es x → Seen b x (since_reboot (steps_taken es))
  passes_seen es x p = seen_all (at_first b) x [] es seen_first p

  -- ---- publishing

  -- the step that is let in beside the reboot is publishing only after check b
  last_in : (k s : ℕ) → s ≡ publish b → (s ≡ reboot) ⊎ (s ≡ k + 1) → k ≡ b
  last_in k s e (inl q) = absurd (let w : ⊥ = omega arith in w)
  last_in k s e (inr q) = omega arith

  -- it is included exactly then
  pub included_all : (es : List Entry) (x : Marking) → Passes (cabinet b) (at_first b) es x → has x.included (publish b) ≡ true
      → (r : ℕ) × (since_reboot (steps_taken es) ≡ one_to b ++ replicate r (publish b))
  included_all es x p h =
      let seen = passes_seen es x p in
      let full : seen.count ≡ b = last_in seen.count (publish b) refl (in_which b seen.count x seen.stands (publish b) h) in
      (seen.published, seen.listed ∙ ap (λ (k : ℕ). one_to k ++ replicate seen.published (publish b)) full)

  -- where steps fall apart at a publish, what comes before it since the last reboot is checks 1 to b, and publishing
  pub published_all : (es : List Entry) (x : Marking) → Passes (cabinet b) (at_first b) es x → (front after : List ℕ)
      → steps_taken es ≡ front ++ (publish b ∷ after) → (r : ℕ) × (since_reboot front ≡ one_to b ++ replicate r (publish b))
  unfolding Passes
  published_all es x p front after e =
      let q = parted es front (publish b) after e in
      let both = passes_parts (cabinet b) (at_first b) x q.before (q.entry ∷ q.behind)
      (subst (λ (l : List Entry). Passes (cabinet b) (at_first b) l x) q.whole p) in
      let taken = taken_allowed (cabinet b) both.0 both.2.0 q.entry both.2.1 in
      let all = included_all q.before both.0 both.1
      (ap (has both.0.included) (sym q.entry_step) ∙ taken.1.included) in
      (all.0, ap since_reboot (sym q.before_steps) ∙ all.1)

  -- ---- finished

  pub finished_all : (es : List Entry) (x : Marking) → Passes (cabinet b) (at_first b) es x
      → (is_finished x ≡ true) ↔ ((k : ℕ) → 1 ≤ k → k ≤ b → Occurs k (since_reboot (steps_taken es)))
  finished_all es x p =
      let seen = passes_seen es x p in (
        λ e. occur_seen b x (since_reboot (steps_taken es)) seen (finished_stands b seen.count x seen.stands e),
        λ all. stands_finished b seen.count x seen.stands (seen_occur b x (since_reboot (steps_taken es)) seen some all),
      )

  pub finished_counted : (es : List Entry) (x : Marking) → Passes (cabinet b) (at_first b) es x
      → (is_finished x ≡ true) ↔ (checks_in b (since_reboot (steps_taken es)) ≡ one_to b)
  finished_counted es x p =
      let seen = passes_seen es x p in
      let those = seen_checks b x (since_reboot (steps_taken es)) seen in (
        λ e. those ∙ ap one_to (finished_stands b seen.count x seen.stands e),
        λ e. stands_finished b seen.count x seen.stands
            (sym (length_tabled seen.count suc) ∙ ap length (sym those ∙ e) ∙ length_tabled b suc),
      )

-- the checks among checks 1 to b and publishing
pub only_checks : (b : ℕ) (steps : List ℕ) (r : ℕ) → steps ≡ one_to b ++ replicate r (publish b) → checks_in b steps ≡ one_to b
only_checks b steps r e =
    ap (checks_in b) e
    ∙ checks_append b (one_to b) (replicate r (publish b))
    ∙ ap₂ ◌++◌ (checks_counted b b (omega arith)) (checks_none b r)
    ∙ append-nil (one_to b)
