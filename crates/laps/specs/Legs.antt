-- Going through entries, at the positions of an endless run: what a leg over the n entries from position i on tells of those positions.
-- Assumes nothing.
use Prim.Native.Nat.{ℕ, zero, suc, ◌+◌, ◌≤◌, ◌<◌}
use Rattle.std.specs.Prelude.{◌≡◌, ◌⊎◌, List, [], ◌∷◌, Bool, not, ◌&&◌, ◌||◌, length, get_or, eqb}
use Rattle.std.proofs.Math.Path.{refl, ap}
use Rattle.std.proofs.Common.{sym, ap₂, ◌∙◌, subst, inr, true≢false, add-zero, le_refl, eqb-true, eq-eqb}
use Rattle.std.proofs.Math.Logic.{inl}
use Rattle.std.proofs.Math.Bool.{true, false}
use Rattle.std.proofs.lemmas.Bool.{false≢true}
use native.Mathlib.Omega.{arith}
use Rattle.std.proofs.Math.Decide.{dec_lt}
use Rattle.sets.specs.Sets.{has}
use Rattle.sets.specs.Laws.{has_union, has_meet, has_minus, has_single}
use Rattle.rules.specs.Graph.{Graph}
use Rattle.moves.specs.declared.inner.Row.{Row}
use Rattle.moves.specs.declared.Marking.{Marking}
use Rattle.moves.specs.declared.Entry.{Entry}
use Rattle.moves.specs.declared.Refusal.{Refusal}
use Rattle.moves.specs.First.{Verdict}
use Rattle.rules.specs.Answers.{row_of, entry_asked, entry_move}
use Rattle.moves.specs.Move.{after, move_of}
use Rattle.folding.specs.Effect.{after_all}
use Rattle.laps.specs.Decision.{Went}
use Rattle.laps.specs.Endless.{step_at, marking_at, DueAt, DoneAt, ExcludedAt, Waiting}
use Rattle.laps.specs.Inner.{verdict_at}
use Rattle.laps.specs.Decision.{still, go_through, leg_on}
use Rattle.std.specs.Prelude.{Ok, Err}
use Rattle.laps.specs.Decision.{leg}
use Rattle.laps.specs.Decision.{halt}

-- ---- one step

all_four : (a b c d : Bool) → (((b && c) && a) && not d) ≡ true → (a ≡ true) × (b ≡ true) × (c ≡ true) × (d ≡ false)
all_four true true true false e = (refl, refl, refl, refl)
all_four true true true true e = absurd (false≢true e)
all_four false true true d e = absurd (false≢true e)
all_four a true false d e = absurd (false≢true e)
all_four a false c d e = absurd (false≢true e)

one_fails : (b c d : Bool) → (((b && c) && true) && not d) ≡ false → (b ≡ false) ⊎ ((d ≡ true) ⊎ (c ≡ false))
one_fails true true true e = inr (inl refl)
one_fails true true false e = absurd (true≢false e)
one_fails true false d e = inr (inr refl)
one_fails false c d e = inl refl

has_still : (x : ℕ) (m : Marking) (s t : ℕ) → has (still x m s) t ≡ (((has m.due t && has m.included t) && has x t) && not (eqb s t))
has_still x m s t = simp (has_minus, has_meet, has_single)

-- what is still there was there, is due and included, and is not the step done
still_only : (x : ℕ) (m : Marking) (s t : ℕ) → has (still x m s) t ≡ true
    → (has x t ≡ true) × (has m.due t ≡ true) × (has m.included t ≡ true) × (t ≡ s → ⊥)
still_only x m s t e =
    let f = all_four (has x t) (has m.due t) (has m.included t) (eqb s t) (sym (has_still x m s t) ∙ e) in
    (f.0, f.1, f.2, λ q. true≢false (sym (eq-eqb s t (sym q)) ∙ f.3))

-- what is there no more is not due, or is the step done, or is not included
still_gone : (x : ℕ) (m : Marking) (s t : ℕ) → has x t ≡ true → has (still x m s) t ≡ false
    → (has m.due t ≡ false) ⊎ ((t ≡ s) ⊎ (has m.included t ≡ false))
still_gone x m s t h e =
    go (one_fails (has m.due t) (has m.included t) (eqb s t)
    (ap (λ (p : Bool). ((has m.due t && has m.included t) && p) && not (eqb s t)) (sym h) ∙ sym (has_still x m s t) ∙ e))
  where
    go : (has m.due t ≡ false) ⊎ ((eqb s t ≡ true) ⊎ (has m.included t ≡ false)) → (has m.due t ≡ false)
        ⊎ ((t ≡ s) ⊎ (has m.included t ≡ false))
    go (inl p) = inl p
    go (inr (inl p)) = inr (inl (sym (eqb-true s t p)))
    go (inr (inr p)) = inr (inr p)

was_done : (q r : Bool) → ((true && not q) || r) ≡ false → q ≡ true
was_done true r e = refl
was_done false r e = absurd (true≢false e)

-- a step that is due no more was done
due_lost : (w : Row) (m : Marking) (s t : ℕ) → has m.due t ≡ true → has (after w m s).due t ≡ false → t ≡ s
due_lost w m s t h e =
    sym (eqb-true s t (was_done (eqb s t) (has w.responses t)
    (ap (λ (p : Bool). (p && not (eqb s t)) || has w.responses t) (sym h) ∙ simp (← has_single, ← has_minus, ← has_union) e)))

-- ---- the entries from a position on

-- the n entries from position i on
unfoldable pub chunk : (ℕ → Entry) → ℕ → ℕ → List Entry
chunk e zero i = []
chunk e (suc n) i = e i ∷ chunk e n (suc i)

-- entries that stand at those positions
pub chunk_is : (e : ℕ → Entry) (d : Entry) (xs : List Entry) (i : ℕ) → ((k : ℕ) → k < length xs → e (i + k) ≡ get_or xs k d)
    → chunk e (length xs) i ≡ xs
unfolding chunk
chunk_is e d [] i h = refl
chunk_is e d (x ∷ xs) i h =
    ap₂ (λ (y : Entry) (ys : List Entry). y ∷ ys)
    (ap e (sym (add-zero i)) ∙ h 0 (let z : 0 < suc (length xs) = omega arith in z))
    (chunk_is e d xs (suc i)
    (λ k q. ap e (let z : suc i + k ≡ i + suc k = omega arith in z) ∙ h (suc k) (let z : suc k < suc (length xs) = omega arith in z)))

module _ (g : Graph) (m : Marking) (e : ℕ → Entry) where
  abbrev M : ℕ → Marking
  M i = marking_at g m e i

  abbrev says : ℕ → Verdict
  says i = verdict_at g m e i

  -- the marking after all of them
  pub after_chunk : (n i : ℕ) → after_all g (M i) (chunk e n i) ≡ M (i + n)
  unfolding chunk after_all marking_at
  after_chunk zero i = ap M (sym (add-zero i))
  after_chunk (suc n) i = after_chunk n (suc i) ∙ ap M (let z : suc i + n ≡ i + suc n = omega arith in z)

  -- a step that is due at i and is not at i + d was done on the way
  pub done_between : (d i s : ℕ) → DueAt g m e i s → has (M (i + d)).due s ≡ false → (j : ℕ) × (i ≤ j) × DoneAt g m e j s
  unfolding marking_at
  done_between zero i s h f = absurd (true≢false (sym h ∙ ap (λ (k : ℕ). has (M k).due s) (sym (add-zero i)) ∙ f))
  done_between (suc d) i s h f = go (has (M (i + d)).due s) refl (done_between d i s h)
    where
      go : (b : Bool) → has (M (i + d)).due s ≡ b → (has (M (i + d)).due s ≡ false → (j : ℕ) × (i ≤ j) × DoneAt g m e j s) → (j : ℕ)
          × (i ≤ j) × DoneAt g m e j s
      go true q rest =
          let next : i + suc d ≡ suc (i + d) = omega arith in (
            i + d,
            let z : i ≤ i + d = omega arith in z,
            due_lost (row_of g (e (i + d)).person (step_at g m e (i + d))) (M (i + d)) (step_at g m e (i + d)) s q
                (ap (λ (k : ℕ). has (M k).due s) (sym next) ∙ f),
          )
      go false q rest = rest q

  -- ---- the steps that wait throughout

  -- at i the waiting of s ends: it is not due, or it is done, or it is not included
  abbrev pub Ends : ℕ → ℕ → Type 0
  Ends i s = (has (M i).due s ≡ false) ⊎ (DoneAt g m e i s ⊎ ExcludedAt g m e i s)

  -- x are the steps of w that wait at each of the n positions from i on
  pub record Throughout (i n w x : ℕ) : Type 0 where
    pub only : (s : ℕ) → has x s ≡ true → (has w s ≡ true) × ((j : ℕ) → i ≤ j → j < i + n → Waiting g m e j s)
    pub gone : (s : ℕ) → has w s ≡ true → has x s ≡ false → (j : ℕ) × (i ≤ j) × (j < i + n) × Ends j s

  throughout_none : (i w : ℕ) → Throughout i 0 w w
  throughout_none i w =
      record {
        only = λ s h. (h, λ j a b. absurd (let z : ⊥ = omega arith in z));
        gone = λ s h k. absurd (true≢false (sym h ∙ k));
      }

  throughout_more : (i n w x : ℕ) → Throughout (suc i) n (still w (M i) (step_at g m e i)) x → Throughout i (suc n) w x
  throughout_more i n w x r = record { only = only; gone = λ s h k. gone s h k (has (still w (M i) (step_at g m e i)) s) refl }
    where
      only : (s : ℕ) → has x s ≡ true → (has w s ≡ true) × ((j : ℕ) → i ≤ j → j < i + suc n → Waiting g m e j s)
      only s h = (now.0, λ j a b. go j a b (dec_lt i j))
        where
          now : (has w s ≡ true) × (has (M i).due s ≡ true) × (has (M i).included s ≡ true) × (s ≡ step_at g m e i → ⊥)
          now = still_only w (M i) (step_at g m e i) s (r.only s h).0

          go : (j : ℕ) → i ≤ j → j < i + suc n → Dec (i < j) → Waiting g m e j s
          go j a b (yes p) = (r.only s h).1 j p (let z : j < suc i + n = omega arith in z)
          go j a b (no p) = subst (λ (k : ℕ). Waiting g m e k s) (let z : i ≡ j = omega arith in z)
              (record { due = now.1; included = now.2; undone = now.3 })

      gone : (s : ℕ) → has w s ≡ true → has x s ≡ false → (b : Bool) → has (still w (M i) (step_at g m e i)) s ≡ b → (j : ℕ) × (i ≤ j)
          × (j < i + suc n) × Ends j s
      gone s h k true q =
          let f = r.gone s q k in
          let lo : suc i ≤ f.0 = f.1 in
          let hi : f.0 < suc i + n = f.2 in
          (f.0, let z : i ≤ f.0 = omega arith in z, let z : f.0 < i + suc n = omega arith in z, f.3)
      gone s h k false q = (i, le_refl i, let z : i < i + suc n = omega arith in z, still_gone w (M i) (step_at g m e i) s h q)

  -- ---- a leg

  -- all n entries are allowed
  pub record Passed (i n w : ℕ) (went : Went) : Type 0 where
    pub left : ℕ
    pub is : went ≡ Ok (leg (M (i + n)) left)
    pub allowed : (j : ℕ) → i ≤ j → j < i + n → says j ≡ Ok tt
    pub kept : Throughout i n w left

  -- one of them is not
  pub record Barred (i n k : ℕ) (went : Went) : Type 0 where
    pub depth : ℕ
    pub refusal : Refusal
    pub small : depth < n
    pub is : went ≡ Err (halt (k + depth) refusal)
    pub before : (j : ℕ) → i ≤ j → j < i + depth → says j ≡ Ok tt
    pub here : says (i + depth) ≡ Err refusal

  leg_walks : (n i w k : ℕ) → Passed i n w (leg_on g (M i) w k (chunk e n i)) ⊎ Barred i n k (leg_on g (M i) w k (chunk e n i))
  unfolding leg_on chunk go_through entry_move entry_asked move_of marking_at
  leg_walks zero i w k =
      inl (record {
        left = w;
        is = ap (λ (j : ℕ). Ok (leg (M j) w)) (sym (add-zero i));
        allowed = λ j a b.
            absurd (let z : ⊥ = omega arith in z);
        kept = throughout_none i w;
      })
  leg_walks (suc n) i w k = go (says i) refl (leg_walks n (suc i) (still w (M i) (step_at g m e i)) (k + 1))
    where
      rest : Went
      rest = leg_on g (M (suc i)) (still w (M i) (step_at g m e i)) (k + 1) (chunk e n (suc i))

      -- the first of them is allowed, and those after it
      first_too : says i ≡ Ok tt → (d : ℕ) → ((j : ℕ) → suc i ≤ j → j < suc i + d → says j ≡ Ok tt) → (j : ℕ) → i ≤ j
          → j < i + suc d → says j ≡ Ok tt
      first_too q d more j a b = at (dec_lt i j)
        where
          at : Dec (i < j) → says j ≡ Ok tt
          at (yes p) = more j p (let z : j < suc i + d = omega arith in z)
          at (no p) = ap says (let z : j ≡ i = omega arith in z) ∙ q

      go : (v : Verdict) → says i ≡ v → Passed (suc i) n (still w (M i) (step_at g m e i)) rest ⊎ Barred (suc i) n (k + 1) rest
          → Passed i (suc n) w (go_through k (move_of v (M i) (M (suc i)))
          (λ next. leg_on g next (still w (M i) (step_at g m e i)) (k + 1) (chunk e n (suc i))))
          ⊎ Barred i (suc n) k (go_through k (move_of v (M i) (M (suc i)))
          (λ next. leg_on g next (still w (M i) (step_at g m e i)) (k + 1) (chunk e n (suc i))))
      go (Ok _) q (inl p) =
          inl (record {
            left = p.left;
            is = p.is ∙ ap (λ (j : ℕ). Ok (leg (M j) p.left)) (let z : suc i + n ≡ i + suc n = omega arith in z);
            allowed = first_too q n p.allowed;
            kept = throughout_more i n w p.left p.kept;
          })
      go (Ok _) q (inr b) =
          let small : b.depth < n = b.small in
          inr (record {
            depth = suc b.depth;
            refusal = b.refusal;
            small = (let z : suc b.depth < suc n = omega arith in z);
            is = b.is ∙ ap (λ (j : ℕ). Err (halt j b.refusal)) (let z : k + 1 + b.depth ≡ k + suc b.depth = omega arith in z);
            before = first_too q b.depth b.before;
            here = ap says (let z : i + suc b.depth ≡ suc i + b.depth = omega arith in z) ∙ b.here;
          })
      go (Err r) q later =
          inr (record {
            depth = 0;
            refusal = r;
            small = (let z : 0 < suc n = omega arith in z);
            is = ap (λ (j : ℕ). Err (halt j r)) (sym (add-zero k));
            before = λ j a b. absurd (let z : ⊥ = omega arith in z);
            here = ap says (add-zero i) ∙ q;
          })

  -- the same of entries xs that stand from position i on, in the marking there
  pub leg_tells : (xs : List Entry) (i w k : ℕ) (x : Marking) → chunk e (length xs) i ≡ xs → x ≡ M i
      → Passed i (length xs) w (leg_on g x w k xs) ⊎ Barred i (length xs) k (leg_on g x w k xs)
  leg_tells xs i w k x p q =
      subst (λ (y : Marking). Passed i (length xs) w (leg_on g y w k xs) ⊎ Barred i (length xs) k (leg_on g y w k xs)) (sym q)
      (subst (λ (ys : List Entry). Passed i (length xs) w (leg_on g (M i) w k ys) ⊎ Barred i (length xs) k (leg_on g (M i) w k ys)) p
      (leg_walks (length xs) i w k))
