-- What is found is what allowed entries lead to, and all that they lead to; those found first need the fewest. Assumes nothing.
use Prim.Native.Nat.{ℕ, zero, suc, ◌+◌, ◌≤◌, ◌<◌, zero-le}
use Rattle.std.specs.Prelude.{◌≡◌, get_or}
use Rattle.std.proofs.Math.Path.{refl, ap, subst}
use Rattle.std.proofs.Common.{sym, ◌∙◌, ⊎_elim, add-zero, length-append}
use mathlib.Core.List.{List, [], ◌∷◌, ◌++◌}
use native.Mathlib.Omega.{arith}
use Rattle.std.proofs.Math.Decide.{dec_lt}
use Rattle.std.proofs.Math.ListN.{length}
use Rattle.moves.specs.declared.Marking.{Marking}
use Rattle.moves.specs.declared.Entry.{Entry}
use Rattle.moves.specs.Move.{no_marking}
use Rattle.rules.specs.Graph.{Graph}
use Rattle.rules.specs.Answers.{the_move}
use Rattle.runs.specs.Runs.{Passes}
use Rattle.store.specs.Lists.{In, starts_at, starts_in}
use Rattle.deadend.specs.Taker.{next}
use Rattle.deadend.specs.Takers.{taken_step, next_of_lem, next_entry}
use Rattle.deadend.specs.DeadEnd.{found, at, nearer}
use Rattle.deadend.specs.Order.{tried_starts, tried_in, tried_from, found_next, found_past, found_starts, place_kept, alive}
use Rattle.std.specs.Prelude.{Ok}

module _ (g : Graph) (m : Marking) where
  -- at most d allowed entries lead to z
  pub record Within (d : ℕ) (z : Marking) : Type 0 where
    pub way : List Entry
    pub few : length way ≤ d
    pub passes : Passes g m way z

  within_none : (d : ℕ) → Within d m
  unfolding Passes
  within_none d = record { way = []; few = zero-le; passes = refl }

  passes_more : (es : List Entry) (a z y : Marking) (e : Entry) → Passes g a es z → the_move g z e ≡ Ok y → Passes g a (es ++ (e ∷ [])) y
  unfolding Passes
  passes_more [] a z y e p q = (y, ap (λ (x : Marking). the_move g x e) p ∙ q, refl)
  passes_more (x ∷ es) a z y e p q = (p.0, p.1, passes_more es p.0 z y e p.2 q)

  within_more : (d s : ℕ) (z y : Marking) → Within d z → next g z s ≡ Ok y → Within (suc d) y
  within_more d s z y w q =
      let e = next_entry g z s y q in
      let l : length (w.way ++ (e.0 ∷ [])) ≡ length w.way + 1 = length-append w.way (e.0 ∷ []) in
      let h : length w.way ≤ d = w.few in
      record {
        way = w.way ++ (e.0 ∷ []);
        few = (let k : length (w.way ++ (e.0 ∷ [])) ≤ suc d = omega arith in k);
        passes = passes_more w.way m z y e.0 w.passes e.1.1;
      }

  -- ---- what is found is led to

  -- one entry more: markings that need d lead to markings that need at most one more
  level : (d : ℕ) → ((q : ℕ) → q < length (found g m (nearer g m d)) → Within d (get_or (found g m (nearer g m d)) q no_marking))
      → (i : ℕ) → i ≤ nearer g m (suc d) → (q : ℕ) → q < length (found g m i) → Within (suc d) (get_or (found g m i) q no_marking)
  unfolding found nearer
  level d before zero h zero l = within_none (suc d)
  level d before zero h (suc q) l = absurd (let w : ⊥ = omega arith in w)
  level d before (suc i) h q l = go (dec_lt i (length (found g m i))) (level d before i (omega arith))
    where
      Goal : List Marking → Type 0
      Goal f = q < length f → Within (suc d) (get_or f q no_marking)

      go : Dec (i < length (found g m i)) → ((q : ℕ) → q < length (found g m i) → Within (suc d) (get_or (found g m i) q no_marking))
          → Within (suc d) (get_or (found g m (suc i)) q no_marking)
      go (no k) rest = subst Goal (sym (found_past g m i (omega arith))) (rest q) l
      go (yes k) rest =
          subst Goal (sym (found_next g m i k))
          (λ l2. ⊎_elim
          (λ a. subst (Within (suc d)) (sym (starts_at (found g m i) _ q (tried_starts g (at g m i) g.steps (found g m i)) a)) (rest q a))
          (λ b. within_more d b.0 (at g m i) _ (subst (Within d) (place_kept g m (nearer g m d) i i h k) (before i h)) b.1)
          (tried_from g (at g m i) g.steps (found g m i) q l2)) l

  -- a marking among those that need no more than d entries needs no more
  pub sound : (d q : ℕ) → q < nearer g m (suc d) → Within d (get_or (found g m (nearer g m d)) q no_marking)
  unfolding found nearer
  sound zero zero l = within_none 0
  sound zero (suc q) l = absurd (let w : ⊥ = omega arith in w)
  sound (suc d) q l = level d (sound d) (nearer g m (suc d)) (let z : nearer g m (suc d) ≤ nearer g m (suc d) = omega arith in z) q l

  -- ---- what is led to is found

  complete_from : (d : ℕ) (z y : Marking) (es : List Entry) → In z (found g m (nearer g m d)) → Passes g z es y
      → In y (found g m (nearer g m (d + length es)))
  unfolding Passes nearer
  complete_from d z y [] i p =
      subst (λ (k : ℕ). In y (found g m (nearer g m k))) (sym (add-zero d)) (subst (λ (x : Marking). In x (found g m (nearer g m d))) p i)
  complete_from d z y (e ∷ es) i p =
      subst (λ (k : ℕ). In y (found g m (nearer g m k))) (let w : suc d + length es ≡ d + suc (length es) = omega arith in w)
      (complete_from (suc d) p.0 y es one p.2)
    where
      q : ℕ
      q = i.place

      turn : q < length (found g m q)
      turn = alive g m q (nearer g m d) i.low

      its : at g m q ≡ z
      its = place_kept g m q (nearer g m d) q turn i.low ∙ i.here

      one : In p.0 (found g m (nearer g m (suc d)))
      one =
          starts_in p.0 (found g m (suc q)) _ (found_starts g m (suc q) (nearer g m (suc d)) i.low)
          (subst (λ (f : List Marking). In p.0 f) (sym (found_next g m q turn))
          (tried_in g (at g m q) p.0 g.steps e.step.0 (found g m q) (taken_step g z e p.0 p.1)
          (ap (λ (x : Marking). next g x e.step.0) its ∙ next_of_lem g z e p.0 p.1)))

  pub complete : (y : Marking) (es : List Entry) → Passes g m es y → In y (found g m (nearer g m (length es)))
  unfolding found nearer
  complete y es p =
      subst (λ (k : ℕ). In y (found g m (nearer g m k))) (let z : 0 + length es ≡ length es = omega arith in z)
      (complete_from 0 m y es (record { place = 0; low = (let l : 0 < length (m ∷ []) = omega arith in l); here = refl }) p)
