-- What stands in the store after an answer: the markings found, read as a sheet's marking is read, each at its place in the order of finding,
-- the start first; and behind them the bytes that stood there. Assumes nothing.
use Rattle.std.specs.Prelude.{ℕ, zero, suc, ◌*◌, ◌^◌, ◌≤◌, ◌<◌, ◌≡◌, List, [], ◌∷◌, ◌++◌, length, get_or, take, drop}
use Rattle.std.proofs.Common.{sym, ◌∙◌, subst, arith, lt_of_lt_of_le, get_or-take, drop_at, pow_mono}
use Rattle.std.proofs.Math.Path.{ap}
use Rattle.moves.specs.declared.Marking.{Marking}
use Rattle.moves.specs.First.{Verdict}
use Rattle.moves.specs.First.{first}
use Rattle.moves.specs.Move.{no_marking}
use Rattle.moves.specs.Inside.{Inside, fits_inside}
use Rattle.rules.specs.Graph.{Graph}
use Rattle.rules.specs.Laws.{clear_counts}
use Rattle.rules.specs.Sound.{clear_sound}
use Rattle.store.specs.Store.{laid, room, cell_at}
use Rattle.store.specs.Cells.{laid_at, length_laid}
use Rattle.deadend.specs.DeadEnd.{found, search, expanded, ends_lines, left_in, store_of, store_after}
use Rattle.deadend.specs.Order.{found_inside}
use Rattle.endings.specs.Endings.{clear, within}
use Rattle.std.specs.Prelude.{Ok}

-- all that was found
abbrev pub all_found : Graph → Marking → List ℕ → List Marking
all_found g m store = found g m (expanded (search (room store) g m))

-- as many of them as there is room for
abbrev pub stored : Graph → Marking → List ℕ → List Marking
stored g m store = take (room store) (all_found g m store)

-- a place in the front of a list is a place before its end, and one of the list
front_place : (c : ℕ) (f : List Marking) (p : ℕ) → p < length (take c f) → (p < c) × (p < length f)
front_place zero f p h = absurd (let w : ⊥ = omega arith in w)
front_place (suc c) [] p h = absurd (let w : ⊥ = omega arith in w)
front_place (suc c) (x ∷ f) zero h = (let w : 0 < suc c = omega arith in w, let w : 0 < suc (length f) = omega arith in w)
front_place (suc c) (x ∷ f) (suc p) h =
    let r = front_place c f p (let w : p < length (take c f) = omega arith in w) in
    let a : p < c = r.0 in
    let b : p < length f = r.1 in
    (let w : suc p < suc c = omega arith in w, let w : suc p < suc (length f) = omega arith in w)

module _ (g : Graph) (m : Marking) (store : List ℕ) (answered : first (ends_lines g m store) ≡ Ok tt) where
  new : store_after g m store ≡ laid (stored g m store) ++ drop (24 * length (stored g m store)) store
  unfolding store_after store_of
  new = ap (λ (v : Verdict). store_of v (left_in store g m) store) answered

  place : (p : ℕ) → p < length (stored g m store) → get_or (stored g m store) p no_marking ≡ get_or (all_found g m store) p no_marking
  place p h = get_or-take (room store) (all_found g m store) p no_marking (front_place (room store) (all_found g m store) p h).0

  -- each fits its 24 bytes
  inside : (p : ℕ) → p < length (stored g m store) → Inside 64 (get_or (stored g m store) p no_marking)
  inside p h =
      let free = clear g m store answered in
      let i = found_inside g m (clear_sound g free) (fits_inside g.steps m (within g m store answered))
      (expanded (search (room store) g m)) p (front_place (room store) (all_found g m store) p h).1 in
      let wide : 2 ^ g.steps ≤ 2 ^ 64 = pow_mono (clear_counts g free).steps_most in
      subst (Inside 64) (sym (place p h))
      (record {
        done_in = lt_of_lt_of_le i.done_in wide;
        due_in = lt_of_lt_of_le i.due_in wide;
        included_in = lt_of_lt_of_le i.included_in wide;
      })

  -- marking p of the store is marking p of those found
  pub stored_at : (p : ℕ) → p < length (stored g m store) → cell_at (store_after g m store) p ≡ get_or (all_found g m store) p no_marking
  stored_at p h =
      ap (λ (s : List ℕ). cell_at s p) new
      ∙ laid_at (stored g m store) (drop (24 * length (stored g m store)) store) p inside h
      ∙ place p h

  -- the rest stays
  pub rest_stays : drop (24 * length (stored g m store)) (store_after g m store) ≡ drop (24 * length (stored g m store)) store
  rest_stays =
      ap (drop (24 * length (stored g m store))) new
      ∙ drop_at (laid (stored g m store)) (drop (24 * length (stored g m store)) store) (24 * length (stored g m store))
      (length_laid (stored g m store))
