-- Endless runs by what is against each entry alone. On a graph with nothing against it, from a marking that fits, that decides the move,
-- since an allowed entry keeps the marking within the graph. Nothing here has to be believed. Assumes nothing.
use Prim.Native.Nat.{ℕ, zero, suc, ◌<◌}
use Rattle.std.specs.Prelude.{◌≡◌, ◌++◌, Bool, cond}
use Rattle.std.proofs.Math.Path.{refl, ap}
use Rattle.std.proofs.Common.{◌∙◌, le-leb}
use native.Mathlib.Omega.{arith}
use Rattle.std.proofs.lemmas.Bool.{not-false}
use Rattle.moves.specs.declared.Marking.{Marking}
use Rattle.moves.specs.declared.Entry.{Entry}
use Rattle.moves.specs.declared.Refusal.{Refusal}
use Rattle.moves.specs.First.{Verdict}
use Rattle.moves.specs.Move.{Move}
use Rattle.moves.specs.First.{first, number_of}
use Rattle.moves.specs.Move.{move_of, no_marking}
use Rattle.moves.specs.Given.{ascends, first_above, clear_head, clear_back}
use Rattle.moves.specs.Inside.{Inside, inside_fits}
use Rattle.rules.specs.Graph.{Graph, graph_lines, graph_verdict}
use Rattle.rules.specs.Answers.{entry_known, entry_lines, entry_asked, entry_move, marking_lines}
use Rattle.rules.specs.Laws.{move_inside}
use Rattle.rules.specs.Entries.{moved_clear, known_named}
use Rattle.rules.specs.Sound.{clear_sound, after_inside}
use Rattle.laps.specs.Endless.{step_at, marking_at, moved_at, TakenAt}
use Rattle.std.specs.Prelude.{Ok, Err}
use Rattle.moves.specs.Move.{denied}

module _ (g : Graph) (m : Marking) (e : ℕ → Entry) where
  -- what is against the entry at i, read in the marking at i: 11 to 15
  abbrev pub verdict_at : ℕ → Verdict
  verdict_at i = first (entry_lines g (marking_at g m e i) (e i))

  -- nothing is against any entry
  abbrev pub Unbarred : Type 0
  Unbarred = (i : ℕ) → verdict_at i ≡ Ok tt

  -- nothing is against any entry before position i
  abbrev pub UnbarredUntil : ℕ → Type 0
  UnbarredUntil i = (j : ℕ) → j < i → verdict_at j ≡ Ok tt

  run_moves : (i : ℕ) → verdict_at i ≡ Ok tt → entry_move g (marking_at g m e i) (e i) ≡ Ok (marking_at g m e (suc i))
  unfolding entry_move entry_asked move_of marking_at
  run_moves i q = ap (λ (v : Verdict). move_of v (marking_at g m e i) (marking_at g m e (suc i))) q

  run_refuses : (i : ℕ) (r : Refusal) → verdict_at i ≡ Err r
      → entry_move g (marking_at g m e i) (e i) ≡ Err (denied (marking_at g m e i) r)
  unfolding entry_move entry_asked move_of marking_at ascends number_of
  run_refuses i r q =
      ap (λ (v : Verdict). move_of v (marking_at g m e i) (marking_at g m e (suc i))) q
      ∙ ap (λ (b : Bool). Err (denied (cond b (marking_at g m e i) no_marking) r))
      (le-leb 11 (number_of r) (let h : 10 < number_of r = first_above 10 (entry_lines g (marking_at g m e i) (e i)) r refl q in omega arith))

  -- an entry that is taken has nothing against it
  pub taken_clear : (i : ℕ) → TakenAt g m e i → verdict_at i ≡ Ok tt
  taken_clear i q =
      let at : Marking = marking_at g m e i in
      clear_back (marking_lines g at) (entry_lines g at (e i))
      (clear_back (graph_lines g) (marking_lines g at ++ entry_lines g at (e i)) (moved_clear g at (marking_at g m e (suc i)) (e i) q))

  module _ (clear : graph_verdict g ≡ Ok tt) (inside : Inside g.steps m) where
    pub inside_until : (i : ℕ) → UnbarredUntil i → Inside g.steps (marking_at g m e i)
    unfolding marking_at
    inside_until zero all = inside
    inside_until (suc i) all =
        after_inside g (marking_at g m e i) (e i).person (step_at g m e i) (clear_sound g clear)
        (known_named g (e i) (not-false (entry_known g (e i)) (clear_head _ _ (all i (let z : i < suc i = omega arith in z))))).step_in
        (inside_until i (λ j h. all j (let z : j < suc i = omega arith in z)))

    by_entry : (i : ℕ) → UnbarredUntil i → moved_at g m e i ≡ entry_move g (marking_at g m e i) (e i)
    by_entry i all = move_inside g (marking_at g m e i) (e i) clear (inside_fits g.steps (marking_at g m e i) (inside_until i all))

    pub moves_at : (i : ℕ) → UnbarredUntil i → verdict_at i ≡ Ok tt → TakenAt g m e i
    moves_at i all q = by_entry i all ∙ run_moves i q

    pub refuses_at : (i : ℕ) (r : Refusal) → UnbarredUntil i → verdict_at i ≡ Err r
        → moved_at g m e i ≡ Err (denied (marking_at g m e i) r)
    refuses_at i r all q = by_entry i all ∙ run_refuses i r q
