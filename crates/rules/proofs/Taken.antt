-- The move answers "moved" exactly if the graph, the marking and the entry are as they should be and the definitions allow the entry. What is
-- against an entry is told line by line (specs/Paper.antt); here the lines of the graph, the marking and the entry come together.
-- Assumes nothing.
use Rattle.std.specs.Prelude.{◌≡◌, ◌++◌}
use Rattle.std.proofs.Common.{sym, ap, ◌∙◌}
use Rattle.std.proofs.lemmas.Bool.{not-false}
use Rattle.rules.specs.Graph.{Graph, graph_lines}
use Rattle.moves.specs.declared.Marking.{Marking}
use Rattle.moves.specs.declared.Entry.{Entry}
use Rattle.moves.specs.First.{Verdict}
use Rattle.moves.specs.Move.{Move}
use Rattle.moves.specs.First.{first}
use Rattle.rules.specs.Answers.{the_asked, the_move, move_lines, entry_lines, marking_lines, entry_known, row_of, after_entry}
use Rattle.moves.specs.Move.{move_of, after, marking_fits}
use Rattle.moves.specs.Given.{clear_head, clear_tail, clear_front, clear_back, first_clear}
use Rattle.rules.specs.Asking.{asked_taken}
use Rattle.rules.specs.Entries.{moved_after}
use Rattle.rules.specs.Paper.{Ready, Allowed, lines_allowed, allowed_lines}
use Rattle.std.specs.Prelude.{Ok}

-- Definitions 4 (iii), (iv) and 5, from left to right: what `ask` allows is allowed
pub asked_allowed : (g : Graph) (m : Marking) (e : Entry) → the_asked g m e ≡ Ok tt → Ready g m e × Allowed g m e
unfolding the_asked
asked_allowed g m e q =
    let c : first (move_lines g m e) ≡ (Ok tt) = q in
    let rest : first (marking_lines g m ++ entry_lines g m e) ≡ (Ok tt) =
    clear_back (graph_lines g) (marking_lines g m ++ entry_lines g m e) c in
    let entry : first (entry_lines g m e) ≡ (Ok tt) = clear_tail _ _ rest in (
      record {
        graph = clear_front (graph_lines g) (marking_lines g m ++ entry_lines g m e) c;
        marking = not-false (marking_fits g.steps m) (clear_head _ _ rest);
        names = not-false (entry_known g e) (clear_head _ _ entry);
      },
      lines_allowed g m e (clear_tail _ _ entry),
    )

-- and from right to left
pub allowed_asked : (g : Graph) (m : Marking) (e : Entry) → Ready g m e → Allowed g m e → the_asked g m e ≡ Ok tt
unfolding the_asked first
allowed_asked g m e r w =
    let rest : first (marking_lines g m ++ entry_lines g m e) ≡ (Ok tt) = simp (r.marking, r.names, allowed_lines g m e w) in
    (first_clear (graph_lines g) (marking_lines g m ++ entry_lines g m e) r.graph ∙ rest)

-- Definition 4 (i) to (vi) with Definition 5, from left to right: a step taken was allowed, and leads to the marking after
pub taken_allowed : (g : Graph) (m x : Marking) (e : Entry) → the_move g m e ≡ Ok x
    → Ready g m e × Allowed g m e × (x ≡ after (row_of g e.person e.step.0) m e.step.0)
taken_allowed g m x e q =
    let both = asked_allowed g m e ((asked_taken g m e).1 (x, q)) in
    (both.0, both.1, sym (moved_after g m x e q))

-- and from right to left: what is allowed is taken
pub allowed_taken : (g : Graph) (m : Marking) (e : Entry) → Ready g m e → Allowed g m e
    → the_move g m e ≡ Ok (after (row_of g e.person e.step.0) m e.step.0)
unfolding the_move move_of
allowed_taken g m e r w = ap (λ (o : Verdict). move_of o m (after_entry g m e)) (allowed_asked g m e r w)
