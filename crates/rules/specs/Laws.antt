-- The laws of the rules: a table of the block, and the answers by what is found of graph, marking and entry. Assumes nothing.
use Rattle.std.specs.Prelude.{ℕ, ◌≡◌, List, [], ◌++◌, Bool, true, false, not, cond}
use Rattle.std.proofs.Common.{ap, ◌∙◌}
use Rattle.std.proofs.lemmas.Bool.{not-false}
use Rattle.rules.specs.Graph.{Graph, graph_lines, graph_verdict}
use Rattle.moves.specs.declared.Marking.{Marking}
use Rattle.moves.specs.declared.Entry.{Entry}
use Rattle.moves.specs.declared.Refusal.{Refusal}
use Rattle.moves.specs.First.{Verdict}
use Rattle.rules.specs.declared.Ending.{Ending}
use Rattle.moves.specs.declared.Refusal.TheVariants.{Outside, Unknown}
use Rattle.moves.specs.First.{Line, first}
use Rattle.tables.specs.Tables.{counts_fit}
use Rattle.moves.specs.Move.{move_of, is_finished, marking_fits, size_lines, row_lines}
use Rattle.rules.specs.Answers.{the_asked, asked_on, entry_asked, the_move, entry_move, the_ending, ending_on, ending_of}
use Rattle.rules.specs.Answers.{entry_known, entry_lines, marking_lines, row_of, after_entry}
use Rattle.moves.specs.Given.{first_clear, first_refused, clear_head}
use Rattle.tables.specs.Laws.{Counted, counts_bound}
use Rattle.std.specs.Prelude.{Ok, Err}

-- a graph with nothing against it has counts that fit
pub clear_counts : (g : Graph) → graph_verdict g ≡ Ok tt → Counted g.steps g.people g.roles g.actions
clear_counts g e = counts_bound g.steps g.people g.roles g.actions
    (not-false (counts_fit g.steps g.people g.roles g.actions) (clear_head _ _ e))

-- ---- the answers, by what is found of the graph and the marking

outside : (n : ℕ) (m : Marking) (rest : List Line) → marking_fits n m ≡ false → first (size_lines n m ++ rest) ≡ Err Outside
unfolding first
outside n m rest f = ap (λ (b : Bool). cond (not b) (Err Outside) (first rest)) f

inside : (n : ℕ) (m : Marking) (rest : List Line) → marking_fits n m ≡ true → first (size_lines n m ++ rest) ≡ first rest
unfolding first
inside n m rest f = ap (λ (b : Bool). cond (not b) (Err Outside) (first rest)) f

pub asked_refused : (g : Graph) (m : Marking) (e : Entry) (r : Refusal) → graph_verdict g ≡ Err r
    → the_asked g m e ≡ Err r
unfolding the_asked
asked_refused g m e r q = (first_refused (graph_lines g) (marking_lines g m ++ entry_lines g m e) r q)

pub asked_clear : (g : Graph) (m : Marking) (e : Entry) → graph_verdict g ≡ Ok tt → the_asked g m e ≡ asked_on g m e
unfolding the_asked asked_on
asked_clear g m e q = (first_clear (graph_lines g) (marking_lines g m ++ entry_lines g m e) q)

pub on_outside : (g : Graph) (m : Marking) (e : Entry) → marking_fits g.steps m ≡ false → asked_on g m e ≡ Err Outside
unfolding asked_on
on_outside g m e f = (outside g.steps m (entry_lines g m e) f)

pub on_inside : (g : Graph) (m : Marking) (e : Entry) → marking_fits g.steps m ≡ true → asked_on g m e ≡ entry_asked g m e
unfolding asked_on entry_asked
on_inside g m e f = (inside g.steps m (entry_lines g m e) f)

pub move_inside : (g : Graph) (m : Marking) (e : Entry) → graph_verdict g ≡ Ok tt → marking_fits g.steps m ≡ true
    → the_move g m e ≡ entry_move g m e
unfolding the_move entry_move
move_inside g m e q f = ap (λ (o : Verdict). move_of o m (after_entry g m e)) (asked_clear g m e q ∙ on_inside g m e f)

pub ending_refused : (g : Graph) (m : Marking) (r : Refusal) → graph_verdict g ≡ Err r → the_ending g m ≡ Err r
unfolding the_ending ending_of
ending_refused g m r q = ap (λ (v : Verdict). ending_of v (is_finished m)) (first_refused (graph_lines g) (marking_lines g m) r q)

pub ending_clear : (g : Graph) (m : Marking) → graph_verdict g ≡ Ok tt → the_ending g m ≡ ending_on g.steps m
unfolding the_ending ending_on
ending_clear g m q = ap (λ (v : Verdict). ending_of v (is_finished m)) (first_clear (graph_lines g) (marking_lines g m) q)

pub ending_outside : (n : ℕ) (m : Marking) → marking_fits n m ≡ false → ending_on n m ≡ Err Outside
unfolding ending_on ending_of
ending_outside n m f = ap (λ (v : Verdict). ending_of v (is_finished m)) (outside n m [] f)

pub ending_inside : (n : ℕ) (m : Marking) → marking_fits n m ≡ true → ending_on n m ≡ cond (is_finished m) (Ok Ending.Finished) (Ok Ending.Open)
unfolding ending_on ending_of first
ending_inside n m f = ap (λ (v : Verdict). ending_of v (is_finished m)) (inside n m [] f)

-- ---- an entry, by what is known of it

pub entry_unknown : (g : Graph) (m : Marking) (e : Entry) → entry_known g e ≡ false → entry_asked g m e ≡ Err Unknown
unfolding entry_asked first
entry_unknown g m e k = simp k

pub entry_known_lem : (g : Graph) (m : Marking) (e : Entry) → entry_known g e ≡ true
    → entry_asked g m e ≡ (first (row_lines (row_of g e.person e.step.0) m e))
unfolding entry_asked first
entry_known_lem g m e k = simp k
