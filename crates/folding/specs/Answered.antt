-- The laws of the answers, by what is found of the graph, the journal, the marking and the record. Assumes nothing.
use Rattle.std.specs.Prelude.{ℕ, ◌≡◌, List, [], ◌∷◌, ◌++◌, Bool}
use Rattle.std.proofs.Math.Path.{refl, ap}
use Rattle.std.proofs.Common.{◌∙◌}
use Rattle.std.proofs.Math.Bool.{true, false, not, cond}
use Rattle.rules.specs.Graph.{Graph, graph_lines, graph_verdict}
use Rattle.moves.specs.declared.Marking.{Marking}
use Rattle.moves.specs.declared.Refusal.{Refusal}
use Rattle.moves.specs.declared.Refusal.TheVariants.{Length, Outside, IllFormed, NotApplied}
use Rattle.moves.specs.First.{Verdict}
use Rattle.moves.specs.First.{first}
use Rattle.moves.specs.Move.{marking_fits, no_marking}
use Rattle.rules.specs.Answers.{marking_lines}
use Rattle.moves.specs.Given.{first_clear, first_refused}
use Rattle.journal.specs.Ran.{Ran}
use Rattle.journal.specs.Journal.{entries, length_fits}
use Rattle.journal.specs.Run.{run_from, ran_of, length_lines}
use Rattle.journal.specs.Inner.{run_on, run_from_lem}
use Rattle.moves.specs.Inside.{fits_inside}
use Rattle.records.specs.Answered.{gives_inside}
use Rattle.records.specs.WellFormed.{well_formed_lem}
use Rattle.records.specs.declared.Record.{Record}
use Rattle.records.specs.Answers.{Recorded}
use Rattle.records.specs.Records.{applies, gives, well_formed}
use Rattle.folding.specs.Fold.{fold_of}
use Rattle.records.specs.Answers.{recorded_of}
use Rattle.folding.specs.Answers.{the_fold, the_restoring}
use Rattle.std.specs.Prelude.{Ok, Err}
use Rattle.journal.specs.Ran.{stopped}

-- ---- fold

pub fold_graph : (g : Graph) (j : List ℕ) (q : Refusal) → graph_verdict g ≡ Err q → the_fold g j ≡ Err q
unfolding the_fold recorded_of
fold_graph g j q e = ap (λ (v : Verdict). recorded_of v (fold_of g (entries j))) (first_refused (graph_lines g) (length_lines j) q e)

pub fold_length : (g : Graph) (j : List ℕ) → graph_verdict g ≡ Ok tt → length_fits j ≡ false → the_fold g j ≡ Err Length
unfolding the_fold recorded_of first
fold_length g j e f =
    ap (λ (v : Verdict). recorded_of v (fold_of g (entries j)))
    (first_clear (graph_lines g) (length_lines j) e ∙ ap (λ (b : Bool). cond (not b) (Err Length) (Ok tt)) f)

pub fold_clear : (g : Graph) (j : List ℕ) → graph_verdict g ≡ Ok tt → length_fits j ≡ true
    → the_fold g j ≡ Ok (fold_of g (entries j))
unfolding the_fold recorded_of first
fold_clear g j e f =
    ap (λ (v : Verdict). recorded_of v (fold_of g (entries j)))
    (first_clear (graph_lines g) (length_lines j) e ∙ ap (λ (b : Bool). cond (not b) (Err Length) (Ok tt)) f)

-- ---- restore

module _ (g : Graph) (r : Record) (j : List ℕ) (m : Marking) where
  -- what is answered where nothing below 11 is against it
  abbrev tried : Ran
  tried = cond (applies r m) (run_from g (gives r m) 0 (entries j)) (Err (stopped 0 m NotApplied))

  pub restore_graph : (q : Refusal) → graph_verdict g ≡ Err q → the_restoring g r j m ≡ Err (stopped 0 no_marking q)
  unfolding the_restoring ran_of
  restore_graph q e = ap (λ (v : Verdict). ran_of v tried)
      (first_refused (graph_lines g) (length_lines j ++ marking_lines g m ++ (IllFormed, not (well_formed g.steps r)) ∷ []) q e)

  -- the lines after the graph's
  restore_lines_lem : (l f w : Bool) → graph_verdict g ≡ Ok tt → length_fits j ≡ l → marking_fits g.steps m ≡ f
      → well_formed g.steps r ≡ w
      → the_restoring g r j m ≡ ran_of (first ((Length, not l) ∷ (Outside, not f) ∷ (IllFormed, not w) ∷ [])) tried
  unfolding the_restoring
  restore_lines_lem l f w e p q s =
      ap (λ (v : Verdict). ran_of v tried)
      (first_clear (graph_lines g) (length_lines j ++ marking_lines g m ++ (IllFormed, not (well_formed g.steps r)) ∷ []) e)
      ∙ (λ i. ran_of (first ((Length, not (p i)) ∷ (Outside, not (q i)) ∷ (IllFormed, not (s i)) ∷ [])) tried)

  pub restore_length : graph_verdict g ≡ Ok tt → length_fits j ≡ false → the_restoring g r j m ≡ Err (stopped 0 no_marking Length)
  unfolding ran_of first
  restore_length e p = restore_lines_lem false (marking_fits g.steps m) (well_formed g.steps r) e p refl refl

  pub restore_outside : graph_verdict g ≡ Ok tt → length_fits j ≡ true → marking_fits g.steps m ≡ false
      → the_restoring g r j m ≡ Err (stopped 0 no_marking Outside)
  unfolding ran_of first
  restore_outside e p q = restore_lines_lem true false (well_formed g.steps r) e p q refl

  pub restore_ill : graph_verdict g ≡ Ok tt → length_fits j ≡ true → marking_fits g.steps m ≡ true → well_formed g.steps r ≡ false
      → the_restoring g r j m ≡ Err (stopped 0 no_marking IllFormed)
  unfolding ran_of first
  restore_ill e p q s = restore_lines_lem true true false e p q s

  pub restore_on : (a : Bool) → graph_verdict g ≡ Ok tt → length_fits j ≡ true → marking_fits g.steps m ≡ true
      → well_formed g.steps r ≡ true → applies r m ≡ a
      → the_restoring g r j m ≡ cond a (run_on g (gives r m) 0 (entries j)) (Err (stopped 0 m NotApplied))
  unfolding ran_of first
  restore_on a e p q s t =
      restore_lines_lem true true true e p q s
      ∙ ap (λ (b : Bool). cond b (run_from g (gives r m) 0 (entries j)) (Err (stopped 0 m NotApplied))) t
      ∙ ap (λ (o : Ran). cond a o (Err (stopped 0 m NotApplied)))
      (run_from_lem g (gives r m) 0 (entries j) e
      (gives_inside g.steps r m (well_formed_lem g.steps r s).bounded (fits_inside g.steps m q)))
