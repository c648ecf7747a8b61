-- The theorems on folding journals: a fold tells what the run does, the fold of one journal after another is the join of their
-- folds, and going on from a record is going on from the run. Assumes nothing.
use Rattle.std.specs.Prelude.{ℕ, ◌+◌, ◌≡◌, refl, List, [], ◌∷◌, ◌++◌, Bool, true, false, Ok, Err}
use Rattle.std.proofs.Common.{sym, ap, ap₂, ◌∙◌, subst, arith, le-leb}
use Rattle.std.proofs.Math.Option.{Option, none, some, bind}
use Rattle.sets.specs.Truth.{and_intro}
use Rattle.rules.specs.Graph.{Graph, graph_verdict}
use Rattle.moves.specs.declared.Marking.{Marking}
use Rattle.moves.specs.declared.Entry.{Entry}
use Rattle.moves.specs.declared.Refusal.{Refusal}
use Rattle.moves.specs.declared.Refusal.TheVariants.{Length, Outside, NotApplied}
use Rattle.moves.specs.First.{Verdict}
use Rattle.moves.specs.Move.{Move, within1to, marking_fits, no_marking}
use Rattle.rules.specs.Answers.{entry_move}
use Rattle.tables.specs.Laws.{Counted}
use Rattle.rules.specs.Laws.{clear_counts}
use Rattle.moves.specs.Inside.{Inside, fits_inside, inside_fits}
use Rattle.rules.specs.Sound.{clear_sound}
use Rattle.journal.specs.Ran.{Ran, ended, stopped}
use Rattle.journal.specs.Journal.{entries, length_fits}
use Rattle.journal.specs.Run.{go_on, the_run}
use Rattle.journal.specs.Inner.{run_on}
use Rattle.journal.specs.Laws.{fits_threes, entries_append, run_graph, run_length, run_inside}
use Rattle.runs.specs.Runs.{and_then, further, Passes, passes_both, ended_passes, journals_append}
use Rattle.records.specs.declared.Record.{Record}
use Rattle.records.specs.Records.{acts, well_formed, join, identity}
use Rattle.records.specs.Laws.{acts_some, acts_none}
use Rattle.records.specs.WellFormed.{WellFormed, well_formed_lem, of_well_formed}
use Rattle.records.specs.Answers.{the_join, the_application}
use Rattle.records.specs.Answered.{Applying, applying, applied_of_lem, joins, gives_inside}
use Rattle.folding.specs.Fold.{fold_of}
use Rattle.folding.specs.Effect.{moved_to, end_of_all}
use Rattle.folding.specs.Laws.{fold_well_formed, acts_fold, fold_append}
use Rattle.folding.specs.Answers.{the_fold, the_restoring}
use Rattle.folding.specs.Answered.{fold_graph, fold_length, fold_clear, restore_graph, restore_length, restore_outside, restore_on}

-- ---- a fold tells what the run does

-- the end marking of a run that ends
unfoldable pub end_of : Ran → Option Marking
end_of (Ok e) = some e.marking
end_of (Err d) = none

-- the entries pass exactly if the run ends, and it ends where they end
pub passes_end : (g : Graph) (m : Marking) (k : ℕ) (es : List Entry) → end_of_all g m es ≡ end_of (run_on g m k es)
unfolding end_of_all run_on go_on end_of moved_to bind
passes_end g m k [] = refl
passes_end g m k (e ∷ es) = go (entry_move g m e) (λ next. passes_end g next (k + 1) es)
  where
    go : (o : Move) → ((next : Marking) → end_of_all g next es ≡ end_of (run_on g next (k + 1) es))
        → bind (moved_to o) (λ next. end_of_all g next es) ≡ end_of (go_on k m o (λ next. run_on g next (k + 1) es))
    go (Ok next) rest = rest next
    go (Err d) rest = refl

-- what a journal that folds shows
pub record Folding (g : Graph) (j : List ℕ) (r : Record) : Type 0 where
  pub clear : graph_verdict g ≡ Ok tt
  pub long : length_fits j ≡ true
  pub made : fold_of g (entries j) ≡ r

pub folding : (g : Graph) (j : List ℕ) (r : Record) → the_fold g j ≡ Ok r → Folding g j r
folding g j r e = graph (graph_verdict g) refl
  where
    long : graph_verdict g ≡ Ok tt → (b : Bool) → length_fits j ≡ b → Folding g j r
    long clear true l = record {
      clear = clear;
      long = l;
      made =
          (let same : Ok (fold_of g (entries j)) ≡ Ok r = sym (fold_clear g j clear l) ∙ e in cc);
    }
    long clear false l = absurd
        (let bad : Err _ ≡ Ok r = sym (fold_length g j clear l) ∙ e in let z : ◌≡◌ {A = ℕ} 0 1 = cc in let w : ⊥ =
        omega arith in w)

    graph : (v : Verdict) → graph_verdict g ≡ v → Folding g j r
    graph (Ok _) q = long q (length_fits j) refl
    graph (Err p) q =
        absurd (let bad : Err p ≡ Ok r = sym (fold_graph g j p q) ∙ e in let z : ◌≡◌ {A = ℕ} 0 1 = cc in let w : ⊥ =
        omega arith in w)

-- The fold of a journal is well-formed, and at every marking of the graph it applies exactly when the run allows every entry,
-- and then gives the run's end marking
pub fold_tells : (g : Graph) (j : List ℕ) (r : Record) → the_fold g j ≡ Ok r
    → (well_formed g.steps r ≡ true) × ((m : Marking) → marking_fits g.steps m ≡ true → acts r m ≡ end_of (the_run g m j))
fold_tells g j r e =
    let f : Folding g j r = folding g j r e in (
      of_well_formed g.steps r (subst (WellFormed g.steps) f.made (fold_well_formed g (entries j) (clear_sound g f.clear))),
      λ m i. ap (λ (q : Record). acts q m) (sym f.made) ∙ acts_fold g (entries j) m ∙ passes_end g m 0 (entries j)
          ∙ ap end_of (sym (run_inside g m j f.clear f.long i)),
    )

-- a graph with nothing against it has 1 to 64 steps
clear_steps : (g : Graph) → graph_verdict g ≡ Ok tt → within1to g.steps 64 ≡ true
clear_steps g e = let c : Counted g.steps g.people g.roles g.actions = clear_counts g e in
    and_intro (le-leb 1 g.steps c.steps_some) (le-leb g.steps 64 c.steps_most)

-- ---- one journal after another

-- the empty journal folds to the identity
pub fold_empty : (g : Graph) → graph_verdict g ≡ Ok tt → the_fold g [] ≡ Ok identity
unfolding entries fold_of
fold_empty g clear = fold_clear g [] clear refl

-- two journals in a row, if they are not too long for one, fold to the join of their records
pub fold_joins : (g : Graph) (a b : List ℕ) (p q : Record) → the_fold g a ≡ Ok p → the_fold g b ≡ Ok q
    → length_fits (a ++ b) ≡ true
    → the_fold g (a ++ b) ≡ the_join g.steps p q
fold_joins g a b p q ea eb long =
    let fa : Folding g a p = folding g a p ea in
    let fb : Folding g b q = folding g b q eb in
    fold_clear g (a ++ b) fa.clear long
    ∙ ap (λ (es : List Entry). Ok (fold_of g es)) (entries_append a b (fits_threes a fa.long))
    ∙ ap Ok (fold_append g (entries a) (entries b) (clear_sound g fa.clear))
    ∙ ap₂ (λ (x y : Record). Ok (join x y)) fa.made fb.made
    ∙ sym (joins g.steps p q (clear_steps g fa.clear) (fold_tells g a p ea).0 (fold_tells g b q eb).0)

-- ---- going on from a record

-- restoring is applying and then running
pub restore_applied : (g : Graph) (r : Record) (j : List ℕ) (m x : Marking) → the_application g.steps r m ≡ Ok x
    → the_restoring g r j m ≡ the_run g x j
restore_applied g r j m x e = graph (graph_verdict g) refl
  where
    a : Applying g.steps r m x
    a = applying g.steps r m x e

    inside : Inside g.steps x
    inside = subst (Inside g.steps) a.given
        (gives_inside g.steps r m (well_formed_lem g.steps r a.good).bounded (fits_inside g.steps m a.fits))

    long : graph_verdict g ≡ Ok tt → (b : Bool) → length_fits j ≡ b → the_restoring g r j m ≡ the_run g x j
    long clear true l =
        restore_on g r j m true clear l a.fits a.good a.suits
        ∙ ap (λ (y : Marking). run_on g y 0 (entries j)) a.given
        ∙ sym (run_inside g x j clear l (inside_fits g.steps x inside))
    long clear false l = restore_length g r j m clear l ∙ sym (run_length g x j clear l)

    graph : (v : Verdict) → graph_verdict g ≡ v → the_restoring g r j m ≡ the_run g x j
    graph (Ok _) q = long q (length_fits j) refl
    graph (Err p) q = restore_graph g r j m p q ∙ sym (run_graph g x j p q)

-- where the first journal passes, restoring from its record is running the second from where it ends
pub restore_ended : (g : Graph) (a b : List ℕ) (p : Record) (m x : Marking) (n : ℕ) → the_fold g a ≡ Ok p
    → the_run g m a ≡ Ok (ended x n)
    → the_restoring g p b m ≡ the_run g x b
unfolding end_of
restore_ended g a b p m x n ea ends =
    let f : Folding g a p = folding g a p ea in
    let told = fold_tells g a p ea in
    let within : marking_fits g.steps m ≡ true = (ended_passes g m x n a ends).0.within in
    let does = acts_some p m x (told.1 m within ∙ ap end_of ends) in
    restore_applied g p b m x
    (applied_of_lem g.steps p m x
    (record { counts = clear_steps g f.clear; fits = within; good = told.0; suits = does.0; given = does.1 }))

-- where it stops, the record does not apply
pub restore_stopped : (g : Graph) (a b : List ℕ) (p : Record) (m x : Marking) (k : ℕ) (q : Refusal) → the_fold g a ≡ Ok p
    → marking_fits g.steps m ≡ true → length_fits b ≡ true
    → the_run g m a ≡ Err (stopped k x q) → the_restoring g p b m ≡ Err (stopped 0 m NotApplied)
unfolding end_of
restore_stopped g a b p m x k q ea within long stops =
    let f : Folding g a p = folding g a p ea in
    let told = fold_tells g a p ea in
    restore_on g p b m false f.clear long within told.0 (acts_none p m (told.1 m within ∙ ap end_of stops))

-- running one journal after another is running the first, and then what restoring from its record gives, counted on
pub restore_appends : (g : Graph) (a b : List ℕ) (p : Record) (m : Marking) → the_fold g a ≡ Ok p → length_fits (a ++ b) ≡ true
    → the_run g m (a ++ b) ≡ and_then (the_run g m a) (λ x n. further n (the_restoring g p b m))
unfolding and_then
restore_appends g a b p m ea long = journals_append g m a b (folding g a p ea).long long ∙ go (the_run g m a) refl
  where
    go : (v : Ran) → the_run g m a ≡ v
        → and_then v (λ x n. further n (the_run g x b)) ≡ and_then v (λ x n. further n (the_restoring g p b m))
    go (Ok w) e = ap (further w.entries) (sym (restore_ended g a b p m w.marking w.entries ea e))
    go (Err d) e = refl

-- whatever is passed after a record was passed by the journal that it is of, and then by the rest
pub restore_passes : (g : Graph) (a b : List ℕ) (p : Record) (m x : Marking) (n : ℕ) → the_fold g a ≡ Ok p
    → the_restoring g p b m ≡ Ok (ended x n)
    → Passes g m (entries a ++ entries b) x
restore_passes g a b p m x n ea ends = go (the_run g m a) refl
  where
    clear : graph_verdict g ≡ Ok tt
    clear = (folding g a p ea).clear

    stops : {A : Type 0} (k : ℕ) (y : Marking) (q : Refusal) → the_restoring g p b m ≡ Err (stopped k y q) → A
    stops k y q e =
        absurd (let s : Err (stopped k y q) ≡ Ok (ended x n) = sym e ∙ ends in
        let z : ◌≡◌ {A = ℕ} 0 1 = cc in let w : ⊥ = omega arith in w)

    refused : {A : Type 0} (k : ℕ) (y : Marking) (q : Refusal) → the_run g m a ≡ Err (stopped k y q) → (l f : Bool) → length_fits b ≡ l
        → marking_fits g.steps m ≡ f → A
    refused k y q e false f u v = stops 0 no_marking Length (restore_length g p b m clear u)
    refused k y q e true false u v = stops 0 no_marking Outside (restore_outside g p b m clear u v)
    refused k y q e true true u v = stops 0 m NotApplied (restore_stopped g a b p m y k q ea v u e)

    go : (v : Ran) → the_run g m a ≡ v → Passes g m (entries a ++ entries b) x
    go (Ok w) e =
        passes_both g m w.marking x (entries a) (entries b) (ended_passes g m w.marking w.entries a e).2
        (ended_passes g w.marking x n b (sym (restore_ended g a b p m w.marking w.entries ea e) ∙ ends)).2
    go (Err d) e = refused d.index d.marking d.refusal e (length_fits b) (marking_fits g.steps m) refl refl
