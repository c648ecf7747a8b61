-- What there is to a graph and a marking that nothing is against. Assumes nothing.
use Rattle.std.specs.Prelude.{ℕ, zero, suc, ◌+◌, ◌*◌, ◌≤◌, ◌<◌, ◌≡◌, refl, List, true, false, ◌&&◌, length, Ok, Err}
use Rattle.std.proofs.Common.{sym, ap, ◌∙◌, subst, arith}
use Rattle.std.proofs.lemmas.Bool.{not-false}
use Rattle.sets.specs.Truth.{and_false, and_true, and_left, and_right}
use Rattle.moves.specs.declared.Marking.{Marking}
use Rattle.moves.specs.declared.Refusal.TheVariants.{Counts, Beyond}
use Rattle.moves.specs.First.{first}
use Rattle.moves.specs.Given.{clear_head, clear_tail}
use Rattle.moves.specs.Move.{marking_fits}
use Rattle.tables.specs.Tables.{row, table_at, keeps, labels_fit, counts_fit, kinds_apart}
use Rattle.tables.specs.Laws.{Counted, table_of_table}
use Rattle.rules.specs.Graph.{Graph, graph_of, sets_fit, graph_verdict}
use Rattle.rules.specs.Laws.{clear_counts}
use Rattle.rules.specs.Block.{kinds_joined}
use Rattle.arrows.specs.Arrows.{arrows_body}
use Rattle.arrows.specs.Rows.{Kept, kind_rows, turned_in}
use Rattle.arrows.specs.Loops.{body_most}
use Rattle.writing.specs.Writing.{arrow_table, content_lines}

-- ---- what may be against the content

pub content_counts : (g : Graph) (m : Marking) → counts_fit g.steps g.people g.roles g.actions ≡ false
    → first (content_lines g m) ≡ Err Counts
unfolding first
content_counts g m a = simp a

pub content_beyond : (g : Graph) (m : Marking) → counts_fit g.steps g.people g.roles g.actions ≡ true
    → marking_fits g.steps m ≡ false → first (content_lines g m) ≡ Err Beyond
unfolding first
content_beyond g m a b = simp (a, b, and_false)

-- with a marking that fits it is what is against the graph
pub content_graph : (g : Graph) (m : Marking) → marking_fits g.steps m ≡ true → first (content_lines g m) ≡ graph_verdict g
unfolding first
content_graph g m b = simp (b, and_true)

module _ (g : Graph) (m : Marking) (e : first (content_lines g m) ≡ Ok tt) where
  pub marking_clear : marking_fits g.steps m ≡ true
  marking_clear =
      let both : (sets_fit g && marking_fits g.steps m) ≡ true =
      not-false (sets_fit g && marking_fits g.steps m) (clear_head _ _ (clear_tail _ _ e)) in
      and_right (sets_fit g) (marking_fits g.steps m) both

  pub graph_clear : graph_verdict g ≡ Ok tt
  graph_clear = sym (content_graph g m marking_clear) ∙ e

-- ---- a graph that nothing is against, table by table

pub record Fitting (g : Graph) : Type 0 where
  pub counted : Counted g.steps g.people g.roles g.actions
  pub allows_kept : keeps g.actions g.roles g.allows ≡ true
  pub holds_kept : keeps g.people g.roles g.holds ≡ true
  pub labels_kept : labels_fit g.steps g.actions g.labels ≡ true
  pub conditions_kept : keeps g.steps g.steps g.conditions ≡ true
  pub responses_kept : keeps g.steps g.steps g.responses ≡ true
  pub includes_kept : keeps g.steps g.steps g.includes ≡ true
  pub excludes_kept : keeps g.steps g.steps g.excludes ≡ true
  pub apart : kinds_apart g.steps g.includes g.excludes ≡ true

pub clear_fitting : (g : Graph) → graph_verdict g ≡ Ok tt → Fitting g
unfolding sets_fit
clear_fitting g e =
    let a = keeps g.actions g.roles g.allows in
    let h = keeps g.people g.roles g.holds in
    let l = labels_fit g.steps g.actions g.labels in
    let c = keeps g.steps g.steps g.conditions in
    let r = keeps g.steps g.steps g.responses in
    let i = keeps g.steps g.steps g.includes in
    let x = keeps g.steps g.steps g.excludes in
    let fit : sets_fit g ≡ true = not-false (sets_fit g) (clear_head _ _ (clear_tail _ _ e)) in
    let rows : ((a && h) && l) ≡ true = and_left ((a && h) && l) ((c && r) && (i && x)) fit in
    let roles : (a && h) ≡ true = and_left (a && h) l rows in
    let arrows : ((c && r) && (i && x)) ≡ true = and_right ((a && h) && l) ((c && r) && (i && x)) fit in
    let firsts : (c && r) ≡ true = and_left (c && r) (i && x) arrows in
    let lasts : (i && x) ≡ true = and_right (c && r) (i && x) arrows in
    let last = clear_head _ _ (clear_tail _ _ (clear_tail _ _ e)) in
    record {
      counted = clear_counts g e;
      allows_kept = and_left a h roles;
      holds_kept = and_right a h roles;
      labels_kept = and_right (a && h) l rows;
      conditions_kept = and_left c r firsts;
      responses_kept = and_right c r firsts;
      includes_kept = and_left i x lasts;
      excludes_kept = and_right i x lasts;
      apart = not-false (kinds_apart g.steps g.includes g.excludes) last;
    }

-- ---- its tables of arrows as they lie in the block

-- the conditions by the step that is waited for
abbrev pub turned_of : Graph → List ℕ
turned_of g = turned_in g.steps (arrow_table g)

-- where the rows of a kind lie
pub kind_lies : (block : List ℕ) (kind : ℕ) → kind < 4 → kind_rows (arrow_table (graph_of block)) kind ≡ table_at (4 + kind * 64) 64 block
kind_lies block kind h =
    ap (λ (t : List ℕ). kind_rows t kind) (kinds_joined block) ∙ table_of_table 4 256 (kind * 64) 64 block (omega arith)

pub table_kept : (block : List ℕ) → graph_verdict (graph_of block) ≡ Ok tt → Kept (row block 0) (arrow_table (graph_of block))
table_kept block e =
    record {
      few = fitting.counted.steps_most;
      kinds =
          λ kind h. subst (λ (t : List ℕ). keeps (row block 0) (row block 0) t ≡ true)
          (sym (kind_lies block kind h)) (kind_kept kind h);
    }
  where
    fitting : Fitting (graph_of block)
    fitting = clear_fitting (graph_of block) e

    kind_kept : (kind : ℕ) → kind < 4 → keeps (row block 0) (row block 0) (table_at (4 + kind * 64) 64 block) ≡ true
    kind_kept zero h = fitting.conditions_kept
    kind_kept (suc zero) h = fitting.responses_kept
    kind_kept (suc (suc zero)) h = fitting.includes_kept
    kind_kept (suc (suc (suc zero))) h = fitting.excludes_kept
    kind_kept (suc (suc (suc (suc kind)))) h = absurd (let z : ⊥ = omega arith in z)

-- the table as the writer of arrows is handed it
pub part_kept : (block : List ℕ) → graph_verdict (graph_of block) ≡ Ok tt → Kept (row block 0) (table_at 4 256 block)
part_kept block e = subst (Kept (row block 0)) (kinds_joined block) (table_kept block e)

pub arrows_most : (block : List ℕ) → graph_verdict (graph_of block) ≡ Ok tt → length (arrows_body (arrow_table (graph_of block))) ≤ 49152
arrows_most block e = body_most (row block 0) (turned_of (graph_of block)) (arrow_table (graph_of block)) (table_kept block e) refl
