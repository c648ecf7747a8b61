-- Reading what was written gives the job and its first marking. The contents of a sheet lead to the bodies that it was laid out from; each
-- body is read back; and what stands for writing (2, 4, 6) is what the reader asks for (1 to 6). Assumes that a block has 404 words, as
-- every lent one has.
use Rattle.std.specs.Prelude.{ℕ, ◌*◌, ◌^◌, ◌≤◌, ◌<◌, ◌≡◌, List, [], ◌∷◌, ◌++◌, true, length, get_or, Ok}
use Rattle.std.proofs.Common.{sym, ap, ap₂, ◌∙◌, subst, lt_of_lt_of_le, arith, pow_mono, eq-eqb}
use Rattle.std.proofs.lemmas.Bool.{not-false}
use Rattle.sets.specs.Truth.{and_left, and_intro}
use Rattle.moves.specs.declared.Marking.{Marking}
use Rattle.moves.specs.First.{first}
use Rattle.moves.specs.Given.{clear_head}
use Rattle.moves.specs.Inside.{Inside, fits_inside}
use Rattle.moves.specs.Move.{marking_fits}
use Rattle.tables.specs.Tables.{row, table_at, counts_fit, kinds_apart}
use Rattle.tables.specs.Laws.{rows_at}
use Rattle.rules.specs.Graph.{Graph, graph_of}
use Rattle.rules.specs.Block.{kinds_joined, block_whole}
use Rattle.arrows.specs.Arrows.{Arrow, link_in_order, arrows_in, table_of, arrows_of, arrows_body}
use Rattle.arrows.specs.Places.{arrows_in_spelt, length_spelt}
use Rattle.layout.specs.Layout.{start, follows, contents_fit, offset_at, size_at, body_at}
use Rattle.layout.specs.Lists.{length_part}
use Rattle.layout.specs.Laws.{bodies_from, laid_fits, laid_bodies}
use Rattle.tables.specs.declared.Counts.{Counts}
use Rattle.bodies.specs.Bodies.{counts_body, counts_in, marking_body, marking_in, roles_body, sets_in, role_sets_fit}
use Rattle.bodies.specs.Bodies.{labels_body, labels_in, actions_fit}
use Rattle.bodies.specs.Laws.{length_counts, length_marking, length_rows}
use Rattle.reading.specs.declared.Form.{Form}
use Rattle.reading.specs.Reading.{six_bodies, is_six, form_of, counts_of, first_of, arrows_on, labels_part, own_steps, block_read}
use Rattle.reading.specs.Reading.{layout_fits, counts_right, bodies_match, sets_inside, arrows_right, kinds_right, read_verdict}
use Rattle.reading.specs.Laws.{contents_inside, form_six, labels_six, own_six, match_six}
use Rattle.writing.specs.Writing.{arrow_table, bodies_of, sheet_bytes, content_lines}
use Rattle.writing.specs.Laws.{Fitting, clear_fitting, graph_clear, marking_clear, part_kept}
use Rattle.rounds.specs.Says.{Says}
use Rattle.rounds.specs.Tests.{layout_exactly}
use Rattle.bodies.specs.Markings.{marking_read}
use Rattle.rounds.specs.Bodies.{counts_read, rows_read, kept_roles, roles_fit_lem, kept_labels, labels_rows, labels_fit_lem}
use Rattle.rounds.specs.Arrows.{table_fit, table_read}
use Rattle.rounds.specs.Longest.{below_longest, shortest}

-- the contents fit, and lead to the bodies of the graph and the marking
record Carries (g : Graph) (m : Marking) (s : List ℕ) : Type 0 where
  fits : contents_fit 6 s ≡ true
  long : 35 ≤ length s
  short : length s ≤ 37147
  one : body_at s 0 ≡ counts_body g.steps g.people g.roles g.actions
  two : body_at s 1 ≡ marking_body m
  three : body_at s 2 ≡ roles_body g.actions g.allows
  four : body_at s 3 ≡ roles_body g.people g.holds
  five : body_at s 4 ≡ arrows_body (arrow_table g)
  six : body_at s 5 ≡ labels_body g.steps g.labels

carried : (block : List ℕ) (m : Marking) → first (content_lines (graph_of block) m) ≡ Ok tt
    → Carries (graph_of block) m (sheet_bytes (graph_of block) m)
unfolding sheet_bytes bodies_from
carried block m e =
    let g : Graph = graph_of block in
    let least : 64 ≤ length (sheet_bytes (graph_of block) m) = shortest block m e in
    let most : length (sheet_bytes (graph_of block) m) ≤ 37147 =
    let below : length (sheet_bytes (graph_of block) m) < 37148 = below_longest block m e in omega arith in
    let small : length (sheet_bytes (graph_of block) m) < 65536 = omega arith in
    let few : length (bodies_of (graph_of block) m) < 256 = omega arith in
    let bodies : bodies_from 6 0 (sheet_bytes (graph_of block) m) ≡ bodies_of (graph_of block) m = laid_bodies (bodies_of g m) small few in
    record {
      fits = laid_fits (bodies_of g m) small few;
      long = omega arith;
      short = most;
      one = ap (λ (l : List (List ℕ)). get_or l 0 []) bodies;
      two = ap (λ (l : List (List ℕ)). get_or l 1 []) bodies;
      three = ap (λ (l : List (List ℕ)). get_or l 2 []) bodies;
      four = ap (λ (l : List (List ℕ)). get_or l 3 []) bodies;
      five = ap (λ (l : List (List ℕ)). get_or l 4 []) bodies;
      six = ap (λ (l : List (List ℕ)). get_or l 5 []) bodies;
    }

module _ (block : List ℕ) (m : Marking) (whole : length block ≡ 404) (e : first (content_lines (graph_of block) m) ≡ Ok tt)
    (s : List ℕ) (k : Carries (graph_of block) m s) where
  abbrev g : Graph
  g = graph_of block

  fitting : Fitting (graph_of block)
  fitting = clear_fitting (graph_of block) (graph_clear (graph_of block) m e)

  is_six_lem : is_six s ≡ true
  is_six_lem = and_left (is_six s) (follows 6 0 (start 6) s) k.fits

  form : form_of s ≡ six_bodies
  form = form_six s is_six_lem

  -- ---- what is read

  counts_back : counts_of s ≡ record { steps = g.steps; people = g.people; roles = g.roles; actions = g.actions }
  counts_back =
      let a : row block 0 ≤ 64 = fitting.counted.steps_most in
      let b : row block 1 ≤ 16 = fitting.counted.people_most in
      let c : row block 2 ≤ 16 = fitting.counted.roles_most in
      let d : row block 3 ≤ 64 = fitting.counted.actions_most in
      ap₂ (λ (f : Form) (body : List ℕ). counts_in f.actions body) form k.one
      ∙ counts_read g.steps g.people g.roles g.actions (omega arith) (omega arith) (omega arith) (omega arith)

  first_back : first_of s ≡ m
  first_back =
      let in_word : 2 ^ row block 0 ≤ 2 ^ 64 = pow_mono fitting.counted.steps_most in
      let i : Inside (row block 0) m = fits_inside g.steps m (marking_clear g m e) in
      ap marking_in k.two
      ∙ marking_read m (lt_of_lt_of_le i.done_in in_word) (lt_of_lt_of_le i.due_in in_word) (lt_of_lt_of_le i.included_in in_word)

  allows_back : sets_in 64 (body_at s 2) ≡ g.allows
  allows_back =
      ap (sets_in 64) k.three
      ∙ rows_read 2 g.actions 64 g.allows (rows_at 260 64 block (omega arith))
      (kept_roles g.actions g.roles g.allows fitting.counted.roles_most fitting.allows_kept)

  holds_back : sets_in 16 (body_at s 3) ≡ g.holds
  holds_back =
      ap (sets_in 16) k.four
      ∙ rows_read 2 g.people 16 g.holds (rows_at 324 16 block (omega arith))
      (kept_roles g.people g.roles g.holds fitting.counted.roles_most fitting.holds_kept)

  labels_part_lem : labels_part s ≡ labels_body g.steps g.labels
  labels_part_lem = labels_six s is_six_lem ∙ k.six

  labels_back : labels_in 64 (own_steps s) (labels_part s) ≡ g.labels
  labels_back =
      ap₂ (labels_in 64) (own_six s is_six_lem) labels_part_lem
      ∙ labels_rows 64 (labels_body g.steps g.labels)
      ∙ rows_read 1 g.steps 64 g.labels (rows_at 340 64 block (omega arith))
      (kept_labels g.steps g.actions g.labels fitting.counted.actions_some fitting.counted.actions_most
      fitting.labels_kept)

  arrows_back : arrows_on s ≡ arrows_of (row (table_at 4 256 block))
  arrows_back =
      ap arrows_in k.five
      ∙ arrows_in_spelt (arrows_of (row (arrow_table g)))
      ∙ ap (λ (t : List ℕ). arrows_of (row t)) (kinds_joined block)

  table_back : table_of (arrows_on s) ≡ table_at 4 256 block
  table_back =
      ap table_of arrows_back
      ∙ table_read g.steps (table_at 4 256 block) (part_kept block (graph_clear g m e)) (rows_at 4 256 block (omega arith))

  block_back : block_read s ≡ block
  unfolding block_read
  block_back =
      (λ i. (counts_back i).steps ∷ (counts_back i).people ∷ (counts_back i).roles ∷ (counts_back i).actions
      ∷ (table_back i ++ (allows_back i ++ (holds_back i ++ labels_back i))))
      ∙ block_whole block whole

  -- ---- and nothing is against it

  size_of : (i : ℕ) → i < 6 → size_at s i ≡ length (body_at s i)
  size_of i h = sym (length_part (offset_at s i) (size_at s i) s (contents_inside 6 s k.fits i h))

  layout_fits_lem : layout_fits s ≡ true
  layout_fits_lem =
      let arrows : List Arrow = arrows_of (row (arrow_table g)) in
      let one : size_at s 0 ≡ 4 =
      size_of 0 (omega arith) ∙ ap length k.one ∙ length_counts g.steps g.people g.roles g.actions in
      let five : size_at s 4 ≡ 3 * length (arrows_of (row (arrow_table g))) = size_of 4 (omega arith) ∙ ap length k.five
      ∙ length_spelt arrows in
      let fits : contents_fit (form_of s).bodies s ≡ true = subst (λ (f : Form). contents_fit f.bodies s ≡ true) (sym form) k.fits in
      (layout_exactly s).1
      (record {
        long = subst (λ (f : Form). f.least ≤ length s) (sym form) k.long;
        short = subst (λ (f : Form). length s ≤ f.most) (sym form) k.short;
        fits = fits;
        inside = contents_inside (form_of s).bodies s fits;
        one = one ∙ ap (λ (f : Form). f.counts) (sym form);
        two = size_of 1 (omega arith) ∙ ap length k.two ∙ length_marking m;
        five = omega arith;
      })

  counts_right_lem : counts_right s ≡ true
  counts_right_lem =
      ap (λ (c : Counts). counts_fit c.steps c.people c.roles c.actions) counts_back
      ∙ not-false (counts_fit g.steps g.people g.roles g.actions) (clear_head _ _ e)

  bodies_match_lem : bodies_match s ≡ true
  bodies_match_lem =
      let a : size_at s 2 ≡ 2 * (counts_of s).actions =
      size_of 2 (omega arith) ∙ ap length k.three ∙ length_rows 2 g.actions g.allows
      ∙ ap (λ (c : Counts). 2 * c.actions) (sym counts_back) in
      let b : size_at s 3 ≡ 2 * (counts_of s).people =
      size_of 3 (omega arith) ∙ ap length k.four ∙ length_rows 2 g.people g.holds
      ∙ ap (λ (c : Counts). 2 * c.people) (sym counts_back) in
      let d : size_at s 5 ≡ 1 * (counts_of s).steps =
      size_of 5 (omega arith) ∙ ap length k.six ∙ length_rows 1 g.steps g.labels
      ∙ ap (λ (c : Counts). 1 * c.steps) (sym counts_back) in
      and_intro (and_intro (eq-eqb (size_at s 2) (2 * (counts_of s).actions) a) (eq-eqb (size_at s 3) (2 * (counts_of s).people) b))
      (match_six s is_six_lem ∙ eq-eqb (size_at s 5) (counts_of s).steps (omega arith))

  sets_inside_lem : sets_inside s ≡ true
  sets_inside_lem =
      let few = fitting.counted.roles_most in
      let c = fitting.counted in
      and_intro
      (and_intro
      (and_intro
      (ap₂ (λ (c : Counts) (w : Marking). marking_fits c.steps w) counts_back first_back ∙ marking_clear g m e)
      (ap₂ (λ (c : Counts) (body : List ℕ). role_sets_fit c.roles body) counts_back k.three
      ∙ roles_fit_lem g.actions g.roles g.allows few fitting.allows_kept))
      (ap₂ (λ (c : Counts) (body : List ℕ). role_sets_fit c.roles body) counts_back k.four
      ∙ roles_fit_lem g.people g.roles g.holds few fitting.holds_kept))
      (ap₂ (λ (c : Counts) (body : List ℕ). actions_fit c.actions body) counts_back labels_part_lem
      ∙ labels_fit_lem g.steps g.actions g.labels c.actions_some c.actions_most fitting.labels_kept)

  arrows_right_lem : arrows_right s ≡ true
  arrows_right_lem =
      ap₂ (λ (c : Counts) (a : List Arrow). link_in_order c.steps a) counts_back arrows_back
      ∙ table_fit g.steps (table_at 4 256 block) (part_kept block (graph_clear g m e))

  kinds_right_lem : kinds_right s ≡ true
  kinds_right_lem =
      ap (λ (l : List ℕ). kinds_apart (graph_of l).steps (graph_of l).includes (graph_of l).excludes) block_back ∙ fitting.apart

  read_clear : read_verdict s ≡ Ok tt
  unfolding read_verdict first
  read_clear = simp (layout_fits_lem, counts_right_lem, bodies_match_lem, sets_inside_lem, arrows_right_lem, kinds_right_lem)

-- what was written is read back
pub read_written : (block : List ℕ) (m : Marking) → length block ≡ 404 → first (content_lines (graph_of block) m) ≡ Ok tt
    → Says (sheet_bytes (graph_of block) m) block m
read_written block m whole e =
    let s : List ℕ = sheet_bytes (graph_of block) m in
    let k : Carries (graph_of block) m (sheet_bytes (graph_of block) m) = carried block m e in
    record { clear = read_clear block m whole e s k; job = block_back block m whole e s k; marking = first_back block m whole e s k }
