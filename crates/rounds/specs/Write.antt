-- Writing what was read gives the bytes, if it had six bodies, so that a job with its first marking has one sheet of six. A sheet whose
-- contents fit is laid out from its bodies; each body is what is written of what it says; and nothing is against what was read of a sheet
-- that nothing is against, of either form. Assumes that a sheet is made of bytes.
use Rattle.std.specs.Prelude.{ℕ, ◌*◌, ◌%◌, ◌≤◌, ◌<◌, ◌≡◌, refl, ◌↔◌, Bool, false, ◌&&◌, get_or, drop, Ok}
use Rattle.std.proofs.Common.{sym, ap₂, ◌∙◌, arith}
use Rattle.std.proofs.Math.Path.{ap, subst}
use mathlib.Core.List.{List, [], ◌∷◌, ◌++◌}
use Rattle.std.proofs.Math.Bool.{true}
use Rattle.std.proofs.Math.ListN.{length}
use borrow.Author.Tests.{not-false}
use Rattle.sets.specs.Truth.{and_left, and_right, and_intro}
use Rattle.moves.specs.declared.Marking.{Marking}
use Rattle.moves.specs.First.{first}
use Rattle.moves.specs.Given.{clear_head, clear_tail}
use Rattle.moves.specs.Move.{marking_fits}
use Rattle.tables.specs.Tables.{keeps, labels_fit, counts_fit}
use Rattle.rules.specs.Graph.{Graph, graph_of, sets_fit}
use Rattle.rules.specs.Block.{kinds_joined}
use Rattle.arrows.specs.Arrows.{all_link, ascending, spelt, table_of, arrows_body}
use Rattle.arrows.specs.Places.{spelt_arrows_in}
use Rattle.arrows.specs.Codec.{arrows_of_table}
use Rattle.arrows.specs.Rows.{Kept}
use Rattle.numbers.specs.Numbers.{bytes, Bytes}
use Rattle.numbers.specs.Laws.{drop_bytes, take_bytes}
use Rattle.layout.specs.Layout.{laid, contents_fit, offset_at, size_at, body_at}
use Rattle.layout.specs.Laws.{bodies_from, fits_laid}
use Rattle.bodies.specs.Bodies.{counts_body, counts_in, marking_body, roles_body, sets_in, role_sets_fit, labels_body, labels_in, actions_fit}
use Rattle.reading.specs.declared.Form.{Form}
use Rattle.reading.specs.Reading.{six_bodies, is_six, form_of, counts_of, first_of, arrows_on, labels_part, own_steps, block_read, graph_in}
use Rattle.reading.specs.Reading.{counts_right, read_verdict}
use Rattle.reading.specs.Laws.{Right, Placed, clear_right, part_length, body_length, sixth}
use Rattle.reading.specs.Laws.{form_six, form_five, labels_six, labels_five, own_six, own_five}
use Rattle.reading.specs.Laws.{read_arrows, read_kind, read_allows, read_holds, read_labels}
use Rattle.writing.specs.Writing.{arrow_table, bodies_of, sheet_bytes, content_lines}
use Rattle.sheet.specs.Sheet.{the_written, room_after}
use Rattle.sheet.specs.Laws.{clear_after}
use Rattle.rounds.specs.Says.{Says}
use Rattle.bodies.specs.Markings.{marking_written}
use Rattle.rounds.specs.Bodies.{counts_written, rows_written, roles_kept}
use Rattle.rounds.specs.Bodies.{labels_rows, labels_kept, labels_own}
use Rattle.rounds.specs.Arrows.{filled_kept}
use Rattle.rounds.specs.Read.{read_written}

-- what is written has six bodies
pub sheet_six : (g : Graph) (m : Marking) → is_six (sheet_bytes g m) ≡ true
unfolding sheet_bytes bytes
sheet_six g m = refl

-- where every step is its own action there are as many of these as of those
pub five_actions : (s : List ℕ) → is_six s ≡ false → (counts_of s).actions ≡ (counts_of s).steps
five_actions s five = ap (λ (f : Form). get_or (body_at s 0) f.actions 0) (form_five s five)

module _ (s : List ℕ) (e : read_verdict s ≡ Ok tt) where
  right : Right s
  right = clear_right s e

  placed : Placed s
  placed = right.opened.placed

  body_size : (i : ℕ) → i < 5 → length (body_at s i) ≡ size_at s i
  body_size = body_length s placed

  actions_size : length (body_at s 2) ≡ 2 * (counts_of s).actions
  actions_size = body_size 2 (omega arith) ∙ right.matched.actions_match

  people_size : length (body_at s 3) ≡ 2 * (counts_of s).people
  people_size = body_size 3 (omega arith) ∙ right.matched.people_match

  steps_size : is_six s ≡ true → length (body_at s 5) ≡ (counts_of s).steps
  steps_size six = part_length s placed 5 (sixth s six) ∙ right.matched.steps_match six

  few : (counts_of s).steps ≤ 64
  few = right.opened.counted.steps_most

  -- ---- nothing is against what was read

  abbrev marked : Bool
  marked = marking_fits (counts_of s).steps (first_of s)

  abbrev allowed : Bool
  allowed = role_sets_fit (counts_of s).roles (body_at s 2)

  abbrev held : Bool
  held = role_sets_fit (counts_of s).roles (body_at s 3)

  abbrev named : Bool
  named = actions_fit (counts_of s).actions (labels_part s)

  sets_front : (marked && allowed && held) ≡ true
  sets_front = and_left (marked && allowed && held) named right.sets_in_lem

  marking_kept : marked ≡ true
  marking_kept = and_left marked allowed (and_left (marked && allowed) held sets_front)

  allows_kept : keeps (counts_of s).actions (counts_of s).roles (sets_in 64 (body_at s 2)) ≡ true
  allows_kept =
      roles_kept 64 (counts_of s).actions (counts_of s).roles (body_at s 2) actions_size
      (and_right marked allowed (and_left (marked && allowed) held sets_front))

  holds_kept : keeps (counts_of s).people (counts_of s).roles (sets_in 16 (body_at s 3)) ≡ true
  holds_kept =
      roles_kept 16 (counts_of s).people (counts_of s).roles (body_at s 3) people_size (and_right (marked && allowed) held sets_front)

  -- body 6 says actions that there are; of five bodies the steps are the actions, and each has its own
  labels_in_lem : labels_fit (counts_of s).steps (counts_of s).actions (labels_in 64 (own_steps s) (labels_part s)) ≡ true
  labels_in_lem = go (is_six s) refl
    where
      go : (b : Bool) → is_six s ≡ b
          → labels_fit (counts_of s).steps (counts_of s).actions (labels_in 64 (own_steps s) (labels_part s)) ≡ true
      go true six =
          ap (λ (own : ℕ). labels_fit (counts_of s).steps (counts_of s).actions (labels_in 64 own (labels_part s))) (own_six s six)
          ∙ labels_kept 64 (counts_of s).steps (counts_of s).actions (labels_part s) (ap length (labels_six s six) ∙ steps_size six)
          (and_right (marked && allowed && held) named right.sets_in_lem)
      go false five =
          let same = five_actions s five in
          let own = own_five s five in
          let none = labels_five s five in
          (λ i. labels_fit (counts_of s).steps (same i) (labels_in 64 (own i) (none i))) ∙ labels_own 64 (counts_of s).steps

  table_kept : Kept (counts_of s).steps (table_of (arrows_on s))
  table_kept =
      let known : all_link (counts_of s).steps (arrows_on s) ≡ true =
      and_left (all_link (counts_of s).steps (arrows_on s)) (ascending (arrows_on s)) right.arrows_in_lem in
      filled_kept (counts_of s).steps (arrows_on s) few known

  sets_fit_lem : sets_fit (graph_in s) ≡ true
  unfolding sets_fit block_read
  sets_fit_lem =
      let steps = (counts_of s).steps in
      let people = (counts_of s).people in
      let roles = (counts_of s).roles in
      let actions = (counts_of s).actions in
      let kind : (k : ℕ) (h : k < 4) → keeps (counts_of s).steps (counts_of s).steps _ ≡ true =
      λ k h. ap (keeps steps steps) (read_kind s k h) ∙ table_kept.kinds k h in
      and_intro
      (and_intro
      (and_intro (ap (keeps actions roles) (read_allows s) ∙ allows_kept) (ap (keeps people roles) (read_holds s) ∙ holds_kept))
      (ap (labels_fit steps actions) (read_labels s) ∙ labels_in_lem))
      (and_intro (and_intro (kind 0 (omega arith)) (kind 1 (omega arith))) (and_intro (kind 2 (omega arith)) (kind 3 (omega arith))))

  counts_fit_lem : counts_fit (counts_of s).steps (counts_of s).people (counts_of s).roles (counts_of s).actions ≡ true
  unfolding read_verdict
  counts_fit_lem = not-false (counts_right s) (clear_head _ _ (clear_tail _ _ e))

  pub read_content : first (content_lines (graph_in s) (first_of s)) ≡ Ok tt
  unfolding first block_read
  read_content = simp (counts_fit_lem, sets_fit_lem, marking_kept, right.kinds_in)

  -- ---- and of six bodies it is written as it was

  module _ (six : is_six s ≡ true) (b : Bytes s) where
    form : form_of s ≡ six_bodies
    form = form_six s six

    body_bytes : (i : ℕ) → Bytes (body_at s i)
    body_bytes i = take_bytes (size_at s i) (drop (offset_at s i) s) (drop_bytes (offset_at s i) s b)

    counts_again : counts_body (counts_of s).steps (counts_of s).people (counts_of s).roles (counts_of s).actions ≡ body_at s 0
    counts_again =
        let c = counts_of s in
        ap (λ (f : Form). counts_body c.steps c.people c.roles (counts_in f.actions (body_at s 0)).actions) form
        ∙ counts_written (body_at s 0) (body_bytes 0) (body_size 0 (omega arith) ∙ placed.one ∙ ap (λ (f : Form). f.counts) form)

    arrows_again : arrows_body (arrow_table (graph_in s)) ≡ body_at s 4
    arrows_again =
        ap arrows_body (kinds_joined (block_read s) ∙ read_arrows s)
        ∙ ap spelt (arrows_of_table (counts_of s).steps (arrows_on s) few right.arrows_in_lem)
        ∙ spelt_arrows_in (body_at s 4) (ap (λ (k : ℕ). k % 3) (body_size 4 (omega arith)) ∙ placed.five)

    labels_again : labels_body (counts_of s).steps (graph_in s).labels ≡ body_at s 5
    labels_again =
        let size : length (body_at s 5) ≡ (counts_of s).steps = steps_size six in
        ap (labels_body (counts_of s).steps)
        (read_labels s ∙ ap₂ (labels_in 64) (own_six s six) (labels_six s six) ∙ labels_rows 64 (body_at s 5))
        ∙ rows_written 1 64 (counts_of s).steps (body_at s 5) (body_bytes 5) few (omega arith)

    bodies_again : bodies_of (graph_in s) (first_of s) ≡ bodies_from 6 0 s
    unfolding bodies_from block_read
    bodies_again =
        let actions = (counts_of s).actions in
        let people = (counts_of s).people in
        let one : counts_body (counts_of s).steps (counts_of s).people (counts_of s).roles (counts_of s).actions ≡ body_at s 0 =
        counts_again in
        let two : marking_body (first_of s) ≡ body_at s 1 =
        marking_written (body_at s 1) (body_bytes 1) (body_size 1 (omega arith) ∙ placed.two) in
        let three : roles_body (counts_of s).actions (graph_in s).allows ≡ body_at s 2 =
        ap (roles_body actions) (read_allows s)
        ∙ rows_written 2 64 actions (body_at s 2) (body_bytes 2) right.opened.counted.actions_most actions_size in
        let four : roles_body (counts_of s).people (graph_in s).holds ≡ body_at s 3 =
        ap (roles_body people) (read_holds s)
        ∙ rows_written 2 16 people (body_at s 3) (body_bytes 3) right.opened.counted.people_most people_size in
        let five : arrows_body (arrow_table (graph_in s)) ≡ body_at s 4 = arrows_again in
        let last : labels_body (counts_of s).steps (graph_in s).labels ≡ body_at s 5 = labels_again in
        λ j. one j ∷ two j ∷ three j ∷ four j ∷ five j ∷ last j ∷ []

    -- what was read is written back
    pub write_read : sheet_bytes (graph_in s) (first_of s) ≡ s
    unfolding sheet_bytes
    write_read =
        let long : 35 ≤ length s = subst (λ (f : Form). f.least ≤ length s) form placed.long in
        ap laid bodies_again
        ∙ fits_laid 6 s b (omega arith) (subst (λ (f : Form). contents_fit f.bodies s ≡ true) form placed.fits) (omega arith)

    -- into room enough: the length is answered, and the room begins with the sheet
    pub write_again : (old : List ℕ) → length s ≤ length old
        → (the_written (graph_in s) (first_of s) (length old) ≡ Ok (length s))
        × (room_after (graph_in s) (first_of s) old ≡ s ++ drop (length s) old)
    write_again old h =
        let after = clear_after (graph_in s) (first_of s) old read_content
        (subst (λ (t : List ℕ). length t ≤ length old) (sym write_read) h) in (
          after.0 ∙ ap (λ (t : List ℕ). Ok (length t)) write_read,
          after.1
              ∙ ap (λ (t : List ℕ). t ++ drop (length t) old) write_read,
        )

-- what was read is written back exactly if it has six bodies
pub write_read_exactly : (s : List ℕ) → read_verdict s ≡ Ok tt → Bytes s
    → (sheet_bytes (graph_in s) (first_of s) ≡ s) ↔ (is_six s ≡ true)
write_read_exactly s e b = (λ same. ap is_six (sym same) ∙ sheet_six (graph_in s) (first_of s), λ six. write_read s e six b)

-- ---- one sheet

-- a job with its first marking has one sheet of six bodies
pub one_sheet : (s block : List ℕ) (m : Marking) → Bytes s → is_six s ≡ true → Says s block m → s ≡ sheet_bytes (graph_of block) m
one_sheet s block m b six says =
    sym (write_read s says.clear six b) ∙ ap₂ (λ (l : List ℕ) (w : Marking). sheet_bytes (graph_of l) w) says.job says.marking

-- two such sheets that read alike are the same bytes
pub same_sheet : (s t block : List ℕ) (m : Marking) → Bytes s → Bytes t → is_six s ≡ true → is_six t ≡ true → Says s block m → Says t block m
    → s ≡ t
same_sheet s t block m b c six too p q = one_sheet s block m b six p ∙ sym (one_sheet t block m c too q)

-- two jobs with their first markings that have one sheet are the same
pub same_graph : (a b : List ℕ) (m w : Marking) → length a ≡ 404 → length b ≡ 404
    → first (content_lines (graph_of a) m) ≡ Ok tt → first (content_lines (graph_of b) w) ≡ Ok tt
    → sheet_bytes (graph_of a) m ≡ sheet_bytes (graph_of b) w → (a ≡ b) × (m ≡ w)
same_graph a b m w la lb p q e =
    let x : Says (sheet_bytes (graph_of a) m) a m = read_written a m la p in
    let y : Says (sheet_bytes (graph_of a) m) b w = subst (λ (s : List ℕ). Says s b w) (sym e) (read_written b w lb q) in
    (sym x.job ∙ y.job, sym x.marking ∙ y.marking)
