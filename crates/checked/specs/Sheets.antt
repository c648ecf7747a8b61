-- The cabinet's sheet itself: 4b + 1 arrows, 72 + 15b bytes, when which number is given, and what it reads as. The arrows are counted kind by
-- kind and row by row: a row names no step, one step, or a span of b steps. Assumes nothing.
use Rattle.std.specs.Prelude.{ℕ, zero, suc, ◌+◌, ◌-◌, ◌*◌, ◌≤◌, ◌<◌, ◌≡◌, refl, List, [], ◌++◌, Bool, true, false, not, ◌||◌, ltb, Ok, Err}
use Rattle.std.proofs.Common.{sym, ap₂, ◌∙◌, subst, arith, zero-mul, suc-mul, length-append, lit<, lt-ltb, le-ltb}
use Rattle.std.proofs.Math.Path.{ap}
use Rattle.std.proofs.Math.Bool.{cond}
use Rattle.std.proofs.Math.ListN.{length}
use Rattle.sets.specs.Sets.{has, single, union, span}
use Rattle.sets.specs.Laws.{ext, has_union, has_zero}
use Rattle.sets.specs.Spans.{span_in, span_below, span_above, span_none, span_last}
use Rattle.moves.specs.First.{Verdict}
use Rattle.moves.specs.declared.Refusal.TheVariants.{Arms, Room}
use Rattle.moves.specs.First.{first}
use Rattle.moves.specs.Move.{marking_fits}
use Rattle.tables.specs.Tables.{row}
use Rattle.tables.specs.Laws.{row_at_lem, keeps_gone}
use Rattle.rules.specs.Graph.{Graph, graph_of, graph_verdict}
use Rattle.arrows.specs.Arrows.{listed, kept_if, arrows_of, spelt}
use Rattle.arrows.specs.Lists.{listed_add, listed_none}
use Rattle.arrows.specs.Places.{length_spelt}
use Rattle.arrows.specs.Rows.{members, members_none, count_of, count_kinds, count_kinds_lem, from_rows, kind_rows, turned_in, turned_has, Kept, by_kind}
use Rattle.bodies.specs.Tables.{tabled, length_tabled, row_tabled}
use Rattle.writing.specs.Writing.{arrow_table, sheet_bytes}
use Rattle.writing.specs.Laws.{kind_lies, table_kept, content_graph}
use Rattle.writing.specs.Parts.{sheet_length}
use Rattle.sheet.specs.Sheet.{answer_of}
use Rattle.rounds.specs.Says.{Says}
use Rattle.rounds.specs.Read.{read_written}
use Rattle.cabinet.specs.Cabinet.{publish, checks, following, responses_at, includes_at, excludes_at, cabinet, at_first, cabinet_bytes}
use Rattle.cabinet.specs.Cabinet.{arms_fit, cabinet_verdict, the_cabinet}
use Rattle.cabinet.specs.Rows.{count_at, word_at, at_counts, at_conditions, at_responses, at_includes, at_excludes, words_graph}
use Rattle.cabinet.specs.Laws.{by_reboot, by_check, by_publish, following_most, others_span, arms_low, arms_high, first_fits}
use Rattle.checked.specs.Journals.{clear}

-- ---- how many steps a row names

all_listed : (k s : ℕ) (f : ℕ → Bool) → ((p : ℕ) → s ≤ p → p < s + k → f p ≡ true) → length (listed k s f) ≡ k
unfolding listed
all_listed zero s f e = refl
all_listed (suc k) s f e =
    ap (λ (t : Bool). length (kept_if t s (listed k (suc s) f))) (e s (omega arith) (omega arith))
    ∙ ap suc (all_listed k (suc s) f (λ p h l. e p (omega arith) (omega arith)))

in_span : (a d : ℕ) → a + d ≤ 64 → length (members (span a (a + d))) ≡ d
in_span a d h =
    let f : ℕ → Bool = has (span a (a + d)) in
    let rest : ℕ = 64 - (a + d) in
    ap length
    (ap (λ (k : ℕ). listed k 0 f) (let z : 64 ≡ a + (d + rest) = omega arith in z)
    ∙ listed_add a (d + rest) 0 f
    ∙ ap (λ (l : List ℕ). l ++ listed (d + rest) (0 + a) f) (listed_none a 0 f (λ p l m. span_below a (a + d) p (omega arith)))
    ∙ listed_add d rest (0 + a) f
    ∙ ap (λ (l : List ℕ). listed d (0 + a) f ++ l) (listed_none rest (0 + a + d) f (λ p l m. span_above a (a + d) p (omega arith))))
    ∙ length-append (listed d (0 + a) f) []
    ∙ (let all : length (listed d (0 + a) f) ≡ d =
    all_listed d (0 + a) f (λ p l m. span_in a (a + d) p (omega arith) (omega arith)) in
    let z : length (listed d (0 + a) f) + 0 ≡ d = omega arith in z)

in_none : length (members 0) ≡ 0
in_none = ap length members_none

in_single : (s : ℕ) → s < 64 → length (members (single s)) ≡ 1
in_single s h = ap (λ (x : ℕ). length (members x)) (sym alone) ∙ in_span s 1 (omega arith)
  where
    alone : span s (s + 1) ≡ single s
    alone =
        span_last s s (omega arith)
        ∙ ext (union (span s s) (single s)) (single s) (λ t.
        has_union (span s s) (single s) t ∙ ap (λ (x : ℕ). has x t || has (single s) t) (span_none s)
        ∙ ap (λ (q : Bool). q || has (single s) t) (has_zero t))

-- ---- how many arrows come from the steps, by what stands in the rows

count_rows : (b : ℕ) (rows : ℕ → ℕ) (r c p : ℕ) → length (members (rows 0)) ≡ r
    → ((k : ℕ) → 1 ≤ k → k ≤ b → length (members (rows k)) ≡ c) → length (members (rows (suc b))) ≡ p
    → count_of (b + 2) rows ≡ r + b * c + p
unfolding count_of
count_rows b rows r c p hr hc hp =
    ap (λ (n : ℕ). count_of n rows) (let z : b + 2 ≡ suc (suc b) = omega arith in z)
    ∙ ap₂ (λ (x y : ℕ). x + y) (up b (omega arith)) hp
  where
    up : (k : ℕ) → k ≤ b → count_of (suc k) rows ≡ r + k * c
    up zero h = (let e : length (members (rows 0)) ≡ r = hr in let z : 0 + length (members (rows 0)) ≡ r + 0 * c = omega (arith, zero-mul c) in z)
    up (suc k) h =
        ap₂ (λ (x y : ℕ). x + y) (up k (omega arith)) (hc (suc k) (omega arith) h)
        ∙ (let z : r + k * c + c ≡ r + suc k * c = omega (arith, suc-mul k c) in z)

module _ (b : ℕ) (arms : arms_fit b ≡ true) where
  few : b ≤ 16
  few = arms_high b arms

  abbrev block : List ℕ
  block = tabled 404 (word_at b)

  abbrev table : List ℕ
  table = arrow_table (graph_of block)

  -- the row of a kind as the block has it
  lies : (kind a : ℕ) → kind < 4 → a < 64 → row (kind_rows table kind) a ≡ word_at b (4 + kind * 64 + a)
  lies kind a h l =
      ap (λ (t : List ℕ). row t a) (kind_lies block kind h)
      ∙ row_at_lem (4 + kind * 64) 64 block a l
      ∙ row_tabled 404 (word_at b) (4 + kind * 64 + a) (omega arith)

  counted : (kind a n x : ℕ) → kind < 4 → a < 64 → word_at b (4 + kind * 64 + a) ≡ x → length (members x) ≡ n
      → length (members (row (kind_rows table kind) a)) ≡ n
  counted kind a n x h l e c = ap (λ (y : ℕ). length (members y)) (lies kind a h l ∙ e) ∙ c

  clear_block : graph_verdict (graph_of block) ≡ Ok tt
  clear_block = ap graph_verdict (words_graph b) ∙ clear b arms

  conditions_word : (a : ℕ) → a < 64 → word_at b (4 + 0 * 64 + a) ≡ 0
  conditions_word a h = at_conditions b (4 + 0 * 64 + a) (omega arith) (omega arith)

  responses_word : (a : ℕ) → a < 64 → word_at b (4 + 1 * 64 + a) ≡ responses_at b a
  responses_word a h =
      at_responses b (4 + 1 * 64 + a) (omega arith) (omega arith) ∙ ap (responses_at b) (let z : 4 + 1 * 64 + a - 68 ≡ a = omega arith in z)

  includes_word : (a : ℕ) → a < 64 → word_at b (4 + 2 * 64 + a) ≡ includes_at b a
  includes_word a h =
      at_includes b (4 + 2 * 64 + a) (omega arith) (omega arith) ∙ ap (includes_at b) (let z : 4 + 2 * 64 + a - 132 ≡ a = omega arith in z)

  excludes_word : (a : ℕ) → a < 64 → word_at b (4 + 3 * 64 + a) ≡ excludes_at b a
  excludes_word a h =
      at_excludes b (4 + 3 * 64 + a) (omega arith) (omega arith) ∙ ap (excludes_at b) (let z : 4 + 3 * 64 + a - 196 ≡ a = omega arith in z)

  -- the steps of the job, as the block has them
  abbrev n : ℕ
  n = row block 0

  steps_many : n ≡ b + 2
  unfolding count_at
  steps_many = row_tabled 404 (word_at b) 0 (lit< tt) ∙ at_counts b 0 (lit< tt)

  count_kind : (rows : ℕ → ℕ) (r c p : ℕ) → length (members (rows 0)) ≡ r
      → ((k : ℕ) → 1 ≤ k → k ≤ b → length (members (rows k)) ≡ c) → length (members (rows (suc b))) ≡ p
      → count_of n rows ≡ r + b * c + p
  count_kind rows r c p hr hc hp = ap (λ (k : ℕ). count_of k rows) steps_many ∙ count_rows b rows r c p hr hc hp

  -- nothing waits
  waiting_none : (a : ℕ) → a < 64 → length (members (row (turned_in n table) a)) ≡ 0
  waiting_none a h =
      ap length (listed_none 64 0 (has (row (turned_in n table) a)) (λ p l m.
      turned_has n (row (kind_rows table 0)) a p kept.few (keeps_gone n n (kind_rows table 0) (kept.kinds 0 (lit< tt))) h (omega arith)
      ∙ ap (λ (x : ℕ). has x a) (lies 0 p (lit< tt) (omega arith) ∙ conditions_word p (omega arith)) ∙ has_zero a))
    where
      kept : Kept n table
      kept = table_kept block clear_block

  count_conditions : count_of n (row (turned_in n table)) ≡ 0 + b * 0 + 0
  count_conditions =
      count_kind (row (turned_in n table)) 0 0 0 (waiting_none 0 (lit< tt)) (λ k h l. waiting_none k (omega (arith, few)))
      (waiting_none (suc b) (omega (arith, few)))

  count_responses : count_of n (row (kind_rows table 1)) ≡ b + b * 0 + 0
  count_responses =
      count_kind (row (kind_rows table 1)) b 0 0
      (counted 1 0 b (span 1 (1 + b)) (lit< tt) (lit< tt)
      (responses_word 0 (lit< tt) ∙ by_reboot b 0 (checks b) 0 0 refl ∙ ap (span 1) (let z : b + 1 ≡ 1 + b = omega arith in z))
      (in_span 1 b (omega (arith, few))))
      (λ k h l. counted 1 k 0 0 (lit< tt) (omega (arith, few)) (responses_word k (omega (arith, few)) ∙ by_check b k (checks b) 0 0 h l) in_none)
      (counted 1 (suc b) 0 0 (lit< tt) (omega (arith, few))
      (responses_word (suc b) (omega (arith, few)) ∙ by_publish b (suc b) (checks b) 0 0 (omega arith)) in_none)

  count_includes : count_of n (row (kind_rows table 2)) ≡ 1 + b * 1 + 0
  count_includes =
      count_kind (row (kind_rows table 2)) 1 1 0
      (counted 2 0 1 (single 1) (lit< tt) (lit< tt)
      (includes_word 0 (lit< tt) ∙ by_reboot b 0 (single 1) (single (following b 0)) 0 refl) (in_single 1 (lit< tt)))
      (λ k h l. counted 2 k 1 (single (following b k)) (lit< tt) (omega (arith, few))
      (includes_word k (omega (arith, few)) ∙ by_check b k (single 1) (single (following b k)) 0 h l)
      (in_single (following b k) (let z : following b k ≤ b + 1 = following_most b k in omega (arith, few))))
      (counted 2 (suc b) 0 0 (lit< tt) (omega (arith, few))
      (includes_word (suc b) (omega (arith, few)) ∙ by_publish b (suc b) (single 1) (single (following b (suc b))) 0 (omega arith)) in_none)

  count_excludes : count_of n (row (kind_rows table 3)) ≡ b + b * 1 + 0
  count_excludes =
      count_kind (row (kind_rows table 3)) b 1 0
      (counted 3 0 b (span 2 (2 + b)) (lit< tt) (lit< tt)
      (excludes_word 0 (lit< tt) ∙ by_reboot b 0 others (single 0) 0 refl ∙ sym (others_span b (arms_low b arms))
      ∙ ap (span 2) (let z : b + 2 ≡ 2 + b = omega arith in z))
      (in_span 2 b (omega (arith, few))))
      (λ k h l. counted 3 k 1 (single k) (lit< tt) (omega (arith, few)) (excludes_word k (omega (arith, few)) ∙ by_check b k others (single k) 0 h l)
      (in_single k (omega (arith, few))))
      (counted 3 (suc b) 0 0 (lit< tt) (omega (arith, few))
      (excludes_word (suc b) (omega (arith, few)) ∙ by_publish b (suc b) others (single (suc b)) 0 (omega arith)) in_none)
    where
      others : ℕ
      others = union (span 2 (publish b)) (single (publish b))

  -- the arrows, one after the other
  pub arrows_many : length (arrows_of (row (arrow_table (cabinet b)))) ≡ 4 * b + 1
  unfolding count_kinds from_rows
  arrows_many =
      ap (λ (g : Graph). length (arrows_of (row (arrow_table g)))) (sym (words_graph b))
      ∙ ap length (by_kind n table (table_kept block clear_block))
      ∙ count_kinds_lem 4 n (turned_in n table) table
      ∙ (let w = count_conditions in
      let x = count_responses in
      let y = count_includes in
      let z = count_excludes in
      let sum : 0 + count_of n (row (turned_in n table)) + count_of n (row (kind_rows table 1)) + count_of n (row (kind_rows table 2))
      + count_of n (row (kind_rows table 3)) ≡ 4 * b + 1 = omega (arith, w, x, y, z) in sum)

  -- and the sheet has 72 + 15b bytes
  pub sheet_bytes_lem : length (cabinet_bytes b) ≡ 72 + 15 * b
  sheet_bytes_lem =
      sheet_length (cabinet b) (at_first b)
      ∙ (let spelled = length_spelt (arrows_of (row (arrow_table (cabinet b)))) in
      let many = arrows_many in
      let sum : 59 + 2 * (b + 2) + 2 * 2 + (b + 2) + length (spelt (arrows_of (row (arrow_table (cabinet b))))) ≡ 72 + 15 * b =
      omega (arith, spelled, many) in sum)

  -- ---- what is answered, in figures

  verdict_room : (room : ℕ) → cabinet_verdict b room ≡ cond (ltb room (72 + 15 * b)) (Err Room) (Ok tt)
  unfolding cabinet_verdict first
  verdict_room room =
      ap (λ (t : Bool). cond (not t) (Err Arms) (cond (ltb room (length (cabinet_bytes b))) (Err Room) (Ok tt))) arms
      ∙ ap (λ (size : ℕ). cond (ltb room size) (Err Room) (Ok tt)) sheet_bytes_lem

  pub room_short : (room : ℕ) → room < 72 + 15 * b → the_cabinet b room ≡ Err Room
  unfolding answer_of
  room_short room h =
      ap (λ (v : Verdict). answer_of v (length (cabinet_bytes b)))
      (verdict_room room ∙ ap (λ (t : Bool). cond t (Err Room) (Ok tt)) (lt-ltb room (72 + 15 * b) h))

  pub room_enough : (room : ℕ) → 72 + 15 * b ≤ room → the_cabinet b room ≡ Ok (72 + 15 * b)
  unfolding answer_of
  room_enough room h =
      ap (λ (v : Verdict). answer_of v (length (cabinet_bytes b)))
      (verdict_room room ∙ ap (λ (t : Bool). cond t (Err Room) (Ok tt)) (le-ltb room (72 + 15 * b) h))
      ∙ ap Ok sheet_bytes_lem

  -- ---- what the sheet reads as: the job and its first marking

  pub sheet_read : Says (cabinet_bytes b) (tabled 404 (word_at b)) (at_first b)
  sheet_read =
      subst (λ (g : Graph). Says (sheet_bytes g (at_first b)) (tabled 404 (word_at b)) (at_first b)) (words_graph b)
      (read_written block (at_first b) (length_tabled 404 (word_at b))
      (content_graph (graph_of block) (at_first b) (ap (λ (k : ℕ). marking_fits k (at_first b)) steps_many ∙ first_fits b) ∙ clear_block))

-- 30, whatever the room
pub arms_wrong : (b room : ℕ) → arms_fit b ≡ false → the_cabinet b room ≡ Err Arms
unfolding cabinet_verdict first answer_of
arms_wrong b room e = simp e
