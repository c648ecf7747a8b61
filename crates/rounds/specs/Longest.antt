-- The longest sheet that is written has 37,147 bytes, the shortest 64. Every part but the arrows has a length by the counts; a table has
-- at most 64 arrows from each of 64 steps, and includes and excludes, which share no pair, have together no more than one table. One graph
-- reaches it. A sheet of five bodies that is read has at most 37,077, since the reader asks for that. Assumes nothing.
use Rattle.std.specs.Prelude.{ℕ, zero, suc, ◌+◌, ◌*◌, ◌≤◌, ◌<◌, ◌≡◌, refl, List, ◌∷◌, ◌++◌, true, false, length, replicate, Ok}
use Rattle.std.proofs.Common.{sym, ap, ◌∙◌, subst, true≢false, arith}
use Rattle.sets.specs.Sets.{has, full, meet, empty, every}
use Rattle.sets.specs.Truth.{and_intro}
use Rattle.sets.specs.Laws.{has_meet, empty_members, every_at}
use Rattle.moves.specs.declared.Marking.{Marking}
use Rattle.moves.specs.First.{first}
use Rattle.moves.specs.Move.{no_marking}
use Rattle.tables.specs.Tables.{row, keeps, labels_fit}
use Rattle.rules.specs.Graph.{Graph, graph_of, sets_fit}
use Rattle.arrows.specs.Arrows.{put, put_all, listed}
use Rattle.arrows.specs.Lists.{listed_apart}
use Rattle.arrows.specs.Rows.{members, kind_arrows, count_of, turned, kind_rows, from_rows, count_kinds}
use Rattle.arrows.specs.Loops.{count_most, length_body}
use Rattle.reading.specs.declared.Form.{Form}
use Rattle.reading.specs.Reading.{is_six, read_verdict}
use Rattle.reading.specs.Laws.{clear_right, form_five}
use Rattle.writing.specs.Writing.{arrow_table, sheet_bytes, content_lines}
use Rattle.writing.specs.Laws.{Fitting, clear_fitting, graph_clear, turned_of, table_kept, kind_lies}
use Rattle.writing.specs.Parts.{arrows_out, length_out, sheet_length}

-- two tables that share no pair have no more arrows than one may have
count_apart : (n : ℕ) (p q : ℕ → ℕ) → ((a : ℕ) → a < n → empty (meet (p a) (q a)) ≡ true) → count_of n p + count_of n q ≤ 64 * n
unfolding count_of
count_apart zero p q apart = omega arith
count_apart (suc n) p q apart =
    let rest : count_of n p + count_of n q ≤ 64 * n = count_apart n p q (λ a h. apart a (omega arith)) in
    let here : length (members (p n)) + length (members (q n)) ≤ 64 =
    listed_apart 64 0 (has (p n)) (has (q n))
    (λ s e f. true≢false (sym (has_meet (p n) (q n) s ∙ and_intro e f) ∙ empty_members (meet (p n) (q n)) (apart n (omega arith)) s)) in
    omega arith

-- how long the arrows are, kind by kind
arrows_long : (block : List ℕ) (m : Marking) → first (content_lines (graph_of block) m) ≡ Ok tt
    → length (arrows_out (graph_of block)) ≡ 3 * count_kinds 4 (row block 0) (turned_of (graph_of block)) (arrow_table (graph_of block))
arrows_long block m e =
    let g : Graph = graph_of block in
    length_body (row block 0) (turned_of g) (arrow_table g) (table_kept block (graph_clear g m e)) refl

pub below_longest : (block : List ℕ) (m : Marking) → first (content_lines (graph_of block) m) ≡ Ok tt
    → length (sheet_bytes (graph_of block) m) < 37148
unfolding count_kinds from_rows
below_longest block m e =
    let g : Graph = graph_of block in
    let n : ℕ = row block 0 in
    let t : List ℕ = arrow_table (graph_of block) in
    let f : Fitting (graph_of block) = clear_fitting g (graph_clear g m e) in
    let size : length (sheet_bytes (graph_of block) m) ≡ length_out (graph_of block) = sheet_length g m in
    let arrows : length (arrows_out (graph_of block)) ≡ 3 * count_kinds 4 (row block 0) (turned_of (graph_of block))
    (arrow_table (graph_of block)) =
    arrows_long block m e in
    let conditions : count_of (row block 0) (row (turned_of (graph_of block))) ≤ 64 * row block 0 = count_most n (row (turned_of g)) in
    let responses : count_of (row block 0) (row (kind_rows (arrow_table (graph_of block)) 1)) ≤ 64 * row block 0 =
    count_most n (row (kind_rows t 1)) in
    let in_place : count_of (row block 0) (row (kind_rows (arrow_table (graph_of block)) 2)) ≡ count_of (row block 0) (row g.includes) =
    ap (λ (l : List ℕ). count_of n (row l)) (kind_lies block 2 (omega arith)) in
    let ex_place : count_of (row block 0) (row (kind_rows (arrow_table (graph_of block)) 3)) ≡ count_of (row block 0) (row g.excludes) =
    ap (λ (l : List ℕ). count_of n (row l)) (kind_lies block 3 (omega arith)) in
    let both : count_of (row block 0) (row g.includes) + count_of (row block 0) (row g.excludes) ≤ 64 * row block 0 =
    count_apart n (row g.includes) (row g.excludes)
    (every_at n (λ a. empty (meet (row g.includes a) (row g.excludes a))) f.apart) in
    let steps : row block 0 ≤ 64 = f.counted.steps_most in
    let people : row block 1 ≤ 16 = f.counted.people_most in
    let actions : row block 3 ≤ 64 = f.counted.actions_most in
    omega arith

pub longest : (block : List ℕ) (m : Marking) → first (content_lines (graph_of block) m) ≡ Ok tt
    → length (sheet_bytes (graph_of block) m) ≤ 37147
longest block m e = let below : length (sheet_bytes (graph_of block) m) < 37148 = below_longest block m e in omega arith

pub shortest : (block : List ℕ) (m : Marking) → first (content_lines (graph_of block) m) ≡ Ok tt
    → 64 ≤ length (sheet_bytes (graph_of block) m)
shortest block m e =
    let g : Graph = graph_of block in
    let f : Fitting (graph_of block) = clear_fitting g (graph_clear g m e) in
    let size : length (sheet_bytes (graph_of block) m) ≡ length_out (graph_of block) = sheet_length g m in
    let steps : 1 ≤ row block 0 = f.counted.steps_some in
    let people : 1 ≤ row block 1 = f.counted.people_some in
    let actions : 1 ≤ row block 3 = f.counted.actions_some in
    omega arith

-- of five bodies
pub longest_five : (s : List ℕ) → read_verdict s ≡ Ok tt → is_six s ≡ false → length s ≤ 37077
longest_five s e five = subst (λ (f : Form). length s ≤ f.most) (form_five s five) (clear_right s e).opened.placed.short

-- ---- and it is reached

-- 64 steps, each waiting for each, with each its response and included by it; 64 actions, of which every step has the first; no role is
-- given, and there are no excludes
unfoldable pub longest_block : List ℕ
longest_block = 64 ∷ 16 ∷ 16 ∷ 64 ∷ (replicate 192 (full 64) ++ replicate 208 0)

pub longest_clear : first (content_lines (graph_of longest_block) no_marking) ≡ Ok tt
unfolding longest_block first sets_fit keeps labels_fit every full
longest_clear = refl

pub longest_reached : length (sheet_bytes (graph_of longest_block) no_marking) ≡ 37147
unfolding longest_block full turned kind_arrows count_of count_kinds from_rows put_all put listed has
longest_reached =
    let g : Graph = graph_of longest_block in
    sheet_length g no_marking
    ∙ ap (λ (n : ℕ). 59 + 2 * g.actions + 2 * g.people + g.steps + n) (arrows_long longest_block no_marking longest_clear)
