-- `write_tables`: the role sets of the actions and of the people, the arrows, then the actions of the steps. Assumes nothing.
use Prim.Native.Nat.{ℕ, ◌*◌}
use mathlib.Core.Path.{◌≡◌, sym, ap, ◌∙◌}
use mathlib.Core.List.{List, ◌++◌}
use native.Mathlib.Omega.{arith}
use lib.ListN.{length}
use Rattle.tables.specs.Tables.{row, table_at}
use Rattle.tables.specs.Laws.{Counted, rows_at}
use Rattle.rules.specs.Graph.{Graph, graph_of}
use Rattle.rules.specs.Block.{kinds_joined}
use Rattle.rules.specs.Laws.{clear_counts}
use Rattle.numbers.specs.Laws.{spliced_then, room_first, room_then}
use Rattle.arrows.specs.Arrows.{arrows_body}
use Rattle.arrows.specs.Rows.{turned_in}
use Rattle.bodies.specs.Laws.{length_rows}
use Rattle.writing.specs.Laws.{part_kept}
use Rattle.writing.specs.Parts.{allows_out, holds_out, arrows_out, labels_out}
use Rattle.writing.proofs.write_tables.Goals as goal
use Rattle.writing.proofs.write_tables.Goals.{Start}

-- the bodies, of the graph of the block
abbrev block : Start → List ℕ
block c = c.args.g.now

abbrev graph : Start → Graph
graph c = graph_of (block c)

abbrev allows : Start → List ℕ
allows c = allows_out (graph c)

abbrev holds : Start → List ℕ
holds c = holds_out (graph c)

abbrev arrows : Start → List ℕ
arrows c = arrows_out (graph c)

abbrev labels : Start → List ℕ
labels c = labels_out (graph c)

counted : (c : Start) → Counted (graph c).steps (graph c).people (graph c).roles (graph c).actions
counted c = clear_counts (graph c) c.requires.g_value.0

pub write_rows-x-requires : goal.write_rows-x-requires
write_rows-x-requires c =
    let k = (goal.at.write_rows-x-requires c).Start in
    let few = counted k in
    let n : length (block k) ≡ 404 = omega arith in
    let rows : length (table_at 260 64 (block k)) ≡ 64 = rows_at 260 64 (block k) (omega arith) in
    let long : length (allows k) ≡ 2 * (graph k).actions = length_rows 2 (graph k).actions (graph k).allows in
    omega (arith, room_first (allows k) (holds k ++ (arrows k ++ labels k)) _ _ c.requires.g_in_bounds)

pub write_rows-y-requires : goal.write_rows-y-requires
write_rows-y-requires c =
    let k = (goal.at.write_rows-y-requires c).Start in
    let few = counted k in
    let n : length (block k) ≡ 404 = omega arith in
    let rows : length (table_at 324 16 (block k)) ≡ 16 = rows_at 324 16 (block k) (omega arith) in
    let long : length (holds k) ≡ 2 * (graph k).people = length_rows 2 (graph k).people (graph k).holds in
    let rest = room_then (allows k) (holds k ++ (arrows k ++ labels k)) _ _ _ _ c.write_rows-x.ensures
    c.requires.g_in_bounds in
    omega (arith, room_first (holds k) (arrows k ++ labels k) _ _ rest)

-- ---- the arrows
pub write-z-requires : goal.write-z-requires
write-z-requires c =
    let k = (goal.at.write-z-requires c).Start in
    let n : length (block k) ≡ 404 = omega arith in
    let rest = room_then (allows k) (holds k ++ (arrows k ++ labels k)) _ _ _ _ c.write_rows-x.ensures
    c.requires.g_in_bounds in
    let left = room_then (holds k) (arrows k ++ labels k) _ _ _ _ c.write_rows-y.ensures rest in
    let same = ap (λ (t : List ℕ). length (arrows_body t)) (kinds_joined (block k)) in record {
      kept = (
        part_kept (block k) c.requires.g_value.0,
        rows_at 4 256 (block k) (omega arith),
        c.requires.g_value.1
            ∙ ap (turned_in (row (block k) 0)) (kinds_joined (block k)),
      );
      table_in_bounds = omega (arith, room_first (arrows k) (labels k) _ _ left, same);
    }

pub write_rows-requires : goal.write_rows-requires
write_rows-requires c =
    let k = (goal.at.write_rows-requires c).Start in
    let few = counted k in
    let n : length (block k) ≡ 404 = omega arith in
    let rows : length (table_at 340 64 (block k)) ≡ 64 = rows_at 340 64 (block k) (omega arith) in
    let long : length (labels k) ≡ 1 * (graph k).steps = length_rows 1 (graph k).steps (graph k).labels in
    let rest = room_then (allows k) (holds k ++ (arrows k ++ labels k)) _ _ _ _ c.write_rows-x.ensures
    c.requires.g_in_bounds in
    let left = room_then (holds k) (arrows k ++ labels k) _ _ _ _ c.write_rows-y.ensures rest in
    omega (arith, room_then (arrows k) (labels k) _ _ _ _ (rw (sym (kinds_joined (block k))) at c.write-z.ensures) left)

pub returns : goal.returns
returns c =
    let k = (goal.at.returns c).Start in
    spliced_then (allows k) (holds k ++ (arrows k ++ labels k)) _ _ _ _ _ _ c.write_rows-x.ensures
    (spliced_then (holds k) (arrows k ++ labels k) _ _ _ _ _ _ c.write_rows-y.ensures
    (spliced_then (arrows k) (labels k) _ _ _ _ _ _ (rw (sym (kinds_joined (block k))) at c.write-z.ensures)
    c.write_rows.ensures))
