-- `fill`: the front, then the bodies, are the sheet. Assumes nothing.
use Prim.Native.Nat.{ℕ, ◌+◌, ◌-◌, ◌*◌, ◌≤◌}
use mathlib.Core.Path.{◌≡◌, sym, ap, ◌∙◌}
use mathlib.Core.List.{◌++◌}
use native.Mathlib.Omega.{arith}
use lib.ListN.{length}
use Rattle.tables.specs.Laws.{Counted}
use Rattle.rules.specs.Graph.{Graph, graph_of}
use Rattle.rules.specs.Laws.{clear_counts}
use Rattle.numbers.specs.Laws.{spliced_then, room_then}
use Rattle.layout.specs.Layout.{front}
use Rattle.writing.specs.Laws.{arrows_most}
use Rattle.writing.specs.Parts.{sizes_of, arrows_out, front_out, bodies_out, length_out, sheet_parts, sheet_length}
use Rattle.writing.proofs.fill.Goals as goal
use Rattle.writing.proofs.fill.Goals.{Start}

abbrev graph : Start → Graph
graph c = graph_of c.args.g.now

counted : (c : Start) → Counted (graph c).steps (graph c).people (graph c).roles (graph c).actions
counted c = clear_counts (graph c) c.requires.g_value.0

-- what is left of the size is that of the arrows
abbrev left : Start → ℕ
left c = c.args.size - (59 + 2 * (graph c).actions + 2 * (graph c).people + (graph c).steps)

arrows-left : (c : Start) → left c ≡ length (arrows_out (graph c))
arrows-left c =
    let e : c.args.size ≡ length_out (graph c) = c.requires.size_value.0 in
    omega arith

pub write_front-at-requires : goal.write_front-at-requires
write_front-at-requires c =
    let k = (goal.at.write_front-at-requires c).Start in
    let few = counted k in
    let most : length (arrows_out (graph k)) ≤ 49152 = arrows_most c.args.g.now c.requires.g_value.0 in
    omega (arith, arrows-left k, c.requires.size_value)

-- the front that is written is that of the sheet
front_same : (c : Start) → front (sizes_of (graph c).steps (graph c).people (graph c).actions (left c)) ≡ front_out (graph c)
front_same c = ap (λ (k : ℕ). front (sizes_of (graph c).steps (graph c).people (graph c).actions k)) (arrows-left c)

pub write_bodies-requires : goal.write_bodies-requires
write_bodies-requires c =
    let k = (goal.at.write_bodies-requires c).Start in
    let m = c.args.m in
    let whole : length (front_out (graph k) ++ bodies_out (graph k) m) ≡ length_out (graph k) =
    ap length (sym (sheet_parts (graph k) m)) ∙ sheet_length (graph k) m in
    let fits : 0 + length (front_out (graph k) ++ bodies_out (graph k) m) ≤ length c.args.room.now =
    omega (arith, c.requires.size_value) in record {
      g_value = c.requires.g_value;
      m_in_bounds = room_then (front_out (graph k)) (bodies_out (graph k) m) _ _ _ _
          (rw (front_same k) at c.write_front-at.ensures) fits;
    }

pub returns : goal.returns
returns c =
    let k = (goal.at.returns c).Start in
    let m = c.args.m in
    rw (sheet_parts (graph k) m)
    (spliced_then (front_out (graph k)) (bodies_out (graph k) m) 0 _ _ _ _ _ (rw (front_same k) at c.write_front-at.ensures)
    c.write_bodies.ensures)
