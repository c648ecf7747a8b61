-- `write_bodies`: the counts, the first marking, then the tables. Assumes nothing.
use Prim.Native.Nat.{ℕ}
use mathlib.Core.Path.{◌≡◌, subst}
use mathlib.Core.List.{List, ◌++◌}
use native.Mathlib.Omega.{arith}
use lib.ListN.{length}
use Rattle.rules.specs.Graph.{Graph, graph_of}
use Rattle.numbers.specs.Numbers.{Spliced}
use Rattle.tables.specs.declared.Counts.{Counts}
use Rattle.numbers.specs.Laws.{spliced_then, room_first, room_then}
use Rattle.bodies.specs.Bodies.{counts_body, marking_body}
use Rattle.bodies.specs.Laws.{length_counts, length_marking}
use Rattle.writing.specs.Parts.{counts_out, tables_out}
use Rattle.writing.proofs.write_bodies.Goals as goal
use Rattle.writing.proofs.write_bodies.Goals.{After-write_counts-x, Start}

abbrev graph : Start → Graph
graph c = graph_of c.args.g.now

abbrev counts : Start → List ℕ
counts c = counts_out (graph c)

abbrev marking : Start → List ℕ
marking c = marking_body c.args.m

abbrev tables : Start → List ℕ
tables c = tables_out (graph c)

pub write_counts-x-requires : goal.write_counts-x-requires
write_counts-x-requires c =
    let k = (goal.at.write_counts-x-requires c).Start in
    let g = graph k in
    let four : length (counts k) ≡ 4 = length_counts g.steps g.people g.roles g.actions in
    omega (arith, room_first (counts k) (marking k ++ tables k) _ _ c.requires.m_in_bounds)

-- the counts that are written are the graph's
wrote : (c : After-write_counts-x)
    → Spliced (counts (goal.at.After-write_counts-x c).Start) c.args.at c.args.room.now c.write_counts-x.new.room c.write_counts-x.result
wrote c =
    subst (λ (k : Counts). Spliced (counts_body k.steps k.people k.roles k.actions) c.args.at c.args.room.now c.write_counts-x.new.room c.write_counts-x.result)
    c.counts.ensures c.write_counts-x.ensures

pub write_marking-y-requires : goal.write_marking-y-requires
write_marking-y-requires c =
    let k = goal.at.write_marking-y-requires c in
    let long : length (marking k.Start) ≡ 24 = length_marking c.args.m in
    let left = room_then (counts k.Start) (marking k.Start ++ tables k.Start) _ _ _ _ (wrote k.After-write_counts-x) c.requires.m_in_bounds in
    omega (arith, room_first (marking k.Start) (tables k.Start) _ _ left)

pub write_tables-requires : goal.write_tables-requires
write_tables-requires c =
    let k = goal.at.write_tables-requires c in
    let left = room_then (counts k.Start) (marking k.Start ++ tables k.Start) _ _ _ _ (wrote k.After-write_counts-x) c.requires.m_in_bounds in
    record { g_value = c.requires.g_value; g_in_bounds = room_then (marking k.Start) (tables k.Start) _ _ _ _ c.write_marking-y.ensures left }

pub returns : goal.returns
returns c =
    let k = goal.at.returns c in
    spliced_then (counts k.Start) (marking k.Start ++ tables k.Start) _ _ _ _ _ _ (wrote k.After-write_counts-x)
    (spliced_then (marking k.Start) (tables k.Start) _ _ _ _ _ _ c.write_marking-y.ensures c.write_tables.ensures)
