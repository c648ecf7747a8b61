-- `turned`: the conditions are the first kind of the table. Assumes nothing.
use Prim.Native.Nat.{ℕ, ◌≤◌}
use mathlib.Core.Path.{◌≡◌, sym, ap, ◌∙◌}
use mathlib.Core.List.{List}
use native.Mathlib.Omega.{arith}
use lib.ListN.{length}
use Rattle.tables.specs.Tables.{row, table_at}
use Rattle.tables.specs.Laws.{rows_at}
use Rattle.rules.specs.Graph.{graph_of}
use Rattle.rules.specs.Laws.{clear_counts}
use Rattle.arrows.specs.Rows.{turned}
use Rattle.writing.specs.Laws.{kind_lies}
use Rattle.writing.proofs.turned.Goals as goal
use Rattle.writing.proofs.turned.Goals.{Start}

few : (c : Start) → row c.args.g.now 0 ≤ 64
few c = (clear_counts (graph_of c.args.g.now) c.requires).steps_most

pub turned-requires : goal.turned-requires
turned-requires c =
    let whole : length c.args.g.now ≡ 404 = omega arith in
    let rows : length (table_at 4 64 c.args.g.now) ≡ 64 = rows_at 4 64 c.args.g.now (omega arith) in
    omega (arith, few (goal.at.turned-requires c).Start)

pub returns : goal.returns
returns c =
    let block = c.args.g.now in
    c.turned.ensures ∙ ap (λ (t : List ℕ). turned (row block 0) (row t)) (sym (kind_lies block 0 (omega arith)))
