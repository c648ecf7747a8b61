use Rattle.std.proofs.Common.{◌≡◌}
use Rattle.tables.specs.Tables.{row}
use Rattle.arrows.specs.Rows.{count_of}
use Rattle.arrows.proofs.count_kind.Given as goal

abbrev pub invariant-loop-x : goal.invariant-loop-x
invariant-loop-x l = l.found ≡ count_of l.x-index (row l.rows)
