use Rattle.std.proofs.Common.{◌≡◌}
use Rattle.arrows.specs.Rows.{count_kinds}
use Rattle.arrows.proofs.size.Given as goal

abbrev pub invariant-loop-k : goal.invariant-loop-k
invariant-loop-k l = l.found ≡ count_kinds l.k l.n l.conditions l.table
