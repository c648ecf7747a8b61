use Rattle.std.proofs.Common.{◌≡◌}
use Rattle.sets.specs.Sets.{gather}
use Rattle.tables.specs.Tables.{row}
use Rattle.tables.specs.Gathered.{beyond}
use Rattle.tables.proofs.rows_beyond.Given as goal

abbrev pub invariant-loop-i : goal.invariant-loop-i
invariant-loop-i l = l.found ≡ gather l.i (beyond l.count (row l.table))
