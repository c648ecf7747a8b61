use Rattle.std.proofs.Common.{◌≡◌}
use Rattle.sets.specs.Sets.{gather}
use Rattle.tables.specs.Gathered.{beyond, rows_together, rows_shared}
use Rattle.tables.proofs.Kinds.seen.Given as goal

abbrev pub invariant-loop-i : goal.invariant-loop-i
invariant-loop-i l = record {
  all_value : l.all ≡ gather l.i (beyond l.from (rows_together l.self.conditions.now l.self.responses.now l.self.includes.now l.self.excludes.now));
  both_value : l.both ≡ gather l.i (beyond l.from (rows_shared l.self.includes.now l.self.excludes.now));
}
