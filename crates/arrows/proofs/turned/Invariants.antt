use Rattle.std.proofs.Common.{◌≡◌, replicate}
use Rattle.tables.specs.Tables.{row}
use Rattle.arrows.specs.Arrows.{put_all}
use Rattle.arrows.specs.Rows.{kind_arrows}
use Rattle.arrows.proofs.turned.Given as goal

abbrev pub invariant-loop-b : goal.invariant-loop-b
invariant-loop-b l = l.table ≡ put_all (replicate 64 0) (kind_arrows 0 l.b (row l.rows))
