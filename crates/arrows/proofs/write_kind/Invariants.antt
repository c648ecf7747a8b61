use Rattle.std.proofs.Common.{◌≡◌, length}
use Rattle.tables.specs.Tables.{row}
use Rattle.numbers.specs.Numbers.{Spliced}
use Rattle.arrows.specs.Arrows.{spelt}
use Rattle.arrows.specs.Rows.{kind_arrows}
use Rattle.arrows.proofs.write_kind.Given as goal

-- the first rows are written, and the room is as long as it was
abbrev pub invariant-loop-a : goal.invariant-loop-a
invariant-loop-a l =
    record { long : length l.room ≡ length l.initial.room; spliced : Spliced (spelt (kind_arrows l.k l.a (row l.rows))) l.at l.initial.room l.room l.to }
