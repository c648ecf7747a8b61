use Rattle.std.proofs.Common.{◌≡◌, length}
use Rattle.numbers.specs.Numbers.{Spliced}
use Rattle.arrows.specs.Arrows.{spelt}
use Rattle.arrows.specs.Rows.{first_kinds}
use Rattle.arrows.proofs.write.Given as goal

-- the first kinds are written, and the room is as long as it was
abbrev pub invariant-loop-k : goal.invariant-loop-k
invariant-loop-k l =
    record { long : length l.room ≡ length l.initial.room; spliced : Spliced (spelt (first_kinds l.k l.n l.conditions l.table)) l.at l.initial.room l.room l.to }
