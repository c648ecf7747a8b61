use Rattle.std.proofs.Common.{◌≡◌}
use Rattle.std.proofs.lemmas.List.Edits.{sets}
use Rattle.bodies.specs.Tables.{tabled}
use Rattle.cabinet.specs.Rows.{word_at}
use Rattle.cabinet.proofs.inner.fill.Given as goal

abbrev pub invariant-loop-at : goal.invariant-loop-at
invariant-loop-at l = l.block ≡ sets l.initial.block 0 (tabled l.at (word_at l.arms))
