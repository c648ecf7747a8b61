-- `Sheet::labels_match`: body 6 is measured where there is one. Assumes nothing.
use mathlib.Core.Path.{◌≡◌, sym, ap, ◌∙◌}
use mathlib.Core.Bool.{true}
use native.Mathlib.Omega.{arith}
use lib.Dec.{eqb}
use Rattle.layout.specs.Layout.{size_at}
use Rattle.tables.specs.declared.Counts.{Counts}
use Rattle.reading.specs.Reading.{is_six}
use Rattle.reading.specs.Laws.{part_there, sixth, match_six, match_five}
use Rattle.reading.proofs.opened.Sheet.labels_match.Goals as goal
use Rattle.reading.proofs.opened.Sheet.labels_match.Goals.{Then-has_labels}

six : (c : Then-has_labels) → is_six c.args.self.now.bytes.now ≡ true
six c = sym c.has_labels.ensures ∙ c.if-has_labels.true

pub size-requires : goal.size-requires
size-requires c =
    let s = c.args.self.now.bytes.now in
    omega (arith, (part_there s c.args.self.now.opened.placed 5 (sixth s (six (goal.at.size-requires c).Then-has_labels))).0)

pub returns-then-has_labels : goal.returns-then-has_labels
returns-then-has_labels c =
    let k = (goal.at.returns-then-has_labels c).Then-has_labels in
    let s = c.args.self.now.bytes.now in
    simp c.size.ensures.0
    (ap (λ (n : Counts). eqb (size_at s 5) n.steps) c.args.self.now.opened.said ∙ sym (match_six s (six k)))

pub returns-else-has_labels : goal.returns-else-has_labels
returns-else-has_labels c = sym (match_five c.args.self.now.bytes.now (sym c.has_labels.ensures ∙ c.if-has_labels.false))
