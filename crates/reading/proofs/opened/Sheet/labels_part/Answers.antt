-- `Sheet::labels_part`: body 6 is there where byte 0 says so. Assumes nothing.
use mathlib.Core.Path.{◌≡◌, sym, ◌∙◌}
use mathlib.Core.Bool.{true}
use Rattle.reading.specs.Reading.{is_six}
use Rattle.reading.specs.Laws.{part_there, sixth, labels_six, labels_five}
use Rattle.reading.proofs.opened.Sheet.labels_part.Goals as goal
use Rattle.reading.proofs.opened.Sheet.labels_part.Goals.{Then-has_labels}

six : (c : Then-has_labels) → is_six c.args.self.now.bytes.now ≡ true
six c = sym c.has_labels.ensures ∙ c.if-has_labels.true

pub body-requires : goal.body-requires
body-requires c =
    let s = c.args.self.now.bytes.now in
    part_there s c.args.self.now.opened.placed 5 (sixth s (six (goal.at.body-requires c).Then-has_labels))

pub returns-then-has_labels : goal.returns-then-has_labels
returns-then-has_labels c =
    c.body.ensures ∙ sym (labels_six c.args.self.now.bytes.now (six (goal.at.returns-then-has_labels c).Then-has_labels))

pub returns-else-has_labels : goal.returns-else-has_labels
returns-else-has_labels c = sym (labels_five c.args.self.now.bytes.now (sym c.has_labels.ensures ∙ c.if-has_labels.false))
