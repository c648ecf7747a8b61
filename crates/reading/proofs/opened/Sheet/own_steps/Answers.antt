-- `Sheet::own_steps`: all where there is no body 6. Assumes nothing.
use mathlib.Core.Path.{sym, ap, ◌∙◌}
use Rattle.tables.specs.declared.Counts.{Counts}
use Rattle.reading.specs.Laws.{own_six, own_five}
use Rattle.reading.proofs.opened.Sheet.own_steps.Goals as goal

pub returns-then-has_labels : goal.returns-then-has_labels
returns-then-has_labels c = sym (own_six c.args.self.now.bytes.now (sym c.has_labels.ensures ∙ c.if-has_labels.true))

pub returns-else-has_labels : goal.returns-else-has_labels
returns-else-has_labels c =
    ap (λ (k : Counts). k.steps) c.args.self.now.opened.said
    ∙ sym (own_five c.args.self.now.bytes.now (sym c.has_labels.ensures ∙ c.if-has_labels.false))
