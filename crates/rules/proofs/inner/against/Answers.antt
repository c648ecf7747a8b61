-- `inner::against`: the refusal in the answer. Assumes nothing.
use mathlib.Core.Path.{sym, ap, ◌∙◌}
use Rattle.rules.specs.Answers.{refusal_in}
use Rattle.rules.proofs.inner.against.Goals as goal

pub returns-in-Ok : goal.returns-in-Ok
unfolding refusal_in
returns-in-Ok c = ap refusal_in (sym c.in-Ok.is ∙ c.ask_entry.ensures)

pub returns-in-Err : goal.returns-in-Err
unfolding refusal_in
returns-in-Err c = ap refusal_in (sym c.in-Err.is ∙ c.ask_entry.ensures)
