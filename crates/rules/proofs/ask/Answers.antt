-- `ask`: the graph's refusal, then the marking's and the entry's; what is lent is only read. Assumes nothing.
use mathlib.Core.Path.{refl, sym, ◌∙◌}
use Rattle.moves.specs.Handed.{handed}
use Rattle.rules.specs.Graph.{graph_of}
use Rattle.rules.specs.Laws.{asked_refused, asked_clear}
use Rattle.rules.proofs.ask.Goals as goal

pub returns-in_err-check-clause-value : goal.returns-in_err-check-clause-value
returns-in_err-check-clause-value c =
    let a = c.args in
    handed c.from_residual.result _ c.from_residual.ensures.1 ∙ sym (asked_refused (graph_of a.g.now) a.m a.e _ (sym c.check.ensures ∙ c.in_err-check.was))

pub ask_on-requires : goal.ask_on-requires
ask_on-requires c = sym c.check.ensures ∙ c.in_ok-check.was

pub returns : goal.returns
returns c =
    let a = c.args in
    let verdict = sym c.check.ensures ∙ c.in_ok-check.was in
    record { value = c.ask_on.ensures ∙ sym (asked_clear (graph_of a.g.now) a.m a.e verdict); lent = refl }
