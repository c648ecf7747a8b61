-- `allowed_to`: the graph's refusal, then the marking's and the person's; what is lent is only read. Assumes nothing.
use mathlib.Core.Path.{sym, ◌∙◌}
use Rattle.moves.specs.Handed.{handed}
use Rattle.rules.specs.Graph.{graph_of}
use Rattle.greying.specs.Laws.{choice_refused}
use Rattle.greying.proofs.allowed_to.Goals as goal

pub returns-in_err-check-clause-value : goal.returns-in_err-check-clause-value
returns-in_err-check-clause-value c =
    let a = c.args in
    let verdict = sym c.check.ensures ∙ c.in_err-check.was in
    handed c.from_residual.result _ c.from_residual.ensures.1 ∙ sym (choice_refused (graph_of a.g.now) a.m a.person _ verdict)
