-- `finished`: the graph's refusal, then the marking's answer. Assumes nothing.
use mathlib.Core.Path.{sym, ◌∙◌}
use Rattle.moves.specs.Handed.{handed}
use Rattle.rules.specs.Graph.{graph_of}
use Rattle.rules.specs.Laws.{clear_counts, ending_refused, ending_clear}
use Rattle.rules.proofs.finished.Goals as goal

pub returns-in_err-check : goal.returns-in_err-check
returns-in_err-check c =
    let a = c.args in
    handed c.from_residual.result _ c.from_residual.ensures.1
    ∙ sym (ending_refused (graph_of a.g.now) a.m _ (sym c.check.ensures ∙ c.in_err-check.was))

pub finished_on-requires : goal.finished_on-requires
finished_on-requires c =
    (clear_counts (graph_of c.args.g.now)
    (sym c.check.ensures ∙ c.in_ok-check.was)).steps_most

pub returns : goal.returns
returns c =
    let a = c.args in
    c.finished_on.ensures
    ∙ sym (ending_clear (graph_of a.g.now) a.m
    (sym c.check.ensures ∙ c.in_ok-check.was))
