-- `inner::second_lap`: the leg over the lap, and then what is left of it. Assumes nothing.
use mathlib.Core.Path.{sym, ◌∙◌}
use Rattle.rules.specs.Graph.{Graph, graph_of}
use Rattle.journal.specs.Journal.{entries}
use Rattle.laps.specs.declared.Pass.{Pass}
use Rattle.laps.specs.Decision.{leg_of, judged, second_lap}
use Rattle.laps.specs.Ways.{upon_ended, upon_stopped}
use Rattle.laps.proofs.inner.second_lap.Goals as goal

pub returns-in-Err : goal.returns-in-Err
unfolding second_lap
returns-in-Err c =
    let a = c.args in
    let g : Graph = graph_of a.g.now in
    let j = entries a.lap.now in
    sym (upon_stopped (leg_of g a.m j) Pass.Second (λ end x. judged x) _ _
    (sym c.go_through.ensures ∙ c.in-Err.is))

pub returns-in-Ok : goal.returns-in-Ok
unfolding second_lap
returns-in-Ok c =
    let a = c.args in
    let g : Graph = graph_of a.g.now in
    let j = entries a.lap.now in
    c.judge.ensures ∙ sym
    (upon_ended (leg_of g a.m j) Pass.Second (λ end x. judged x) _ _
    (sym c.go_through.ensures ∙ c.in-Ok.is))
