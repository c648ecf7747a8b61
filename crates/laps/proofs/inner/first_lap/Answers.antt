-- `inner::first_lap`: the run of the lap, and then the second time from the marking at which it ended. Assumes nothing.
use mathlib.Core.Path.{◌≡◌, sym, ◌∙◌}
use Rattle.rules.specs.Graph.{Graph, graph_of}
use Rattle.journal.specs.Journal.{entries}
use Rattle.laps.specs.declared.Pass.{Pass}
use Rattle.laps.specs.Decision.{second_lap, first_lap}
use Rattle.laps.specs.Ways.{upon_run_ended, upon_run_stopped}
use Rattle.laps.proofs.inner.first_lap.Goals as goal

pub returns-in-Err : goal.returns-in-Err
unfolding first_lap
returns-in-Err c =
    let a = c.args in
    let g : Graph = graph_of a.g.now in
    let j = entries a.lap.now in
    sym (upon_run_stopped g a.m j Pass.First (λ end. second_lap g end j) _ _ _
    (sym c.run_entries.ensures ∙ c.in-Err.is))

pub returns-in-Ok : goal.returns-in-Ok
unfolding first_lap
returns-in-Ok c =
    let a = c.args in
    let g : Graph = graph_of a.g.now in
    let j = entries a.lap.now in
    let next : c.second_lap.result ≡ second_lap g c.in-Ok.again.marking j = c.second_lap.ensures in
    next ∙ sym (upon_run_ended g a.m j Pass.First (λ end. second_lap g end j) _ _
    (sym c.run_entries.ensures ∙ c.in-Ok.is))
