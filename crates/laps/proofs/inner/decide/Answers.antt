-- `inner::decide`: the run of the stem, and then the laps from the marking at which it ended. Assumes nothing.
use mathlib.Core.Path.{◌≡◌, sym, ◌∙◌}
use Rattle.rules.specs.Graph.{Graph, graph_of}
use Rattle.journal.specs.Journal.{entries}
use Rattle.laps.specs.declared.Pass.{Pass}
use Rattle.laps.specs.Decision.{first_lap, decision}
use Rattle.laps.specs.Ways.{upon_run_ended, upon_run_stopped}
use Rattle.laps.proofs.inner.decide.Goals as goal

pub returns-in-Err : goal.returns-in-Err
unfolding decision
returns-in-Err c =
    let a = c.args in
    let g : Graph = graph_of a.g.now in
    let j = entries a.stem.now in
    let l = entries a.lap.now in
    sym (upon_run_stopped g a.m j Pass.Stem (λ end. first_lap g end l) _ _ _
    (sym c.run_entries.ensures ∙ c.in-Err.is))

pub returns-in-Ok : goal.returns-in-Ok
unfolding decision
returns-in-Ok c =
    let a = c.args in
    let g : Graph = graph_of a.g.now in
    let j = entries a.stem.now in
    let l = entries a.lap.now in
    let next : c.first_lap.result ≡ first_lap g c.in-Ok.start.marking l = c.first_lap.ensures in
    next ∙ sym (upon_run_ended g a.m j Pass.Stem (λ end. first_lap g end l) _ _
    (sym c.run_entries.ensures ∙ c.in-Ok.is))
