-- `start`: what is against graph and marking, else the state that the marking starts with. Assumes nothing.
use mathlib.Core.Path.{sym, ◌∙◌, ap}
use Rattle.std.specs.Prelude.{Ok, Err}
use Rattle.std.proofs.lemmas.Result.{err_from_is_err_and}
use Rattle.rules.specs.Graph.{graph_of}
use Rattle.tracker.specs.Laws.{start_refused, start_clear}
use Rattle.tracker.proofs.start.Goals as goal

pub returns-in_err-sound : goal.returns-in_err-sound
returns-in_err-sound c =
    let a = c.args in
    let out = err_from_is_err_and c.from_residual.result c.from_residual.ensures.1 in
    out.1 ∙ ap Err out.2 ∙ sym (start_refused (graph_of a.g.now) a.m _ (sym c.sound.ensures ∙ c.in_err-sound.was))

pub returns : goal.returns
returns c =
    let a = c.args in
    ap Ok c.begin.ensures
    ∙ sym (start_clear (graph_of a.g.now) a.m (sym c.sound.ensures ∙ c.in_ok-sound.was))
