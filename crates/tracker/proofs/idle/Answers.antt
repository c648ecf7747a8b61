-- `idle`: what is against the state, else the state after. Assumes nothing.
use mathlib.Core.Path.{◌≡◌, sym, ◌∙◌, ap}
use Rattle.std.specs.Prelude.{Ok, Err}
use Rattle.std.proofs.lemmas.Result.{err_from_is_err_and}
use Rattle.moves.specs.First.{first}
use Rattle.rules.specs.Graph.{Graph, graph_of}
use Rattle.tracker.specs.Tracker.{idle_lines}
use Rattle.tracker.specs.Laws.{idle_clear}
use Rattle.tracker.proofs.State.{idle_refused_state, state_sound, state_ranked}
use Rattle.tracker.proofs.idle.Goals as goal

pub returns-in_err-sound_state : goal.returns-in_err-sound_state
returns-in_err-sound_state c =
    let a = c.args in
    let out = err_from_is_err_and c.from_residual.result c.from_residual.ensures.1 in
    out.1 ∙ ap Err out.2 ∙ sym (idle_refused_state (graph_of a.g.now) a.t _ (sym c.sound_state.ensures ∙ c.in_err-sound_state.was))

pub returns : goal.returns
returns c =
    let a = c.args in
    let g : Graph = graph_of a.g.now in
    let clear : first (idle_lines g a.t) ≡ Ok tt = sym c.sound_state.ensures ∙ c.in_ok-sound_state.was in
    ap Ok c.rest.ensures ∙ sym (idle_clear g a.t (state_sound g a.t clear) (state_ranked g a.t clear))
