-- `advance`: what is against the state, then the entry; else the state after it. Assumes nothing.
use Prim.Native.Nat.{◌≤◌}
use mathlib.Core.Path.{◌≡◌, sym, ◌∙◌, ap}
use native.Mathlib.Omega.{arith}
use Rattle.std.specs.Prelude.{Ok, Err}
use Rattle.std.proofs.lemmas.Result.{err_from_is_err_and}
use Rattle.moves.specs.declared.Marking.{Marking}
use Rattle.moves.specs.First.{Verdict, first}
use Rattle.rules.specs.Graph.{Graph, graph_of, graph_verdict}
use Rattle.rules.specs.Answers.{after_entry, entry_asked}
use Rattle.rules.specs.Laws.{clear_counts}
use Rattle.rules.specs.Asking.{entry_allowed}
use Rattle.rules.specs.Entries.{Named, known_named}
use Rattle.tracker.specs.Tracker.{idle_lines, track_after, the_step}
use Rattle.tracker.specs.Laws.{clear_graph, rank_most, entered, step_entered}
use Rattle.tracker.proofs.State.{step_refused_state, state_sound, state_ranked}
use Rattle.tracker.proofs.advance.Goals as goal
use Rattle.tracker.proofs.advance.Goals.{In_ok-sound_state, After-ask_entry}

abbrev graph : In_ok-sound_state → Graph
graph p = graph_of p.args.g.now

clear : (p : In_ok-sound_state) → first (idle_lines (graph p) p.args.t) ≡ Ok tt
clear p = sym p.sound_state.ensures ∙ p.in_ok-sound_state.was

lawful : (p : In_ok-sound_state) → graph_verdict (graph p) ≡ Ok tt
lawful p = clear_graph (graph p) p.args.t.marking (state_sound (graph p) p.args.t (clear p))

pub returns-in_err-sound_state : goal.returns-in_err-sound_state
returns-in_err-sound_state c =
    let a = c.args in
    let out = err_from_is_err_and c.from_residual.result c.from_residual.ensures.1 in
    out.1 ∙ ap Err out.2 ∙ sym (step_refused_state (graph_of a.g.now) a.t a.e _ (sym c.sound_state.ensures ∙ c.in_err-sound_state.was))

pub ask_entry-requires : goal.ask_entry-requires
ask_entry-requires c = lawful (goal.at.ask_entry-requires c).In_ok-sound_state

pub taken-requires : goal.taken-requires
taken-requires c =
    let a = c.args in
    let p = (goal.at.taken-requires c).In_ok-sound_state in
    let k = clear_counts (graph p) (lawful p) in
    let n : Named (graph p) a.e = known_named (graph p) a.e (entry_allowed (graph p) a.t.marking a.e (sym c.ask_entry.ensures ∙ c.in-Ok.is)) in
    (lawful p, omega (arith, n.person_in, k.people_most), omega (arith, n.step_in, k.steps_most))

pub follow-requires : goal.follow-requires
follow-requires c =
    let a = c.args in
    let p = (goal.at.follow-requires c).In_ok-sound_state in
    let most : (graph p).steps ≤ 64 = (clear_counts (graph p) (lawful p)).steps_most in
    let i : a.t.rank.0 ≤ (graph p).steps = rank_most (graph p).steps a.t.rank.0 (state_ranked (graph p) a.t (clear p)) in
    omega arith

-- the state is as it should be, so that the entry decides
by_entry : (p : In_ok-sound_state) (o : Verdict) → entry_asked (graph p) p.args.t.marking p.args.e ≡ o
    → the_step (graph p) p.args.t p.args.e ≡ entered o p.args.t (after_entry (graph p) p.args.t.marking p.args.e) p.args.e.step.0
by_entry p o q =
    let a = p.args in
    step_entered (graph p) a.t a.e (state_sound (graph p) a.t (clear p)) (state_ranked (graph p) a.t (clear p))
    ∙ ap (λ (v : Verdict). entered v a.t (after_entry (graph p) a.t.marking a.e) a.e.step.0) q

pub returns-in-Ok : goal.returns-in-Ok
unfolding entered
returns-in-Ok c =
    let a = c.args in
    ap Ok (c.follow.ensures ∙ ap (λ (n : Marking). track_after a.t n a.e.step.0) c.taken.ensures)
    ∙ sym (by_entry (goal.at.returns-in-Ok c).In_ok-sound_state _ (sym c.ask_entry.ensures ∙ c.in-Ok.is))

pub returns-in-Err : goal.returns-in-Err
unfolding entered
returns-in-Err c = sym (by_entry (goal.at.returns-in-Err c).In_ok-sound_state _ (sym c.ask_entry.ensures ∙ c.in-Err.is))
