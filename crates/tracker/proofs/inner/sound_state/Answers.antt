-- `inner::sound_state`: what is against graph and marking, then the rank. Assumes nothing.
use Rattle.std.proofs.Common.{◌≡◌, ap, sym, ◌∙◌, Bool, not, cond}
use Rattle.std.specs.Prelude.{Ok, Err}
use Rattle.moves.specs.declared.Refusal.TheVariants.{NoRank}
use Rattle.moves.specs.First.{first}
use Rattle.moves.specs.Given.{first_clear, first_refused}
use Rattle.moves.specs.Handed.{handed}
use Rattle.rules.specs.Graph.{Graph, graph_of}
use Rattle.tracker.specs.Tracker.{start_lines, rank_lines, idle_lines}
use Rattle.tracker.proofs.inner.sound_state.Goals as goal
use Rattle.tracker.proofs.inner.sound_state.Goals.{After-ranked}

pub returns-in_err-sound : goal.returns-in_err-sound
returns-in_err-sound c =
    let a = c.args in
    let g : Graph = graph_of a.g.now in
    handed c.from_residual.result _ c.from_residual.ensures.1
    ∙ sym (first_refused (start_lines g a.t.marking) (rank_lines g a.t.rank) _ (sym c.sound.ensures ∙ c.in_err-sound.was))

-- where nothing is against graph and marking, the rank decides
by_rank : (p : After-ranked) → first (idle_lines (graph_of p.args.g.now) p.args.t) ≡ cond (not p.ranked.result) (Err NoRank) (Ok tt)
unfolding first
by_rank p =
    let a = p.args in
    let g : Graph = graph_of a.g.now in
    first_clear (start_lines g a.t.marking) (rank_lines g a.t.rank) (sym p.sound.ensures ∙ p.in_ok-sound.was)
    ∙ ap (λ (b : Bool). cond (not b) (Err NoRank) (Ok tt)) (sym p.ranked.ensures)

pub returns-then-not-ranked : goal.returns-then-not-ranked
returns-then-not-ranked c =
    sym (by_rank (goal.at.returns-then-not-ranked c).After-ranked ∙ ap (λ (b : Bool). cond (not b) (Err NoRank) (Ok tt)) c.if-not-ranked.true)

pub returns : goal.returns
returns c =
    sym (by_rank (goal.at.returns c).After-ranked ∙ ap (λ (b : Bool). cond (not b) (Err NoRank) (Ok tt)) c.if-not-ranked.false)
