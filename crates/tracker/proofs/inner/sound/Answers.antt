-- `inner::sound`: the graph's refusal, then the marking's. Assumes nothing.
use mathlib.Core.Path.{◌≡◌, sym, ◌∙◌}
use Rattle.std.specs.Prelude.{Ok}
use Rattle.rules.specs.Graph.{Graph, graph_of, graph_lines, graph_verdict}
use Rattle.rules.specs.Answers.{marking_lines}
use Rattle.rules.specs.Laws.{clear_counts}
use Rattle.moves.specs.Given.{first_refused}
use Rattle.moves.specs.Handed.{handed}
use Rattle.tracker.specs.Laws.{sound_outside, sound_inside}
use Rattle.tracker.proofs.inner.sound.Goals as goal
use Rattle.tracker.proofs.inner.sound.Goals.{In_ok-check}

lawful : (p : In_ok-check) → graph_verdict (graph_of p.args.g.now) ≡ Ok tt
lawful p = sym p.check.ensures ∙ p.in_ok-check.was

pub returns-in_err-check : goal.returns-in_err-check
returns-in_err-check c =
    let a = c.args in
    let g : Graph = graph_of a.g.now in
    handed c.from_residual.result _ c.from_residual.ensures.1
    ∙ sym (first_refused (graph_lines g) (marking_lines g a.m) _ (sym c.check.ensures ∙ c.in_err-check.was))

pub fits-requires : goal.fits-requires
fits-requires c = (clear_counts (graph_of c.args.g.now) (lawful (goal.at.fits-requires c).In_ok-check)).steps_most

pub returns-then-not-fits : goal.returns-then-not-fits
returns-then-not-fits c =
    let a = c.args in
    let clear = lawful (goal.at.returns-then-not-fits c).In_ok-check in
    sym (sound_outside (graph_of a.g.now) a.m clear (sym c.fits.ensures ∙ c.if-not-fits.true))

pub returns : goal.returns
returns c =
    let a = c.args in
    let clear = lawful (goal.at.returns c).In_ok-check in
    sym (sound_inside (graph_of a.g.now) a.m clear (sym c.fits.ensures ∙ c.if-not-fits.false))
