-- `lap`: the graph's refusal, then that of a length, of the marking, of an empty lap; then the decision, which is the answer for the
-- infinite run. Assumes nothing.
use mathlib.Core.Path.{◌≡◌, sym, ap, ap₂, ◌∙◌, subst}
use mathlib.Core.Bool.{true, false, ◌&&◌}
use lib.ListN.{length}
use lib.Dec.{eqb}
use borrow.Author.Tests.{eq-eqb, ne_eqb}
use Rattle.sets.specs.Truth.{and_left, and_right}
use Rattle.moves.specs.First.{Verdict}
use Rattle.rules.specs.Graph.{Graph, graph_of, graph_verdict}
use Rattle.moves.specs.Move.{marking_fits}
use Rattle.tables.specs.Laws.{Counted}
use Rattle.rules.specs.Laws.{clear_counts}
use Rattle.journal.specs.Journal.{length_fits}
use Rattle.journal.specs.Laws.{fits_threes, fits_most}
use Rattle.laps.specs.Laps.{LapAnswer}
use Rattle.laps.specs.Ways.{lines_graph, lines_length, lines_outside, lines_empty, lines_clear}
use Rattle.laps.proofs.Right.{decision_right}
use Rattle.laps.proofs.lap.Goals as goal
use Rattle.std.specs.Prelude.{Ok, Err}
use Rattle.std.proofs.lemmas.Result.{err_from_is_err_and}
use Rattle.laps.specs.declared.Broken.{Broken}

pub returns-in_err-check : goal.returns-in_err-check
unfolding LapAnswer
returns-in_err-check c =
    let a = c.args in
    let g : Graph = graph_of a.g.now in
    let s = a.stem.now in
    let l = a.lap.now in
    let out = err_from_is_err_and c.from_residual.result c.from_residual.ensures.1 in
    subst (LapAnswer g a.m s l) (sym (out.1 ∙ ap (λ (b : Broken). Err b) out.2))
    (lines_graph g a.m s l _ (sym c.check.ensures ∙ c.in_err-check.was))

pub returns-then-not-length_fits : goal.returns-then-not-length_fits
unfolding LapAnswer
returns-then-not-length_fits c =
    let a = c.args in
    let g : Graph = graph_of a.g.now in
    let s = a.stem.now in
    let l = a.lap.now in
    let clear : graph_verdict g ≡ (Ok tt) = sym c.check.ensures
    ∙ c.in_ok-check.was in
    lines_length g a.m s l clear
    (sym (ap₂ ◌&&◌ c.length_fits.ensures c.length_fits-2.ensures) ∙ c.if-not-length_fits.true)

pub fits-requires : goal.fits-requires
fits-requires c =
    let a = c.args in
    let g : Graph = graph_of a.g.now in
    let clear : graph_verdict g ≡ (Ok tt) = sym c.check.ensures
    ∙ c.in_ok-check.was in
    let b : Counted g.steps g.people g.roles g.actions = clear_counts g clear in
    b.steps_most

pub returns-then-not-fits : goal.returns-then-not-fits
unfolding LapAnswer
returns-then-not-fits c =
    let a = c.args in
    let g : Graph = graph_of a.g.now in
    let s = a.stem.now in
    let l = a.lap.now in
    let clear : graph_verdict g ≡ (Ok tt) = sym c.check.ensures
    ∙ c.in_ok-check.was in
    let long : (length_fits s && length_fits l) ≡ true =
    sym (ap₂ ◌&&◌ c.length_fits.ensures c.length_fits-2.ensures)
    ∙ c.if-not-length_fits.false in
    lines_outside g a.m s l clear long (sym c.fits.ensures ∙ c.if-not-fits.true)

pub returns-then-lap-eq0 : goal.returns-then-lap-eq0
unfolding LapAnswer
returns-then-lap-eq0 c =
    let a = c.args in
    let g : Graph = graph_of a.g.now in
    let s = a.stem.now in
    let l = a.lap.now in
    let clear : graph_verdict g ≡ (Ok tt) = sym c.check.ensures
    ∙ c.in_ok-check.was in
    let long : (length_fits s && length_fits l) ≡ true =
    sym (ap₂ ◌&&◌ c.length_fits.ensures
    c.length_fits-2.ensures) ∙ c.if-not-length_fits.false in
    let within : marking_fits g.steps a.m ≡ true = sym c.fits.ensures ∙ c.if-not-fits.false in
    lines_empty g a.m s l clear long within (eq-eqb _ _ c.if-lap-eq0.true)

pub decide-requires : goal.decide-requires
decide-requires c =
    let a = c.args in
    let g : Graph = graph_of a.g.now in
    let s = a.stem.now in
    let l = a.lap.now in
    let clear : graph_verdict g ≡ (Ok tt) = sym c.check.ensures
    ∙ c.in_ok-check.was in
    let long : (length_fits s && length_fits l) ≡ true =
    sym (ap₂ ◌&&◌ c.length_fits.ensures
    c.length_fits-2.ensures) ∙ c.if-not-length_fits.false in
    let fs : length_fits s ≡ true = and_left (length_fits s) (length_fits l) long in
    let fl : length_fits l ≡ true = and_right (length_fits s) (length_fits l) long in
    (clear, fits_threes s fs, fits_most s fs, fits_threes l fl, fits_most l fl)

pub returns : goal.returns
returns c =
    let a = c.args in
    let g : Graph = graph_of a.g.now in
    let s = a.stem.now in
    let l = a.lap.now in
    let clear : graph_verdict g ≡ (Ok tt) =
    sym c.check.ensures
    ∙ c.in_ok-check.was in
    let long : (length_fits s && length_fits l) ≡ true =
    sym (ap₂ ◌&&◌ c.length_fits.ensures
    c.length_fits-2.ensures) ∙ c.if-not-length_fits.false in
    let within : marking_fits g.steps a.m ≡ true = sym c.fits.ensures
    ∙ c.if-not-fits.false in
    let some : eqb (length l) 0 ≡ false = ne_eqb _ _ c.if-lap-eq0.false in
    subst (LapAnswer g a.m s l) (sym c.decide.ensures)
    (decision_right g a.m s l (lines_clear g a.m s l clear long within some))
