-- `fold`: the graph's refusal, then the length's, then the record of the entries. Assumes nothing.
use mathlib.Core.Path.{◌≡◌, sym, ◌∙◌, ap}
use mathlib.Core.Bool.{true, false}
use Rattle.moves.specs.First.{Verdict}
use Rattle.rules.specs.Graph.{Graph, graph_of, graph_verdict}
use Rattle.journal.specs.Journal.{length_fits}
use Rattle.journal.specs.Laws.{fits_threes}
use Rattle.records.specs.Answers.{Recorded}
use Rattle.moves.specs.Handed.{handed}
use Rattle.folding.specs.Answered.{fold_graph, fold_length, fold_clear}
use Rattle.folding.proofs.fold.Goals as goal
use Rattle.std.specs.Prelude.{Ok}

pub returns-in_err-check : goal.returns-in_err-check
returns-in_err-check c =
    let a = c.args in
    let g : Graph = graph_of a.g.now in
    handed c.from_residual.result _ c.from_residual.ensures.1 ∙ sym (fold_graph g a.j.now _ (sym c.check.ensures ∙ c.in_err-check.was))

pub returns-then-not-length_fits : goal.returns-then-not-length_fits
returns-then-not-length_fits c =
    let a = c.args in
    let g : Graph = graph_of a.g.now in
    let clear : graph_verdict g ≡ (Ok tt) = sym c.check.ensures
    ∙ c.in_ok-check.was in
    let long : length_fits a.j.now ≡ false = sym c.length_fits.ensures ∙ c.if-not-length_fits.true in
    sym (fold_length g a.j.now clear long)

pub fold_entries-requires : goal.fold_entries-requires
fold_entries-requires c =
    let a = c.args in
    let g : Graph = graph_of a.g.now in
    let clear : graph_verdict g ≡ (Ok tt) = sym c.check.ensures
    ∙ c.in_ok-check.was in
    let long : length_fits a.j.now ≡ true = sym c.length_fits.ensures ∙ c.if-not-length_fits.false in
    (clear, fits_threes a.j.now long)

pub returns : goal.returns
returns c =
    let a = c.args in
    let g : Graph = graph_of a.g.now in
    let clear : graph_verdict g ≡ (Ok tt) = sym c.check.ensures
    ∙ c.in_ok-check.was in
    let long : length_fits a.j.now ≡ true = sym c.length_fits.ensures ∙ c.if-not-length_fits.false in
    ap Ok c.fold_entries.ensures ∙ sym (fold_clear g a.j.now clear long)
