-- `run`: the graph's refusal, then the length's, then the marking's, then the entries one by one. Each test answers what the definition
-- asks at its place, so behind a test that is passed the next one decides. Assumes nothing.
use mathlib.Core.Path.{◌≡◌, sym, ap, ◌∙◌}
use mathlib.Core.Bool.{true, false}
use native.Mathlib.Omega.{arith}
use Rattle.moves.specs.First.{Verdict}
use Rattle.rules.specs.Graph.{Graph, graph_of, graph_verdict}
use Rattle.moves.specs.Move.{marking_fits}
use Rattle.tables.specs.Laws.{Counted}
use Rattle.rules.specs.Laws.{clear_counts}
use Rattle.journal.specs.Journal.{length_fits}
use Rattle.journal.specs.Laws.{fits_threes, fits_most, run_graph, run_length, run_outside, run_inside}
use Rattle.journal.proofs.run.Goals as goal
use Rattle.journal.proofs.run.Goals.{Else-not-length_fits, In_ok-check}
use Rattle.std.specs.Prelude.{Ok, Err}
use Rattle.std.proofs.lemmas.Result.{err_from_is_err_and}
use Rattle.journal.specs.declared.Stopped.{Stopped}

abbrev graph : In_ok-check → Graph
graph p = graph_of p.args.g.now

clear : (p : In_ok-check) → graph_verdict (graph p) ≡ Ok tt
clear p = sym p.check.ensures ∙ p.in_ok-check.was

-- behind the length's
long : (p : Else-not-length_fits) → length_fits p.args.j.now ≡ true
long p = sym p.length_fits.ensures ∙ p.if-not-length_fits.false

pub returns-in_err-check : goal.returns-in_err-check
returns-in_err-check c =
    let a = c.args in
    let out = err_from_is_err_and c.from_residual.result c.from_residual.ensures.1 in
    out.1 ∙ ap (λ (o : Stopped). Err o) out.2
    ∙ sym (run_graph (graph_of a.g.now) a.m a.j.now _ (sym c.check.ensures ∙ c.in_err-check.was))

pub returns-then-not-length_fits : goal.returns-then-not-length_fits
returns-then-not-length_fits c =
    let a = c.args in
    ap (λ (o : Stopped). Err o) c.from.ensures ∙ sym (run_length (graph (goal.at.returns-then-not-length_fits c).In_ok-check) a.m a.j.now (clear (goal.at.returns-then-not-length_fits c).In_ok-check) (sym c.length_fits.ensures ∙ c.if-not-length_fits.true))

pub fits-requires : goal.fits-requires
fits-requires c =
    let g : Graph = graph (goal.at.fits-requires c).In_ok-check in
    let b : Counted g.steps g.people g.roles g.actions = clear_counts g (clear (goal.at.fits-requires c).In_ok-check) in
    omega arith

pub returns-then-not-fits : goal.returns-then-not-fits
returns-then-not-fits c =
    let a = c.args in
    let out : marking_fits (graph (goal.at.returns-then-not-fits c).In_ok-check).steps a.m ≡ false = sym c.fits.ensures ∙ c.if-not-fits.true in
    ap (λ (o : Stopped). Err o) c.from-then-not-fits.ensures ∙ sym (run_outside (graph (goal.at.returns-then-not-fits c).In_ok-check) a.m a.j.now (clear (goal.at.returns-then-not-fits c).In_ok-check) (long (goal.at.returns-then-not-fits c).Else-not-length_fits) out)

pub run_entries-requires : goal.run_entries-requires
run_entries-requires c =
    let j = c.args.j.now in
    let whole = long (goal.at.run_entries-requires c).Else-not-length_fits in
    (clear (goal.at.run_entries-requires c).In_ok-check, fits_threes j whole, fits_most j whole)

pub returns : goal.returns
returns c =
    let a = c.args in
    let within : marking_fits (graph (goal.at.returns c).In_ok-check).steps a.m ≡ true = sym c.fits.ensures ∙ c.if-not-fits.false in
    c.run_entries.ensures ∙ sym (run_inside (graph (goal.at.returns c).In_ok-check) a.m a.j.now (clear (goal.at.returns c).In_ok-check) (long (goal.at.returns c).Else-not-length_fits) within)
