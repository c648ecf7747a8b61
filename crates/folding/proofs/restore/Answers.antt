-- `restore`: the graph's refusal, then the length's, the marking's and the record's, then whether it applies, then the entries one by one.
-- Assumes nothing.
use Prim.Native.Nat.{◌≤◌}
use mathlib.Core.Path.{◌≡◌, sym, ◌∙◌, ap}
use mathlib.Core.Bool.{true, false}
use borrow.Author.Rules.{rules}
use Rattle.moves.specs.declared.Marking.{Marking}
use Rattle.moves.specs.First.{Verdict}
use Rattle.rules.specs.Graph.{Graph, graph_of, graph_verdict}
use Rattle.moves.specs.Move.{marking_fits}
use Rattle.rules.specs.Laws.{clear_counts}
use Rattle.journal.specs.Journal.{entries, length_fits}
use Rattle.journal.specs.Inner.{run_on}
use Rattle.journal.specs.Laws.{fits_threes, fits_most}
use Rattle.records.specs.Records.{applies, well_formed}
use Rattle.folding.specs.Answered.{restore_graph, restore_length, restore_outside, restore_ill, restore_on}
use Rattle.folding.proofs.restore.Goals as goal
use Rattle.folding.proofs.restore.Goals.{After-length_fits, Else-not-fits, Else-not-length_fits, Else-not-suits, Else-not-well_formed}
use Rattle.std.specs.Prelude.{Ok, Err}
use Rattle.std.proofs.lemmas.Result.{err_from_is_err_and}
use Rattle.journal.specs.declared.Stopped.{Stopped}

pub returns-in_err-check : goal.returns-in_err-check
returns-in_err-check c =
    let a = c.args in
    let g : Graph = graph_of a.g.now in
    let out = err_from_is_err_and c.from_residual.result c.from_residual.ensures.1 in
    out.1 ∙ ap (λ (o : Stopped). Err o) out.2 ∙ sym (restore_graph g a.r a.j.now a.m _ (sym c.check.ensures ∙ c.in_err-check.was))

abbrev graph : After-length_fits → Graph
graph c = graph_of c.args.g.now

clear : (c : After-length_fits) → graph_verdict (graph c) ≡ Ok tt
clear c = sym c.check.ensures ∙ c.in_ok-check.was

long : (c : Else-not-length_fits) → length_fits c.args.j.now ≡ true
long c = sym c.length_fits.ensures ∙ c.if-not-length_fits.false

within : (c : Else-not-fits) → marking_fits (graph (goal.at.Else-not-fits c).After-length_fits).steps c.args.m ≡ true
within c = sym c.fits.ensures ∙ c.if-not-fits.false

good : (c : Else-not-well_formed) → well_formed (graph (goal.at.Else-not-well_formed c).After-length_fits).steps c.args.r ≡ true
good c = sym c.well_formed-2.ensures ∙ c.if-not-well_formed.false

suit : (c : Else-not-suits) → applies c.args.r c.args.m ≡ true
suit c = sym c.suits.ensures ∙ c.if-not-suits.false

-- ---- the needs
pub returns-then-not-length_fits : goal.returns-then-not-length_fits
returns-then-not-length_fits c =
    let a = c.args in
    let short : length_fits a.j.now ≡ false = sym c.length_fits.ensures ∙ c.if-not-length_fits.true in
    ap (λ (o : Stopped). Err o) c.from.ensures ∙ sym (restore_length (graph (goal.at.returns-then-not-length_fits c).After-length_fits) a.r a.j.now a.m (clear (goal.at.returns-then-not-length_fits c).After-length_fits) short)

pub fits-requires : goal.fits-requires
fits-requires c = (clear_counts (graph (goal.at.fits-requires c).After-length_fits) (clear (goal.at.fits-requires c).After-length_fits)).steps_most

pub returns-then-not-fits : goal.returns-then-not-fits
returns-then-not-fits c =
    let g = graph (goal.at.returns-then-not-fits c).After-length_fits in
    let a = c.args in
    let outside : marking_fits g.steps a.m ≡ false = sym c.fits.ensures ∙ c.if-not-fits.true in
    ap (λ (o : Stopped). Err o) c.from-then-not-fits.ensures ∙ sym (restore_outside g a.r a.j.now a.m (clear (goal.at.returns-then-not-fits c).After-length_fits) (long (goal.at.returns-then-not-fits c).Else-not-length_fits) outside)

pub well_formed-requires : goal.well_formed-requires
well_formed-requires c =
    let most : (graph (goal.at.well_formed-requires c).After-length_fits).steps ≤ 64 = (clear_counts (graph (goal.at.well_formed-requires c).After-length_fits) (clear (goal.at.well_formed-requires c).After-length_fits)).steps_most in
    search rules

pub returns-then-not-well_formed : goal.returns-then-not-well_formed
returns-then-not-well_formed c =
    let g = graph (goal.at.returns-then-not-well_formed c).After-length_fits in
    let a = c.args in
    let ill : well_formed g.steps a.r ≡ false = sym c.well_formed-2.ensures ∙ c.if-not-well_formed.true in
    ap (λ (o : Stopped). Err o) c.from-then-not-well_formed.ensures ∙ sym (restore_ill g a.r a.j.now a.m (clear (goal.at.returns-then-not-well_formed c).After-length_fits) (long (goal.at.returns-then-not-well_formed c).Else-not-length_fits) (within (goal.at.returns-then-not-well_formed c).Else-not-fits) ill)

pub returns-then-not-suits : goal.returns-then-not-suits
returns-then-not-suits c =
    let g = graph (goal.at.returns-then-not-suits c).After-length_fits in
    let a = c.args in
    let not-suited : applies a.r a.m ≡ false = sym c.suits.ensures ∙ c.if-not-suits.true in
    sym (restore_on g a.r a.j.now a.m false (clear (goal.at.returns-then-not-suits c).After-length_fits) (long (goal.at.returns-then-not-suits c).Else-not-length_fits)
    (within (goal.at.returns-then-not-suits c).Else-not-fits) (good (goal.at.returns-then-not-suits c).Else-not-well_formed) not-suited)

pub run_entries-requires : goal.run_entries-requires
run_entries-requires c =
    let j = c.args.j.now in
    let fits = long (goal.at.run_entries-requires c).Else-not-length_fits in
    (clear (goal.at.run_entries-requires c).After-length_fits, fits_threes j fits, fits_most j fits)

pub returns : goal.returns
returns c =
    let g = graph (goal.at.returns c).After-length_fits in
    let a = c.args in
    c.run_entries.ensures ∙ ap (λ (x : Marking). run_on g x 0 (entries a.j.now)) c.given.ensures
    ∙ sym (restore_on g a.r a.j.now a.m true (clear (goal.at.returns c).After-length_fits) (long (goal.at.returns c).Else-not-length_fits)
    (within (goal.at.returns c).Else-not-fits) (good (goal.at.returns c).Else-not-well_formed) (suit (goal.at.returns c).Else-not-suits))
