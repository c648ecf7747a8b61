-- `inner::choice_of_all_on`: the marking's refusal; else the steps for the roles that all hold together. Assumes nothing.
use mathlib.Core.Path.{sym, ap, ◌∙◌}
use Rattle.rules.specs.Graph.{Graph, graph_of}
use Rattle.rules.specs.Laws.{clear_counts}
use Rattle.greying.specs.Rows.{steps_for}
use Rattle.greying.specs.Laws.{all_outside, all_steps, steps_of_all}
use Rattle.greying.proofs.inner.choice_of_all_on.Goals as goal
use Rattle.std.specs.Prelude.{Ok}

pub fits-requires : goal.fits-requires
fits-requires c = (clear_counts (graph_of c.args.g.now) c.requires).steps_most

pub returns-then-not-fits : goal.returns-then-not-fits
returns-then-not-fits c =
    let a = c.args in
    sym (all_outside (graph_of a.g.now) a.m c.requires (sym c.fits.ensures ∙ c.if-not-fits.true))

pub returns : goal.returns
returns c =
    let a = c.args in
    let g : Graph = graph_of a.g.now in
    let fit = sym c.fits.ensures ∙ c.if-not-fits.false in
    ap Ok (c.steps_for.ensures ∙ ap (steps_for g a.m) c.roles_of_all.ensures ∙ steps_of_all g a.m c.requires fit)
    ∙ sym (all_steps g a.m c.requires fit)
