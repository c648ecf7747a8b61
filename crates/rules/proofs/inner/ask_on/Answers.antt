-- `inner::ask_on`: the marking's refusal, then the entry's. Assumes nothing.
use mathlib.Core.Path.{sym, ◌∙◌}
use Rattle.rules.specs.Graph.{graph_of}
use Rattle.rules.specs.Laws.{clear_counts, on_outside, on_inside}
use Rattle.rules.proofs.inner.ask_on.Goals as goal

pub fits-requires : goal.fits-requires
fits-requires c =
    (clear_counts (graph_of c.args.g.now) c.requires).steps_most

pub returns-then-not-fits : goal.returns-then-not-fits
returns-then-not-fits c =
    let a = c.args in
    sym (on_outside (graph_of a.g.now) a.m a.e (sym c.fits.ensures ∙ c.if-not-fits.true))

pub returns : goal.returns
returns c =
    let a = c.args in
    c.ask_entry.ensures ∙ sym
    (on_inside (graph_of a.g.now) a.m a.e (sym c.fits.ensures ∙ c.if-not-fits.false))
