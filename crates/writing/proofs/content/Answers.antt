-- `content`: the counts first, then the marking, then what is against the graph. Assumes nothing.
use mathlib.Core.Path.{◌≡◌, sym, ap, ◌∙◌}
use mathlib.Core.Bool.{true}
use Rattle.moves.specs.declared.Marking.{Marking}
use Rattle.tables.specs.declared.Counts.{Counts}
use Rattle.tables.specs.Tables.{counts_fit}
use Rattle.tables.specs.Laws.{Counted, counts_bound}
use Rattle.rules.specs.Graph.{Graph, graph_of}
use Rattle.writing.specs.Laws.{content_counts, content_beyond, content_graph}
use Rattle.writing.proofs.content.Goals as goal
use Rattle.writing.proofs.content.Goals.{After-fit, Else-not-fit}

-- whether the counts fit
said : (c : After-fit)
    → let g = graph_of c.args.g.now in c.fit.result ≡ counts_fit g.steps g.people g.roles g.actions
said c = c.fit.ensures ∙ ap (λ (k : Counts). counts_fit k.steps k.people k.roles k.actions) c.counts.ensures

pub returns-then-not-fit : goal.returns-then-not-fit
returns-then-not-fit c =
    let a = c.args in
    sym (content_counts (graph_of a.g.now) a.m (sym (said (goal.at.returns-then-not-fit c).After-fit) ∙ c.if-not-fit.true))

-- once the counts are right
abbrev graph : Else-not-fit → Graph
graph c = graph_of c.args.g.now

abbrev marking : Else-not-fit → Marking
marking c = c.args.m

counts_right_lem : (c : Else-not-fit) → counts_fit (graph c).steps (graph c).people (graph c).roles (graph c).actions ≡ true
counts_right_lem c = sym (said (goal.at.Else-not-fit c).After-fit) ∙ c.if-not-fit.false

counted : (c : Else-not-fit) → Counted (graph c).steps (graph c).people (graph c).roles (graph c).actions
counted c = counts_bound (graph c).steps (graph c).people (graph c).roles (graph c).actions (counts_right_lem c)

pub fits-requires : goal.fits-requires
fits-requires c = (counted (goal.at.fits-requires c).Else-not-fit).steps_most

pub returns-then-not-fits : goal.returns-then-not-fits
returns-then-not-fits c =
    let k = (goal.at.returns-then-not-fits c).Else-not-fit in
    sym (content_beyond (graph k) (marking k) (counts_right_lem k) (sym c.fits.ensures ∙ c.if-not-fits.true))

pub returns : goal.returns
returns c =
    let k = (goal.at.returns c).Else-not-fit in
    let fit = sym c.fits.ensures ∙ c.if-not-fits.false in
    c.check.ensures ∙ sym (content_graph (graph k) (marking k) fit)
