-- `inner::choice_on`: the marking's refusal, then the person's; else the steps for the roles that the person holds. Assumes nothing.
use Prim.Native.Nat.{◌<◌}
use mathlib.Core.Path.{sym, ap, ◌∙◌}
use native.Mathlib.Omega.{arith}
use borrow.Author.Tests.{lt-ltb, le-ltb}
use Rattle.moves.specs.declared.inner.Row.{Row}
use Rattle.rules.specs.Graph.{Graph, graph_of}
use Rattle.rules.specs.Laws.{clear_counts}
use Rattle.greying.specs.Rows.{steps_for}
use Rattle.greying.specs.Laws.{choice_outside, choice_unknown, choice_steps, steps_of_lem}
use Rattle.greying.proofs.inner.choice_on.Goals as goal
use Rattle.std.specs.Prelude.{Ok}

pub fits-requires : goal.fits-requires
fits-requires c = (clear_counts (graph_of c.args.g.now) c.requires).steps_most

pub returns-then-not-fits : goal.returns-then-not-fits
returns-then-not-fits c =
    let a = c.args in
    sym (choice_outside (graph_of a.g.now) a.m a.person c.requires (sym c.fits.ensures ∙ c.if-not-fits.true))

pub returns-then-g-person : goal.returns-then-g-person
returns-then-g-person c =
    let a = c.args in
    let fit = sym c.fits.ensures ∙ c.if-not-fits.false in
    sym (choice_unknown (graph_of a.g.now) a.m a.person c.requires fit (le-ltb _ _ c.if-g-person.true))

pub overflow_cast-person : goal.overflow_cast-person
overflow_cast-person c =
    let most = (clear_counts (graph_of c.args.g.now) c.requires).people_most in
    omega arith

pub row_at-requires : goal.row_at-requires
row_at-requires c =
    let most = (clear_counts (graph_of c.args.g.now) c.requires).people_most in
    (c.requires, omega arith, omega arith)

pub returns : goal.returns
returns c =
    let a = c.args in
    let g : Graph = graph_of a.g.now in
    let fit = sym c.fits.ensures ∙ c.if-not-fits.false in
    let known : a.person < g.people = c.if-g-person.false in
    let held = ap (λ (w : Row). steps_for g a.m w.held) c.row_at.ensures in
    ap Ok (c.steps_for.ensures ∙ held ∙ steps_of_lem g a.m c.requires fit a.person known)
    ∙ sym (choice_steps g a.m a.person c.requires fit (lt-ltb _ _ known))
