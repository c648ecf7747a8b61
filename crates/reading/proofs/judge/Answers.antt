-- `judge`: each test of the code is a line of the table, in its order; what a test needs was shown by those before it. Assumes nothing.
use mathlib.Core.Path.{◌≡◌, sym, ap, ◌∙◌}
use mathlib.Core.Bool.{true}
use Rattle.moves.specs.declared.Refusal.TheVariants.{Layout, Counts, Bodies, Beyond, Arrows, Both}
use Rattle.moves.specs.First.{first}
use Rattle.tables.specs.Tables.{counts_fit}
use Rattle.tables.specs.Laws.{counts_bound}
use Rattle.tables.specs.declared.Counts.{Counts as CountsOf}
use Rattle.reading.specs.Reading.{layout_fits, counts_right, bodies_match, sets_inside, arrows_right, read_verdict}
use Rattle.reading.specs.Laws.{layout_placed, bodies_matched}
use Rattle.reading.specs.Judged.{refused}
use Rattle.reading.proofs.judge.Goals as goal
use Rattle.reading.proofs.judge.Goals.{After-fit, Else-not-fit, Else-not-bodies_match, Else-not-sets_inside, Else-not-arrows_right, Else-not-layout_fits}

-- the tests that are passed
fits : (c : Else-not-layout_fits) → layout_fits c.args.s.now ≡ true
fits c = sym c.layout_fits.ensures ∙ c.if-not-layout_fits.false

-- the counts that are tested are those that the sheet says
said : (c : After-fit) → c.fit.result ≡ counts_right c.args.s.now
said c = c.fit.ensures ∙ ap (λ (k : CountsOf). counts_fit k.steps k.people k.roles k.actions) c.counts-c.ensures

counted : (c : Else-not-fit) → counts_right c.args.s.now ≡ true
counted c = sym (said (goal.at.Else-not-fit c).After-fit) ∙ c.if-not-fit.false

matched : (c : Else-not-bodies_match) → bodies_match c.args.s.now ≡ true
matched c = sym c.bodies_match.ensures ∙ c.if-not-bodies_match.false

inside : (c : Else-not-sets_inside) → sets_inside c.args.s.now ≡ true
inside c = sym c.sets_inside.ensures ∙ c.if-not-sets_inside.false

right : (c : Else-not-arrows_right) → arrows_right c.args.s.now ≡ true
right c = sym c.arrows_right.ensures.value ∙ c.if-not-arrows_right.false

-- ---- what the tests after them need
pub counts-c-requires : goal.counts-c-requires
counts-c-requires c = layout_placed _ (fits c)

pub invariant_of-sheet : goal.invariant_of-sheet
invariant_of-sheet c =
    let k = goal.at.invariant_of-sheet c in
    record {
      opened = record {
        placed = layout_placed _ (fits k.Else-not-layout_fits);
        said = c.counts-c.ensures;
        counted = counts_bound _ _ _ _ (sym c.fit.ensures ∙ c.if-not-fit.false);
      };
    }

pub sets_inside-requires : goal.sets_inside-requires
sets_inside-requires c = bodies_matched _ (matched (goal.at.sets_inside-requires c).Else-not-bodies_match)

pub kinds_right-requires : goal.kinds_right-requires
kinds_right-requires c = c.arrows_right.ensures.table_after c.if-not-arrows_right.false

-- ---- the first that fails gives its number
pub returns-then-not-layout_fits : goal.returns-then-not-layout_fits
unfolding read_verdict first
returns-then-not-layout_fits c = refused _ _ Layout (simp (sym c.layout_fits.ensures ∙ c.if-not-layout_fits.true))

pub returns-then-not-fit : goal.returns-then-not-fit
unfolding read_verdict first
returns-then-not-fit c =
    let k = goal.at.returns-then-not-fit c in
    refused _ _ Counts (simp (fits k.Else-not-layout_fits, sym (said k.After-fit) ∙ c.if-not-fit.true))

pub returns-then-not-bodies_match : goal.returns-then-not-bodies_match
unfolding read_verdict first
returns-then-not-bodies_match c =
    let k = goal.at.returns-then-not-bodies_match c in
    refused _ _ Bodies (simp (fits k.Else-not-layout_fits, counted k.Else-not-fit, sym c.bodies_match.ensures ∙ c.if-not-bodies_match.true))

pub returns-then-not-sets_inside : goal.returns-then-not-sets_inside
unfolding read_verdict first
returns-then-not-sets_inside c =
    let k = goal.at.returns-then-not-sets_inside c in
    refused _ _ Beyond (simp (
      fits k.Else-not-layout_fits,
      counted k.Else-not-fit,
      matched k.Else-not-bodies_match,
      sym c.sets_inside.ensures ∙ c.if-not-sets_inside.true,
    ))

pub returns-then-not-arrows_right : goal.returns-then-not-arrows_right
unfolding read_verdict first
returns-then-not-arrows_right c =
    let k = goal.at.returns-then-not-arrows_right c in
    refused _ _ Arrows (simp (
      fits k.Else-not-layout_fits,
      counted k.Else-not-fit,
      matched k.Else-not-bodies_match,
      inside k.Else-not-sets_inside,
      sym c.arrows_right.ensures.value ∙ c.if-not-arrows_right.true,
    ))

pub returns-then-not-kinds_right : goal.returns-then-not-kinds_right
unfolding read_verdict first
returns-then-not-kinds_right c =
    let k = goal.at.returns-then-not-kinds_right c in
    refused _ _ Both (simp (
      fits k.Else-not-layout_fits,
      counted k.Else-not-fit,
      matched k.Else-not-bodies_match,
      inside k.Else-not-sets_inside,
      right k.Else-not-arrows_right,
      sym c.kinds_right.ensures ∙ c.if-not-kinds_right.true,
    ))

pub returns : goal.returns
unfolding read_verdict first
returns c =
    let k = goal.at.returns c in
    record {
      right = sym (simp (
        fits k.Else-not-layout_fits,
        counted k.Else-not-fit,
        matched k.Else-not-bodies_match,
        inside k.Else-not-sets_inside,
        right k.Else-not-arrows_right,
        sym c.kinds_right.ensures ∙ c.if-not-kinds_right.false,
      ));
      filled = λ e. c.arrows_right.ensures.table_after c.if-not-arrows_right.false;
    }
