-- `read`: what is left of the body decides what is left to do. An arrow that passes is put with the run that it begins, and one that does
-- not ends the reading. Assumes nothing.
use Rattle.std.proofs.Common.{arith, sym, ap, ◌∙◌, ◌≡◌, ◌+◌, ◌<◌, length, false}
use Rattle.arrows.specs.Arrows.{arrows_in, link_in_order}
use Rattle.arrows.specs.Loops.{passes, arrow_in, filled, reading_refused, reading_done}
use Rattle.arrows.specs.Runs.{reading_run}
use Rattle.arrows.proofs.read.Goals as goal
use Rattle.arrows.proofs.read.Goals.{After-fits}

-- a whole arrow stands there
room : (c : After-fits) → c.loop-stop.stop.at + 2 < length c.args.s.now
room c =
    let whole = c.requires.1 in
    let here = c.loop-stop.invariant.whole in
    let there = c.loop-stop-test.true in
    omega arith

-- it passes exactly if it fits
passing : (c : After-fits) → c.fits.result ≡ passes c.args.n c.loop-stop.stop.next (arrow_in c.args.s.now c.loop-stop.stop.at)
passing c = c.fits.ensures ∙ ap (passes c.args.n c.loop-stop.stop.next) c.read.ensures

refused : (c : After-fits) → c.fits.result ≡ false
    → (false ≡ link_in_order c.args.n (arrows_in c.args.s.now)) × (c.loop-stop.table ≡ filled c.args.n 0 c.args.table.now (arrows_in c.args.s.now))
refused c e = reading_refused _ _ _ _ _ _ c.loop-stop.invariant.reading c.requires.0 (room c) (sym (passing c) ∙ e)

pub returns-then-not-fits : goal.returns-then-not-fits
returns-then-not-fits c =
    let r = refused (goal.at.returns-then-not-fits c).After-fits c.if-not-fits.true in
    record { value = r.0; table_after = r.1 }

pub loop-stop-preserved : goal.loop-stop-preserved
loop-stop-preserved c =
    let f = (goal.at.loop-stop-preserved c).After-fits in
    let run = c.take-stop.ensures in
    record {
      within = run.reached.within;
      whole = run.reached.ends;
      reading = reading_run c.loop-stop.invariant.reading run (room f) (sym (passing f) ∙ c.if-not-fits.false);
    }

pub returns : goal.returns
returns c =
    let r = reading_done _ _ _ _ _ _ c.loop-stop.invariant.reading c.requires.0 c.loop-stop-test.false in
    record { value = r.0; table_after = r.1 }
