-- `take`: each arrow that goes on has the head of the first, so it passes as the first did. Conditions are put where the definition puts them
-- one by one; the steps of any other run all stand in one row of the table. Assumes nothing.
use Rattle.std.proofs.Common.{rules, arith, refl, sym, ap, ◌∙◌, ◌≡◌, ◌+◌, get_or}
use Rattle.numbers.specs.Numbers.{Bytes}
use Rattle.sets.specs.Sets.{single}
use Rattle.arrows.specs.Arrows.{Arrow}
use Rattle.arrows.specs.Runs.{under_more, wait_first, wait_onward, point_first, point_onward}
use Rattle.arrows.proofs.runs.take.Goals as goal

pub loop-b-init : goal.loop-b-init
loop-b-init c =
    let a = c.args in
    let b = c.requires in
    let e = c.read-first.ensures in
    let kind : c.read-first.result.kind ≡ get_or a.s.now a.at 0 = ap (λ (x : Arrow). x.kind) e in
    let from : c.read-first.result.from ≡ get_or a.s.now (a.at + 1) 0 = ap (λ (x : Arrow). x.from) e in
    let to : c.read-first.result.to ≡ get_or a.s.now (a.at + 2) 0 = ap (λ (x : Arrow). x.to) e in
    record {
      under = record {
        text = refl;
        steps = refl;
        heads = c.two.ensures;
        reached = record { further = search rules; within = omega arith; ends = omega arith };
        few = omega arith;
      };
      puts = rw to (wait_first a.n a.s.now a.at b (sym kind ∙ c.if-first-eq0.true) c.single-one.result (c.single-one.ensures ∙ ap single from)
          a.table.now c.point.new.table (rw to at c.point.ensures));
    }

pub loop-b-preserved : goal.loop-b-preserved
loop-b-preserved c =
    let a = c.args in
    let b = c.requires in
    let e = c.read-first.ensures in
    let kind : c.read-first.result.kind ≡ get_or a.s.now a.at 0 = ap (λ (x : Arrow). x.kind) e in
    let from : c.read-first.result.from ≡ get_or a.s.now (a.at + 1) 0 = ap (λ (x : Arrow). x.from) e in
    let bytes : Bytes a.s.now = search rules in
    let before = c.loop-b.invariant in
    record {
      under = under_more a.n a.s.now a.at b _ _ _ bytes before.under c.in-Some.ensures;
      puts = wait_onward a.n a.s.now a.at b (sym kind ∙ c.if-first-eq0.true) c.single-one.result (c.single-one.ensures ∙ ap single from)
          a.table.now _ _ _ _ _ bytes before.under c.in-Some.ensures c.point-in-Some.ensures before.puts;
    }

pub loop-b-else-first-eq0-init : goal.loop-b-else-first-eq0-init
loop-b-else-first-eq0-init c =
    let a = c.args in
    let b = c.requires in
    let e = c.read-first.ensures in
    let kind : c.read-first.result.kind ≡ get_or a.s.now a.at 0 = ap (λ (x : Arrow). x.kind) e in
    let to : c.read-first.result.to ≡ get_or a.s.now (a.at + 2) 0 = ap (λ (x : Arrow). x.to) e in
    record {
      under = record {
        text = refl;
        steps = refl;
        heads = c.two.ensures;
        reached = record { further = search rules; within = omega arith; ends = omega arith };
        few = omega arith;
      };
      puts = rw (c.single-steps.ensures, to) (point_first a.n a.s.now a.at b (omega arith) a.table.now);
    }

pub loop-b-else-first-eq0-preserved : goal.loop-b-else-first-eq0-preserved
loop-b-else-first-eq0-preserved c =
    let a = c.args in
    let b = c.requires in
    let e = c.read-first.ensures in
    let kind : c.read-first.result.kind ≡ get_or a.s.now a.at 0 = ap (λ (x : Arrow). x.kind) e in
    let bytes : Bytes a.s.now = search rules in
    let before = c.loop-b-else-first-eq0.invariant in
    let next = c.in-Some-next_step.ensures in
    record {
      under = under_more a.n a.s.now a.at b _ _ _ bytes before.under next;
      puts = rw c.single-steps-in-Some-next_step.ensures
          (point_onward a.n a.s.now a.at b (omega arith) a.table.now _ _ _ _ bytes before.under next before.puts);
    }
