-- `tables::Kinds::checked`: what the four tables name together, below and beyond the count, tells whether each keeps to it. Assumes
-- nothing.
use Rattle.std.proofs.Common.{ℕ, sym, ap, ◌∙◌}
use Rattle.tables.specs.Tables.{arrow_rows_fit, kinds_apart}
use Rattle.tables.specs.Gathered.{rows_together, rows_shared}
use Rattle.tables.specs.Laws.{arrows_keep, shared_apart}
use Rattle.tables.proofs.Folded.{gather_all}
use Rattle.tables.proofs.Kinds.checked.Goals as goal

pub returns-then-steps-eq64 : goal.returns-then-steps-eq64
returns-then-steps-eq64 c =
    let k = c.args.self in record {
      fit_value = c.full.ensures.fit_value
          ∙ ap (λ (n : ℕ). arrow_rows_fit n k.conditions.now k.responses.now k.includes.now k.excludes.now) (sym c.if-steps-eq64.true);
      apart_value = c.full.ensures.apart_value ∙ ap (λ (n : ℕ). kinds_apart n k.includes.now k.excludes.now) (sym c.if-steps-eq64.true);
    }

pub returns : goal.returns
returns c =
    let n = c.args.steps in
    let k = c.args.self in
    let l = c.requires.1 in
    let rows = rows_together k.conditions.now k.responses.now k.includes.now k.excludes.now in record {
      fit_value = arrows_keep n k.conditions.now k.responses.now k.includes.now k.excludes.now _ _ _ c.full-2.ensures c.requires.0
          l.first l.second l.third l.fourth (c.seen-seen.ensures.all_value ∙ gather_all n rows) c.seen-past.ensures.all_value;
      apart_value = shared_apart n k.includes.now k.excludes.now _
          (c.seen-seen.ensures.both_value ∙ gather_all n (rows_shared k.includes.now k.excludes.now));
    }
