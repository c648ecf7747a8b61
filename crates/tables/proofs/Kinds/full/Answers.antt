-- `tables::Kinds::full`: a word names none but 64 steps, so that only the pairs are left to look at. Assumes nothing.
use Rattle.std.proofs.Common.{◌<◌, ◌^◌, refl, sym, ◌∙◌, le_refl, lt-ltb, arith}
use Rattle.sets.specs.Sets.{full}
use Rattle.sets.specs.Truth.{and_intro}
use Rattle.sets.specs.Laws.{within_full}
use Rattle.tables.specs.Gathered.{rows_together, rows_shared}
use Rattle.tables.specs.Laws.{arrows_keep, gather_front, shared_apart}
use Rattle.tables.proofs.Folded.{gather_all}
use Rattle.tables.proofs.Kinds.full.Goals as goal

pub returns : goal.returns
returns c =
    let k = c.args.self in
    let l = c.requires in
    let rows = rows_together k.conditions.now k.responses.now k.includes.now k.excludes.now in
    let word : c.seen-seen.result.all < 2 ^ 64 = omega (arith, c.seen-seen.type_inv) in record {
      fit_value = sym (and_intro (within_full 64 c.seen-seen.result.all ∙ lt-ltb c.seen-seen.result.all (2 ^ 64) word) refl)
          ∙ arrows_keep 64 k.conditions.now k.responses.now k.includes.now k.excludes.now (full 64) c.seen-seen.result.all 0
          refl (le_refl 64) l.first l.second l.third l.fourth (c.seen-seen.ensures.all_value ∙ gather_all 64 rows)
          (sym (gather_front 64 64 rows (le_refl 64)));
      apart_value = shared_apart 64 k.includes.now k.excludes.now _
          (c.seen-seen.ensures.both_value ∙ gather_all 64 (rows_shared k.includes.now k.excludes.now));
    }
