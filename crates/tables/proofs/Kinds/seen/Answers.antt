-- `tables::Kinds::seen`: all and both are what the rows passed name and share. Assumes nothing.
use Rattle.std.proofs.Common.{ℕ, sym, ap, ◌∙◌, le_refl}
use Rattle.sets.specs.Sets.{union}
use Rattle.tables.specs.Gathered.{rows_together, rows_shared}
use Rattle.tables.specs.Laws.{gather_front}
use Rattle.tables.proofs.Folded.{gather_next}
use Rattle.tables.proofs.Kinds.seen.Goals as goal

pub loop-i-init : goal.loop-i-init
loop-i-init c =
    let a = c.args in
    let k = a.self in record {
      all_value = sym (gather_front a.from a.from (rows_together k.conditions.now k.responses.now k.includes.now k.excludes.now) (le_refl a.from));
      both_value = sym (gather_front a.from a.from (rows_shared k.includes.now k.excludes.now) (le_refl a.from));
    }

pub loop-i-preserved : goal.loop-i-preserved
loop-i-preserved c =
    let l = c.loop-i in
    let a = c.args in
    let k = a.self in
    let rows = rows_together k.conditions.now k.responses.now k.includes.now k.excludes.now in
    let shared = rows_shared k.includes.now k.excludes.now in record {
      all_value = ap (λ (x : ℕ). union x (rows l.i)) l.invariant.all_value ∙ gather_next a.from l.i rows l.auto.i;
      both_value = ap (λ (x : ℕ). union x (shared l.i)) l.invariant.both_value ∙ gather_next a.from l.i shared l.auto.i;
    }
