-- `tables::rows_beyond`: found is what the rows passed name, from the count on. Assumes nothing.
use Rattle.std.proofs.Common.{ℕ, sym, ap, ◌∙◌, le_refl}
use Rattle.sets.specs.Sets.{union}
use Rattle.tables.specs.Tables.{row}
use Rattle.tables.specs.Laws.{gather_front}
use Rattle.tables.proofs.Folded.{gather_next}
use Rattle.tables.proofs.rows_beyond.Goals as goal

pub loop-i-init : goal.loop-i-init
loop-i-init c =
    let a = c.args in
    sym (gather_front a.count a.count (row a.table.now) (le_refl a.count))

pub loop-i-preserved : goal.loop-i-preserved
loop-i-preserved c =
    let l = c.loop-i in
    let a = c.args in
    ap (λ (x : ℕ). union x (row a.table.now l.i)) l.invariant ∙ gather_next a.count l.i (row a.table.now) l.auto.i
