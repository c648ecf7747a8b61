-- `tables::roles_fit`: what the two tables name together, below and beyond the counts, tells whether each keeps to its counts. Assumes
-- nothing.
use Rattle.std.proofs.Common.{arith}
use Rattle.tables.specs.Laws.{roles_keep}
use Rattle.tables.proofs.roles_fit.Goals as goal

pub returns : goal.returns
returns c =
    let a = c.args in
    let l = c.requires in
    roles_keep a.actions a.people a.roles a.allows.now a.holds.now _ _ _ _ _ c.full.ensures (omega arith) (omega arith)
    c.roles_named-a.ensures c.roles_named-b.ensures c.rows_beyond-x.ensures c.rows_beyond-y.ensures
