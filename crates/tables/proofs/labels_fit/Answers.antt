-- `tables::labels_fit`: what the rows name moved up, and what stands beyond the steps, tells whether each step has an action that there
-- is. Assumes nothing.
use Rattle.tables.specs.Laws.{labels_keep}
use Rattle.tables.proofs.labels_fit.Goals as goal

pub returns : goal.returns
returns c =
    let a = c.args in
    labels_keep a.steps a.actions a.labels.now _ _ c.requires.1 c.requires.2 c.labels_named-a.ensures
    c.rows_beyond-x.ensures
