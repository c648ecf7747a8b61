-- `inner::word`: row s of a table is word at + s. Assumes nothing.
use mathlib.Core.Path.{sym}
use Rattle.tables.specs.Laws.{row_at_lem}
use Rattle.rules.proofs.inner.word.Goals as goal

pub returns : goal.returns
returns c =
    let a = c.args in
    sym (row_at_lem a.at a.count a.g.now a.s c.requires.1)
