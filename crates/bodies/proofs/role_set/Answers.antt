-- `role_set`: two bytes of the body, or nothing past its end. Assumes nothing.
use mathlib.Core.Path.{sym}
use Rattle.bodies.specs.Laws.{row_past}
use Rattle.bodies.proofs.role_set.Goals as goal

pub returns-else-at-body : goal.returns-else-at-body
returns-else-at-body c =
    let a = c.args in
    sym (row_past 2 a.body.now a.i c.if-at-body.false)
