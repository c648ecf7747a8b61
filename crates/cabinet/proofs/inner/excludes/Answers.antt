-- `excludes`: the row by its step. The checks behind the first and publishing are one span. Assumes nothing.
use Prim.Native.Nat.{ℕ}
use mathlib.Core.Path.{ap₂, ◌∙◌}
use Rattle.cabinet.specs.Cabinet.{by_step}
use Rattle.cabinet.specs.Laws.{others_span}
use Rattle.cabinet.proofs.inner.excludes.Goals as goal

pub returns : goal.returns
returns c =
    let a = c.args in
    c.by_step.ensures
    ∙ ap₂ (λ (x y : ℕ). by_step a.arms a.s x y 0) (c.span.ensures ∙ others_span a.arms c.requires.0)
    c.single.ensures
