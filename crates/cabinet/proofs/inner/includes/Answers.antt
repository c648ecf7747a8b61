-- `includes`: the row by its step, with what the calls before it give. Assumes nothing.
use Prim.Native.Nat.{ℕ}
use mathlib.Core.Path.{ap, ap₂, ◌∙◌}
use Rattle.sets.specs.Sets.{single}
use Rattle.cabinet.specs.Cabinet.{by_step}
use Rattle.cabinet.specs.Laws.{span_ground}
use Rattle.cabinet.proofs.inner.includes.Goals as goal

pub returns : goal.returns
returns c =
    let a = c.args in
    c.by_step.ensures
    ∙ ap₂ (λ (x y : ℕ). by_step a.arms a.s x y 0) (c.span.ensures ∙ span_ground)
    (c.single.ensures ∙ ap single c.following.ensures)
