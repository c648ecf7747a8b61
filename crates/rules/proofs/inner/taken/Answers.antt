-- `inner::taken`: the row of the entry, and the marking after it. Assumes nothing.
use mathlib.Core.Path.{ap, ◌∙◌}
use Rattle.moves.specs.declared.inner.Row.{Row}
use Rattle.moves.specs.Move.{after}
use Rattle.rules.proofs.inner.taken.Goals as goal

pub returns : goal.returns
returns c =
    let a = c.args in
    c.moved.ensures ∙ ap (λ (w : Row). after w a.m a.e.step.0) c.row_at.ensures
