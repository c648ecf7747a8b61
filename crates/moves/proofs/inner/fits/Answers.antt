-- `inner::fits`: the three sets name only steps below n exactly if their union does. Assumes nothing.
use mathlib.Core.Path.{◌∙◌, ap}
use mathlib.Core.Bool.{Bool, ◌&&◌}
use lib.Dec.{leb}
use Rattle.sets.specs.Sets.{union, within}
use Rattle.sets.specs.Laws.{within_full, within_union}
use Rattle.moves.proofs.inner.fits.Goals as goal

pub returns : goal.returns
returns c =
    let a = c.args in
    let m = a.m in
    ap (leb (union (union m.done m.due) m.included)) c.full.ensures
    ∙ within_full a.n (union (union m.done m.due) m.included)
    ∙ within_union a.n (union m.done m.due) m.included
    ∙ ap (λ (b : Bool). b && within a.n m.included) (within_union a.n m.done m.due)
