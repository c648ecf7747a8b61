-- `inner::moved`: the set with s alone goes to the formula. Assumes nothing.
use mathlib.Core.Path.{◌∙◌, ap}
use Rattle.moves.specs.Move.{after_one}
use Rattle.moves.proofs.inner.moved.Goals as goal

pub returns : goal.returns
returns c =
    let a = c.args in
    c.after_one.ensures ∙ ap (after_one a.w a.m) c.single.ensures
