-- `sets::within`: below 2 ^ n is at most 2 ^ n - 1. Assumes nothing.
use mathlib.Core.Path.{◌∙◌, ap}
use lib.Dec.{leb}
use Rattle.sets.specs.Laws.{within_full}
use Rattle.sets.proofs.within.Goals as goal

pub returns : goal.returns
returns c = ap (leb c.args.x) c.full.ensures ∙ within_full c.args.n c.args.x
