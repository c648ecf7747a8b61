-- `sets::lowest`: the count of zeros below the lowest digit is least, and so is the scan; the least is one. Assumes nothing.
use mathlib.Core.Path.{◌∙◌}
use native.Mathlib.Nat.{mod-eq_of_lt, lt_of_le_of_lt}
use lib.Dec.{lit<}
use lib.Count.{count_trailing_zeros, trailing_le}
use Rattle.sets.specs.Sets.{lowest}
use Rattle.sets.specs.Laws.{least_unique, trailing_least, lowest_least}
use Rattle.sets.proofs.lowest.Goals as goal

pub returns : goal.returns
returns c =
    let x = c.args.x in
    mod-eq_of_lt (lt_of_le_of_lt (trailing_le 64 x) (lit< tt))
    ∙ least_unique 64 x (count_trailing_zeros 64 x) (lowest 64 x) (trailing_least 64 x) (lowest_least 64 x)
