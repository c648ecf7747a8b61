-- `inner::lowest_of`: the lowest step of the set itself. Assumes nothing.
use Rattle.laps.proofs.inner.lowest_of.Goals as goal

pub returns : goal.returns
returns c = c.lowest.ensures
