-- `ulz_lap`: the answer that the lap was found right for, and its values. Assumes nothing.
use Rattle.door.proofs.ulz_lap.Goals as goal

pub returns : goal.returns
returns c = record { answer = c.lap-o.result; right = c.lap-o.ensures; told = c.lapped.ensures }
