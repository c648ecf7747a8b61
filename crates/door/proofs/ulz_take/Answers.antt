-- `ulz_take`: the move's number and values. Assumes nothing.
use Rattle.door.proofs.ulz_take.Goals as goal

pub take_asked-o-requires : goal.take_asked-o-requires
take_asked-o-requires c = c.ask-asked.ensures.value

pub returns : goal.returns
returns c = rw c.take_asked-o.ensures at c.moved.ensures
