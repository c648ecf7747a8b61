-- `take`: what was asked is answered. Assumes nothing.
use Rattle.rules.proofs.take.Goals as goal

pub take_asked-requires : goal.take_asked-requires
take_asked-requires c = c.ask.ensures.value

pub returns : goal.returns
returns c = c.take_asked.ensures
