-- `ulz_ask`: the answer's number and set. Assumes nothing.
use mathlib.Core.Path.{refl}
use Rattle.door.proofs.ulz_ask.Goals as goal

pub returns : goal.returns
returns c =
    let told = c.asked.ensures in
    record { number_value = rw c.ask-o.ensures.value at told.number_value; waiting_value = rw c.ask-o.ensures.value at told.waiting_value; lent = refl }
