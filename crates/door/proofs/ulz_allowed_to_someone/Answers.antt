-- `ulz_allowed_to_someone`: the answer's number and set. Assumes nothing.
use mathlib.Core.Path.{refl}
use Rattle.door.proofs.ulz_allowed_to_someone.Goals as goal

pub returns : goal.returns
returns c =
    let told = c.allowed.ensures in
    record { number_value = rw c.allowed_to_someone-o.ensures.value at told.number_value; steps_value = rw c.allowed_to_someone-o.ensures.value at told.steps_value; lent = refl }
