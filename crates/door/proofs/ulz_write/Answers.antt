-- `ulz_write`: number and length of the answer, and the room as the writer leaves it. Assumes nothing.
use Rattle.door.proofs.ulz_write.Goals as goal

pub returns : goal.returns
returns c =
    let written = c.write-o.ensures in
    let told = rw written.value at c.written.ensures in
    record { number_value = told.number_value; length_value = told.length_value; room_after = written.room_after }
