-- `ulz_record_write`: the writing of the record that the words spell. Assumes nothing.
use Rattle.door.proofs.ulz_record_write.Goals as goal

pub returns : goal.returns
returns c =
    let spelt = c.record_of-x.ensures in
    let written = c.write-v.ensures in
    let told = rw (written.answer, spelt) at c.spelt.ensures in
    record { number_value = told.number_value; length_value = told.length_value; room_after = rw spelt at written.room }
