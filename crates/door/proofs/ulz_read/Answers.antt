-- `ulz_read`: the number of what is against the sheet; the block as the reader leaves it; and the first marking, which is laid down where
-- nothing is. Assumes nothing.
use Rattle.answers.specs.Laws.{read_number, read_marking}
use Rattle.door.proofs.ulz_read.Goals as goal

pub returns : goal.returns
returns c =
    let read = c.read-o.ensures in
    let told = rw (read.value, read_number, read_marking) at c.first.ensures in
    record { value = told.value; g_after = read.g_after; m_after = told.words_after }
