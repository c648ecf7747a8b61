-- `ulz_fold`: the fold's number, and the bytes as it leaves them. Assumes nothing.
use Rattle.door.proofs.ulz_fold.Goals as goal

pub returns : goal.returns
returns c =
    let spelt = rw c.fold-o.ensures at c.spell.ensures in
    record { value = spelt.value; out_after = spelt.bytes_after }
