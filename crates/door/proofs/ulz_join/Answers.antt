-- `ulz_join`: the join of what the bytes spell. Assumes nothing.
use Rattle.door.proofs.ulz_join.Goals as goal

pub returns : goal.returns
returns c =
    let first = c.record_in-earlier.ensures in
    let second = c.record_in-later.ensures in
    let spelt = rw (c.join-o.ensures, first, second) at c.spell.ensures in
    record { value = spelt.value; out_after = spelt.bytes_after }
