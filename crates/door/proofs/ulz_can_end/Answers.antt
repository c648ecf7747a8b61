-- `ulz_can_end`: the four words of the answer, and the store as the search leaves it. Assumes nothing.
use Rattle.door.proofs.ulz_can_end.Goals as goal

pub returns : goal.returns
returns c =
    let searched = c.can_end-o.ensures in
    let told = rw searched.value at c.told.ensures in
    record { number_value = told.number_value; verdict_value = told.verdict_value; fewest_value = told.fewest_value; looked_value = told.looked_value; store_after = searched.store_after }
