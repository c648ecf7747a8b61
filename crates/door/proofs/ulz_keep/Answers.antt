-- `ulz_keep`: the kept marking at the words lent, which then hold what is to be kept. Assumes nothing.
use Rattle.door.proofs.ulz_keep.Goals as goal

pub returns : goal.returns
returns c =
    let kept = rw (c.kept_after-k.ensures, c.marking-before.ensures) at c.keep.ensures in
    record { number_value = kept.number_value; waiting_value = kept.waiting_value; m_after = kept.words_after }
