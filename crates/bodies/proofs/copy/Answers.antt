-- `copy`: the part of the block from `at` on is the rows. Assumes nothing.
use Rattle.std.proofs.Common.{refl, arith}
use Rattle.numbers.proofs.Parts.{spliced_part}
use Rattle.bodies.proofs.copy.Goals as goal

pub returns : goal.returns
returns c =
    let a = c.args in
    spliced_part a.block.now _ a.rows.now a.at _ _ c.copy_from_slice.ensures.after (omega arith) refl c.requires
