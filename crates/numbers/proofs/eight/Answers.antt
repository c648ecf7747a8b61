-- `eight`: the word of the eight bytes, byte by byte. Assumes nothing.
use Rattle.std.proofs.Common.{arith}
use Rattle.numbers.specs.Laws.{number_eight}
use Rattle.numbers.proofs.eight.Goals as goal

pub returns : goal.returns
returns c =
    let a = c.args in
    omega (arith, c.from_le_bytes.ensures, number_eight a.at a.s.now)
