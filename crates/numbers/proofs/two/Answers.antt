-- `two`: a byte, and 256 times the next. Assumes nothing.
use Rattle.std.proofs.Common.{arith}
use Rattle.numbers.specs.Laws.{number_two}
use Rattle.numbers.proofs.two.Goals as goal

pub returns : goal.returns
returns c =
    let a = c.args in
    omega (arith, c.from_le_bytes.ensures, number_two a.at a.s.now)
