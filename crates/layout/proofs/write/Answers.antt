-- `write`: byte 0, then the lines. Assumes nothing.
use Rattle.std.proofs.Common.{length, arith}
use Rattle.numbers.specs.Numbers.{bytes}
use Rattle.numbers.specs.Laws.{spliced_then}
use Rattle.numbers.proofs.Parts.{on}
use Rattle.layout.specs.Loops.{lines}
use Rattle.layout.proofs.write.Goals as goal

pub write_lines-requires : goal.write_lines-requires
write_lines-requires c =
    let a = on _ _ _ _ _ _ c.put-a.ensures in
    (c.requires.0, omega (arith, a.next, a.same), c.requires.2)

pub returns : goal.returns
returns c =
    let a = c.args in
    spliced_then (bytes 1 (length a.sizes.now)) (lines a.sizes.now) 0 _ _ _ _ _ c.put-a.ensures c.write_lines.ensures
