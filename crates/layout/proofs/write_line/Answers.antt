-- `write_line`: three numbers, one after the other. Assumes nothing.
use Rattle.std.proofs.Common.{◌++◌, arith}
use Rattle.numbers.specs.Numbers.{bytes}
use Rattle.numbers.specs.Laws.{spliced_then}
use Rattle.numbers.proofs.Parts.{on}
use Rattle.layout.proofs.write_line.Goals as goal

pub put-b-requires : goal.put-b-requires
put-b-requires c =
    let a = on _ _ _ _ _ _ c.put-a.ensures in
    omega (arith, a.next, a.same)

pub put-requires : goal.put-requires
put-requires c =
    let a = on _ _ _ _ _ _ c.put-a.ensures in
    let b = on _ _ _ _ _ _ c.put-b.ensures in
    omega (arith, a.next, a.same, b.next, b.same)

pub returns : goal.returns
returns c =
    let a = c.args in
    spliced_then (bytes 1 a.kind) (bytes 2 a.offset ++ bytes 2 a.size) a.at _ _ _ _ _ c.put-a.ensures
    (spliced_then (bytes 2 a.offset) (bytes 2 a.size) _ _ _ _ _ _ c.put-b.ensures c.put.ensures)
