-- `write_counts`: four numbers, one after the other. Assumes nothing.
use Rattle.std.proofs.Common.{◌++◌, arith}
use Rattle.numbers.specs.Numbers.{bytes}
use Rattle.numbers.specs.Laws.{spliced_then}
use Rattle.numbers.proofs.Parts.{on}
use Rattle.bodies.proofs.write_counts.Goals as goal

pub put-y-requires : goal.put-y-requires
put-y-requires c =
    let a = on _ _ _ _ _ _ c.put-x.ensures in
    omega (arith, a.next, a.same)

pub put-z-requires : goal.put-z-requires
put-z-requires c =
    let a = on _ _ _ _ _ _ c.put-x.ensures in
    let b = on _ _ _ _ _ _ c.put-y.ensures in
    omega (arith, a.next, a.same, b.next, b.same)

pub put-requires : goal.put-requires
put-requires c =
    let a = on _ _ _ _ _ _ c.put-x.ensures in
    let b = on _ _ _ _ _ _ c.put-y.ensures in
    let d = on _ _ _ _ _ _ c.put-z.ensures in
    omega (arith, a.next, a.same, b.next, b.same, d.next, d.same)

pub returns : goal.returns
returns c =
    let a = c.args in
    let k = a.c in
    spliced_then (bytes 1 k.steps) (bytes 1 k.people ++ (bytes 1 k.roles ++ bytes 1 k.actions)) a.at _ _ _ _ _
    c.put-x.ensures
    (spliced_then (bytes 1 k.people) (bytes 1 k.roles ++ bytes 1 k.actions) _ _ _ _ _ _ c.put-y.ensures
    (spliced_then (bytes 1 k.roles) (bytes 1 k.actions) _ _ _ _ _ _ c.put-z.ensures c.put.ensures))
