-- `write_front`: the sizes are small. Assumes nothing.
use Prim.Native.Nat.{◌*◌}
use native.Mathlib.Omega.{arith}
use lib.Dec.{lit<}
use borrow.Author.Rules.{rules}
use Rattle.writing.specs.Parts.{six_small}
use Rattle.writing.proofs.write_front.Goals as goal

pub write-requires : goal.write-requires
write-requires c =
    let a = c.args in
    let small = six_small 4 24 (2 * a.a) (2 * a.p) a.arrows a.n (lit< tt) (lit< tt) (omega arith) (omega arith) (omega arith)
    (omega arith) in
    (search rules, search rules, small)
