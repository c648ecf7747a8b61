-- `write_lines`: the lines that are left, stored where the loop stands, complete the contents. Assumes nothing.
use native.Mathlib.Omega.{arith}
use Rattle.layout.specs.Loops.{storing_more, storing_done}
use Rattle.layout.proofs.write_lines.Goals as goal

pub loop-i-preserved : goal.loop-i-preserved
loop-i-preserved c =
    let a = c.args in
    let l = c.loop-i in record {
      low = omega (arith, c.requires.2 l.i);
      left = storing_more a.sizes.now a.at a.room.now l.room _ l.to l.offset l.i _ l.invariant.left
          c.loop-i-test.true c.write_line-to.ensures;
    }

pub returns : goal.returns
returns c =
    let a = c.args in
    let l = c.loop-i in
    storing_done a.sizes.now a.at a.room.now l.room l.to l.offset l.i l.invariant.left c.loop-i-test.false
