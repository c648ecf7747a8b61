-- `write_kind`: the rows passed are written, one after the other. The kind was promised room for all its rows, so the next one has room.
-- Assumes nothing.
use Rattle.std.proofs.Common.{refl, ◌∙◌, ◌≡◌, arith}
use Rattle.tables.specs.Tables.{row}
use Rattle.numbers.specs.Laws.{spliced_length}
use Rattle.arrows.specs.Loops.{kind_none, kind_more, kind_room}
use Rattle.arrows.proofs.write_kind.Goals as goal

pub loop-a-init : goal.loop-a-init
loop-a-init c =
    let a = c.args in
    record { long = refl; spliced = kind_none a.k a.at (row a.rows.now) a.room.now }

pub write_row-to-requires : goal.write_row-to-requires
write_row-to-requires c =
    let a = c.args in
    let below = c.loop-a-test.true in
    let h = kind_room a.k c.loop-a.a a.n a.at (row a.rows.now) _ _ _ below c.loop-a.invariant.spliced in
    omega arith

pub loop-a-preserved : goal.loop-a-preserved
loop-a-preserved c =
    let a = c.args in
    let wrote = c.write_row-to.ensures in
    record {
      long = spliced_length _ _ _ _ _ wrote ∙ c.loop-a.invariant.long;
      spliced = kind_more a.k c.loop-a.a a.at (row a.rows.now) a.room.now c.loop-a.room _ c.loop-a.to _
          c.loop-a.invariant.spliced wrote;
    }

pub returns : goal.returns
returns c =
    let all : c.loop-a.a ≡ c.args.n = omega arith in
    rw all at c.loop-a.invariant.spliced
