-- `write_rows`: the rows passed are written. Assumes nothing.
use Rattle.std.proofs.Common.{◌≡◌, ℕ, ◌+◌, ◌*◌, ◌<◌, ◌≤◌, length, take, subst, arith, get_or-take, length-take-le}
use Rattle.numbers.specs.Numbers.{bytes, Spliced}
use Rattle.bodies.specs.Bodies.{rows_body}
use Rattle.bodies.specs.Laws.{length_rows, row_fits, rows_none, rows_more}
use Rattle.bodies.proofs.write_rows.Goals as goal

pub loop-row-init : goal.loop-row-init
loop-row-init c = let a = c.args in rows_none a.w a.table.now a.room.now a.at

pub put-to-requires : goal.put-to-requires
put-to-requires c =
    let a = c.args in
    let l = c.loop-row in
    let whole : length (take a.count a.table.now) ≡ a.count = length-take-le a.count a.table.now c.requires.2 in
    let gone : length (rows_body a.w l.row-index a.table.now) ≡ a.w * l.row-index = length_rows a.w l.row-index a.table.now in
    let more : a.w * l.row-index + a.w ≤ a.w * a.count = row_fits a.w l.row-index a.count (omega (arith, c.loop-row-test.true)) in
    let next : l.to ≡ a.at + length (rows_body a.w l.row-index a.table.now) = l.invariant.next in
    omega arith

pub loop-row-preserved : goal.loop-row-preserved
loop-row-preserved c =
    let a = c.args in
    let l = c.loop-row in
    let whole : length (take a.count a.table.now) ≡ a.count = length-take-le a.count a.table.now c.requires.2 in
    let here : l.row-index < a.count = omega (arith, c.loop-row-test.true) in
    rows_more a.w l.row-index a.at a.table.now a.room.now l.room c.put-to.new.room l.to c.put-to.result l.invariant
    (subst (λ (x : ℕ). Spliced (bytes a.w x) l.to l.room c.put-to.new.room c.put-to.result) (get_or-take a.count a.table.now l.row-index 0 here)
    c.put-to.ensures)

pub returns : goal.returns
returns c =
    let a = c.args in
    let l = c.loop-row in
    let whole : length (take a.count a.table.now) ≡ a.count = length-take-le a.count a.table.now c.requires.2 in
    subst (λ (k : ℕ). Spliced (rows_body a.w k a.table.now) a.at a.room.now l.room l.to)
    (let e : l.row-index ≡ a.count = omega (arith, c.loop-row-test.false, c.loop-row.auto.row-index-end) in e) l.invariant
