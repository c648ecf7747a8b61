-- `put_rows`: the block holds the rows passed, from `at` on. Assumes nothing.
use Rattle.std.proofs.Common.{◌≡◌, ℕ, ◌+◌, List, set, refl, ap₂, ◌∙◌, arith}
use Rattle.bodies.specs.Tables.{tabled, fill_more, fill_done}
use Rattle.bodies.proofs.put_rows.Goals as goal

pub loop-i-init : goal.loop-i-init
unfolding tabled
loop-i-init g c = λ f given. refl

pub loop-i-preserved : goal.loop-i-preserved
loop-i-preserved g c = λ f given.
    let a = c.args in
    let l = c.loop-i in
    ap₂ (λ (t : List ℕ) (x : ℕ). set t (a.at + l.i) x) (l.invariant f given) (given l.i c.row.result c.loop-i-test.true c.row.ensures)
    ∙ fill_more a.block.now a.at l.i f

pub returns : goal.returns
returns g c = λ f given.
    let a = c.args in
    let l = c.loop-i in
    fill_done a.block.now l.block a.at l.i a.count f (let e : l.i ≡ a.count = omega arith in e) (l.invariant f given)
