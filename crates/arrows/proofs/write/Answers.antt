-- `write`: the kinds passed are written, one after the other; all four are the arrows of the table. The table's arrows were promised room,
-- so the next kind has room. Assumes nothing.
use Rattle.std.proofs.Common.{ℕ, ◌≤◌, ◌≡◌, refl, ap, ◌∙◌, subst, List, length, arith}
use Rattle.tables.specs.Tables.{row}
use Rattle.numbers.specs.Numbers.{Spliced}
use Rattle.numbers.specs.Laws.{spliced_length}
use Rattle.arrows.specs.Rows.{count_of}
use Rattle.arrows.specs.Loops.{kinds_room, kinds_none, kinds_more, length_from, body_kinds}
use Rattle.arrows.proofs.write.Goals as goal

pub loop-k-init : goal.loop-k-init
loop-k-init c =
    let a = c.args in
    record { long = refl; spliced = kinds_none a.n a.at a.conditions.now a.table.now a.room.now }

pub write_kind-to-requires : goal.write_kind-to-requires
write_kind-to-requires c =
    let a = c.args in
    let pre = c.requires.kept in
    let below = c.loop-k-test.true in
    let few : a.n ≤ 64 = pre.0.few in
    let rows = length_from a.n a.conditions.now a.table.now pre.0 pre.2 pre.1 c.loop-k.k below in
    let room =
    kinds_room a.n a.conditions.now a.table.now pre.0 pre.2 c.loop-k.k a.at _ _ _ below c.loop-k.invariant.spliced in
    let same = c.from_rows.ensures in
    omega (arith, ap length same, ap (λ (r : List ℕ). count_of a.n (row r)) same)

pub loop-k-preserved : goal.loop-k-preserved
loop-k-preserved c =
    let a = c.args in
    let here = c.write_kind-to.ensures in
    record {
      long = spliced_length _ _ _ _ _ here ∙ c.loop-k.invariant.long;
      spliced = kinds_more c.loop-k.k a.n a.at a.conditions.now a.table.now _ a.room.now c.loop-k.room _ c.loop-k.to _
          c.from_rows.ensures c.loop-k.invariant.spliced here;
    }

pub returns : goal.returns
returns c =
    let a = c.args in
    let pre = c.requires.kept in
    let four : c.loop-k.k ≡ 4 = omega arith in
    let body = body_kinds a.n a.conditions.now a.table.now pre.0 pre.2 in
    subst (λ (v : List ℕ). Spliced v a.at a.room.now c.loop-k.room c.loop-k.to) body (rw four at c.loop-k.invariant.spliced)
