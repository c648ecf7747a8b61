-- `fill`: the counts, the arrows, the roles and the actions, one after the other. Assumes nothing.
use Prim.Native.Nat.{ℕ, ◌*◌}
use mathlib.Core.Path.{◌≡◌, sym, ap, ap₂, ◌∙◌, subst}
use mathlib.Core.List.{List}
use native.Mathlib.Omega.{arith}
use lib.ListN.{length}
use lib.Dec.{lit<}
use borrow.Author.Rules.{rules}
use Rattle.numbers.specs.Laws.{spliced_length, spliced_then}
use Rattle.layout.specs.Layout.{body_at}
use Rattle.bodies.specs.Bodies.{labels_in}
use Rattle.reading.specs.Reading.{counts_of}
use Rattle.reading.specs.Laws.{CountedOf, Placed, Right, clear_right, body_there, body_length, arrows_rows}
use Rattle.reading.specs.Filled.{counts_stored, rows_next, block_full}
use Rattle.reading.proofs.fill.Goals as goal
use Rattle.reading.proofs.fill.Goals.{Start}

abbrev sheet : Start → List ℕ
sheet c = c.args.s.now

right : (c : Start) → Right (sheet c)
right c = clear_right (sheet c) c.requires.0

placed : (c : Start) → Placed (sheet c)
placed c = (right c).opened.placed

-- the table has 256 rows
table-rows : (c : Start) → length c.args.table.now ≡ 256
table-rows c = ap length c.requires.2 ∙ arrows_rows (sheet c)

pub counts-c-requires : goal.counts-c-requires
counts-c-requires c = placed (goal.at.counts-c-requires c).Start

pub copy-x-requires : goal.copy-x-requires
copy-x-requires c =
    let rows = table-rows (goal.at.copy-x-requires c).Start in
    let whole = c.requires.1 in
    omega (arith, spliced_length _ _ _ _ _ (counts_stored c.args.block.now c.counts-c.result))

pub body-requires : goal.body-requires
body-requires c = body_there _ (placed (goal.at.body-requires c).Start) 2 (lit< tt)

pub read_roles-y-requires : goal.read_roles-y-requires
read_roles-y-requires c =
    let k = (goal.at.read_roles-y-requires c).Start in
    let s = sheet k in
    let rows = table-rows k in
    let whole = c.requires.1 in
    let stored = counts_stored c.args.block.now c.counts-c.result in
    let n : length (body_at s 2) ≡ 2 * (counts_of s).actions = body_length s (placed k) 2 (lit< tt) ∙ (right k).matched.actions_match in (
      search rules,
      omega (arith, ap length c.body.ensures),
      omega (arith, spliced_length _ _ _ _ _ stored, c.copy-x.ensures.next, spliced_length _ _ _ _ _ c.copy-x.ensures),
    )

pub body-requires-2 : goal.body-requires-2
body-requires-2 c = body_there _ (placed (goal.at.body-requires-2 c).Start) 3 (lit< tt)

pub read_roles-z-requires : goal.read_roles-z-requires
read_roles-z-requires c =
    let k = (goal.at.read_roles-z-requires c).Start in
    let s = sheet k in
    let rows = table-rows k in
    let whole = c.requires.1 in
    let stored = counts_stored c.args.block.now c.counts-c.result in
    let n : length (body_at s 3) ≡ 2 * (counts_of s).people =
    body_length s (placed k) 3 (lit< tt) ∙ (right k).matched.people_match in (
      search rules,
      omega (arith, ap length c.body-2.ensures),
      omega (
        arith,
        spliced_length _ _ _ _ _ stored,
        c.copy-x.ensures.next,
        spliced_length _ _ _ _ _ c.copy-x.ensures,
        rows_next 64 _ _ _ _ _ c.read_roles-y.ensures,
        spliced_length _ _ _ _ _ c.read_roles-y.ensures,
      ),
    )

pub invariant_of-sheet : goal.invariant_of-sheet
invariant_of-sheet c =
    let r = right (goal.at.invariant_of-sheet c).Start in
    let said = c.counts-c.ensures in
    record { opened = record { placed = r.opened.placed; said = said; counted = subst CountedOf (sym said) r.opened.counted } }

pub read_labels-requires : goal.read_labels-requires
read_labels-requires c =
    let rows = table-rows (goal.at.read_labels-requires c).Start in
    let whole = c.requires.1 in
    let stored = counts_stored c.args.block.now c.counts-c.result in (
      search rules,
      omega (
        arith,
        spliced_length _ _ _ _ _ stored,
        c.copy-x.ensures.next,
        spliced_length _ _ _ _ _ c.copy-x.ensures,
        rows_next 64 _ _ _ _ _ c.read_roles-y.ensures,
        spliced_length _ _ _ _ _ c.read_roles-y.ensures,
        rows_next 16 _ _ _ _ _ c.read_roles-z.ensures,
        spliced_length _ _ _ _ _ c.read_roles-z.ensures,
      ),
    )

pub shape_of-block : goal.shape_of-block
shape_of-block c =
    spliced_length _ _ _ _ _ c.read_labels.ensures
    ∙ spliced_length _ _ _ _ _ c.read_roles-z.ensures
    ∙ spliced_length _ _ _ _ _ c.read_roles-y.ensures
    ∙ spliced_length _ _ _ _ _ c.copy-x.ensures
    ∙ spliced_length _ _ _ _ _ (counts_stored c.args.block.now c.counts-c.result)

pub returns : goal.returns
returns c =
    let a = c.args in
    block_full (sheet (goal.at.returns c).Start) c.counts-c.result a.table.now _ _ _ a.block.now _ _ c.requires.1
    c.counts-c.ensures c.requires.2 c.body.ensures c.body-2.ensures
    (ap₂ (labels_in 64) c.own_steps.ensures c.labels_part.ensures)
    (spliced_then _ _ 0 _ _ _ _ _ (counts_stored a.block.now c.counts-c.result)
    (spliced_then a.table.now _ _ _ _ _ _ _ c.copy-x.ensures
    (spliced_then _ _ _ _ _ _ _ _ c.read_roles-y.ensures
    (spliced_then _ _ _ _ _ _ _ _ c.read_roles-z.ensures c.read_labels.ensures))))
