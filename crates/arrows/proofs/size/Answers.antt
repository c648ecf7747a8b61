-- `size`: found is what the kinds passed have, and each arrow takes three bytes. Assumes nothing.
use Rattle.std.proofs.Common.{ℕ, ◌+◌, ◌*◌, ◌≤◌, ◌≡◌, ◌∙◌, ap, ap₂, sym, arith, length, refl, List}
use Rattle.tables.specs.Tables.{row}
use Rattle.arrows.specs.Rows.{from_rows, count_of, count_kinds}
use Rattle.arrows.specs.Loops.{kinds_count, kinds_most, length_from, length_body}
use Rattle.arrows.proofs.size.Goals as goal
use Rattle.arrows.proofs.size.Goals.{After-count_kind-found}

pub loop-k-init : goal.loop-k-init
unfolding count_kinds
loop-k-init c = refl

pub count_kind-found-requires : goal.count_kind-found-requires
count_kind-found-requires c =
    let a = c.args in
    let few : a.n ≤ 64 = c.requires.0.few in
    let rows : length (from_rows a.conditions.now a.table.now c.loop-k.k) ≡ 64 =
    length_from a.n a.conditions.now a.table.now c.requires.0 c.requires.2 c.requires.1 c.loop-k.k c.loop-k-test.true in
    omega (arith, ap length c.from_rows.ensures)

-- what is found so far, with the kind at hand, is what there is up to the next
found-more : (c : After-count_kind-found)
    → c.loop-k.found + c.count_kind-found.result ≡ count_kinds (c.loop-k.k + 1) c.args.n c.args.conditions.now c.args.table.now
found-more c =
    let a = c.args in
    let l = c.loop-k in
    ap₂ (λ (x y : ℕ). x + y) l.invariant
    (c.count_kind-found.ensures ∙ ap (λ (t : List ℕ). count_of a.n (row t)) c.from_rows.ensures)
    ∙ sym (kinds_count l.k a.n a.conditions.now a.table.now)

pub overflow_add-found : goal.overflow_add-found
overflow_add-found c =
    let a = c.args in
    let k = c.loop-k.k + 1 in
    let most : count_kinds k a.n a.conditions.now a.table.now ≤ k * 4096 = kinds_most k _ _ _ c.requires.0.few in
    omega (arith, found-more c)

pub loop-k-preserved : goal.loop-k-preserved
loop-k-preserved c = found-more (goal.at.loop-k-preserved c).After-count_kind-found

pub overflow_mul-result : goal.overflow_mul-result
overflow_mul-result c =
    let a = c.args in
    let l = c.loop-k in
    let most : count_kinds l.k a.n a.conditions.now a.table.now ≤ l.k * 4096 = kinds_most l.k _ _ _ c.requires.0.few in
    omega arith

pub returns : goal.returns
returns c =
    let a = c.args in
    let all : c.loop-k.k ≡ 4 = omega arith in
    ap (λ (x : ℕ). 3 * x) (rw all at c.loop-k.invariant) ∙ sym (length_body a.n a.conditions.now a.table.now c.requires.0 c.requires.2)
