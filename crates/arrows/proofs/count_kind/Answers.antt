-- `count_kind`: found is what the rows passed hold. Assumes nothing.
use Rattle.std.proofs.Common.{ℕ, ◌+◌, ◌*◌, ◌≤◌, ◌<◌, ◌≡◌, ◌∙◌, ap, ap₂, sym, arith, length, refl, rules}
use Rattle.std.proofs.lemmas.List.{get_or-take}
use Rattle.tables.specs.Tables.{row}
use Rattle.arrows.specs.Rows.{members, count_of}
use Rattle.arrows.specs.Loops.{count_more, count_most}
use Rattle.arrows.proofs.count_kind.Goals as goal
use Rattle.arrows.proofs.count_kind.Goals.{After-many-found}

-- what is found with the row at hand
more : (c : After-many-found) → c.loop-x.found + c.many-found.result ≡ count_of (c.loop-x.x-index + 1) (row c.args.rows.now)
more c =
    let i = c.loop-x.x-index in
    let rows = row c.args.rows.now in
    let below : i < c.args.n = search rules in
    ap₂ (λ (x y : ℕ). x + y) c.loop-x.invariant (c.many-found.ensures ∙ ap (λ (x : ℕ). length (members x)) (get_or-take c.args.n c.args.rows.now i 0 below))
    ∙ sym (count_more i rows)

pub loop-x-init : goal.loop-x-init
unfolding count_of
loop-x-init c = refl

pub overflow_add-found : goal.overflow_add-found
overflow_add-found c =
    let k = c.loop-x.x-index + 1 in
    let most : count_of k (row c.args.rows.now) ≤ 64 * k = count_most k (row c.args.rows.now) in
    let few : c.loop-x.x-index < c.args.n = search rules in
    let n = c.requires.0 in
    omega (arith, more c)

pub loop-x-preserved : goal.loop-x-preserved
loop-x-preserved c = more (goal.at.loop-x-preserved c).After-many-found
