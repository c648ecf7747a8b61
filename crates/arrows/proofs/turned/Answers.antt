-- `turned`: the table holds what the rows passed give. Assumes nothing.
use Rattle.std.proofs.Common.{refl, ap, ◌∙◌, List, replicate, ℕ, ◌≡◌, arith}
use Rattle.tables.specs.Tables.{row}
use Rattle.arrows.specs.Arrows.{put_all}
use Rattle.arrows.specs.Rows.{row_arrows, kind_arrows, turned}
use Rattle.arrows.specs.Loops.{turn_more}
use Rattle.arrows.proofs.turned.Goals as goal

pub loop-b-init : goal.loop-b-init
unfolding kind_arrows put_all
loop-b-init c = refl

pub loop-b-preserved : goal.loop-b-preserved
loop-b-preserved c =
    let l = c.loop-b in
    let rows = row c.args.rows.now in
    c.spill.ensures ∙ ap (λ (t : List ℕ). put_all t (row_arrows 0 l.b (rows l.b))) l.invariant ∙ turn_more (replicate 64 0) l.b rows

pub returns : goal.returns
unfolding turned
returns c = let all : c.loop-b.b ≡ c.args.n = omega arith in rw all at c.loop-b.invariant
