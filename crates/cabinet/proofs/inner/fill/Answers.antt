-- `fill`: the words stand one behind the other, and are those of the job. Assumes nothing.
use Rattle.std.proofs.Common.{ℕ, ◌+◌, ◌≡◌, refl, ap, ap₂, ◌∙◌, List, set, arith}
use Rattle.std.proofs.lemmas.List.Edits.{sets}
use Rattle.bodies.specs.Tables.{tabled, fill_more}
use Rattle.cabinet.specs.Rows.{word_at, filled_graph}
use Rattle.cabinet.proofs.inner.fill.Goals as goal

pub loop-at-init : goal.loop-at-init
unfolding tabled
loop-at-init c = refl

pub loop-at-preserved : goal.loop-at-preserved
loop-at-preserved c =
    let a = c.args in
    let l = c.loop-at in
    ap₂ (λ (t : List ℕ) (x : ℕ). set t l.at x) l.invariant c.word.ensures
    ∙ ap (λ (k : ℕ). set (sets a.block.now 0 (tabled l.at (word_at a.arms))) k (word_at a.arms l.at)) (let z : l.at ≡ 0 + l.at = omega arith in z)
    ∙ fill_more a.block.now 0 l.at (word_at a.arms)

pub returns : goal.returns
returns c =
    let a = c.args in
    let words = c.requires.2 in
    let last = c.loop-at-test.false in
    let all : c.loop-at.at ≡ 404 = omega arith in
    filled_graph a.arms a.block.now c.loop-at.block c.requires.2 (rw all at c.loop-at.invariant)
