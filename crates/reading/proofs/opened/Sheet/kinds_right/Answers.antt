-- `Sheet::kinds_right`: both is what the rows passed have in common. Assumes nothing.
use Prim.Native.Nat.{ℕ}
use mathlib.Core.Path.{◌≡◌, refl, sym, ap, ap₂, ◌∙◌}
use mathlib.Core.List.{List}
use native.Mathlib.Omega.{arith}
use Rattle.sets.specs.Sets.{union, empty, every, gather}
use Rattle.sets.specs.Laws.{gather_more, empty_gather}
use Rattle.tables.specs.declared.Counts.{Counts}
use Rattle.reading.specs.Laws.{opened_counted}
use Rattle.reading.specs.Judged.{shared_at, kinds_apart_lem}
use Rattle.reading.proofs.opened.Sheet.kinds_right.Goals as goal

pub loop-a-init : goal.loop-a-init
unfolding gather
loop-a-init c = refl

pub loop-a-preserved : goal.loop-a-preserved
loop-a-preserved c =
    let t = c.args.table.now in
    let l = c.loop-a in
    ap (λ (x : ℕ). union x (shared_at t l.a)) l.invariant ∙ sym (gather_more l.a (shared_at t))

pub returns : goal.returns
returns c =
    let a = c.args in
    let o = c.args.self.now.opened in
    let t = a.table.now in
    let l = c.loop-a in
    let all : l.both ≡ gather a.self.now.counts.steps (shared_at t) =
    l.invariant ∙ ap (λ (k : ℕ). gather k (shared_at t)) (let e : l.a ≡ a.self.now.counts.steps = omega arith in e) in
    ap empty all
    ∙ empty_gather a.self.now.counts.steps (shared_at t)
    ∙ ap₂ (λ (k : Counts) (u : List ℕ). every k.steps (λ i. empty (shared_at u i))) o.said c.requires
    ∙ kinds_apart_lem a.self.now.bytes.now (opened_counted _ _ o).steps_most
