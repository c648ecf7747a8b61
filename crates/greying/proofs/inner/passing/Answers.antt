-- `inner::passing`: with s rows left, `found` has the steps from s on that pass, each counted from s (`those_down`). Nothing is lost on the
-- way up, since there are at most 64 steps. Assumes nothing.
use Prim.Native.Nat.{ℕ, ◌+◌, ◌-◌, ◌/◌, ◌^◌, ◌≤◌, ◌<◌}
use native.Mathlib.Omega.{arith}
use mathlib.Core.Path.{◌≡◌, refl, sym, ap, ap₂, ◌∙◌}
use mathlib.Core.Bool.{Bool}
use mir.Val.{bool_byte}
use Rattle.sets.specs.Sets.{those}
use Rattle.sets.specs.Ranges.{those_down, those_room, those_start, those_end}
use Rattle.greying.specs.Rows.{passes_at}
use Rattle.greying.proofs.inner.passing.Goals as goal
use Rattle.greying.proofs.inner.passing.Goals.{In-loop-s}

-- a row more: what was found is moved up by one, and the row's step is put below
down : (n : ℕ) (q : ℕ → Bool) (s found : ℕ) (b : Bool) → 0 < s → s ≤ n → found ≡ those n q / 2 ^ s → b ≡ q (s - 1)
    → (found + found) + bool_byte b ≡ those n q / 2 ^ (s - 1)
down n q s found b some most e f =
    let next : s ≡ (s - 1) + 1 = omega arith in
    let below : s - 1 < n = omega arith in
    ap₂ (λ (x : ℕ) (c : Bool). (x + x) + bool_byte c) (e ∙ ap (λ (k : ℕ). those n q / 2 ^ k) next) f ∙ sym (those_down n q (s - 1) below)

abbrev tested : In-loop-s → ℕ → Bool
tested c = let a = c.args in passes_at a.labels.now a.allows.now a.conditions.now a.held a.m

-- what is found fits the word, with the row's step too
room : (c : In-loop-s) → those c.args.count (tested c) / 2 ^ (c.loop-s.s - 1) < 2 ^ 64
room c = those_room c.args.count 64 (tested c) (c.loop-s.s - 1) c.requires.few

more : (c : In-loop-s) (b : Bool) → b ≡ tested c (c.loop-s.s - 1)
    → (c.loop-s.found + c.loop-s.found) + bool_byte b ≡ those c.args.count (tested c) / 2 ^ (c.loop-s.s - 1)
more c b e =
    let at = c.loop-s in
    down c.args.count (tested c) at.s at.found b c.loop-s-test.true at.auto.s at.invariant e

pub loop-s-init : goal.loop-s-init
loop-s-init c = let a = c.args in sym (those_start a.count (passes_at a.labels.now a.allows.now a.conditions.now a.held a.m))

pub overflow_add-found : goal.overflow_add-found
overflow_add-found c =
    let fits = room (goal.at.overflow_add-found c).In-loop-s in
    let next = more (goal.at.overflow_add-found c).In-loop-s (tested (goal.at.overflow_add-found c).In-loop-s (c.loop-s.s - 1)) refl in
    omega arith

pub overflow_add-found-in-loop-s : goal.overflow_add-found-in-loop-s
overflow_add-found-in-loop-s c =
    let fits = room (goal.at.overflow_add-found-in-loop-s c).In-loop-s in
    let next = more (goal.at.overflow_add-found-in-loop-s c).In-loop-s c.passes.result c.passes.ensures in
    omega arith

pub loop-s-preserved : goal.loop-s-preserved
loop-s-preserved c = more (goal.at.loop-s-preserved c).In-loop-s c.passes.result c.passes.ensures

pub returns : goal.returns
returns c =
    let at = c.loop-s in
    let a = c.args in
    let none : at.s ≡ 0 = omega arith in
    let q : ℕ → Bool = passes_at a.labels.now a.allows.now a.conditions.now a.held a.m in
    at.invariant ∙ ap (λ (k : ℕ). those a.count q / 2 ^ k) none ∙ those_end a.count q
