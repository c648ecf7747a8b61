-- `inner::judge`: nothing is left, or the lowest of what is left is named. Assumes nothing.
use Prim.Native.Nat.{ℕ}
use mathlib.Core.Path.{ap}
use borrow.Author.Tests.{eq-eqb, ne_eqb}
use Rattle.laps.specs.Lapped.{Lapped}
use Rattle.laps.proofs.inner.judge.Goals as goal
use Rattle.std.specs.Prelude.{Ok}
use Rattle.laps.specs.declared.Endless.{Endless}

pub returns-then-x-eq0 : goal.returns-then-x-eq0
returns-then-x-eq0 c = simp (eq-eqb _ _ c.if-x-eq0.true)

pub returns : goal.returns
returns c = simp (ne_eqb _ _ c.if-x-eq0.false) (ap (λ (s : ℕ). Ok (Endless.Starved (record { 0 = s }))) c.lowest_of.ensures)
