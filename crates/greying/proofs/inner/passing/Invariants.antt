use Prim.Native.Nat.{◌/◌, ◌^◌}
use mathlib.Core.Path.{◌≡◌}
use Rattle.greying.specs.Rows.{rows_passing}
use Rattle.greying.proofs.inner.passing.Given as goal

abbrev pub invariant-loop-s : goal.invariant-loop-s
invariant-loop-s l = l.found ≡ rows_passing l.labels l.allows l.conditions l.count l.held l.m / 2 ^ l.s
