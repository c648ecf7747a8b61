use Prim.Native.Nat.{◌+◌, ◌-◌, ◌*◌, ◌≤◌}
use mathlib.Core.Path.{◌≡◌}
use Rattle.layout.specs.Layout.{start, follows}
use Rattle.layout.proofs.fits.Given as goal

abbrev pub invariant-loop-i : goal.invariant-loop-i
invariant-loop-i l = record {
  low : l.at ≤ 1 + 5 * l.count + 65536 * l.i;
  left : follows l.count 0 (start l.count) l.s ≡ follows (l.count - l.i) l.i l.at l.s;
}
