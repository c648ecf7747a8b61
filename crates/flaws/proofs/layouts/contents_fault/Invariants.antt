use Rattle.std.proofs.Common.{◌+◌, ◌-◌, ◌*◌, ◌≤◌, ◌≡◌}
use Rattle.layout.specs.Layout.{start, follows}
use Rattle.flaws.proofs.layouts.contents_fault.Given as goal

abbrev pub invariant-loop-i : goal.invariant-loop-i
invariant-loop-i l = (l.i ≤ l.count) × (l.at ≤ 31 + 65536 * l.i) × (follows l.count 0 (start l.count) l.s ≡ follows (l.count - l.i) l.i l.at l.s)

abbrev pub decreases-loop-i : goal.decreases-loop-i
decreases-loop-i l = l.count - l.i
