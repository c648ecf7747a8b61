use Prim.Native.Nat.{◌+◌, ◌*◌, ◌≤◌}
use lib.ListN.{length}
use Rattle.layout.specs.Loops.{Storing}
use Rattle.layout.proofs.write_lines.Given as goal

abbrev pub invariant-loop-i : goal.invariant-loop-i
invariant-loop-i l = record {
  low : l.offset ≤ 1 + 5 * length l.sizes + 65536 * l.i;
  left : Storing l.sizes l.at l.initial.room l.room l.to l.offset l.i;
}
