use Rattle.std.proofs.Common.{◌≡◌, ◌+◌, ◌-◌, ◌<◌, ◌≤◌, ◌^◌, length}
use Rattle.std.proofs.lemmas.List.Edits.{sets}
use Rattle.numbers.specs.Numbers.{bytes}
use Rattle.numbers.proofs.put.Given as goal

abbrev pub invariant-loop-k : goal.invariant-loop-k
invariant-loop-k l = record {
  same : length l.room ≡ length l.initial.room;
  within : l.k ≤ l.w;
  small : l.rest < 2 ^ 64;
  left : sets l.initial.room l.at (bytes l.w l.x) ≡ sets l.room (l.at + l.k) (bytes (l.w - l.k) l.rest);
}
