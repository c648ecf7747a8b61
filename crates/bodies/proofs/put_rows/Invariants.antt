use Rattle.std.proofs.Common.{◌≡◌, ℕ, ◌<◌}
use Rattle.std.proofs.lemmas.List.Edits.{sets}
use Rattle.bodies.specs.Tables.{tabled}
use Rattle.bodies.proofs.put_rows.Given as goal

abbrev pub invariant-loop-i : goal.invariant-loop-i
invariant-loop-i g l =
    (f : ℕ → ℕ) → ((i x : ℕ) → i < l.count → goal.F-post g l.row i x → x ≡ f i) → l.block ≡ sets l.initial.block l.at (tabled l.i f)
