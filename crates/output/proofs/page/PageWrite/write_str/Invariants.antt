use Rattle.std.proofs.Common.{◌≡◌, true, drop}
use Rattle.output.specs.Text.{with_bytes}
use Rattle.output.proofs.page.PageWrite.write_str.Given as goal

abbrev pub invariant-loop-b : goal.invariant-loop-b
invariant-loop-b l =
    (with_bytes l.self.text.items (drop l.b-index l.b-items) ≡ with_bytes l.initial.self.text.items l.b-items)
    × (l.initial.self.torn ≡ true → l.self.torn ≡ true)
