-- `spell`: a record is spelt, and a refusal leaves the bytes as they were. Assumes nothing.
use Prim.Native.Nat.{◌≤◌}
use mathlib.Core.Path.{refl, ◌∙◌}
use mathlib.Core.List.{append-nil}
use lib.ListN.{length, drop_of_length-le}
use borrow.Author.Rules.{rules}
use Rattle.records.specs.Answers.{number_of_recorded}
use Rattle.answers.specs.Folded.{bytes_out}
use Rattle.answers.proofs.folded.spell.Goals as goal

pub returns-in-Ok : goal.returns-in-Ok
unfolding number_of_recorded bytes_out
returns-in-Ok c =
    let bytes = c.args.bytes.now in
    let size : length bytes ≤ 65 = search rules in
    rw c.in-Ok.is (record { value = refl; bytes_after = c.spell.ensures ∙ simp (drop_of_length-le bytes size, append-nil) })

pub returns-in-Err : goal.returns-in-Err
unfolding number_of_recorded bytes_out
returns-in-Err c = rw c.in-Err.is (record { value = c.said.ensures.number_value; bytes_after = refl })
