-- `record_of`: a first word above 1 is no never, and any other is 0 or 1. Assumes nothing.
use mathlib.Core.Path.{◌≡◌}
use mathlib.Core.Bool.{true, false}
use lib.ListN.{get_or}
use lib.Dec.{leb}
use borrow.Author.Tests.{lt-leb, le-leb}
use Rattle.answers.specs.Folded.{record_of}
use Rattle.answers.proofs.folded.record_of.Goals as goal

pub returns-then-never-gt1 : goal.returns-then-never-gt1
unfolding record_of
returns-then-never-gt1 c =
    let words = c.args.words.now in
    let beyond : leb (get_or words 0 0) 1 ≡ false = lt-leb _ _ c.if-never-gt1.true in
    simp beyond

pub returns : goal.returns
unfolding record_of
returns c =
    let words = c.args.words.now in
    let told : leb (get_or words 0 0) 1 ≡ true = le-leb _ _ c.if-never-gt1.false in
    simp told
