-- `record_in`: 65 bytes with a first byte of 0 or 1 are read, and anything else is the record that stands in. Assumes nothing.
use borrow.Author.Tests.{eq-eqb, ne_eqb, lt-leb, le-leb}
use Rattle.answers.specs.Folded.{record_in}
use Rattle.answers.proofs.folded.record_in.Goals as goal

pub returns-then-bytes-ne65 : goal.returns-then-bytes-ne65
unfolding record_in
returns-then-bytes-ne65 c = simp (ne_eqb _ _ c.if-bytes-ne65.true)

pub returns-then-bytes-gt1 : goal.returns-then-bytes-gt1
unfolding record_in
returns-then-bytes-gt1 c = simp (eq-eqb _ _ c.if-bytes-ne65.false, lt-leb _ _ c.if-bytes-gt1.true)

pub returns : goal.returns
unfolding record_in
returns c = simp (eq-eqb _ _ c.if-bytes-ne65.false, le-leb _ _ c.if-bytes-gt1.false) c.record_at.ensures
