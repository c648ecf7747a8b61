-- `rank`: a byte is itself, and anything beyond is no rank. Assumes nothing.
use borrow.Author.Tests.{lt-ltb, le-ltb}
use Rattle.onward.proofs.tracks.rank.Goals as goal

pub returns-then-i-lt256 : goal.returns-then-i-lt256
returns-then-i-lt256 c = simp (lt-ltb _ _ c.if-i-lt256.true)

pub returns-else-i-lt256 : goal.returns-else-i-lt256
returns-else-i-lt256 c = simp (le-ltb _ _ c.if-i-lt256.false)
