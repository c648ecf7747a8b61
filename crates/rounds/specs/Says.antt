-- What a sheet says: the block and the first marking that reading it hands out.
use Rattle.std.specs.Prelude.{ℕ, ◌≡◌, List, Ok}
use Rattle.moves.specs.declared.Marking.{Marking}
use Rattle.reading.specs.Reading.{first_of, read_verdict, block_read}

-- nothing is against the sheet s, and it is read as this job and this first marking
pub record Says (s block : List ℕ) (m : Marking) : Type 0 where
  pub clear : read_verdict s ≡ Ok tt
  pub job : block_read s ≡ block
  pub marking : first_of s ≡ m
