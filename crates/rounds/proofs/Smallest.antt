-- The smallest sheet of five bodies is written with six. Assumes nothing.
use Rattle.std.specs.Prelude.{ℕ, ◌≡◌, List}
use Rattle.std.proofs.Common.{ap₂, ◌∙◌}
use Rattle.moves.specs.declared.Marking.{Marking}
use Rattle.rules.specs.Graph.{graph_of}
use Rattle.reading.specs.Reading.{graph_in, first_of}
use Rattle.writing.specs.Writing.{sheet_bytes}
use Rattle.rounds.specs.Smallest.{smallest, smallest_five, smallest_written, five_read}

pub five_written : sheet_bytes (graph_in smallest_five) (first_of smallest_five) ≡ smallest
five_written =
    ap₂ (λ (block : List ℕ) (m : Marking). sheet_bytes (graph_of block) m) five_read.job five_read.marking ∙ smallest_written
