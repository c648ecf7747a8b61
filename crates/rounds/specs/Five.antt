-- A sheet of five bodies says what the sheet of six bodies of its graph says. Nothing is against what was read of it, so that it can be
-- written with six, and what was written is read back; and its graph has every step for its own action. Assumes nothing.
use Rattle.std.specs.Prelude.{ℕ, ◌<◌, ◌≡◌, List, Bool, false, cond, Ok}
use Rattle.std.proofs.Common.{ap, ◌∙◌, arith, lt-ltb}
use Rattle.tables.specs.Tables.{row}
use Rattle.rules.specs.Graph.{action_of}
use Rattle.bodies.specs.Tables.{row_tabled}
use Rattle.bodies.specs.Bodies.{row_in, label_at}
use Rattle.reading.specs.Reading.{is_six, counts_of, first_of, labels_part, own_steps, block_read, graph_in, read_verdict}
use Rattle.reading.specs.Laws.{clear_right, own_five, read_labels}
use Rattle.reading.specs.Filled.{length_read}
use Rattle.writing.specs.Writing.{sheet_bytes}
use Rattle.rounds.specs.Says.{Says}
use Rattle.rounds.specs.Read.{read_written}
use Rattle.rounds.specs.Write.{five_actions, read_content}

-- a sheet of either form reads as what is written of it does
pub five_as_six : (s : List ℕ) → read_verdict s ≡ Ok tt → Says (sheet_bytes (graph_in s) (first_of s)) (block_read s) (first_of s)
five_as_six s e = read_written (block_read s) (first_of s) (length_read s) (read_content s e)

-- of five bodies there are as many actions as steps
pub five_counts : (s : List ℕ) → is_six s ≡ false → (graph_in s).actions ≡ (graph_in s).steps
unfolding block_read
five_counts s five = five_actions s five

-- and every step is its own
pub five_own : (s : List ℕ) → read_verdict s ≡ Ok tt → is_six s ≡ false → (k : ℕ) → k < (graph_in s).steps → action_of (graph_in s) k ≡ k
unfolding block_read
five_own s e five k h =
    let few = (clear_right s e).opened.counted.steps_most in
    let own : own_steps s ≡ (counts_of s).steps = own_five s five in
    ap (λ (t : List ℕ). row t k) (read_labels s)
    ∙ row_tabled 64 (label_at (own_steps s) (labels_part s)) k (omega arith)
    ∙ ap (λ (b : Bool). cond b k (row_in 1 (labels_part s) k)) (lt-ltb k (own_steps s) (omega arith))
