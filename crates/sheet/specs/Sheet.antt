-- What reading and writing a sheet answer. What a sheet says and what may be against it stand in `reading`, the bytes of a graph in
-- `writing`.
use Rattle.std.specs.Prelude.{ℕ, List, [], ◌∷◌, ◌++◌, length, drop, ltb, Result, Ok, Err}
use Rattle.moves.specs.declared.Marking.{Marking}
use Rattle.moves.specs.declared.Refusal.{Refusal}
use Rattle.moves.specs.declared.Refusal.TheVariants.{Room}
use Rattle.moves.specs.First.{Line, Verdict, first, number_of}
use Rattle.rules.specs.Graph.{Graph}
use Rattle.reading.specs.Reading.{first_of}
use Rattle.writing.specs.Writing.{content_lines}
unfoldable pub use Rattle.reading.specs.Reading.{read_verdict, block_read}
unfoldable pub use Rattle.writing.specs.Writing.{sheet_bytes}

-- the one where nothing is against it, else the other
unfoldable pub if_clear : {A : Type 0} → Verdict → A → A → A
if_clear (Ok _) a b = a
if_clear (Err r) a b = b

-- what is given where nothing is against it, else the refusal
unfoldable pub answer_of : {A : Type 0} → Verdict → A → Result A Refusal
answer_of (Ok _) a = Ok a
answer_of (Err r) a = Err r

-- ---- reading

-- what is answered beside the block: the first marking
abbrev pub the_answer : List ℕ → Result Marking Refusal
the_answer s = answer_of (read_verdict s) (first_of s)

-- ---- writing

-- 18: the room is shorter than the sheet
abbrev pub write_lines : Graph → Marking → ℕ → List Line
write_lines g m room = content_lines g m ++ ((Room, ltb room (length (sheet_bytes g m))) ∷ [])

unfoldable pub write_verdict : Graph → Marking → ℕ → Verdict
write_verdict g m room = first (write_lines g m room)

-- the length written, or the refusal
abbrev pub Written : Type 0
Written = Result ℕ Refusal

-- what is answered
abbrev pub the_written : Graph → Marking → ℕ → Written
the_written g m room = answer_of (write_verdict g m room) (length (sheet_bytes g m))

-- the room afterwards: the sheet, and what stood beyond it; on a refusal as it was
abbrev pub room_after : Graph → Marking → List ℕ → List ℕ
room_after g m old = if_clear (write_verdict g m (length old)) (sheet_bytes g m ++ drop (length (sheet_bytes g m)) old) old

-- ---- the number and the values of each case

-- 0 where the sheet is written
unfoldable pub number_of_written : Written → ℕ
number_of_written (Ok size) = 0
number_of_written (Err r) = number_of r

-- how many bytes are written
unfoldable pub length_of_written : Written → ℕ
length_of_written (Ok size) = size
length_of_written (Err r) = 0
