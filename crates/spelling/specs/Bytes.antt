-- A record's 65 bytes, and what the calls that read and write them answer.
use Rattle.std.specs.Prelude.{ℕ, ◌≡◌, List, [], ◌∷◌, ◌++◌, Bool, not, ◌&&◌, cond, length, get_or, drop, eqb, ltb, leb, Ok, Err}
use Rattle.moves.specs.declared.Refusal.TheVariants.{Counts, IllFormed, Room}
use Rattle.moves.specs.First.{Verdict, Line, first}
use Rattle.moves.specs.Move.{within1to}
use Rattle.numbers.specs.Numbers.{number, bytes}
use Rattle.records.specs.declared.Record.{Record}
use Rattle.records.specs.Answers.{Recorded, recorded_of}
use Rattle.records.specs.Records.{sets_of, well_formed}

-- the first byte is never, 0 or 1
abbrev pub flag : Bool → ℕ
flag never = cond never 1 0

-- sets of 8 bytes, the lowest byte first
unfoldable pub sets_spelt : List ℕ → List ℕ
sets_spelt [] = []
sets_spelt (x ∷ xs) = bytes 8 x ++ sets_spelt xs

-- never, and then the eight sets
unfoldable pub record_bytes : Record → List ℕ
record_bytes r = bytes 1 (flag r.never) ++ sets_spelt (sets_of r)

-- the record that 65 bytes spell
unfoldable pub record_at : List ℕ → Record
record_at s =
    record {
      never = eqb (get_or s 0 0) 1;
      needin = number 8 (drop 1 s);
      needex = number 8 (drop 9 s);
      needout = number 8 (drop 17 s);
      done = number 8 (drop 25 s);
      dueset = number 8 (drop 33 s);
      dueclear = number 8 (drop 41 s);
      inset = number 8 (drop 49 s);
      inclear = number 8 (drop 57 s);
    }

-- ---- from bytes: 2, 10

-- 10 is given unless there are 65 bytes, never is 0 or 1, and the record is well-formed
abbrev pub readable : ℕ → List ℕ → Bool
readable n s = eqb (length s) 65 && leb (get_or s 0 0) 1 && well_formed n (record_at s)

abbrev pub from_bytes_lines : ℕ → List ℕ → List Line
from_bytes_lines n s = (Counts, not (within1to n 64)) ∷ (IllFormed, not (readable n s)) ∷ []

unfoldable pub the_reading : ℕ → List ℕ → Recorded
the_reading n s = recorded_of (first (from_bytes_lines n s)) (record_at s)

-- ---- to bytes: 2, 10, 18

abbrev pub to_bytes_lines : ℕ → Record → List ℕ → List Line
to_bytes_lines n r room = (Counts, not (within1to n 64)) ∷ (IllFormed, not (well_formed n r)) ∷ (Room, ltb (length room) 65) ∷ []

-- the room is written only where nothing is against it, and stays as it was beyond the 65 bytes
unfoldable pub room_of : Verdict → Record → List ℕ → List ℕ
room_of (Ok _) r room = record_bytes r ++ drop 65 room
room_of (Err q) r room = room

-- what is answered, and the room afterwards
pub record Writing (n : ℕ) (r : Record) (old : List ℕ) (v : Verdict) (new : List ℕ) : Type 0 where
  pub answer : v ≡ first (to_bytes_lines n r old)
  pub room : new ≡ room_of (first (to_bytes_lines n r old)) r old
