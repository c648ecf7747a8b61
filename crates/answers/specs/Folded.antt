-- Records in lent memory, as 65 bytes or as nine words: never, then the eight sets.
use Rattle.std.specs.Prelude.{ℕ, List, ◌∷◌, true, ◌&&◌, cond, length, get_or, eqb, leb}
use Rattle.moves.specs.First.{Verdict}
use Rattle.moves.specs.First.{first}
use Rattle.records.specs.declared.Record.{Record}
use Rattle.records.specs.Answers.{Recorded}
use Rattle.records.specs.Records.{sets_of}
use Rattle.spelling.specs.Bytes.{flag, record_at, record_bytes, to_bytes_lines}
use Rattle.std.specs.Prelude.{Ok, Err}

-- what stands in for bytes or words that spell no record: never is on beside a set, so that it is well-formed for no n
abbrev pub spoilt : Record
spoilt =
    record { never = true; needin = 1; needex = 0; needout = 0; done = 0; dueset = 0; dueclear = 0; inset = 0; inclear = 0 }

-- 65 bytes, of which the first is 0 or 1
unfoldable pub record_in : List ℕ → Record
record_in bytes = cond (eqb (length bytes) 65 && leb (get_or bytes 0 0) 1) (record_at bytes) spoilt

unfoldable pub record_of : List ℕ → Record
record_of words =
    cond (leb (get_or words 0 0) 1)
    (record {
      never = eqb (get_or words 0 0) 1;
      needin = get_or words 1 0;
      needex = get_or words 2 0;
      needout = get_or words 3 0;
      done = get_or words 4 0;
      dueset = get_or words 5 0;
      dueclear = get_or words 6 0;
      inset = get_or words 7 0;
      inclear = get_or words 8 0;
    })
    spoilt

abbrev pub record_words : Record → List ℕ
record_words r = flag r.never ∷ sets_of r

-- what is against spelling the record of nine words into the room
abbrev pub spell_verdict : ℕ → List ℕ → List ℕ → Verdict
spell_verdict n words room = first (to_bytes_lines n (record_of words) room)

-- the record, or the memory as it was
unfoldable pub bytes_out : Recorded → List ℕ → List ℕ
bytes_out (Ok r) before = record_bytes r
bytes_out (Err q) before = before

unfoldable pub words_out : Recorded → List ℕ → List ℕ
words_out (Ok r) before = record_words r
words_out (Err q) before = before
