-- Journals: bytes read as entries of three.
use Rattle.std.specs.Prelude.{ℕ, ◌+◌, ◌*◌, ◌%◌, List, [], ◌∷◌, Bool, ◌&&◌, length, get_or, eqb, leb}
use Rattle.moves.specs.declared.Entry.{Entry}
use Rattle.moves.specs.Move.{entry_of}

-- every three bytes of a journal are an entry: its person, its step, its role
unfoldable pub entries : List ℕ → List Entry
entries [] = []
entries (person ∷ []) = []
entries (person ∷ step ∷ []) = []
entries (person ∷ step ∷ role ∷ rest) = entry_of person step role ∷ entries rest

-- entry k, from the bytes at 3k, 3k + 1 and 3k + 2
abbrev pub entry_at : List ℕ → ℕ → Entry
entry_at j k = entry_of (get_or j (3 * k) 0) (get_or j (3 * k + 1) 0) (get_or j (3 * k + 2) 0)

-- 7 is given unless the length is a multiple of 3 and at most 65,535
abbrev pub length_fits : List ℕ → Bool
length_fits j = eqb (length j % 3) 0 && leb (length j) 65535
