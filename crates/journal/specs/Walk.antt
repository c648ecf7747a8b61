-- Walking a journal: a walk holds the journal and its place in it, the number of entries handed out so far.
use Rattle.std.specs.Prelude.{ℕ, ◌+◌, List, [], ◌∷◌, drop}
use Rattle.moves.specs.Move.{entry_of}
use Rattle.moves.specs.declared.Entry.{Entry}
use Rattle.moves.specs.First.{Verdict}
use Rattle.moves.specs.First.{first, number_of}
use Rattle.journal.specs.Ran.{Walked}
use Rattle.journal.specs.declared.Stride.{Stride}
use Rattle.journal.specs.Journal.{entries}
use Rattle.journal.specs.Run.{length_lines}
use Rattle.std.specs.Prelude.{Ok, Err, Some, None}

-- nothing is handed out, and the walk stays put
abbrev pub stays : ℕ → Walked → Stride
stays k said = record { said = said; place = k }

-- one entry at a time is handed out; after the last the walk says so. Here of the entries from place k on
unfoldable pub hand_out : ℕ → List Entry → Stride
hand_out k [] = stays k (Ok None)
hand_out k (e ∷ rest) = record { said = Ok (Some e); place = k + 1 }

-- a refusal leaves the place as it is
unfoldable pub stride_of : ℕ → Verdict → Stride → Stride
stride_of k (Ok _) s = s
stride_of k (Err r) s = stays k (Err r)

-- what a walk at place k says, and its next place. Where the length does not fit, it is 7 at every place
unfoldable pub stride_at : List ℕ → ℕ → Stride
stride_at j k = stride_of k (first (length_lines j)) (hand_out k (drop k (entries j)))

-- ---- number and values of each case

-- 7, or 0 where the walk says what it finds
unfoldable pub number_of_walked : Walked → ℕ
number_of_walked (Ok (Some e)) = 0
number_of_walked (Ok None) = 0
number_of_walked (Err r) = number_of r

-- how many entries are handed out: one, or none
unfoldable pub count_of_walked : Walked → ℕ
count_of_walked (Ok (Some e)) = 1
count_of_walked (Ok None) = 0
count_of_walked (Err r) = 0

-- the entry; zeros where there is none
unfoldable pub entry_of_walked : Walked → Entry
entry_of_walked (Ok (Some e)) = e
entry_of_walked (Ok None) = entry_of 0 0 0
entry_of_walked (Err r) = entry_of 0 0 0
