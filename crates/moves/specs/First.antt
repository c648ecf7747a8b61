-- The numbers on the door, and which of them is given: the first that holds, in the table's order.
use Rattle.std.specs.Prelude.{ℕ, List, [], ◌∷◌, Bool, cond, Result, Ok, Err}
use Rattle.moves.specs.declared.Refusal.{Refusal}
use Rattle.moves.specs.declared.Refusal.TheVariants.{Layout, Counts, Bodies, Beyond, Arrows, Both, Length, Outside, NoRank}
use Rattle.moves.specs.declared.Refusal.TheVariants.{IllFormed, Unknown, NotHeld, NotOnStep, Excluded, Waits, NotApplied, EmptyLap}
use Rattle.moves.specs.declared.Refusal.TheVariants.{Room, Store, Arms}
use Rattle.moves.specs.declared.Told.{Told}

-- the number of a refusal
unfoldable pub number_of : Refusal → ℕ
number_of Layout = 1
number_of Counts = 2
number_of Bodies = 3
number_of Beyond = 4
number_of Arrows = 5
number_of Both = 6
number_of Length = 7
number_of Outside = 8
number_of NoRank = 9
number_of IllFormed = 10
number_of Unknown = 11
number_of NotHeld = 12
number_of NotOnStep = 13
number_of Excluded = 14
number_of (Waits awaited) = 15
number_of NotApplied = 16
number_of EmptyLap = 17
number_of Room = 18
number_of Store = 22
number_of Arms = 30

-- the set that goes with a refusal: 15 gives the steps that are waited for, every other one the empty set
unfoldable pub waiting_of : Refusal → ℕ
waiting_of Layout = 0
waiting_of Counts = 0
waiting_of Bodies = 0
waiting_of Beyond = 0
waiting_of Arrows = 0
waiting_of Both = 0
waiting_of Length = 0
waiting_of Outside = 0
waiting_of NoRank = 0
waiting_of IllFormed = 0
waiting_of Unknown = 0
waiting_of NotHeld = 0
waiting_of NotOnStep = 0
waiting_of Excluded = 0
waiting_of (Waits awaited) = awaited
waiting_of NotApplied = 0
waiting_of EmptyLap = 0
waiting_of Room = 0
waiting_of Store = 0
waiting_of Arms = 0

-- both together
unfoldable pub told_of : Refusal → Told
told_of r = record { number = number_of r; waiting = waiting_of r }

-- nothing against the input, or the first refusal that holds
abbrev pub Verdict : Type 0
Verdict = Result (Unit {0}) Refusal

-- a line of a call's table: a refusal, and whether it holds
abbrev pub Line : Type 0
Line = Refusal × Bool

-- the first line that holds
unfoldable pub first : List Line → Verdict
first [] = Ok tt
first (l ∷ rest) = cond l.1 (Err l.0) (first rest)

-- 0 where nothing holds
unfoldable pub number_of_verdict : Verdict → ℕ
number_of_verdict (Ok _) = 0
number_of_verdict (Err r) = number_of r
