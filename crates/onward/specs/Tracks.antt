-- The tracker's states in words: what is handed in, and what goes with an answer.
use Rattle.std.specs.Prelude.{ℕ, cond, ltb}
use Rattle.moves.specs.declared.Rank.{Rank}
use Rattle.moves.specs.Move.{no_marking}
use Rattle.tracker.specs.declared.Track as states
use Rattle.tracker.specs.Tracker.{Tracked}
use Rattle.onward.specs.declared.Track.{Track}
use Rattle.std.specs.Prelude.{Ok, Err}
use Rattle.tracker.specs.declared.Unmoved.{Unmoved}

-- a number beyond a byte is no step's rank, and neither is 0
abbrev pub rank_in : ℕ → Rank
rank_in i = record { 0 = cond (ltb i 256) i 0 }

-- a flag above 0 is up
abbrev pub track_in : Track → states.Track
track_in t = record { marking = t.marking; rank = rank_in t.rank; flag = ltb 0 t.flag }

abbrev pub track_out : states.Track → Track
track_out t = record { marking = t.marking; rank = t.rank.0; flag = cond t.flag 1 0 }

abbrev pub no_track : Track
no_track = record { marking = no_marking; rank = 0; flag = 0 }

-- the state after; zeros below 11; what was handed in from 11 on
unfoldable pub track_of_tracked : Track → Tracked → Track
track_of_tracked before (Ok next) = track_out next
track_of_tracked before (Err (Unmoved.Refused r)) = no_track
track_of_tracked before (Err (Unmoved.Stays t r)) = before
