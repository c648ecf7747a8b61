-- The tracker (Definition 7), as a rule that is quick to follow. A state is a marking, a rank i and a flag.
use Rattle.std.specs.Prelude.{ℕ, List, [], ◌∷◌, ◌++◌, Bool, true, not, ◌&&◌, ◌||◌, cond, eqb, leb, Result, Ok, Err}
use Rattle.sets.specs.Sets.{has, meet, minus, empty, full, lowest}
use Rattle.rules.specs.Graph.{Graph, graph_lines}
use Rattle.moves.specs.declared.Marking.{Marking}
use Rattle.moves.specs.declared.Rank.{Rank}
use Rattle.moves.specs.declared.Entry.{Entry}
use Rattle.moves.specs.First.{Verdict}
use Rattle.moves.specs.declared.Refusal.TheVariants.{NoRank}
use Rattle.moves.specs.First.{Line, first, number_of, waiting_of}
use Rattle.moves.specs.Move.{within1to, rank_of, after, is_finished}
use Rattle.rules.specs.Answers.{row_of, marking_lines, entry_lines}
use Rattle.tracker.specs.declared.Track.{Track}
use Rattle.tracker.specs.declared.Unmoved.{Unmoved}

-- a rank is one of 1, 2, .., n
abbrev pub is_rank : ℕ → ℕ → Bool
is_rank n i = within1to i n

-- ---- start and idle move

-- the first state has rank 1, and its flag says whether the job is finished
abbrev pub begin : Marking → Track
begin m = record { marking = m; rank = record { 0 = 1 }; flag = is_finished m }

-- nothing is done: marking and rank stay, and the flag says whether the job is finished
abbrev pub rest : Track → Track
rest t = record { marking = t.marking; rank = t.rank; flag = is_finished t.marking }

-- ---- a step e

-- P and P'': the steps that are pending, before the step and after it
abbrev pub pending : Marking → ℕ
pending m = meet m.due m.included

-- H: the steps of P whose rank lies above i. The steps of rank at most i are the i steps below number i
abbrev pub above : ℕ → ℕ → ℕ
above i P = minus P (full i)

-- H, or P where H has no step. Their lowest is x, the step whose turn it is; there is none where both are empty
abbrev pub pool : ℕ → ℕ → ℕ
pool i P = cond (empty (above i P)) P (above i P)

-- x was seen to: it is the step that was done, or it is pending no more
abbrev pub meets : ℕ → ℕ → ℕ → Bool
meets x e P'' = eqb x e || not (has P'' x)

-- there is an x, and it was seen to
abbrev pub served : ℕ → ℕ → ℕ → ℕ → Bool
served i P P'' e = not (empty (pool i P)) && meets (lowest 64 (pool i P)) e P''

-- if so, the rank is that of x and the flag is up; if not, the rank stays, and the flag says whether nothing is pending any more
unfoldable pub track_after : Track → Marking → ℕ → Track
track_after t next e =
    let i = t.rank.0 in
    let P = pending t.marking in
    let P'' = pending next in
    let x = lowest 64 (pool i P) in
    record {
      marking = next;
      rank = cond (served i P P'' e) (record { 0 = rank_of x }) t.rank;
      flag = cond (served i P P'' e) true (empty P'');
    }

-- ---- the tables

-- 2, 4, 6, 8
abbrev pub start_lines : Graph → Marking → List Line
start_lines g m = graph_lines g ++ marking_lines g m

abbrev pub rank_lines : Graph → Rank → List Line
rank_lines g i = (NoRank, not (is_rank g.steps i.0)) ∷ []

-- 2, 4, 6, 8, 9
abbrev pub idle_lines : Graph → Track → List Line
idle_lines g t = start_lines g t.marking ++ rank_lines g t.rank

-- 2, 4, 6, 8, 9, 11 to 15
abbrev pub step_lines : Graph → Track → Entry → List Line
step_lines g t e = start_lines g t.marking ++ rank_lines g t.rank ++ entry_lines g t.marking e

-- ---- the answers

-- the state after; or why there is none
abbrev pub Tracked : Type 0
Tracked = Result Track Unmoved

-- nothing against it: the state after. Else the refusal, from 11 on with the state handed in, below 11 with none, so that no rank is 0
unfoldable pub tracked_of : Verdict → Track → Track → Tracked
tracked_of (Ok _) before next = Ok next
tracked_of (Err r) before next = cond (leb 11 (number_of r)) (Err (Unmoved.Stays before r)) (Err (Unmoved.Refused r))

unfoldable pub the_start : Graph → Marking → Tracked
the_start g m = tracked_of (first (start_lines g m)) (begin m) (begin m)

unfoldable pub the_idle : Graph → Track → Tracked
the_idle g t = tracked_of (first (idle_lines g t)) t (rest t)

unfoldable pub the_step : Graph → Track → Entry → Tracked
the_step g t e =
    tracked_of (first (step_lines g t e)) t (track_after t (after (row_of g e.person e.step.0) t.marking e.step.0) e.step.0)

-- ---- number and values of each case

-- 0 where there is a state after
unfoldable pub number_of_tracked : Tracked → ℕ
number_of_tracked (Ok t) = 0
number_of_tracked (Err (Unmoved.Refused r)) = number_of r
number_of_tracked (Err (Unmoved.Stays t r)) = number_of r

-- with 15 the steps that are waited for
unfoldable pub waiting_of_tracked : Tracked → ℕ
waiting_of_tracked (Ok t) = 0
waiting_of_tracked (Err (Unmoved.Refused r)) = waiting_of r
waiting_of_tracked (Err (Unmoved.Stays t r)) = waiting_of r
