-- A call that tests its table and nothing else gives a number exactly if it is the lowest that holds: the tables go up. A line for each
-- such call; laps, runs and restores, whose entries come after the table, stand in `Entries`, and what reads or writes a sheet, the
-- cabinet's too, with the sheets. Assumes nothing.
use Rattle.std.specs.Prelude.{ℕ, zero, suc, ◌<◌, ◌≡◌, ◌↔◌, List, [], ◌∷◌, Bool, true, false, not, cond}
use Rattle.std.proofs.Math.Path.{refl}
use Rattle.std.proofs.Common.{sym, subst}
use Rattle.sets.specs.Truth.{or_false}
use Rattle.moves.specs.declared.Marking.{Marking}
use Rattle.moves.specs.declared.Entry.{Entry}
use Rattle.moves.specs.First.{Verdict}
use Rattle.moves.specs.First.{Line, first, number_of_verdict, number_of}
use Rattle.moves.specs.Move.{number_of_asked, number_of_move}
use Rattle.moves.specs.Given.{holds, ascends, Lowest, given_exactly}
use Rattle.tables.specs.Tables.{counts_fit, kinds_apart}
use Rattle.rules.specs.Graph.{Graph, graph_lines, graph_verdict, sets_fit}
use Rattle.rules.specs.Answers.{move_lines, the_asked, the_move, the_ending, number_of_ending}
use Rattle.rules.specs.Asking.{asked_lines}
use Rattle.rules.specs.Paper.{move_number, ending_number}
use Rattle.greying.specs.Greying.{choice_lines, the_choice, the_choice_of_all, number_of_choice}
use Rattle.greying.specs.Exactly.{choice_number, all_number}
use Rattle.deadend.specs.declared.Ends.{Ends}
use Rattle.deadend.specs.DeadEnd.{search_from, search, ends_lines, ends_of, the_ends, number_of_ends}
use Rattle.kept.specs.Keep.{the_kept}
use Rattle.journal.specs.declared.Stride.{Stride}
use Rattle.journal.specs.Run.{length_lines}
use Rattle.journal.specs.Walk.{hand_out, stride_of, stride_at, number_of_walked}
use Rattle.records.specs.declared.Record.{Record}
use Rattle.records.specs.Answers.{join_lines, the_join, apply_lines, the_application, number_of_recorded, number_of_applied}
use Rattle.records.specs.Answered.{number_recorded, number_applied}
use Rattle.spelling.specs.Bytes.{from_bytes_lines, the_reading, to_bytes_lines}
use Rattle.folding.specs.Answers.{fold_lines, the_fold}
use Rattle.tracker.specs.declared.Track.{Track}
use Rattle.tracker.specs.Tracker.{start_lines, idle_lines, step_lines, the_start, the_idle, the_step, number_of_tracked}
use Rattle.automaton.specs.States.{start_number, idle_number, step_number}
use Rattle.std.specs.Prelude.{Ok, Err, Result}
use Rattle.moves.specs.declared.Refusal.{Refusal}

-- n is the number that the table gives
abbrev pub Exactly : ℕ → List Line → Type 0
Exactly n lines = (k : ℕ) → 0 < k → (n ≡ k) ↔ Lowest k lines

pub exactly : (lines : List Line) (n : ℕ) → ascends 0 lines ≡ true → n ≡ number_of_verdict (first lines) → Exactly n lines
exactly lines n up e = subst (λ (x : ℕ). Exactly x lines) (sym e) (given_exactly lines up)

module _ (g : Graph) where
  -- check: 2, 4, 6
  pub check_given : Exactly (number_of_verdict (graph_verdict g)) (graph_lines g)
  unfolding ascends number_of
  check_given = exactly (graph_lines g) (number_of_verdict (graph_verdict g)) refl refl

  -- and each of them holds as its definition says, with whatever is stored beyond the counts
  pub check_2 : holds 2 (graph_lines g) ≡ not (counts_fit g.steps g.people g.roles g.actions)
  unfolding holds number_of
  check_2 = or_false (not (counts_fit g.steps g.people g.roles g.actions))

  pub check_4 : holds 4 (graph_lines g) ≡ not (sets_fit g)
  unfolding holds number_of
  check_4 = or_false (not (sets_fit g))

  pub check_6 : holds 6 (graph_lines g) ≡ not (kinds_apart g.steps g.includes g.excludes)
  unfolding holds number_of
  check_6 = or_false (not (kinds_apart g.steps g.includes g.excludes))

  -- ask: 2, 4, 6, 8, 11 to 15
  pub ask_given : (m : Marking) (e : Entry) → Exactly (number_of_asked (the_asked g m e)) (move_lines g m e)
  unfolding ascends number_of
  ask_given m e = exactly (move_lines g m e) (number_of_asked (the_asked g m e)) refl (asked_lines g m e)

  -- the steps that are allowed to a person: 2, 4, 6, 8, 11; to someone: 2, 4, 6, 8
  pub choice_given : (m : Marking) (p : ℕ) → Exactly (number_of_choice (the_choice g m p)) (choice_lines g m p)
  unfolding ascends number_of
  choice_given m p = exactly (choice_lines g m p) (number_of_choice (the_choice g m p)) refl (choice_number g m p)

  pub all_given : (m : Marking) → Exactly (number_of_choice (the_choice_of_all g m)) (start_lines g m)
  unfolding ascends number_of
  all_given m = exactly (start_lines g m) (number_of_choice (the_choice_of_all g m)) refl (all_number g m)

  -- take: as ask
  pub take_given : (m : Marking) (e : Entry) → Exactly (number_of_move (the_move g m e)) (move_lines g m e)
  unfolding ascends number_of
  take_given m e = exactly (move_lines g m e) (number_of_move (the_move g m e)) refl (move_number g m e)

  -- the kept marking: the same
  pub keep_given : (m : Marking) (e : Entry) → Exactly (number_of_move (the_kept g m e).answer) (move_lines g m e)
  unfolding the_kept
  keep_given = take_given

  -- finished: 2, 4, 6, 8
  pub finished_given : (m : Marking) → Exactly (number_of_ending (the_ending g m)) (start_lines g m)
  unfolding ascends number_of
  finished_given m = exactly (start_lines g m) (number_of_ending (the_ending g m)) refl (ending_number g m)

  -- fold: 2, 4, 6, 7
  pub fold_given : (j : List ℕ) → Exactly (number_of_recorded (the_fold g j)) (fold_lines g j)
  unfolding ascends number_of the_fold
  fold_given j = exactly (fold_lines g j) (number_of_recorded (the_fold g j)) refl (number_recorded (first (fold_lines g j)) _)

  -- the tracker's start: 2, 4, 6, 8; idle: 2, 4, 6, 8, 9; step: 2, 4, 6, 8, 9, 11 to 15
  pub start_given : (m : Marking) → Exactly (number_of_tracked (the_start g m)) (start_lines g m)
  unfolding ascends number_of
  start_given m = exactly (start_lines g m) (number_of_tracked (the_start g m)) refl (start_number g m)

  pub idle_given : (t : Track) → Exactly (number_of_tracked (the_idle g t)) (idle_lines g t)
  unfolding ascends number_of
  idle_given t = exactly (idle_lines g t) (number_of_tracked (the_idle g t)) refl (idle_number g t)

  pub step_given : (t : Track) (e : Entry) → Exactly (number_of_tracked (the_step g t e)) (step_lines g t e)
  unfolding ascends number_of
  step_given t e = exactly (step_lines g t e) (number_of_tracked (the_step g t e)) refl (step_number g t e)

cond_same : (b : Bool) (n : ℕ) → cond b n n ≡ n
cond_same true n = refl
cond_same false n = refl

-- can the job still end: 2, 4, 6, 8, 22; a search that is begun is answered
ends_number : (v : Verdict) (a : Ends) → number_of_ends (ends_of v a) ≡ number_of_verdict v
unfolding ends_of number_of_ends number_of_verdict
ends_number (Ok _) a = refl
ends_number (Err r) a = refl

pub ends_given : (g : Graph) (m : Marking) (s : List ℕ) → Exactly (number_of_ends (the_ends g m s)) (ends_lines g m s)
unfolding ascends number_of the_ends
ends_given g m s = exactly (ends_lines g m s) (number_of_ends (the_ends g m s)) refl
    (ends_number (first (ends_lines g m s)) _)

-- a walk: 7
walked_number : (k : ℕ) (v : Verdict) (s : Stride) → number_of_walked s.said ≡ 0
    → number_of_walked (stride_of k v s).said ≡ number_of_verdict v
unfolding stride_of number_of_walked number_of_verdict
walked_number k (Ok _) s e = e
walked_number k (Err r) s e = refl

handed_number : (k : ℕ) (es : List Entry) → number_of_walked (hand_out k es).said ≡ 0
unfolding hand_out number_of_walked
handed_number k [] = refl
handed_number k (e ∷ rest) = refl

pub walk_given : (j : List ℕ) (k : ℕ) → Exactly (number_of_walked (stride_at j k).said) (length_lines j)
unfolding ascends number_of stride_at
walk_given j k = exactly (length_lines j) (number_of_walked (stride_at j k).said) refl
    (walked_number k (first (length_lines j)) _ (handed_number k _))

module _ (n : ℕ) where
  -- join: 2, 10
  pub join_given : (a b : Record) → Exactly (number_of_recorded (the_join n a b)) (join_lines n a b)
  unfolding ascends number_of the_join
  join_given a b = exactly (join_lines n a b) (number_of_recorded (the_join n a b)) refl (number_recorded (first (join_lines n a b)) _)

  -- apply: 2, 8, 10, 16
  pub apply_given : (r : Record) (m : Marking) → Exactly (number_of_applied (the_application n r m)) (apply_lines n r m)
  unfolding ascends number_of the_application
  apply_given r m = exactly (apply_lines n r m) (number_of_applied (the_application n r m)) refl
      (number_applied (first (apply_lines n r m)) m _)

  -- a record from its bytes: 2, 10
  pub read_given : (s : List ℕ) → Exactly (number_of_recorded (the_reading n s)) (from_bytes_lines n s)
  unfolding ascends number_of the_reading
  read_given s = exactly (from_bytes_lines n s) (number_of_recorded (the_reading n s)) refl (number_recorded (first (from_bytes_lines n s)) _)

  -- and to its bytes: 2, 10, 18
  pub write_given : (r : Record) (room : List ℕ) → Exactly (number_of_verdict (first (to_bytes_lines n r room))) (to_bytes_lines n r room)
  unfolding ascends number_of
  write_given r room = exactly (to_bytes_lines n r room) (number_of_verdict (first (to_bytes_lines n r room))) refl refl
