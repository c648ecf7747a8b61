-- Every answer that can hold 15 hands out the set of the very entry that was refused, read in the marking that this entry met.
-- Assumes nothing.
use Rattle.std.specs.Prelude.{ℕ, ◌+◌, ◌≤◌, ◌≡◌, refl, List, ◌++◌, Bool, true, false, cond, leb, get_or}
use Rattle.std.proofs.Common.{sym, ◌∙◌, subst, true≢false, arith}
use Rattle.std.proofs.lemmas.Bool.{not-false}
use Rattle.sets.specs.Sets.{has}
use Rattle.moves.specs.declared.Marking.{Marking}
use Rattle.moves.specs.declared.Entry.{Entry}
use Rattle.moves.specs.Move.{Move}
use Rattle.moves.specs.declared.Refusal.{Refusal}
use Rattle.moves.specs.declared.Refusal.TheVariants.{NotApplied}
use Rattle.moves.specs.First.{Verdict}
use Rattle.moves.specs.First.{Line, first, number_of, waiting_of}
use Rattle.moves.specs.Move.{entry_of, no_marking, marking_fits, number_of_move, waiting_of_move}
use Rattle.moves.specs.Given.{numbers_below, holds, first_holds, first_late, clear_head, clear_tail, clear_front, clear_back}
use Rattle.moves.specs.Inside.{Inside, fits_inside}
use Rattle.rules.specs.Graph.{Graph, graph_lines, graph_verdict}
use Rattle.rules.specs.Answers.{entry_lines, marking_lines, the_move}
use Rattle.rules.specs.Entries.{refused_first}
use Rattle.kept.specs.Keep.{the_kept}
use Rattle.journal.specs.Ran.{Ran}
use Rattle.journal.specs.Journal.{entries}
use Rattle.journal.specs.Run.{run_from, length_lines, run_lines, ran_of, the_run, number_of_run, waiting_of_run, index_of_run, marking_of_run}
use Rattle.runs.specs.Runs.{run_stops}
use Rattle.records.specs.declared.Record.{Record}
use Rattle.records.specs.Records.{applies, gives, well_formed}
use Rattle.records.specs.WellFormed.{well_formed_lem}
use Rattle.records.specs.Answered.{gives_inside}
use Rattle.folding.specs.Answers.{restore_lines, the_restoring}
use Rattle.laps.specs.Lapped.{Lapped}
use Rattle.laps.specs.Endless.{step_at, marking_at, RefusedAt}
use Rattle.laps.specs.Laps.{endless_run, index_at, pass_at, lap_lines, LapAnswer, number_of_lap, waiting_of_lap, index_of_lap, pass_of_lap}
use Rattle.tracker.specs.declared.Track.{Track}
use Rattle.tracker.specs.Tracker.{Tracked}
use Rattle.tracker.specs.Tracker.{begin, rest, start_lines, rank_lines, idle_lines, step_lines, tracked_of, the_start, the_idle, the_step}
use Rattle.tracker.specs.Tracker.{number_of_tracked, waiting_of_tracked}
use Rattle.waiting.specs.Entry.{waited_for, Tells, waiting_none, refusal_tells, nothing_told, entry_refused, move_tells}
use Rattle.std.specs.Prelude.{Ok, Err}
use Rattle.moves.specs.Move.{denied}
use Rattle.journal.specs.Ran.{stopped}
use Rattle.tracker.specs.declared.Unmoved.{Unmoved}
use Rattle.laps.specs.declared.Endless.{Endless}
use Rattle.laps.specs.declared.Broken.{Broken}

-- ---- the kept marking: the move's own answer

pub kept_tells : (g : Graph) (m : Marking) (e : Entry)
    → Tells g m e.step.0 (number_of_move (the_kept g m e).answer) (waiting_of_move (the_kept g m e).answer)
unfolding the_kept
kept_tells g m e = move_tells g m e

-- ---- the move that a longer call stops at

move_refused_tells : (g : Graph) (m back : Marking) (e : Entry) (r : Refusal) → (number_of r ≡ 15 → the_move g m e ≡ Err (denied back r))
    → Tells g m e.step.0 (number_of r) (waiting_of r)
move_refused_tells g m back e r stops =
    refusal_tells g m e r (λ is. (entry_refused g m e r (refused_first g m back e r (stops is)) is).1)

-- a table without 15 refuses with no set, whatever step one thinks of
no_fifteen : (lines : List Line) (r : Refusal) → holds 15 lines ≡ false → first lines ≡ Err r → number_of r ≡ 15 → ⊥
no_fifteen lines r without e is = true≢false (sym (subst (λ (k : ℕ). holds k lines ≡ true) is (first_holds lines r e)) ∙ without)

other_tells : (g : Graph) (m : Marking) (s : ℕ) (r : Refusal) → (number_of r ≡ 15 → ⊥) → Tells g m s (number_of r) (waiting_of r)
other_tells g m s r other =
    record { exactly = λ is a. absurd (other is); some = λ is none. other is; none = waiting_none r }

table_tells : (g : Graph) (m : Marking) (s : ℕ) (lines : List Line) (r : Refusal) → holds 15 lines ≡ false
    → first lines ≡ Err r
    → Tells g m s (number_of r) (waiting_of r)
table_tells g m s lines r without e = other_tells g m s r (no_fifteen lines r without e)

-- ---- runs

-- the entry of a journal at an index
abbrev pub entry_with : List ℕ → ℕ → Entry
entry_with j k = get_or (entries j) k (entry_of 0 0 0)

-- what a run says: with its index the entry, with its marking what the entry met
abbrev pub RunTells : Graph → List ℕ → Ran → Type 0
RunTells g j o = Tells g (marking_of_run o) (entry_with j (index_of_run o)).step.0 (number_of_run o) (waiting_of_run o)

entries_tell : (g : Graph) (m : Marking) (j : List ℕ) → graph_verdict g ≡ Ok tt → Inside g.steps m
    → RunTells g j (run_from g m 0 (entries j))
unfolding number_of_run waiting_of_run index_of_run marking_of_run
entries_tell g m j clear inside = go (run_from g m 0 (entries j)) refl
  where
    go : (o : Ran) → run_from g m 0 (entries j) ≡ o → RunTells g j o
    go (Ok w) e = nothing_told g w.marking (entry_with j w.entries).step.0
    go (Err d) e =
        let stop = run_stops g m d.marking 0 d.index d.refusal (entries j) clear inside e in
        let place : d.index ≡ 0 + stop.0 = stop.1 in
        let here : stop.0 ≡ d.index = omega arith in
        move_refused_tells g d.marking d.marking (entry_with j d.index) d.refusal
        (λ is. subst (λ (k : ℕ). the_move g d.marking (entry_with j k) ≡ Err (denied d.marking d.refusal)) here (stop.2.refused (entry_of 0 0 0)))

pub run_tells : (g : Graph) (m : Marking) (j : List ℕ) → RunTells g j (the_run g m j)
unfolding the_run ran_of number_of_run waiting_of_run index_of_run marking_of_run holds number_of
run_tells g m j = go (first (run_lines g m j)) refl
  where
    go : (v : Verdict) → first (run_lines g m j) ≡ v → RunTells g j (ran_of v (run_from g m 0 (entries j)))
    go (Ok _) e =
        let rest = clear_back (graph_lines g) (length_lines j ++ marking_lines g m) e in
        entries_tell g m j (clear_front (graph_lines g) (length_lines j ++ marking_lines g m) e)
        (fits_inside g.steps m (not-false (marking_fits g.steps m) (clear_head _ _ (clear_tail _ _ rest))))
    go (Err r) e = table_tells g no_marking (entry_with j 0).step.0 (run_lines g m j) r refl e

-- a restore: the rest of the journal, from the marking that the record gives
pub restore_tells : (g : Graph) (r : Record) (j : List ℕ) (m : Marking) → RunTells g j (the_restoring g r j m)
unfolding the_restoring ran_of number_of_run waiting_of_run index_of_run marking_of_run holds number_of
restore_tells g r j m = go (first (restore_lines g r j m)) refl
  where
    follow : (b : Bool) → graph_verdict g ≡ Ok tt → Inside g.steps (gives r m)
        → RunTells g j (cond b (run_from g (gives r m) 0 (entries j)) (Err (stopped 0 m NotApplied)))
    follow true clear inside = entries_tell g (gives r m) j clear inside
    follow false clear inside =
        other_tells g m (entry_with j 0).step.0 NotApplied (λ is. let z : 16 ≡ 15 = is in let w : ⊥ = omega arith in w)

    go : (v : Verdict) → first (restore_lines g r j m) ≡ v
        → RunTells g j (ran_of v (cond (applies r m) (run_from g (gives r m) 0 (entries j)) (Err (stopped 0 m NotApplied))))
    go (Ok _) e =
        let clear = clear_front (graph_lines g) _ e in
        let fit = clear_tail _ _ (clear_back (graph_lines g) _ e) in
        let formed = clear_tail _ _ fit in
        follow (applies r m) clear
        (gives_inside g.steps r m (well_formed_lem g.steps r (not-false (well_formed g.steps r) (clear_head _ _ formed))).bounded
        (fits_inside g.steps m (not-false (marking_fits g.steps m) (clear_head _ _ fit))))
    go (Err q) e = table_tells g no_marking (entry_with j 0).step.0 (restore_lines g r j m) q refl e

-- ---- laps

-- what a lap says. With 15 there is the position of a run without end that index and pass belong to: its entry is the first that is
-- not allowed, and the set is what its step waits for in the marking there
pub record LapTells (g : Graph) (m : Marking) (stem lap : List ℕ) (o : Lapped) : Type 0 where
  pub exactly : number_of_lap o ≡ 15
      → (i : ℕ)
      × (r : Refusal)
      × RefusedAt g m (endless_run (entries stem) (entries lap)) i r
      × (index_of_lap o ≡ index_at (entries stem) (entries lap) i)
      × (pass_of_lap o ≡ pass_at (entries stem) (entries lap) i)
      × ((a : ℕ) → has (waiting_of_lap o) a
      ≡ waited_for g (marking_at g m (endless_run (entries stem) (entries lap)) i) (step_at g m (endless_run (entries stem) (entries lap)) i) a)
  pub some : number_of_lap o ≡ 15 → waiting_of_lap o ≡ 0 → ⊥
  pub none : (number_of_lap o ≡ 15 → ⊥) → waiting_of_lap o ≡ 0

pub lap_tells : (g : Graph) (m : Marking) (stem lap : List ℕ) (o : Lapped) → LapAnswer g m stem lap o → LapTells g m stem lap o
unfolding LapAnswer number_of_lap waiting_of_lap index_of_lap pass_of_lap holds number_of
lap_tells g m stem lap (Ok Endless.Accepted) right =
    record { exactly = λ is. absurd (let w : ⊥ = omega arith in w); some = λ is none. omega arith; none = λ f. refl }
lap_tells g m stem lap (Ok (Endless.Starved s)) right =
    record { exactly = λ is. absurd (let w : ⊥ = omega arith in w); some = λ is none. omega arith; none = λ f. refl }
lap_tells g m stem lap (Err (Broken.Refused r)) right =
    record { exactly = λ is. absurd (other is); some = λ is none. other is; none = waiting_none r }
  where
    other : number_of r ≡ 15 → ⊥
    other = no_fifteen (lap_lines g m stem lap) r refl right
lap_tells g m stem lap (Err (Broken.Stopped k p r)) right =
    let stop = right.1 in
    let run = endless_run (entries stem) (entries lap) in
    let told = move_refused_tells g (marking_at g m run stop.position) (marking_at g m run stop.position) (run stop.position) r
    (λ is. stop.refused.here) in
    record {
      exactly = λ is. (stop.position, r, stop.refused, stop.index, stop.pass, told.exactly is);
      some = told.some;
      none = told.none;
    }

-- ---- the tracker

tracked_tells : (g : Graph) (m : Marking) (s : ℕ) (v : Verdict) (before next : Track)
    → ((r : Refusal) → v ≡ Err r → Tells g m s (number_of r) (waiting_of r))
    → Tells g m s (number_of_tracked (tracked_of v before next)) (waiting_of_tracked (tracked_of v before next))
unfolding tracked_of number_of_tracked waiting_of_tracked
tracked_tells g m s (Ok _) before next told = nothing_told g m s
tracked_tells g m s (Err r) before next told = either (leb 11 (number_of r))
  where
    either : (b : Bool) → Tells g m s (number_of_tracked (cond b (Err (Unmoved.Stays before r)) (Err (Unmoved.Refused r))))
        (waiting_of_tracked (cond b (Err (Unmoved.Stays before r)) (Err (Unmoved.Refused r))))
    either true = told r refl
    either false = told r refl

-- a step: what it waits for in the marking of the state handed in
pub step_tells : (g : Graph) (t : Track) (e : Entry)
    → Tells g t.marking e.step.0 (number_of_tracked (the_step g t e)) (waiting_of_tracked (the_step g t e))
unfolding the_step numbers_below number_of
step_tells g t e =
    tracked_tells g t.marking e.step.0 (first (step_lines g t e)) t _
    (λ r q. refusal_tells g t.marking e r
    (λ is. (first_late 11 (start_lines g t.marking ++ rank_lines g t.rank) (entry_lines g t.marking e) r refl q
    (let z : 11 ≤ number_of r = omega arith in z)).1))

-- start and idle move take no step, and tell no set
tracked_none : (lines : List Line) (before next : Track) → holds 15 lines ≡ false
    → waiting_of_tracked (tracked_of (first lines) before next) ≡ 0
unfolding tracked_of waiting_of_tracked
tracked_none lines before next without = go (first lines) refl
  where
    either : (r : Refusal) (b : Bool) → waiting_of r ≡ 0 → waiting_of_tracked (cond b (Err (Unmoved.Stays before r)) (Err (Unmoved.Refused r))) ≡ 0
    either r true none = none
    either r false none = none

    go : (v : Verdict) → first lines ≡ v → waiting_of_tracked (tracked_of v before next) ≡ 0
    go (Ok _) e = refl
    go (Err r) e = either r (leb 11 (number_of r)) (waiting_none r (no_fifteen lines r without e))

pub start_tells : (g : Graph) (m : Marking) → waiting_of_tracked (the_start g m) ≡ 0
unfolding the_start holds number_of
start_tells g m = tracked_none (start_lines g m) (begin m) (begin m) refl

pub idle_tells : (g : Graph) (t : Track) → waiting_of_tracked (the_idle g t) ≡ 0
unfolding the_idle holds number_of
idle_tells g t = tracked_none (idle_lines g t) t (rest t) refl
