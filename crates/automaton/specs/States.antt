-- What the tracker's answers are like: each state that it gives is a state of the graph, with the rank and the flag that the
-- rule names, and each number that it gives is the lowest that holds. Assumes nothing.
use Rattle.std.specs.Prelude.{ℕ, ◌+◌, ◌^◌, ◌<◌, ◌≤◌, ◌≡◌, refl, ◌++◌, Bool, true, false, not, ◌&&◌, cond, leb, ltb}
use Rattle.std.proofs.Common.{sym, ap, ◌∙◌, subst, arith, ltb-true}
use Rattle.std.proofs.lemmas.Bool.{eqb-false, not-false, not-true}
use Rattle.sets.specs.Sets.{empty, full, lowest}
use Rattle.sets.specs.Truth.{and_left, and_right}
use Rattle.sets.specs.Laws.{meet_lt, minus_lt, lowest_wider, lowest_below}
use Rattle.rules.specs.Graph.{Graph}
use Rattle.moves.specs.declared.Marking.{Marking}
use Rattle.moves.specs.declared.Entry.{Entry}
use Rattle.moves.specs.First.{Verdict}
use Rattle.moves.specs.First.{first, number_of_verdict, number_of}
use Rattle.moves.specs.Move.{is_finished}
use Rattle.rules.specs.Answers.{entry_known, entry_lines}
use Rattle.moves.specs.Given.{ascends, clear_head, clear_front, clear_back}
use Rattle.moves.specs.Inside.{Inside, fits_inside}
use Rattle.rules.specs.Sound.{Sound, clear_sound, after_inside}
use Rattle.rules.specs.Entries.{moved_clear, moved_after}
use Rattle.tracker.specs.declared.Track.{Track}
use Rattle.tracker.specs.Tracker.{pending, above, pool, meets, served, begin, rest, start_lines, idle_lines, step_lines}
use Rattle.tracker.specs.Tracker.{tracked_of, the_start, the_idle, the_step, number_of_tracked}
use Rattle.automaton.specs.Paper.{State}
use Rattle.tracker.specs.Laws.{clear_graph, clear_fits, rank_some, rank_most, rank_is, start_at, Idled, idle_at, Stepped, step_at_lem}
use Rattle.std.specs.Prelude.{Ok, Err}
use Rattle.tracker.specs.declared.Unmoved.{Unmoved}

-- ---- start and idle move

-- the first state has rank 1, and its flag says whether the job is finished
pub start_is : (g : Graph) (m : Marking) (u : Track) → the_start g m ≡ Ok u → (u.marking ≡ m) × (u.rank.0 ≡ 1)
    × (u.flag ≡ is_finished m)
start_is g m u e =
    let same : begin m ≡ u = (start_at g m u e).1 in
    (ap (λ (t : Track). t.marking) (sym same), ap (λ (t : Track). t.rank.0) (sym same), ap (λ (t : Track). t.flag) (sym same))

-- an idle move keeps marking and rank, and the flag after it is the finished test
pub idle_is : (g : Graph) (t u : Track) → the_idle g t ≡ Ok u → (u.marking ≡ t.marking) × (u.rank ≡ t.rank)
    × (u.flag ≡ is_finished u.marking)
idle_is g t u e =
    let same : rest t ≡ u = (idle_at g t u e).result in (
      ap (λ (t : Track). t.marking) (sym same),
      ap (λ (t : Track). t.rank) (sym same),
      ap (λ (t : Track). t.flag) (sym same)
          ∙ ap (λ (t : Track). is_finished t.marking) same,
    )

-- ---- a state stays a state: the marking within the graph, the rank within 1..n

pub start_state : (g : Graph) (m : Marking) (u : Track) → the_start g m ≡ Ok u → State g.steps u
start_state g m u e =
    let at = start_at g m u e in
    let sound : Sound g = clear_sound g (clear_graph g m at.0) in
    subst (State g.steps) at.1
    (record {
      marking_in_lem = fits_inside g.steps m (clear_fits g m at.0);
      rank_some = omega arith;
      rank_most =
          sound.counted.steps_some;
    })

pub idle_state : (g : Graph) (t u : Track) → the_idle g t ≡ Ok u → State g.steps u
idle_state g t u e =
    let i : Idled g t u = idle_at g t u e in
    subst (State g.steps) i.result
    (record {
      marking_in_lem = fits_inside g.steps t.marking (clear_fits g t.marking i.sound);
      rank_some = rank_some g.steps t.rank.0 i.ranked;
      rank_most = rank_most g.steps t.rank.0 i.ranked;
    })

-- x is a step of the graph
x_below : (n i p : ℕ) → n ≤ 64 → p < 2 ^ n → empty (pool i p) ≡ false → lowest 64 (pool i p) < n
x_below n i p most small some =
    let less : pool i p < 2 ^ n = either (empty (above i p)) in
    let there : pool i p ≡ 0 → ⊥ = eqb-false (pool i p) 0 some in
    subst (λ (x : ℕ). x < n) (sym (lowest_wider n 64 (pool i p) most less there)) (lowest_below n (pool i p) less there)
  where
    either : (b : Bool) → cond b p (above i p) < 2 ^ n
    either true = small
    either false = minus_lt n p (full i) small

-- the rank after a step
rank_after : (n i p q e : ℕ) → n ≤ 64 → p < 2 ^ n → 1 ≤ i → i ≤ n
    → (1 ≤ cond (served i p q e) (lowest 64 (pool i p) + 1) i) × (cond (served i p q e) (lowest 64 (pool i p) + 1) i ≤ n)
rank_after n i p q e most small some below = go (served i p q e) refl
  where
    go : (b : Bool) → served i p q e ≡ b → (1 ≤ cond b (lowest 64 (pool i p) + 1) i) × (cond b (lowest 64 (pool i p) + 1) i ≤ n)
    go true s =
        let x : lowest 64 (pool i p) < n =
        x_below n i p most small (not-true _ (and_left (not (empty (pool i p))) (meets (lowest 64 (pool i p)) e q) s)) in
        (omega arith, omega arith)
    go false s = (some, below)

pub step_state : (g : Graph) (t : Track) (e : Entry) (u : Track) → the_step g t e ≡ Ok u → State g.steps u
step_state g t e u q =
    let s : Stepped g t e u = step_at_lem g t e u q in
    let m = t.marking in
    let n = g.steps in
    let clear : first (start_lines g m ++ entry_lines g m e) ≡ (Ok tt) = moved_clear g m u.marking e s.moved in
    let front : first (start_lines g m) ≡ (Ok tt) = clear_front (start_lines g m) (entry_lines g m e) clear in
    let sound : Sound g = clear_sound g (clear_graph g m front) in
    let within : Inside n m = fits_inside n m (clear_fits g m front) in
    let is : entry_known g e ≡ true = not-false (entry_known g e) (clear_head _ _ (clear_back (start_lines g m) (entry_lines g m e) clear)) in
    let low : e.step.0 < n =
    ltb-true e.step.0 n
    (and_right (ltb e.person g.people) (ltb e.step.0 n)
    (and_left (ltb e.person g.people && ltb e.step.0 n) (ltb e.role g.roles) is)) in
    let ranks = rank_after n t.rank.0 (pending m) (pending u.marking) e.step.0 sound.counted.steps_most
    (meet_lt n m.due m.included within.due_in) (rank_some n t.rank.0 s.ranked) (rank_most n t.rank.0 s.ranked) in
    let same : cond (served t.rank.0 (pending m) (pending u.marking) e.step.0) (lowest 64 (pool t.rank.0 (pending m)) + 1)
    t.rank.0 ≡ u.rank.0 =
    sym (rank_is t u.marking e.step.0) ∙ ap (λ (v : Track). v.rank.0) s.result in
    record {
      marking_in_lem = subst (Inside n) (moved_after g m u.marking e s.moved)
          (after_inside g m e.person e.step.0 sound low within);
      rank_some = subst (λ (i : ℕ). 1 ≤ i) same ranks.0;
      rank_most = subst (λ (i : ℕ). i ≤ n) same ranks.1;
    }

-- ---- the numbers

-- each table goes up, so that its first line that holds is the lowest number that holds
pub start_ascends : (g : Graph) (m : Marking) → ascends 0 (start_lines g m) ≡ true
unfolding ascends number_of
start_ascends g m = refl

pub idle_ascends : (g : Graph) (t : Track) → ascends 0 (idle_lines g t) ≡ true
unfolding ascends number_of
idle_ascends g t = refl

pub step_ascends : (g : Graph) (t : Track) (e : Entry) → ascends 0 (step_lines g t e) ≡ true
unfolding ascends number_of
step_ascends g t e = refl

-- and the number of the answer is the table's
tracked_number : (v : Verdict) (before next : Track) → number_of_tracked (tracked_of v before next) ≡ number_of_verdict v
unfolding number_of_tracked tracked_of number_of_verdict
tracked_number (Ok _) before next = refl
tracked_number (Err r) before next = either (leb 11 (number_of r))
  where
    either : (b : Bool) → number_of_tracked (cond b (Err (Unmoved.Stays before r)) (Err (Unmoved.Refused r))) ≡ number_of r
    either true = refl
    either false = refl

pub start_number : (g : Graph) (m : Marking) → number_of_tracked (the_start g m) ≡ number_of_verdict (first (start_lines g m))
unfolding the_start
start_number g m = tracked_number (first (start_lines g m)) (begin m) (begin m)

pub idle_number : (g : Graph) (t : Track) → number_of_tracked (the_idle g t) ≡ number_of_verdict (first (idle_lines g t))
unfolding the_idle
idle_number g t = tracked_number (first (idle_lines g t)) t (rest t)

pub step_number : (g : Graph) (t : Track) (e : Entry) → number_of_tracked (the_step g t e) ≡ number_of_verdict (first (step_lines g t e))
unfolding the_step
step_number g t e = tracked_number (first (step_lines g t e)) t _
