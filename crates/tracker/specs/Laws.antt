-- The laws of the tracker: which answer is given, by what is found; the rule by its cases; and what an answer with a state says.
-- Assumes nothing.
use Rattle.std.specs.Prelude.{ℕ, ◌+◌, ◌<◌, ◌≤◌, ◌≡◌, refl, List, [], ◌++◌, Bool, true, false, not, ◌&&◌, cond, leb, ltb, Ok, Err}
use Rattle.std.proofs.Common.{sym, ap, ap₂, ◌∙◌, arith, lt-ltb, le-ltb, ne_eqb, le-leb, leb-true}
use Rattle.std.proofs.Math.Decide.{dec_lt}
use Rattle.std.proofs.lemmas.Bool.{lt-leb, not-false}
use Rattle.sets.specs.Sets.{has, empty, full, lowest}
use Rattle.sets.specs.Truth.{and_left, and_right, and_intro}
use Rattle.sets.specs.Laws.{has_minus, has_full}
use Rattle.rules.specs.Graph.{Graph, graph_lines, graph_verdict}
use Rattle.moves.specs.declared.Marking.{Marking}
use Rattle.moves.specs.declared.Rank.{Rank}
use Rattle.moves.specs.declared.Entry.{Entry}
use Rattle.moves.specs.declared.Refusal.{Refusal}
use Rattle.moves.specs.declared.Refusal.TheVariants.{Outside, NoRank}
use Rattle.moves.specs.First.{Verdict}
use Rattle.moves.specs.First.{Line, first, number_of}
use Rattle.moves.specs.Move.{rank_of, marking_fits}
use Rattle.rules.specs.Answers.{marking_lines, entry_lines, move_lines, the_move, entry_asked, after_entry}
use Rattle.moves.specs.Given.{first_clear, first_refused, first_below, numbers_below, ascends, clear_head, clear_tail, first_above}
use Rattle.moves.specs.Given.{clear_front, clear_back}
use Rattle.rules.specs.Entries.{clear_moved, moved_clear, moved_after}
use Rattle.tracker.specs.declared.Track.{Track}
use Rattle.tracker.specs.Tracker.{is_rank, pending, above, pool, meets, served, begin, rest, track_after, start_lines, rank_lines}
use Rattle.tracker.specs.Tracker.{idle_lines, step_lines, Tracked, tracked_of, the_start, the_idle, the_step}
use Rattle.tracker.specs.declared.Unmoved.{Unmoved}

-- ---- what is against graph and marking

pub sound_outside : (g : Graph) (m : Marking) → graph_verdict g ≡ Ok tt → marking_fits g.steps m ≡ false
    → first (start_lines g m) ≡ Err Outside
unfolding first
sound_outside g m e f =
    first_clear (graph_lines g) (marking_lines g m) e ∙ ap (λ (b : Bool). cond (not b) (Err Outside) (Ok tt)) f

pub sound_inside : (g : Graph) (m : Marking) → graph_verdict g ≡ Ok tt → marking_fits g.steps m ≡ true
    → first (start_lines g m) ≡ Ok tt
unfolding first
sound_inside g m e f =
    first_clear (graph_lines g) (marking_lines g m) e ∙ ap (λ (b : Bool). cond (not b) (Err Outside) (Ok tt)) f

-- where nothing is against the two, nothing is against the graph
pub clear_graph : (g : Graph) (m : Marking) → first (start_lines g m) ≡ Ok tt → graph_verdict g ≡ Ok tt
clear_graph g m e = clear_front (graph_lines g) (marking_lines g m) e

-- and the marking names only steps of the graph
pub clear_fits : (g : Graph) (m : Marking) → first (start_lines g m) ≡ Ok tt → marking_fits g.steps m ≡ true
clear_fits g m e = not-false (marking_fits g.steps m) (clear_head _ _ (clear_back (graph_lines g) (marking_lines g m) e))

-- a rank that there is lies within 1..n
pub rank_some : (n i : ℕ) → is_rank n i ≡ true → 1 ≤ i
rank_some n i e = leb-true 1 i (and_left (leb 1 i) (leb i n) e)

pub rank_most : (n i : ℕ) → is_rank n i ≡ true → i ≤ n
rank_most n i e = leb-true i n (and_right (leb 1 i) (leb i n) e)

-- ---- the answers, by what is found

-- 2, 4, 6 and 8 come before 11: no state is given back with them
sound_low : (g : Graph) (m : Marking) (r : Refusal) → first (start_lines g m) ≡ Err r → leb 11 (number_of r) ≡ false
unfolding numbers_below number_of
sound_low g m r e = lt-leb 11 (number_of r) (let h : number_of r < 9 = first_below 9 (start_lines g m) r refl e in omega arith)

refused_by : (g : Graph) (m : Marking) (more : List Line) (before next : Track) (r : Refusal) → first (start_lines g m) ≡ Err r
    → tracked_of (first (start_lines g m ++ more)) before next ≡ Err (Unmoved.Refused r)
unfolding tracked_of
refused_by g m more before next r e =
    ap (λ (v : Verdict). tracked_of v before next) (first_refused (start_lines g m) more r e)
    ∙ ap (λ (b : Bool). cond b (Err (Unmoved.Stays before r)) (Err (Unmoved.Refused r))) (sound_low g m r e)

rank_first : (g : Graph) (t : Track) (more : List Line) → first (start_lines g t.marking) ≡ Ok tt
    → first (start_lines g t.marking ++ rank_lines g t.rank ++ more) ≡ cond (not (is_rank g.steps t.rank.0))
    (Err NoRank) (first more)
unfolding first
rank_first g t more e = first_clear (start_lines g t.marking) (rank_lines g t.rank ++ more) e

unranked_by : (g : Graph) (t : Track) (more : List Line) (before next : Track) → first (start_lines g t.marking) ≡ Ok tt
    → is_rank g.steps t.rank.0 ≡ false
    → tracked_of (first (start_lines g t.marking ++ rank_lines g t.rank ++ more)) before next ≡ Err (Unmoved.Refused NoRank)
unfolding tracked_of number_of
unranked_by g t more before next e f =
    ap (λ (v : Verdict). tracked_of v before next)
    (rank_first g t more e ∙ ap (λ (b : Bool). cond (not b) (Err NoRank) (first more)) f)

pub start_refused : (g : Graph) (m : Marking) (r : Refusal) → first (start_lines g m) ≡ Err r → the_start g m ≡ Err (Unmoved.Refused r)
unfolding the_start
start_refused g m r e = refused_by g m [] (begin m) (begin m) r e

pub start_clear : (g : Graph) (m : Marking) → first (start_lines g m) ≡ Ok tt → the_start g m ≡ Ok (begin m)
unfolding the_start tracked_of
start_clear g m e = ap (λ (v : Verdict). tracked_of v (begin m) (begin m)) e

pub idle_refused : (g : Graph) (t : Track) (r : Refusal) → first (start_lines g t.marking) ≡ Err r
    → the_idle g t ≡ Err (Unmoved.Refused r)
unfolding the_idle
idle_refused g t r e = refused_by g t.marking (rank_lines g t.rank) t (rest t) r e

pub idle_unranked : (g : Graph) (t : Track) → first (start_lines g t.marking) ≡ Ok tt → is_rank g.steps t.rank.0 ≡ false
    → the_idle g t ≡ Err (Unmoved.Refused NoRank)
unfolding the_idle
idle_unranked g t e f = unranked_by g t [] t (rest t) e f

pub idle_clear : (g : Graph) (t : Track) → first (start_lines g t.marking) ≡ Ok tt → is_rank g.steps t.rank.0 ≡ true
    → the_idle g t ≡ Ok (rest t)
unfolding the_idle tracked_of first
idle_clear g t e f =
    ap (λ (v : Verdict). tracked_of v t (rest t))
    (rank_first g t [] e ∙ ap (λ (b : Bool). cond (not b) (Err NoRank) (Ok tt)) f)

pub step_refused : (g : Graph) (t : Track) (e : Entry) (r : Refusal) → first (start_lines g t.marking) ≡ Err r
    → the_step g t e ≡ Err (Unmoved.Refused r)
unfolding the_step
step_refused g t e r q = refused_by g t.marking (rank_lines g t.rank ++ entry_lines g t.marking e) t _ r q

pub step_unranked : (g : Graph) (t : Track) (e : Entry) → first (start_lines g t.marking) ≡ Ok tt
    → is_rank g.steps t.rank.0 ≡ false → the_step g t e ≡ Err (Unmoved.Refused NoRank)
unfolding the_step
step_unranked g t e q f = unranked_by g t (entry_lines g t.marking e) t _ q f

-- what becomes of the tracker's state, by what is asked of the entry, which leads to `next`
unfoldable pub entered : Verdict → Track → Marking → ℕ → Tracked
entered (Ok _) t next s = Ok (track_after t next s)
entered (Err r) t next s = Err (Unmoved.Stays t r)

pub step_entered : (g : Graph) (t : Track) (e : Entry) → first (start_lines g t.marking) ≡ Ok tt
    → is_rank g.steps t.rank.0 ≡ true
    → the_step g t e ≡ entered (entry_asked g t.marking e) t (after_entry g t.marking e) e.step.0
unfolding the_step tracked_of first entry_asked entered ascends number_of
step_entered g t e q f =
    ap (λ (v : Verdict). tracked_of v t (track_after t next e.step.0))
    (rank_first g t (entry_lines g t.marking e) q
    ∙ ap (λ (b : Bool). cond (not b) (Err NoRank) (first (entry_lines g t.marking e))) f)
    ∙ go (first (entry_lines g t.marking e)) refl
  where
    next : Marking
    next = after_entry g t.marking e

    go : (v : Verdict) → first (entry_lines g t.marking e) ≡ v
        → tracked_of v t (track_after t next e.step.0) ≡ entered v t next e.step.0
    go (Ok _) p = refl
    go (Err r) p =
        ap (λ (b : Bool). cond b (Err (Unmoved.Stays t r)) (Err (Unmoved.Refused r)))
        (le-leb 11 (number_of r) (let h : 10 < number_of r = first_above 10 (entry_lines g t.marking e) r refl p in omega arith))

-- ---- H and x

-- H: s is in it exactly if it is in P and its rank is above i
pub above_members : (i p s : ℕ) → has (above i p) s ≡ (has p s && ltb i (rank_of s))
above_members i p s = has_minus p (full i) s ∙ ap (λ (b : Bool). has p s && not b) (has_full i s)
    ∙ ap (λ (b : Bool). has p s && b) (turn (dec_lt s i))
  where
    turn : Dec (s < i) → not (ltb s i) ≡ ltb i (s + 1)
    turn (yes h) = simp (lt-ltb s i h, le-ltb i (s + 1) (omega arith))
    turn (no h) = simp (le-ltb s i (omega arith), lt-ltb i (s + 1) (omega arith))

-- ---- the rule, by its cases

and_false_right : (a b : Bool) → b ≡ false → (a && b) ≡ false
and_false_right true b e = e
and_false_right false b e = refl

served_of : (i p p'' e ahead x : ℕ) → ahead ≡ pool i p → x ≡ lowest 64 ahead → (not (empty ahead) && meets x e p'') ≡ served i p p'' e
served_of i p p'' e ahead x pa px = simp (px, pa)

-- there is an x, and it is met
pub after_met : (t : Track) (next : Marking) (e ahead x : ℕ) (i : Rank) → ahead ≡ pool t.rank.0 (pending t.marking) → (ahead ≡ 0 → ⊥)
    → x ≡ lowest 64 ahead
    → meets x e (pending next) ≡ true → i.0 ≡ rank_of x
    → ◌≡◌ {A = Track} (record { marking = next; rank = i; flag = true }) (track_after t next e)
unfolding track_after
after_met t next e ahead x i pa some px met pi =
    let here : served t.rank.0 (pending t.marking) (pending next) e ≡ true =
    sym (served_of t.rank.0 (pending t.marking) (pending next) e ahead x pa px) ∙ and_intro (ap not (ne_eqb ahead 0 some)) met in
    let same : x ≡ lowest 64 (pool t.rank.0 (pending t.marking)) = px ∙ ap (lowest 64) pa in
    let rank : i ≡ record { 0 = rank_of (lowest 64 (pool t.rank.0 (pending t.marking))) } = λ k.
    record { 0 = (pi ∙ ap (λ (y : ℕ). y + 1) same) k } in
    simp (here, rank)

-- there is an x, and it is not met
pub after_unmet : (t : Track) (next : Marking) (e ahead x : ℕ) → ahead ≡ pool t.rank.0 (pending t.marking) → x ≡ lowest 64 ahead
    → meets x e (pending next) ≡ false
    → ◌≡◌ {A = Track} (record { marking = next; rank = t.rank; flag = empty (pending next) }) (track_after t next e)
unfolding track_after
after_unmet t next e ahead x pa px unmet =
    let here : served t.rank.0 (pending t.marking) (pending next) e ≡ false =
    sym (served_of t.rank.0 (pending t.marking) (pending next) e ahead x pa px)
    ∙ and_false_right (not (empty ahead)) (meets x e (pending next)) unmet in
    simp here

-- the rank after, as a number
pub rank_is : (t : Track) (next : Marking) (e : ℕ)
    → (track_after t next e).rank.0 ≡ cond (served t.rank.0 (pending t.marking) (pending next) e)
    (lowest 64 (pool t.rank.0 (pending t.marking)) + 1) t.rank.0
unfolding track_after
rank_is t next e = either (served t.rank.0 (pending t.marking) (pending next) e)
    (lowest 64 (pool t.rank.0 (pending t.marking)))
  where
    either : (b : Bool) (x : ℕ) → (cond b (record { 0 = rank_of x }) t.rank).0 ≡ cond b (x + 1) t.rank.0
    either true x = refl
    either false x = refl

-- ---- what an answer with a state says

tracked_at : (v : Verdict) (before next u : Track) → tracked_of v before next ≡ Ok u → (v ≡ Ok tt) × (next ≡ u)
unfolding tracked_of
tracked_at (Ok _) before next u e = (refl, cc)
tracked_at (Err r) before next u e = absurd (never (leb 11 (number_of r)) e)
  where
    never : (b : Bool) → cond b (Err (Unmoved.Stays before r)) (Err (Unmoved.Refused r)) ≡ Ok u → ⊥
    never true e = let z : ◌≡◌ {A = ℕ} 0 1 = cc in let w : ⊥ = omega arith in w
    never false e = let z : ◌≡◌ {A = ℕ} 0 1 = cc in let w : ⊥ = omega arith in w

pub start_at : (g : Graph) (m : Marking) (u : Track) → the_start g m ≡ Ok u → (first (start_lines g m) ≡ Ok tt)
    × (begin m ≡ u)
unfolding the_start
start_at g m u e = tracked_at (first (start_lines g m)) (begin m) (begin m) u e

pub record Idled (g : Graph) (t u : Track) : Type 0 where
  pub sound : first (start_lines g t.marking) ≡ Ok tt
  pub ranked : is_rank g.steps t.rank.0 ≡ true
  pub result : rest t ≡ u

pub idle_at : (g : Graph) (t u : Track) → the_idle g t ≡ Ok u → Idled g t u
unfolding the_idle
idle_at g t u e =
    let at = tracked_at (first (idle_lines g t)) t (rest t) u e in
    record {
      sound = clear_front (start_lines g t.marking) (rank_lines g t.rank) at.0;
      ranked = not-false (is_rank g.steps t.rank.0)
          (clear_head _ _ (clear_back (start_lines g t.marking) (rank_lines g t.rank) at.0));
      result = at.1;
    }

-- the tracker moves exactly if the rank is one and the step is taken
pub record Stepped (g : Graph) (t : Track) (e : Entry) (u : Track) : Type 0 where
  pub ranked : is_rank g.steps t.rank.0 ≡ true
  pub moved : the_move g t.marking e ≡ Ok u.marking
  pub result : track_after t u.marking e.step.0 ≡ u

pub step_at_lem : (g : Graph) (t : Track) (e : Entry) (u : Track) → the_step g t e ≡ Ok u → Stepped g t e u
unfolding the_step track_after
step_at_lem g t e u q =
    let m = t.marking in
    let next : Marking = after_entry g m e in
    let at = tracked_at (first (step_lines g t e)) t (track_after t next e.step.0) u q in
    let sound : first (start_lines g m) ≡ (Ok tt) = clear_front (start_lines g m) (rank_lines g t.rank ++ entry_lines g m e) at.0 in
    let back : first (rank_lines g t.rank ++ entry_lines g m e) ≡ (Ok tt) =
    clear_back (start_lines g m) (rank_lines g t.rank ++ entry_lines g m e) at.0 in
    let clear : first (move_lines g m e) ≡ (Ok tt) = first_clear (start_lines g m) (entry_lines g m e) sound ∙ clear_tail _ _ back in
    let same : next ≡ u.marking = ap (λ (v : Track). v.marking) at.1 in
    record {
      ranked = not-false (is_rank g.steps t.rank.0) (clear_head _ _ back);
      moved = clear_moved g m e clear ∙ ap Ok same;
      result = ap (λ (n : Marking). track_after t n e.step.0) (sym same) ∙ at.1;
    }

pub at_step : (g : Graph) (t : Track) (e : Entry) (u : Track) → Stepped g t e u → the_step g t e ≡ Ok u
unfolding the_step tracked_of first
at_step g t e u s =
    let m = t.marking in
    let next : Marking = after_entry g m e in
    let all : first (start_lines g m ++ entry_lines g m e) ≡ (Ok tt) = moved_clear g m u.marking e s.moved in
    let clear : first (step_lines g t e) ≡ (Ok tt) =
    rank_first g t (entry_lines g m e) (clear_front (start_lines g m) (entry_lines g m e) all)
    ∙ ap₂ (λ (b : Bool) (v : Verdict). cond (not b) (Err NoRank) v) s.ranked
    (clear_back (start_lines g m) (entry_lines g m e) all) in
    ap (λ (v : Verdict). tracked_of v t (track_after t next e.step.0)) clear
    ∙ ap Ok (ap (λ (n : Marking). track_after t n e.step.0) (moved_after g m u.marking e s.moved) ∙ s.result)
