-- The rule that the tracker follows and the paper's Definition 7 are the same: from each state, each answers what the other says. Assumes
-- nothing.
use Rattle.std.specs.Prelude.{ℕ, ◌+◌, ◌^◌, ◌<◌, ◌≤◌, ◌≡◌, ◌↔◌, Bool, false, ◌&&◌, cond, eqb, ltb}
use Rattle.std.proofs.Math.Path.{refl, ap, ap₂}
use Rattle.std.proofs.Common.{sym, ◌∙◌, true≢false, arith, lt-ltb, le-ltb, le-leb, eq-eqb, eqb-true}
use Rattle.std.proofs.Math.Bool.{true, not, ◌||◌}
use Rattle.std.proofs.Math.Option.{Option, some}
use Rattle.std.proofs.Math.Decide.{dec_lt}
use Rattle.std.proofs.lemmas.Nat.{and_comm}
use Rattle.std.proofs.lemmas.Bool.{eqb-false}
use Rattle.sets.specs.Sets.{has, single, union, meet, minus, empty, full, lowest, those}
use Rattle.sets.specs.Truth.{and_left, and_intro, same_truth}
use Rattle.sets.specs.Laws.{ext, has_minus, has_union, has_single, has_above, meet_lt, minus_lt, lowest_has, lowest_wider, has_those}
use Rattle.rules.specs.Graph.{Graph, graph_verdict}
use Rattle.moves.specs.declared.Marking.{Marking}
use Rattle.moves.specs.declared.Entry.{Entry}
use Rattle.moves.specs.First.{first}
use Rattle.moves.specs.Move.{is_finished, rank_of}
use Rattle.rules.specs.Laws.{clear_counts}
use Rattle.moves.specs.Inside.{Inside, inside_fits}
use Rattle.rules.specs.Entries.{moved_after}
use Rattle.tracker.specs.declared.Track.{Track}
use Rattle.tracker.specs.Tracker.{is_rank, begin, rest, pending, above, pool, meets, served, track_after}
use Rattle.tracker.specs.Tracker.{start_lines, the_start, the_idle, the_step}
use Rattle.automaton.specs.Paper.{State, Initial, Tau, Transition, min, ◌∈?◌, rank_of_min, j', i'}
use Rattle.tracker.specs.Laws.{above_members, sound_inside, start_clear, idle_clear, idle_at, Stepped, step_at_lem, at_step, rank_is}
use Rattle.automaton.specs.States.{start_is}
use Rattle.std.specs.Prelude.{Ok}

-- ---- H is Mᵣ

-- a set of steps below n has no other member
pub those_above : (n i p : ℕ) → p < 2 ^ n → those n (λ e. has p e && ltb i (rank_of e)) ≡ above i p
those_above n i p h = ext _ _ (λ s. has_those n (λ e. has p e && ltb i (rank_of e)) s ∙ inside s (dec_lt s n) ∙ sym (above_members i p s))
  where
    inside : (s : ℕ) → Dec (s < n) → (ltb s n && (has p s && ltb i (rank_of s))) ≡ (has p s && ltb i (rank_of s))
    inside s (yes l) = simp (lt-ltb s n l)
    inside s (no l) = simp (le-ltb s n (omega arith), has_above n p s h (omega arith))

-- ---- the lowest of a set of due and included steps is gone exactly if it is e or no longer among them

or_comm : (a b : Bool) → (a || b) ≡ (b || a)
or_comm true true = refl
or_comm true false = refl
or_comm false true = refl
or_comm false false = refl

eqb_comm : (a b : ℕ) → eqb a b ≡ eqb b a
eqb_comm a b = same_truth (eqb a b) (eqb b a) (λ h. eq-eqb b a (sym (eqb-true a b h))) (λ h. eq-eqb a b (sym (eqb-true b a h)))

module _ (n p q e x : ℕ) (most : n ≤ 64) (small : x < 2 ^ n) (some-x : empty x ≡ false)
    (part : (s : ℕ) → has x s ≡ true → has p s ≡ true) where
  same_lowest : lowest 64 x ≡ lowest n x
  same_lowest = lowest_wider n 64 x most small (eqb-false x 0 some-x)

  min_is : min n x ≡ some (lowest 64 x)
  min_is = simp (some-x, same_lowest)

  lowest_in : has p (lowest 64 x) ≡ true
  lowest_in = part (lowest 64 x) (ap (has x) same_lowest ∙ lowest_has n x small (eqb-false x 0 some-x))

  min_gone : (min n x ∈? union (minus p q) (single e)) ≡ meets (lowest 64 x) e q
  unfolding ◌∈?◌
  min_gone =
      ap (λ (o : Option ℕ). o ∈? union (minus p q) (single e)) min_is
      ∙ has_union (minus p q) (single e) (lowest 64 x)
      ∙ ap₂ ◌||◌ (has_minus p q (lowest 64 x) ∙ ap (λ (b : Bool). b && not (has q (lowest 64 x))) lowest_in)
      (has_single e (lowest 64 x) ∙ eqb_comm e (lowest 64 x))
      ∙ or_comm (not (has q (lowest 64 x))) (eqb (lowest 64 x) e)

  min_rank : rank_of_min (min n x) ≡ lowest 64 x + 1
  unfolding rank_of_min
  min_rank = ap rank_of_min min_is

-- ---- the rule, over the due and included steps p before and q after

-- the flag and the rank by the rule, and by the paper's items (a), (b), (c)
abbrev Agree : Bool → Bool → Bool → Bool → ℕ → ℕ → ℕ → ℕ → Type 0
Agree met a b c x high low i = (cond met true a ≡ (a || b || c)) × (cond met x i ≡ cond b high (cond c low i))

-- where (c) does not hold, x is met exactly if (b) holds
agree_b : (met a b c : Bool) (x high low i : ℕ) → b ≡ met → c ≡ false → high ≡ x → Agree met a b c x high low i
agree_b true true b c x high low i eb ec er = simp (eb, ec, er) (refl, refl)
agree_b true false b c x high low i eb ec er = simp (eb, ec, er) (refl, refl)
agree_b false true b c x high low i eb ec er = simp (eb, ec) (refl, refl)
agree_b false false b c x high low i eb ec er = simp (eb, ec) (refl, refl)

-- where (b) does not hold, x is met exactly if (c) holds
agree_c : (met a b c : Bool) (x high low i : ℕ) → b ≡ false → c ≡ met → (met ≡ true → low ≡ x) → Agree met a b c x high low i
agree_c true true b c x high low i eb ec er = simp (eb, ec, er refl) (refl, refl)
agree_c true false b c x high low i eb ec er = simp (eb, ec, er refl) (refl, refl)
agree_c false true b c x high low i eb ec er = simp (eb, ec) (refl, refl)
agree_c false false b c x high low i eb ec er = simp (eb, ec) (refl, refl)

-- (In' ∩ Re' \ (In'' ∩ Re'')) ∪ {e}
abbrev left : ℕ → ℕ → ℕ → ℕ
left e p q = union (minus p q) (single e)

-- j' and i', where h is Mᵣ
abbrev flagged : ℕ → ℕ → ℕ → ℕ → ℕ → Bool
flagged n e p q h = empty q || (min n h ∈? left e p q) || (empty h && (min n p ∈? left e p q))

abbrev ranked : ℕ → ℕ → ℕ → ℕ → ℕ → ℕ → ℕ
ranked n i e p q h = cond (min n h ∈? left e p q) (rank_of_min (min n h)) (cond (empty h && (min n p ∈? left e p q)) (rank_of_min (min n p)) i)

module _ (n i e p q : ℕ) (most : n ≤ 64) (small : p < 2 ^ n) where
  abbrev Same : Type 0
  Same = (cond (served i p q e) true (empty q) ≡ flagged n e p q (above i p))
      × (cond (served i p q e) (lowest 64 (pool i p) + 1) i ≡ ranked n i e p q (above i p))

  by_b : (min n (above i p) ∈? left e p q) ≡ served i p q e → (empty (above i p) && (min n p ∈? left e p q)) ≡ false
      → rank_of_min (min n (above i p)) ≡ lowest 64 (pool i p) + 1 → Same
  by_b = agree_b _ _ _ _ _ _ _ _

  by_c : (min n (above i p) ∈? left e p q) ≡ false → (empty (above i p) && (min n p ∈? left e p q)) ≡ served i p q e
      → (served i p q e ≡ true → rank_of_min (min n p) ≡ lowest 64 (pool i p) + 1) → Same
  by_c = agree_c _ _ _ _ _ _ _ _

  agree : Same
  unfolding ◌∈?◌
  agree = go (empty (above i p)) refl (empty p) refl
    where
      part : (s : ℕ) → has (above i p) s ≡ true → has p s ≡ true
      part s k = and_left (has p s) (ltb i (rank_of s)) (sym (above_members i p s) ∙ k)

      less : above i p < 2 ^ n
      less = minus_lt n p (full i) small

      go : (h : Bool) → empty (above i p) ≡ h → (k : Bool) → empty p ≡ k → Same
      go false eh k ek = by_b (min_gone n p q e (above i p) most less eh part ∙ simp eh) (simp eh)
          (min_rank n p q e (above i p) most less eh part ∙ simp eh)
      go true eh false ek =
          by_c (simp eh)
          (ap (λ (b : Bool). b && (min n p ∈? left e p q)) eh ∙ min_gone n p q e p most small ek (λ s k. k) ∙ simp (eh, ek))
          (λ m. min_rank n p q e p most small ek (λ s k. k) ∙ simp eh)
      go true eh true ek = by_c (simp eh) (simp (eh, ek)) (λ m. absurd (true≢false (sym m ∙ simp (eh, ek))))

-- ---- the rule, over markings

-- {e ∈ p | rank(e) > i}
abbrev higher : ℕ → ℕ → ℕ → ℕ
higher n i p = those n (λ e. has p e && ltb i (rank_of e))

module _ (n : ℕ) (t : Track) (next : Marking) (e : ℕ) (most : n ≤ 64) (small : pending t.marking < 2 ^ n) where
  abbrev i : ℕ
  i = t.rank.0

  abbrev p : ℕ
  p = pending t.marking

  abbrev q : ℕ
  q = pending next

  flag_same : (track_after t next e).flag ≡ j' n t.marking next i e
  unfolding track_after
  flag_same =
      (agree n i e p q most small).0
      ∙ ap (flagged n e p q) (sym (those_above n i p small))
      ∙ ap₂ (λ (x y : ℕ). flagged n e x y (higher n i x)) (and_comm t.marking.due t.marking.included)
      (and_comm next.due next.included)

  rank_same : (track_after t next e).rank.0 ≡ i' n t.marking next i e
  rank_same =
      rank_is t next e
      ∙ (agree n i e p q most small).1
      ∙ ap (ranked n i e p q) (sym (those_above n i p small))
      ∙ ap₂ (λ (x y : ℕ). ranked n i e x y (higher n i x)) (and_comm t.marking.due t.marking.included)
      (and_comm next.due next.included)

-- ---- the two are the same

finished_same : (m : Marking) → is_finished m ≡ empty (meet m.included m.due)
finished_same m = ap empty (and_comm m.due m.included)

-- where a graph and a marking of it are as they should be
sound_of : (g : Graph) (m : Marking) → graph_verdict g ≡ Ok tt → Inside g.steps m → first (start_lines g m) ≡ Ok tt
sound_of g m clear within = sound_inside g m clear (inside_fits g.steps m within)

ranked_of : (n : ℕ) (t : Track) → State n t → is_rank n t.rank.0 ≡ true
ranked_of n t s = and_intro (le-leb 1 t.rank.0 s.rank_some) (le-leb t.rank.0 n s.rank_most)

-- the start, of each graph and each marking of it
pub same_start : (g : Graph) (m : Marking) (s : Track) → graph_verdict g ≡ Ok tt → Inside g.steps m
    → (the_start g m ≡ Ok s) ↔ Initial m s
same_start g m s clear within = (to, from)
  where
    to : the_start g m ≡ Ok s → Initial m s
    to e = let is = start_is g m s e in record { marking_is = is.0; rank_is = is.1; flag_is = is.2 ∙ finished_same m }

    from : Initial m s → the_start g m ≡ Ok s
    from r =
        let same : begin m ≡ s = λ k.
        record {
          marking = sym r.marking_is k;
          rank = record { 0 = sym r.rank_is k };
          flag =
              (finished_same m ∙ sym r.flag_is) k;
        } in
        start_clear g m (sound_of g m clear within) ∙ ap Ok same

-- the idle move, from each state
pub same_idle : (g : Graph) (t u : Track) → graph_verdict g ≡ Ok tt → State g.steps t → (the_idle g t ≡ Ok u) ↔ Tau t u
same_idle g t u clear state = (to, from)
  where
    to : the_idle g t ≡ Ok u → Tau t u
    to e =
        let same : rest t ≡ u = (idle_at g t u e).result in
        record {
          marking_is = ap (λ (v : Track). v.marking) (sym same);
          rank_is = ap (λ (v : Track). v.rank.0) (sym same);
          a = ap (λ (v : Track). v.flag) (sym same) ∙ finished_same t.marking;
        }

    from : Tau t u → the_idle g t ≡ Ok u
    from r =
        let same : rest t ≡ u =
        λ k. record {
          marking = sym r.marking_is k;
          rank = record { 0 = sym r.rank_is k };
          flag =
              (finished_same t.marking ∙ sym r.a) k;
        } in
        idle_clear g t (sound_of g t.marking clear state.marking_in_lem) (ranked_of g.steps t state) ∙ ap Ok same

-- each step, from each state
pub same_step : (g : Graph) (t : Track) (e : Entry) (u : Track) → graph_verdict g ≡ Ok tt → State g.steps t
    → (the_step g t e ≡ Ok u) ↔ Transition g e t u
unfolding track_after
same_step g t e u clear state = (to, from)
  where
    n : ℕ
    n = g.steps

    most : n ≤ 64
    most = (clear_counts g clear).steps_most

    small : pending t.marking < 2 ^ n
    small = meet_lt n t.marking.due t.marking.included state.marking_in_lem.due_in

    to : the_step g t e ≡ Ok u → Transition g e t u
    to q =
        let s : Stepped g t e u = step_at_lem g t e u q in
        record {
          i = ap (λ (m : Marking). m.done) (sym (moved_after g t.marking u.marking e s.moved));
          ii = s.moved;
          iii = ap (λ (v : Track). v.flag) (sym s.result) ∙ flag_same n t u.marking e.step.0 most small;
          iv_v_vi = ap (λ (v : Track). v.rank.0) (sym s.result) ∙ rank_same n t u.marking e.step.0 most small;
        }

    from : Transition g e t u → the_step g t e ≡ Ok u
    from r =
        at_step g t e u
        (record {
          ranked = ranked_of n t state;
          moved = r.ii;
          result = λ k. record {
            marking = u.marking;
            rank = record { 0 = (rank_same n t u.marking e.step.0 most small ∙ sym r.iv_v_vi) k };
            flag = (flag_same n t u.marking e.step.0 most small ∙ sym r.iii) k;
          };
        })
