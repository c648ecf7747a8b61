-- What the dead-end report says, in the words of the request: each answer exactly when, over journals as they are lent and run. No code rests
-- on these. A marking that is finished is found at a place; the first such place has the fewest entries. Assumes nothing.
use Prim.Native.Nat.{ℕ, zero, suc, ◌+◌, ◌*◌, ◌%◌, ◌≤◌, ◌<◌, zero-le}
use Rattle.std.specs.Prelude.{◌≡◌, ◌↔◌, List, [], ◌∷◌, ◌++◌, Bool, true, false, not, cond, get_or, ltb, leb, Result, Ok}
use Rattle.std.proofs.Math.Path.{refl, ap, subst}
use Rattle.std.proofs.Common.{sym, ◌∙◌, true≢false, ltb-true, ltb-false, leb-true, leb-false, eq-eqb, le-leb}
use native.Mathlib.Omega.{arith}
use Rattle.std.proofs.Math.Decide.{dec_lt}
use Rattle.std.proofs.Math.ListN.{length}
use Rattle.std.proofs.lemmas.Bool.{not-false}
use Rattle.sets.specs.Truth.{and_intro}
use Rattle.numbers.specs.Numbers.{Bytes}
use Rattle.moves.specs.declared.Marking.{Marking}
use Rattle.moves.specs.declared.Entry.{Entry}
use Rattle.moves.specs.declared.Refusal.{Refusal}
use Rattle.moves.specs.declared.Refusal.TheVariants.{Store}
use Rattle.moves.specs.First.{first}
use Rattle.moves.specs.Move.{is_finished, no_marking, marking_fits}
use Rattle.moves.specs.Given.{clear_head, clear_tail, clear_front, clear_back}
use Rattle.tables.specs.Laws.{Counted}
use Rattle.rules.specs.Graph.{Graph, graph_lines, graph_verdict}
use Rattle.rules.specs.Answers.{marking_lines, the_move}
use Rattle.rules.specs.Asking.{asked_taken, allowed_known}
use Rattle.rules.specs.Entries.{Named, known_named}
use Rattle.rules.specs.Laws.{clear_counts}
use Rattle.journal.specs.Journal.{entries, length_fits}
use Rattle.journal.specs.Run.{run_from}
use Rattle.journal.specs.Laws.{run_clear}
use Rattle.runs.specs.Runs.{Passes, passes_run, ended_passes}
use Rattle.store.specs.Store.{room, store_fits}
use Rattle.store.specs.Lists.{In}
use Rattle.deadend.specs.declared.Ends.{Ends}
use Rattle.deadend.specs.DeadEnd.{found, at, nearer, depth, search_from, search, ends_lines, the_ends}
use Rattle.deadend.specs.Order.{Level, found_length, place_kept, stuck, alive, nearer_mono, depth_level, depth_small}
use Rattle.deadend.specs.Answers.{Roomy, fits_roomy, ends_search}
use Rattle.endings.specs.Reached.{Within, sound, complete}
use Rattle.endings.specs.Words.{JournalEnds, FewestEntries, Unfinished, Overflows}
use Rattle.journal.specs.Ran.{ended}

-- an answer is no other answer
differ : {A : Type 0} → ◌≡◌ {A = ℕ} 0 1 → A
differ z = absurd (let w : ⊥ = omega arith in w)

module _ (g : Graph) (m : Marking) where
  -- ---- what the search comes to

  pub data Outcome (c : ℕ) (a : Ends) : Type 0 where
    never : (n : ℕ) → a ≡ Ends.None n → length (found g m n) ≡ n → n ≤ c → Unfinished g m n → Outcome c a
    reach : (n : ℕ) → a ≡ Ends.Reachable (depth g m n) (n + 1) → n < length (found g m n) → length (found g m n) ≤ c → Unfinished g m n
        → is_finished (at g m n) ≡ true → Outcome c a
    full : (n : ℕ) → a ≡ Ends.Undecided (n + 1) → n < length (found g m n) → length (found g m n) ≤ c → Unfinished g m (suc n)
        → c < length (found g m (suc n)) → Outcome c a

  unfinished_more : (i : ℕ) → Unfinished g m i → is_finished (at g m i) ≡ false → Unfinished g m (suc i)
  unfinished_more i before here j h = go (dec_lt j i)
    where
      go : Dec (j < i) → is_finished (at g m j) ≡ false
      go (yes k) = before j k
      go (no k) = ap (λ (x : ℕ). is_finished (at g m x)) (let z : j ≡ i = omega arith in z) ∙ here

  outcome_from : (c k i : ℕ) → k + i ≡ suc c → i ≤ length (found g m i) → length (found g m i) ≤ c → Unfinished g m i
      → Outcome c (search_from k c g m i)
  unfolding search_from
  outcome_from c zero i e l h u = absurd (let w : ⊥ = omega arith in w)
  outcome_from c (suc k) i e l h u =
      one (leb (length (found g m i)) i) refl (outcome_from c k (suc i) (let z : k + suc i ≡ suc c = omega arith in z))
    where
      More : Type 0
      More = suc i ≤ length (found g m (suc i)) → length (found g m (suc i)) ≤ c → Unfinished g m (suc i) → Outcome c (search_from k c g m (suc i))

      three : (b : Bool) → ltb c (length (found g m (suc i))) ≡ b → i < length (found g m i) → is_finished (at g m i) ≡ false → More
          → Outcome c (cond b (Ends.Undecided (i + 1)) (search_from k c g m (suc i)))
      three true q l2 f rest = full i refl l2 h (unfinished_more i u f) (ltb-true c (length (found g m (suc i))) q)
      three false q l2 f rest =
          let a : length (found g m i) ≤ length (found g m (suc i)) = found_length g m i (suc i) (omega arith) in
          rest (let z : suc i ≤ length (found g m (suc i)) = omega arith in z) (ltb-false c (length (found g m (suc i))) q)
          (unfinished_more i u f)

      two : (b : Bool) → is_finished (at g m i) ≡ b → i < length (found g m i) → More
          → Outcome c (cond b (Ends.Reachable (depth g m i) (i + 1))
          (cond (ltb c (length (found g m (suc i)))) (Ends.Undecided (i + 1)) (search_from k c g m (suc i))))
      two true q l2 rest = reach i refl l2 h u q
      two false q l2 rest = three (ltb c (length (found g m (suc i)))) refl l2 q rest

      one : (b : Bool) → leb (length (found g m i)) i ≡ b → More
          → Outcome c (cond b (Ends.None i) (cond (is_finished (at g m i)) (Ends.Reachable (depth g m i) (i + 1))
          (cond (ltb c (length (found g m (suc i)))) (Ends.Undecided (i + 1)) (search_from k c g m (suc i)))))
      one true q rest =
          let a : length (found g m i) ≤ i = leb-true (length (found g m i)) i q in
          never i refl (let z : length (found g m i) ≡ i = omega arith in z) (let z : i ≤ c = omega arith in z) u
      one false q rest = two (is_finished (at g m i)) refl (leb-false (length (found g m i)) i q) rest

  pub outcome : (c : ℕ) → 1 ≤ c → Outcome c (search c g m)
  unfolding search found
  outcome c h = outcome_from c (suc c) 0 (let z : suc c + 0 ≡ suc c = omega arith in z) zero-le h (λ j l. absurd (let w : ⊥ = omega arith in w))

  -- ---- entries that end the job, and the place of the marking where they do

  record CanEnd (n : ℕ) : Type 0 where
    way : List Entry
    last : Marking
    passes : Passes g m way last
    count : length way ≡ n
    finished : is_finished last ≡ true

  record Place (n : ℕ) : Type 0 where
    place : ℕ
    low : place < nearer g m (suc n)
    turn : place < length (found g m place)
    ended : is_finished (at g m place) ≡ true

  ends_place : (n : ℕ) → CanEnd n → Place n
  unfolding nearer
  ends_place n e =
      let i : In e.last (found g m (nearer g m n)) =
      subst (λ (k : ℕ). In e.last (found g m (nearer g m k))) e.count (complete g m e.last e.way e.passes) in
      let t : i.place < length (found g m i.place) = alive g m i.place (nearer g m n) i.low in
      record {
        place = i.place;
        low = i.low;
        turn = t;
        ended = ap is_finished (place_kept g m i.place (nearer g m n) i.place t i.low ∙ i.here) ∙ e.finished;
      }

  both : {A : Type 0} (b : Bool) → b ≡ true → b ≡ false → A
  both b p q = absurd (true≢false (sym p ∙ q))

  never_none : (n k : ℕ) → length (found g m n) ≡ n → Unfinished g m n → CanEnd k → ⊥
  never_none n k e u c =
      let p = ends_place k c in
      both (is_finished (at g m p.place)) p.ended (u p.place (go p (dec_lt n p.place)))
    where
      go : (p : Place k) → Dec (n < p.place) → p.place < n
      go p (yes h) =
          let s : length (found g m p.place) ≡ length (found g m n) = ap length (stuck g m n p.place (omega arith) (omega arith)) in
          let t : p.place < length (found g m p.place) = p.turn in
          absurd (let w : ⊥ = omega arith in w)
      go p (no h) =
          let s : length (found g m p.place) ≤ length (found g m n) = found_length g m p.place n (omega arith) in
          let t : p.place < length (found g m p.place) = p.turn in
          omega arith

  none_less : (n d k : ℕ) → Level g m n d → Unfinished g m n → k < d → CanEnd k → ⊥
  none_less n d k l u h c =
      let p = ends_place k c in
      let a : p.place < nearer g m (suc k) = p.low in
      let b : nearer g m (suc k) ≤ nearer g m d = nearer_mono g m (suc k) d h in
      let f : nearer g m d ≤ n = l.far in
      both (is_finished (at g m p.place)) p.ended (u p.place (let z : p.place < n = omega arith in z))

  -- the first finished marking is reached by as many entries as its depth
  reach_can : (n : ℕ) → n < length (found g m n) → Unfinished g m n → is_finished (at g m n) ≡ true → CanEnd (depth g m n)
  unfolding nearer
  reach_can n l u f = exact (dec_lt (length w.way) d)
    where
      d : ℕ
      d = depth g m n

      v : Level g m n (depth g m n)
      v = depth_level g m n l

      w : Within g m (depth g m n) (get_or (found g m (nearer g m (depth g m n))) n no_marking)
      w = sound g m (depth g m n) n v.near

      here : CanEnd (length w.way)
      here =
          record {
            way = w.way;
            last = get_or (found g m (nearer g m (depth g m n))) n no_marking;
            passes = w.passes;
            count = refl;
            finished = ap is_finished (place_kept g m (nearer g m (depth g m n)) n n v.near l) ∙ f;
          }

      exact : Dec (length w.way < depth g m n) → CanEnd (depth g m n)
      exact (yes h) = absurd (none_less n (depth g m n) (length w.way) v u h here)
      exact (no h) =
          let k : length w.way ≤ depth g m n = w.few in
          subst CanEnd (let z : length w.way ≡ depth g m n = omega arith in z) here

-- ---- entries as a journal's bytes

unfoldable journal_of : List Entry → List ℕ
journal_of [] = []
journal_of (e ∷ es) = e.person ∷ e.step.0 ∷ e.role ∷ journal_of es

entries_journal : (es : List Entry) → entries (journal_of es) ≡ es
unfolding journal_of entries
entries_journal [] = refl
entries_journal (e ∷ es) = ap (λ (t : List Entry). e ∷ t) (entries_journal es)

length_journal : (es : List Entry) → length (journal_of es) ≡ 3 * length es
unfolding journal_of
length_journal [] = refl
length_journal (e ∷ es) = let r : length (journal_of es) ≡ 3 * length es = length_journal es in omega arith

taken_named : (g : Graph) (m z : Marking) (e : Entry) → the_move g m e ≡ Ok z → Named g e
taken_named g m z e q = known_named g e (allowed_known g m e ((asked_taken g m e).1 (z, q))).1

-- what passes names people, steps and roles, of which there are few
bytes_journal : (g : Graph) (m z : Marking) (es : List Entry) → Counted g.steps g.people g.roles g.actions → Passes g m es z
    → Bytes (journal_of es)
unfolding journal_of Passes
bytes_journal g m z [] c p i = omega arith
bytes_journal g m z (e ∷ es) c p zero = let n : Named g e = taken_named g m p.0 e p.1 in omega arith
bytes_journal g m z (e ∷ es) c p (suc zero) = let n : Named g e = taken_named g m p.0 e p.1 in omega arith
bytes_journal g m z (e ∷ es) c p (suc (suc zero)) = let n : Named g e = taken_named g m p.0 e p.1 in omega arith
bytes_journal g m z (e ∷ es) c p (suc (suc (suc i))) = bytes_journal g p.0 z es c p.2 i

-- ---- the answers, with nothing against graph, marking and store

module _ (g : Graph) (m : Marking) (store : List ℕ) (answered : first (ends_lines g m store) ≡ Ok tt) where
  behind_graph : first (marking_lines g m ++ ((Store, not (store_fits store)) ∷ [])) ≡ Ok tt
  behind_graph = clear_back (graph_lines g) (marking_lines g m ++ ((Store, not (store_fits store)) ∷ [])) answered

  pub clear : graph_verdict g ≡ Ok tt
  clear = clear_front (graph_lines g) (marking_lines g m ++ ((Store, not (store_fits store)) ∷ [])) answered

  pub within : marking_fits g.steps m ≡ true
  within = not-false (marking_fits g.steps m) (clear_head _ _ behind_graph)

  roomy : Roomy store
  roomy = fits_roomy store (not-false (store_fits store) (clear_head _ _ (clear_tail _ _ behind_graph)))

  abbrev c : ℕ
  c = room store

  same : the_ends g m store ≡ Ok (search c g m)
  same = ends_search g m store clear within (not-false (store_fits store) (clear_head _ _ (clear_tail _ _ behind_graph)))

  comes : Outcome g m c (search c g m)
  comes = outcome g m c roomy.some

  -- what is answered is what the search comes to
  searched : (a : Ends) → the_ends g m store ≡ Ok a → search c g m ≡ a
  searched a e = let p : ◌≡◌ {A = Result Ends Refusal} (Ok (search c g m)) (Ok a) = sym same ∙ e in cc

  answers : (a : Ends) → search c g m ≡ a → the_ends g m store ≡ Ok a
  answers a e = same ∙ ap Ok e

  -- journals and entries: what is reached within the store is short enough to be lent
  to_entries : (n : ℕ) → JournalEnds g m n → CanEnd g m n
  to_entries n j =
      let e = ended_passes g m j.last n j.journal j.allowed in
      record { way = entries j.journal; last = j.last; passes = e.2; count = sym e.1; finished = j.finished }

  to_bytes : (n : ℕ) → n ≤ 21845 → CanEnd g m n → JournalEnds g m n
  to_bytes n h e =
      let l : length (journal_of e.way) ≡ 3 * length e.way = length_journal e.way in
      let k : length e.way ≡ n = e.count in
      let fits : length_fits (journal_of e.way) ≡ true =
      and_intro (eq-eqb (length (journal_of e.way) % 3) 0 (omega arith)) (le-leb (length (journal_of e.way)) 65535 (omega arith)) in
      record {
        journal = journal_of e.way;
        last = e.last;
        lent = bytes_journal g m e.last e.way (clear_counts g clear) e.passes;
        allowed = run_clear g m (journal_of e.way) clear fits within ∙ ap (run_from g m 0) (entries_journal e.way)
            ∙ passes_run g m e.last 0 e.way e.passes ∙ ap (λ (x : ℕ). Ok (ended e.last x)) (let z : 0 + length e.way ≡ n = omega arith in z);
        finished = e.finished;
      }

  -- the first finished marking, if it has its turn
  module _ (n : ℕ) (l : n < length (found g m n)) (small : length (found g m n) ≤ c) (u : Unfinished g m n) (f : is_finished (at g m n) ≡ true) where
    reach_fewest : FewestEntries g m (depth g m n)
    reach_fewest =
        let d : depth g m n ≤ n = depth_small g m n l in
        let most : c ≤ 2048 = roomy.most in
        record {
          can = to_bytes (depth g m n) (let z : depth g m n ≤ 21845 = omega arith in z) (reach_can g m n l u f);
          none_less = λ k h j. none_less g m n (depth g m n) k (depth_level g m n l) u h (to_entries k j);
        }

    reach_fits : Overflows c g m → ⊥
    reach_fits o = go (dec_lt n (suc o.turn))
      where
        go : Dec (n < suc o.turn) → ⊥
        go (yes k) = both g m (is_finished (at g m n)) f (o.unended n k)
        go (no k) =
            let s : length (found g m (suc o.turn)) ≤ length (found g m n) = found_length g m (suc o.turn) n (omega arith) in
            let v : c < length (found g m (suc o.turn)) = o.over in
            omega arith

  never_fits : (n : ℕ) → length (found g m n) ≡ n → n ≤ c → Overflows c g m → ⊥
  never_fits n e h o = go (dec_lt n (suc o.turn))
    where
      go : Dec (n < suc o.turn) → ⊥
      go (yes k) =
          let s : length (found g m (suc o.turn)) ≡ length (found g m n) = ap length (stuck g m n (suc o.turn) (omega arith) (omega arith)) in
          let v : c < length (found g m (suc o.turn)) = o.over in
          omega arith
      go (no k) =
          let s : length (found g m (suc o.turn)) ≤ length (found g m n) = found_length g m (suc o.turn) n (omega arith) in
          let v : c < length (found g m (suc o.turn)) = o.over in
          omega arith

  fewest_unique : (a b : ℕ) → FewestEntries g m a → FewestEntries g m b → a ≡ b
  fewest_unique a b p q = go (dec_lt a b) (dec_lt b a)
    where
      go : Dec (a < b) → Dec (b < a) → a ≡ b
      go (yes h) k = absurd (q.none_less a h p.can)
      go (no h) (yes k) = absurd (p.none_less b k q.can)
      go (no h) (no k) = omega arith

  -- ---- the three answers

  -- undecided: exactly if the store runs over before a finished marking has its turn
  pub undecided_exactly : ((k : ℕ) × (the_ends g m store ≡ Ok (Ends.Undecided k))) ↔ Overflows (room store) g m
  undecided_exactly = (λ w. there w.0 (searched _ w.1) comes, λ o. back o comes)
    where
      there : (k : ℕ) → search c g m ≡ Ends.Undecided k → Outcome g m c (search c g m) → Overflows c g m
      there k e (never n p q r s) = differ (cc)
      there k e (reach n p q r s t) = differ (cc)
      there k e (full n p q r s t) = record { turn = n; there = q; unended = s; over = t }

      back : Overflows c g m → Outcome g m c (search c g m) → (k : ℕ) × (the_ends g m store ≡ Ok (Ends.Undecided k))
      back o (never n p q r s) = absurd (never_fits n q r o)
      back o (reach n p q r s t) = absurd (reach_fits n q r s t o)
      back o (full n p q r s t) = (n + 1, answers _ p)

  -- where it does not run over, none: exactly if no journal that runs through ends the job
  pub none_exactly : (Overflows (room store) g m → ⊥)
      → ((k : ℕ) × (the_ends g m store ≡ Ok (Ends.None k))) ↔ ((n : ℕ) → JournalEnds g m n → ⊥)
  none_exactly fits = (λ w. there w.0 (searched _ w.1) comes, λ out. back out comes)
    where
      there : (k : ℕ) → search c g m ≡ Ends.None k → Outcome g m c (search c g m) → (n : ℕ) → JournalEnds g m n → ⊥
      there k e (never i p q r s) n j = never_none g m i n q s (to_entries n j)
      there k e (reach i p q r s t) n j = differ (cc)
      there k e (full i p q r s t) n j = differ (cc)

      back : ((n : ℕ) → JournalEnds g m n → ⊥) → Outcome g m c (search c g m) → (k : ℕ) × (the_ends g m store ≡ Ok (Ends.None k))
      back out (never n p q r s) = (n, answers _ p)
      back out (reach n p q r s t) = absurd (out (depth g m n) (reach_fewest n q r s t).can)
      back out (full n p q r s t) = absurd (fits (record { turn = n; there = q; unended = s; over = t }))

  -- and reachable with n: exactly if a journal of n entries ends it, and none of fewer
  pub reachable_exactly : (Overflows (room store) g m → ⊥) → (n : ℕ)
      → ((k : ℕ) × (the_ends g m store ≡ Ok (Ends.Reachable n k))) ↔ FewestEntries g m n
  reachable_exactly fits n = (λ w. there w.0 (searched _ w.1) comes, λ f. back f comes)
    where
      there : (k : ℕ) → search c g m ≡ Ends.Reachable n k → Outcome g m c (search c g m) → FewestEntries g m n
      there k e (never i p q r s) = differ (cc)
      there k e (reach i p q r s t) = let d : depth g m i ≡ n = cc in subst (FewestEntries g m) d (reach_fewest i q r s t)
      there k e (full i p q r s t) = differ (cc)

      back : FewestEntries g m n → Outcome g m c (search c g m) → (k : ℕ) × (the_ends g m store ≡ Ok (Ends.Reachable n k))
      back f (never i p q r s) = absurd (never_none g m i n q s (to_entries n f.can))
      back f (reach i p q r s t) =
          let d : depth g m i ≡ n = fewest_unique (depth g m i) n (reach_fewest i q r s t) f in
          (i + 1, answers _ (p ∙ ap (λ (x : ℕ). Ends.Reachable x (i + 1)) d))
      back f (full i p q r s t) = absurd (fits (record { turn = i; there = q; unended = s; over = t }))

  -- what is said holds whatever the room: a job that can end is never said not to, nor the other way round
  pub none_true : (k : ℕ) → the_ends g m store ≡ Ok (Ends.None k) → (n : ℕ) → JournalEnds g m n → ⊥
  none_true k e = (none_exactly (λ o. go k e (undecided_exactly.1 o))).0 (k, e)
    where
      go : (k : ℕ) → the_ends g m store ≡ Ok (Ends.None k) → (j : ℕ) × (the_ends g m store ≡ Ok (Ends.Undecided j)) → ⊥
      go k e w = let u = w.1 in differ (cc)

  pub reachable_true : (n k : ℕ) → the_ends g m store ≡ Ok (Ends.Reachable n k) → FewestEntries g m n
  reachable_true n k e = (reachable_exactly (λ o. go n k e (undecided_exactly.1 o)) n).0 (k, e)
    where
      go : (n k : ℕ) → the_ends g m store ≡ Ok (Ends.Reachable n k) → (j : ℕ) × (the_ends g m store ≡ Ok (Ends.Undecided j)) → ⊥
      go n k e w = let u = w.1 in differ (cc)
