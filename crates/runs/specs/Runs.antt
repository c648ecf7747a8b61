-- What runs are like: one after the other, where they stop, and the marking they leave.
-- Assumes nothing.
use Rattle.std.specs.Prelude.{ℕ, zero, suc, ◌+◌, ◌%◌, ◌≤◌, ◌<◌, ◌≡◌, refl, List, [], ◌∷◌, ◌++◌, Bool, true, false, length, get_or, take}
use Rattle.std.proofs.Common.{sym, ap, ap₂, ◌∙◌, subst, arith, add-zero, length-append, pow_pos, eq-eqb, le-leb}
use Rattle.std.proofs.lemmas.Bool.{not-false}
use Rattle.sets.specs.Truth.{and_intro}
use Rattle.rules.specs.Graph.{Graph, graph_lines, graph_verdict}
use Rattle.moves.specs.declared.Marking.{Marking}
use Rattle.moves.specs.declared.Entry.{Entry}
use Rattle.moves.specs.declared.Refusal.{Refusal}
use Rattle.moves.specs.First.{Verdict}
use Rattle.moves.specs.Move.{Move}
use Rattle.moves.specs.First.{first, number_of}
use Rattle.rules.specs.Answers.{the_move, entry_move, marking_lines}
use Rattle.rules.specs.Laws.{move_inside}
use Rattle.moves.specs.Move.{marking_fits, no_marking}
use Rattle.moves.specs.Given.{numbers_below, first_below, clear_head, clear_tail, clear_front, clear_back}
use Rattle.rules.specs.Sound.{clear_sound}
use Rattle.moves.specs.Inside.{Inside, fits_inside, inside_fits}
use Rattle.rules.specs.Entries.{entry_back, entry_inside}
use Rattle.journal.specs.Ran.{Ran}
use Rattle.journal.specs.Journal.{entries, length_fits}
use Rattle.journal.specs.Run.{go_on, run_from, length_lines, run_lines, ran_of, the_run, marking_of_run}
use Rattle.journal.specs.Laws.{fits_threes, fits_most, entries_append, run_graph, run_outside, run_clear, same_ended, same_stopped}
use Rattle.std.specs.Prelude.{Ok, Err}
use Rattle.moves.specs.Move.{denied}
use Rattle.journal.specs.Ran.{ended}
use Rattle.journal.specs.Ran.{stopped}

-- ---- one after the other

-- where the first run ends, the second goes on
unfoldable pub and_then : Ran → (Marking → ℕ → Ran) → Ran
and_then (Ok e) second = second e.marking e.entries
and_then (Err d) second = Err (stopped d.index d.marking d.refusal)

pub run_append : (g : Graph) (m : Marking) (k : ℕ) (a b : List Entry)
    → run_from g m k (a ++ b) ≡ and_then (run_from g m k a) (λ m' k'. run_from g m' k' b)
unfolding run_from go_on and_then
run_append g m k [] b = refl
run_append g m k (e ∷ a) b = go (the_move g m e) (λ next. run_append g next (k + 1) a b)
  where
    go : (o : Move) → ((next : Marking) → run_from g next (k + 1) (a ++ b) ≡ and_then (run_from g next (k + 1) a) (λ m' k'. run_from g m' k' b))
        → go_on k m o (λ next. run_from g next (k + 1) (a ++ b)) ≡ and_then (go_on k m o (λ next. run_from g next (k + 1) a))
        (λ m' k'. run_from g m' k' b)
    go (Ok next) rest = rest next
    go (Err d) rest = refl

-- a run whose entries stand n further on
unfoldable pub further : ℕ → Ran → Ran
further n (Ok e) = Ok (ended e.marking (n + e.entries))
further n (Err d) = Err (stopped (n + d.index) d.marking d.refusal)

pub run_later : (g : Graph) (m : Marking) (n k : ℕ) (es : List Entry) → run_from g m (n + k) es ≡ further n (run_from g m k es)
unfolding run_from go_on further
run_later g m n k [] = refl
run_later g m n k (e ∷ rest) = go (the_move g m e) (λ next. run_later g next n (k + 1) rest)
  where
    go : (o : Move) → ((next : Marking) → run_from g next (n + (k + 1)) rest ≡ further n (run_from g next (k + 1) rest))
        → go_on (n + k) m o (λ next. run_from g next (n + k + 1) rest) ≡ further n (go_on k m o (λ next. run_from g next (k + 1) rest))
    go (Ok next) more = ap (λ (x : ℕ). run_from g next x rest) (let z : n + k + 1 ≡ n + (k + 1) = omega arith in z) ∙ more next
    go (Err d) more = refl

-- ---- where a run ends or stops

-- the entries are allowed one after the other, from m to m'
unfoldable pub Passes : Graph → Marking → List Entry → Marking → Type 0
Passes g m [] m' = m ≡ m'
Passes g m (e ∷ rest) m' = (next : Marking) × (the_move g m e ≡ Ok next) × Passes g next rest m'

-- the entries before entry k are allowed, from m to m', and entry k is refused in m'
pub record StopsAt (g : Graph) (m : Marking) (es : List Entry) (k : ℕ) (r : Refusal) (m' : Marking) : Type 0 where
  pub small : k < length es
  pub before : Passes g m (take k es) m'
  pub refused : (d : Entry) → the_move g m' (get_or es k d) ≡ Err (denied m' r)

-- a run ends exactly if all pass
pub run_passes : (g : Graph) (m m' : Marking) (k n : ℕ) (es : List Entry) → run_from g m k es ≡ Ok (ended m' n) → (n ≡ k + length es)
    × Passes g m es m'
unfolding run_from go_on Passes
run_passes g m m' k n [] e =
    let same = same_ended m m' k n e in
    (let a : k ≡ n = same.1 in let z : n ≡ k + 0 = omega arith in z, same.0)
run_passes g m m' k n (x ∷ rest) e = go (the_move g m x) refl (λ next. run_passes g next m' (k + 1) n rest)
  where
    go : (o : Move) → the_move g m x ≡ o
        → ((next : Marking) → run_from g next (k + 1) rest ≡ Ok (ended m' n) → (n ≡ k + 1 + length rest) × Passes g next rest m')
        → (n ≡ k + suc (length rest)) × ((next : Marking) × (the_move g m x ≡ Ok next) × Passes g next rest m')
    go (Ok next) q more =
        let f = more next (ap (λ (o : Move). go_on k m o (λ y. run_from g y (k + 1) rest)) (sym q) ∙ e) in
        let count : n ≡ k + 1 + length rest = f.0 in
        (let z : n ≡ k + suc (length rest) = omega arith in z, (next, q, f.1))
    go (Err d) q more =
        absurd (let s : Err (stopped k m d.refusal) ≡ Ok (ended m' n) = ap (λ (o : Move). go_on k m o (λ y. run_from g y (k + 1) rest)) (sym q) ∙ e in
        let z : ◌≡◌ {A = ℕ} 0 1 = cc in let w : ⊥ = omega arith in w)

pub passes_run : (g : Graph) (m m' : Marking) (k : ℕ) (es : List Entry) → Passes g m es m' → run_from g m k es ≡ Ok (ended m' (k + length es))
unfolding run_from go_on Passes
passes_run g m m' k [] p = ap (λ (x : Marking). Ok (ended x k)) p ∙ ap (λ (x : ℕ). Ok (ended m' x)) (sym (add-zero k))
passes_run g m m' k (e ∷ rest) p =
    ap (λ (o : Move). go_on k m o (λ y. run_from g y (k + 1) rest)) p.1
    ∙ passes_run g p.0 m' (k + 1) rest p.2
    ∙ ap (λ (x : ℕ). Ok (ended m' x)) (let z : k + 1 + length rest ≡ k + suc (length rest) = omega arith in z)

-- entries in two parts: all pass exactly if the first do, and the second from where those end
pub passes_parts : (g : Graph) (m m' : Marking) (a c : List Entry) → Passes g m (a ++ c) m'
    → (between : Marking) × Passes g m a between × Passes g between c m'
unfolding Passes
passes_parts g m m' [] c p = (m, refl, p)
passes_parts g m m' (e ∷ a) c p =
    let rest = passes_parts g p.0 m' a c p.2 in
    (rest.0, (p.0, p.1, rest.1), rest.2)

pub passes_both : (g : Graph) (m between m' : Marking) (a c : List Entry) → Passes g m a between → Passes g between c m'
    → Passes g m (a ++ c) m'
unfolding Passes
passes_both g m between m' [] c p q = subst (λ (x : Marking). Passes g x c m') (sym p) q
passes_both g m between m' (e ∷ a) c p q = (p.0, p.1, passes_both g p.0 between m' a c p.2 q)

-- a run that stops stops at the first entry not allowed
pub run_stops : (g : Graph) (m m' : Marking) (k n : ℕ) (r : Refusal) (es : List Entry) → graph_verdict g ≡ Ok tt
    → Inside g.steps m
    → run_from g m k es ≡ Err (stopped n m' r) → (i : ℕ) × (n ≡ k + i) × StopsAt g m es i r m'
unfolding run_from go_on Passes
run_stops g m m' k n r [] clear within e = absurd (let z : ◌≡◌ {A = ℕ} 0 1 = cc in let w : ⊥ = omega arith in w)
run_stops g m m' k n r (x ∷ rest) clear within e = go (the_move g m x) refl (λ next. run_stops g next m' (k + 1) n r rest clear)
  where
    by_entry : the_move g m x ≡ entry_move g m x
    by_entry = move_inside g m x clear (inside_fits g.steps m within)

    go : (o : Move) → the_move g m x ≡ o
        → ((next : Marking) → Inside g.steps next → run_from g next (k + 1) rest ≡ Err (stopped n m' r) → (i : ℕ) × (n ≡ k + 1 + i)
        × StopsAt g next rest i r m')
        → (i : ℕ) × (n ≡ k + i) × StopsAt g m (x ∷ rest) i r m'
    go (Ok next) q more =
        let f = more next (entry_inside g m next x (clear_sound g clear) within (sym by_entry ∙ q))
        (ap (λ (o : Move). go_on k m o (λ y. run_from g y (k + 1) rest)) (sym q) ∙ e) in
        let count : n ≡ k + 1 + f.0 = f.1 in
        let low : f.0 < length rest = f.2.small in (
          suc f.0,
          let z : n ≡ k + suc f.0 = omega arith in z,
          record {
            small = (let z : suc f.0 < suc (length rest) = omega arith in z);
            before = (next, q, f.2.before);
            refused =
                f.2.refused;
          },
        )
    go (Err w) q more =
        let s : Err (stopped k m w.refusal) ≡ Err (stopped n m' r) = ap (λ (o : Move). go_on k m o (λ y. run_from g y (k + 1) rest)) (sym q) ∙ e in
        let parts = same_stopped k n m m' w.refusal r s in
        let here : k ≡ n = parts.0 in
        let back : m ≡ w.marking = (entry_back g m w.marking x w.refusal (sym by_entry ∙ q)).1 in (
          0,
          let z : n ≡ k + 0 = omega arith in z,
          record { small = (let z : 0 < suc (length rest) = omega arith in z); before = parts.1; refused = λ d. ap (λ (y : Marking). the_move g y x) (sym parts.1) ∙ q ∙ ap Err (ap₂ denied (sym back ∙ parts.1) parts.2) },
        )

pub stops_run : (g : Graph) (m m' : Marking) (k i : ℕ) (r : Refusal) (es : List Entry) → StopsAt g m es i r m'
    → run_from g m k es ≡ Err (stopped (k + i) m' r)
unfolding run_from go_on Passes
stops_run g m m' k i r [] s = absurd (let low : i < 0 = s.small in let w : ⊥ = omega arith in w)
stops_run g m m' k zero r (e ∷ rest) s =
    ap (λ (x : Marking). go_on k x (the_move g x e) (λ y. run_from g y (k + 1) rest)) s.before
    ∙ ap (λ (o : Move). go_on k m' o (λ y. run_from g y (k + 1) rest)) (s.refused e)
    ∙ ap (λ (x : ℕ). Err (stopped x m' r)) (sym (add-zero k))
stops_run g m m' k (suc i) r (e ∷ rest) s =
    let low : suc i < suc (length rest) = s.small in
    ap (λ (o : Move). go_on k m o (λ y. run_from g y (k + 1) rest)) s.before.1
    ∙ stops_run g s.before.0 m' (k + 1) i r rest
    (record { small = (let z : i < length rest = omega arith in z); before = s.before.2; refused = s.refused })
    ∙ ap (λ (x : ℕ). Err (stopped x m' r)) (let z : k + 1 + i ≡ k + suc i = omega arith in z)

-- ---- the marking a run leaves

pub run_within : (g : Graph) (m : Marking) (k : ℕ) (es : List Entry) → graph_verdict g ≡ Ok tt → Inside g.steps m
    → Inside g.steps (marking_of_run (run_from g m k es))
unfolding run_from go_on marking_of_run
run_within g m k [] clear i = i
run_within g m k (e ∷ rest) clear i = go (the_move g m e) refl (λ next. run_within g next (k + 1) rest clear)
  where
    go : (o : Move) → the_move g m e ≡ o
        → ((next : Marking) → Inside g.steps next → Inside g.steps (marking_of_run (run_from g next (k + 1) rest)))
        → Inside g.steps (marking_of_run (go_on k m o (λ y. run_from g y (k + 1) rest)))
    go (Ok next) q more =
        more next (entry_inside g m next e (clear_sound g clear) i (sym (move_inside g m e clear (inside_fits g.steps m i)) ∙ q))
    go (Err d) q more = i

pub passes_within : (g : Graph) (m m' : Marking) (es : List Entry) → graph_verdict g ≡ Ok tt → Inside g.steps m
    → Passes g m es m' → Inside g.steps m'
unfolding marking_of_run
passes_within g m m' es clear i p =
    subst (λ (r : Ran). Inside g.steps (marking_of_run r)) (passes_run g m m' 0 es p) (run_within g m 0 es clear i)

-- ---- the same of a journal

-- what a run that is not refused below 11 has shown of graph, length and marking
pub record Runnable (g : Graph) (m : Marking) (j : List ℕ) : Type 0 where
  pub clear : graph_verdict g ≡ Ok tt
  pub long : length_fits j ≡ true
  pub within : marking_fits g.steps m ≡ true

ready : (g : Graph) (m : Marking) (j : List ℕ) → first (run_lines g m j) ≡ Ok tt → Runnable g m j
ready g m j e =
    let rest = clear_back (graph_lines g) (length_lines j ++ marking_lines g m) e in
    record {
      clear = clear_front (graph_lines g) (length_lines j ++ marking_lines g m) e;
      long = not-false (length_fits j) (clear_head _ _ rest);
      within = not-false (marking_fits g.steps m) (clear_head _ _ (clear_tail _ _ rest));
    }

-- a run that ends: all pass
pub ended_passes : (g : Graph) (m m' : Marking) (n : ℕ) (j : List ℕ) → the_run g m j ≡ Ok (ended m' n)
    → Runnable g m j × (n ≡ length (entries j)) × Passes g m (entries j) m'
unfolding the_run ran_of
ended_passes g m m' n j e = go (first (run_lines g m j)) refl
  where
    go : (v : Verdict) → first (run_lines g m j) ≡ v → Runnable g m j × (n ≡ length (entries j)) × Passes g m (entries j) m'
    go (Ok _) q =
        let p = run_passes g m m' 0 n (entries j) (ap (λ (v : Verdict). ran_of v (run_from g m 0 (entries j))) (sym q) ∙ e) in
        let count : n ≡ 0 + length (entries j) = p.0 in
        (ready g m j q, let z : n ≡ length (entries j) = omega arith in z, p.1)
    go (Err r) q =
        absurd (let s : Err (stopped 0 no_marking r) ≡ Ok (ended m' n) = ap (λ (v : Verdict). ran_of v (run_from g m 0 (entries j))) (sym q)
        ∙ e in let z : ◌≡◌ {A = ℕ} 0 1 = cc in let w : ⊥ = omega arith in w)

-- a run that stops at an entry stops at the first not allowed
pub stopped_first : (g : Graph) (m m' : Marking) (n : ℕ) (r : Refusal) (j : List ℕ) → the_run g m j ≡ Err (stopped n m' r) → 11 ≤ number_of r
    → Runnable g m j × StopsAt g m (entries j) n r m'
unfolding the_run ran_of numbers_below number_of
stopped_first g m m' n r j e high = go (first (run_lines g m j)) refl
  where
    go : (v : Verdict) → first (run_lines g m j) ≡ v → Runnable g m j × StopsAt g m (entries j) n r m'
    go (Ok _) q =
        let known = ready g m j q in
        let s = run_stops g m m' 0 n r (entries j) known.clear (fits_inside g.steps m known.within)
        (ap (λ (v : Verdict). ran_of v (run_from g m 0 (entries j))) (sym q) ∙ e) in
        let place : n ≡ 0 + s.0 = s.1 in
        (known, subst (λ (x : ℕ). StopsAt g m (entries j) x r m') (let z : s.0 ≡ n = omega arith in z) s.2)
    go (Err p) q =
        let s : Err (stopped 0 no_marking p) ≡ Err (stopped n m' r) = ap (λ (v : Verdict). ran_of v (run_from g m 0 (entries j))) (sym q) ∙ e in
        let same : p ≡ r = (same_stopped 0 n no_marking m' p r s).2 in
        let low : number_of r < 11 = subst (λ (x : Refusal). number_of x < 11) same (first_below 11 (run_lines g m j) p refl q) in
        absurd (let w : ⊥ = omega arith in w)

-- the marking it leaves is within the graph
pub left_within : (g : Graph) (m : Marking) (j : List ℕ) → Inside g.steps (marking_of_run (the_run g m j))
unfolding the_run ran_of marking_of_run
left_within g m j = go (first (run_lines g m j)) refl
  where
    go : (v : Verdict) → first (run_lines g m j) ≡ v → Inside g.steps (marking_of_run (ran_of v (run_from g m 0 (entries j))))
    go (Ok _) q =
        let known = ready g m j q in
        run_within g m 0 (entries j) known.clear (fits_inside g.steps m known.within)
    go (Err r) q = record { done_in = pow_pos g.steps; due_in = pow_pos g.steps; included_in = pow_pos g.steps }

-- the run of a ++ b is the run of a and then of b
pub journals_append : (g : Graph) (m : Marking) (a b : List ℕ) → length_fits a ≡ true → length_fits (a ++ b) ≡ true
    → the_run g m (a ++ b) ≡ and_then (the_run g m a) (λ m' n. further n (the_run g m' b))
unfolding and_then further marking_of_run
journals_append g m a b fa fab = graph (graph_verdict g) refl
  where
    threes : length b % 3 ≡ 0
    threes =
        let x : length a % 3 ≡ 0 = fits_threes a fa in
        let y : length (a ++ b) % 3 ≡ 0 = fits_threes (a ++ b) fab in
        let z : length (a ++ b) ≡ length a + length b = length-append a b in
        omega arith

    most : length b ≤ 65535
    most =
        let y : length (a ++ b) ≤ 65535 = fits_most (a ++ b) fab in
        let z : length (a ++ b) ≡ length a + length b = length-append a b in
        omega arith

    fb : length_fits b ≡ true
    fb = and_intro (eq-eqb (length b % 3) 0 threes) (le-leb (length b) 65535 most)

    second : graph_verdict g ≡ Ok tt → (v : Ran) → Inside g.steps (marking_of_run v)
        → and_then v (λ m' k. run_from g m' k (entries b)) ≡ and_then v (λ m' n. further n (the_run g m' b))
    second clear (Ok e) i =
        ap (λ (x : ℕ). run_from g e.marking x (entries b)) (sym (add-zero e.entries))
        ∙ run_later g e.marking e.entries 0 (entries b)
        ∙ ap (further e.entries) (sym (run_clear g e.marking b clear fb (inside_fits g.steps e.marking i)))
    second clear (Err d) i = refl

    marking : graph_verdict g ≡ Ok tt → (t : Bool) → marking_fits g.steps m ≡ t
        → the_run g m (a ++ b) ≡ and_then (the_run g m a) (λ m' n. further n (the_run g m' b))
    marking clear true p =
        run_clear g m (a ++ b) clear fab p
        ∙ ap (run_from g m 0) (entries_append a b (fits_threes a fa))
        ∙ run_append g m 0 (entries a) (entries b)
        ∙ second clear (run_from g m 0 (entries a)) (run_within g m 0 (entries a) clear (fits_inside g.steps m p))
        ∙ ap (λ (v : Ran). and_then v (λ m' n. further n (the_run g m' b))) (sym (run_clear g m a clear fa p))
    marking clear false p =
        run_outside g m (a ++ b) clear fab p
        ∙ ap (λ (v : Ran). and_then v (λ m' n. further n (the_run g m' b))) (sym (run_outside g m a clear fa p))

    graph : (v : Verdict) → graph_verdict g ≡ v → the_run g m (a ++ b) ≡ and_then (the_run g m a) (λ m' n. further n (the_run g m' b))
    graph (Ok _) q = marking q (marking_fits g.steps m) refl
    graph (Err r) q = run_graph g m (a ++ b) r q
        ∙ ap (λ (v : Ran). and_then v (λ m' n. further n (the_run g m' b))) (sym (run_graph g m a r q))
