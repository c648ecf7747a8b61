-- The laws of journals.
-- Assumes nothing.
use Rattle.std.specs.Prelude.{ℕ, zero, suc, ◌+◌, ◌*◌, ◌%◌, ◌≤◌, ◌<◌, ◌≡◌, refl, List, [], ◌∷◌, ◌++◌, Bool, true, false, not, cond, length, get_or, drop, eqb, leb}
use Rattle.std.proofs.Common.{sym, ap, ◌∙◌, arith, drop_of_length-le, drop-cons, eqb-true, leb-true}
use Rattle.sets.specs.Truth.{and_left, and_right}
use Rattle.rules.specs.Graph.{Graph, graph_lines, graph_verdict}
use Rattle.moves.specs.declared.Marking.{Marking}
use Rattle.moves.specs.declared.Entry.{Entry}
use Rattle.moves.specs.declared.Refusal.{Refusal}
use Rattle.moves.specs.declared.Refusal.TheVariants.{Length, Outside}
use Rattle.moves.specs.First.{Verdict}
use Rattle.moves.specs.Move.{Move}
use Rattle.moves.specs.First.{first}
use Rattle.rules.specs.Answers.{entry_move, marking_lines}
use Rattle.moves.specs.Move.{entry_of, marking_fits, no_marking}
use Rattle.moves.specs.Given.{first_clear, first_refused}
use Rattle.journal.specs.declared.Ended.{Ended}
use Rattle.journal.specs.declared.Stopped.{Stopped}
use Rattle.journal.specs.Ran.{Ran}
use Rattle.journal.specs.Journal.{entries, entry_at, length_fits}
use Rattle.journal.specs.Run.{go_on, length_lines, ran_of, the_run, run_from}
use Rattle.journal.specs.Inner.{run_on, run_from_lem}
use Rattle.journal.specs.Ran.{Walked}
use Rattle.journal.specs.Walk.{stays, hand_out, stride_of, stride_at}
use Rattle.moves.specs.Inside.{fits_inside}
use Rattle.std.specs.Prelude.{Ok, Err, Some, None}
use Rattle.moves.specs.Move.{denied}
use Rattle.journal.specs.Ran.{ended}
use Rattle.journal.specs.Ran.{stopped}

-- ---- lengths that fit

pub fits_threes : (j : List ℕ) → length_fits j ≡ true → length j % 3 ≡ 0
fits_threes j e = eqb-true (length j % 3) 0 (and_left (eqb (length j % 3) 0) (leb (length j) 65535) e)

pub fits_most : (j : List ℕ) → length_fits j ≡ true → length j ≤ 65535
fits_most j e = leb-true (length j) 65535 (and_right (eqb (length j % 3) 0) (leb (length j) 65535) e)

-- ---- the entries of a journal

-- there is one for each three bytes
pub entries_length : (j : List ℕ) → length j % 3 ≡ 0 → length (entries j) * 3 ≡ length j
unfolding entries
entries_length [] e = refl
entries_length (p ∷ []) e = absurd (let w : ⊥ = omega arith in w)
entries_length (p ∷ s ∷ []) e = absurd (let w : ⊥ = omega arith in w)
entries_length (p ∷ s ∷ r ∷ rest) e =
    let less : length rest % 3 ≡ 0 = omega arith in
    let here : length (entries rest) * 3 ≡ length rest = entries_length rest less in
    omega arith

-- entry 0 stands before the entries of the rest
pub entry_suc : (p s r : ℕ) (rest : List ℕ) (k : ℕ) → entry_at (p ∷ s ∷ r ∷ rest) (suc k) ≡ entry_at rest k
entry_suc p s r rest k =
    let a : 3 * suc k ≡ suc (suc (suc (3 * k))) = omega arith in
    let b : 3 * suc k + 1 ≡ suc (suc (suc (3 * k + 1))) = omega arith in
    let c : 3 * suc k + 2 ≡ suc (suc (suc (3 * k + 2))) = omega arith in
    let j : List ℕ = p ∷ s ∷ r ∷ rest in
    ap (λ (x : ℕ). entry_of (get_or j x 0) (get_or j (3 * suc k + 1) 0) (get_or j (3 * suc k + 2) 0)) a
    ∙ ap (λ (x : ℕ). entry_of (get_or rest (3 * k) 0) (get_or j x 0) (get_or j (3 * suc k + 2) 0)) b
    ∙ ap (λ (x : ℕ). entry_of (get_or rest (3 * k) 0) (get_or rest (3 * k + 1) 0) (get_or j x 0)) c

-- entry k of a journal is at its place 3k
pub entries_at : (j : List ℕ) (k : ℕ) (d : Entry) → 3 * k + 3 ≤ length j → get_or (entries j) k d ≡ entry_at j k
unfolding entries
entries_at [] k d h = absurd (let w : ⊥ = omega arith in w)
entries_at (p ∷ []) k d h = absurd (let w : ⊥ = omega arith in w)
entries_at (p ∷ s ∷ []) k d h = absurd (let w : ⊥ = omega arith in w)
entries_at (p ∷ s ∷ r ∷ rest) zero d h = refl
entries_at (p ∷ s ∷ r ∷ rest) (suc k) d h =
    let less : 3 * k + 3 ≤ length rest = omega arith in
    entries_at rest k d less ∙ sym (entry_suc p s r rest k)

-- the entries of two journals, one after the other
pub entries_append : (a b : List ℕ) → length a % 3 ≡ 0 → entries (a ++ b) ≡ entries a ++ entries b
unfolding entries
entries_append [] b e = refl
entries_append (p ∷ []) b e = absurd (let w : ⊥ = omega arith in w)
entries_append (p ∷ s ∷ []) b e = absurd (let w : ⊥ = omega arith in w)
entries_append (p ∷ s ∷ r ∷ rest) b e =
    let less : length rest % 3 ≡ 0 = omega arith in
    ap (λ (t : List Entry). entry_of p s r ∷ t) (entries_append rest b less)

-- the entries from place 3k on: entry k, and those after it
pub entries_from : (j : List ℕ) (k : ℕ) → 3 * k + 3 ≤ length j → entries (drop (3 * k) j) ≡ entry_at j k ∷ entries (drop (3 * k + 3) j)
unfolding entries
entries_from j k h =
    let one : 3 * k < length j = omega arith in
    let two : suc (3 * k) < length j = omega arith in
    let three : suc (suc (3 * k)) < length j = omega arith in
    let b : suc (3 * k) ≡ 3 * k + 1 = omega arith in
    let c : suc (suc (3 * k)) ≡ 3 * k + 2 = omega arith in
    let d : suc (suc (suc (3 * k))) ≡ 3 * k + 3 = omega arith in
    ap entries (drop-cons j (3 * k) 0 one
    ∙ ap (λ (t : List ℕ). get_or j (3 * k) 0 ∷ t)
    (drop-cons j (suc (3 * k)) 0 two ∙ ap (λ (t : List ℕ). get_or j (suc (3 * k)) 0 ∷ t) (drop-cons j (suc (suc (3 * k))) 0 three)))
    ∙ ap (λ (x : ℕ). entry_of (get_or j (3 * k) 0) (get_or j x 0) (get_or j (suc (suc (3 * k))) 0) ∷ entries (drop (suc (suc (suc (3 * k)))) j)) b
    ∙ ap (λ (x : ℕ). entry_of (get_or j (3 * k) 0) (get_or j (3 * k + 1) 0) (get_or j x 0) ∷ entries (drop (suc (suc (suc (3 * k)))) j)) c
    ∙ ap (λ (x : ℕ). entry_at j k ∷ entries (drop x j)) d

-- and they are what is left of the entries once k are gone
pub entries_drop : (j : List ℕ) (k : ℕ) → 3 * k ≤ length j → entries (drop (3 * k) j) ≡ drop k (entries j)
unfolding entries
entries_drop j zero h = refl
entries_drop [] (suc k) h = absurd (let w : ⊥ = omega arith in w)
entries_drop (p ∷ []) (suc k) h = absurd (let w : ⊥ = omega arith in w)
entries_drop (p ∷ s ∷ []) (suc k) h = absurd (let w : ⊥ = omega arith in w)
entries_drop (p ∷ s ∷ r ∷ rest) (suc k) h =
    let less : 3 * k ≤ length rest = omega arith in
    let a : 3 * suc k ≡ suc (suc (suc (3 * k))) = omega arith in
    ap (λ (x : ℕ). entries (drop x (p ∷ s ∷ r ∷ rest))) a ∙ entries_drop rest k less

-- ---- a run, entry by entry

-- entry k of the journal is not allowed: the run stops there
pub run_refused : (g : Graph) (m back : Marking) (r : Refusal) (j : List ℕ) (k : ℕ) → 3 * k + 3 ≤ length j
    → entry_move g m (entry_at j k) ≡ Err (denied back r)
    → run_on g m k (entries (drop (3 * k) j)) ≡ Err (stopped k m r)
unfolding run_on go_on
run_refused g m back r j k h e =
    ap (run_on g m k) (entries_from j k h) ∙ ap (λ (o : Move). go_on k m o (λ n. run_on g n (k + 1) (entries (drop (3 * k + 3) j)))) e

-- it is: the run goes on behind it
pub run_moved : (g : Graph) (m next : Marking) (j : List ℕ) (k : ℕ) → 3 * k + 3 ≤ length j → entry_move g m (entry_at j k) ≡ Ok next
    → run_on g m k (entries (drop (3 * k) j)) ≡ run_on g next (k + 1) (entries (drop (3 * (k + 1)) j))
unfolding run_on go_on
run_moved g m next j k h e =
    let past : 3 * k + 3 ≡ 3 * (k + 1) = omega arith in
    ap (run_on g m k) (entries_from j k h)
    ∙ ap (λ (o : Move). go_on k m o (λ n. run_on g n (k + 1) (entries (drop (3 * k + 3) j)))) e
    ∙ ap (λ (x : ℕ). run_on g next (k + 1) (entries (drop x j))) past

-- there is none: the run has ended
pub run_ended : (g : Graph) (m : Marking) (j : List ℕ) (k : ℕ) → length j ≤ 3 * k → run_on g m k (entries (drop (3 * k) j)) ≡ Ok (ended m k)
unfolding run_on entries
run_ended g m j k h = ap (λ (t : List ℕ). run_on g m k (entries t)) (drop_of_length-le j h)

-- ---- a run, by what is found of the graph, the journal and the marking

pub run_graph : (g : Graph) (m : Marking) (j : List ℕ) (r : Refusal) → graph_verdict g ≡ Err r
    → the_run g m j ≡ Err (stopped 0 no_marking r)
unfolding the_run ran_of
run_graph g m j r e =
    ap (λ (v : Verdict). ran_of v (run_from g m 0 (entries j))) (first_refused (graph_lines g) (length_lines j ++ marking_lines g m) r e)

pub run_length : (g : Graph) (m : Marking) (j : List ℕ) → graph_verdict g ≡ Ok tt → length_fits j ≡ false
    → the_run g m j ≡ Err (stopped 0 no_marking Length)
unfolding the_run ran_of first
run_length g m j e f =
    ap (λ (v : Verdict). ran_of v (run_from g m 0 (entries j))) (first_clear (graph_lines g) (length_lines j ++ marking_lines g m) e
    ∙ ap (λ (b : Bool). cond (not b) (Err Length) (first (marking_lines g m))) f)

pub run_outside : (g : Graph) (m : Marking) (j : List ℕ) → graph_verdict g ≡ Ok tt → length_fits j ≡ true
    → marking_fits g.steps m ≡ false
    → the_run g m j ≡ Err (stopped 0 no_marking Outside)
unfolding the_run ran_of first
run_outside g m j e f o =
    ap (λ (v : Verdict). ran_of v (run_from g m 0 (entries j))) (first_clear (graph_lines g) (length_lines j ++ marking_lines g m) e
    ∙ ap (λ (b : Bool). cond (not b) (Err Length) (first (marking_lines g m))) f
    ∙ ap (λ (b : Bool). cond (not b) (Err Outside) (Ok tt)) o)

pub run_clear : (g : Graph) (m : Marking) (j : List ℕ) → graph_verdict g ≡ Ok tt → length_fits j ≡ true
    → marking_fits g.steps m ≡ true
    → the_run g m j ≡ run_from g m 0 (entries j)
unfolding the_run ran_of first
run_clear g m j e f i =
    ap (λ (v : Verdict). ran_of v (run_from g m 0 (entries j))) (first_clear (graph_lines g) (length_lines j ++ marking_lines g m) e
    ∙ ap (λ (b : Bool). cond (not b) (Err Length) (first (marking_lines g m))) f
    ∙ ap (λ (b : Bool). cond (not b) (Err Outside) (Ok tt)) i)

pub run_inside : (g : Graph) (m : Marking) (j : List ℕ) → graph_verdict g ≡ Ok tt → length_fits j ≡ true
    → marking_fits g.steps m ≡ true
    → the_run g m j ≡ run_on g m 0 (entries j)
run_inside g m j e f i = run_clear g m j e f i ∙ run_from_lem g m 0 (entries j) e (fits_inside g.steps m i)

-- ---- a walk, by what is found of the journal and the place

pub walk_fits : (j : List ℕ) (k : ℕ) → length_fits j ≡ true → stride_at j k ≡ hand_out k (drop k (entries j))
unfolding stride_at stride_of first
walk_fits j k f = ap (λ (b : Bool). stride_of k (cond (not b) (Err Length) (Ok tt)) (hand_out k (drop k (entries j)))) f

pub walk_length : (j : List ℕ) (k : ℕ) → length_fits j ≡ false → stride_at j k ≡ stays k (Err Length)
unfolding stride_at stride_of first
walk_length j k f = ap (λ (b : Bool). stride_of k (cond (not b) (Err Length) (Ok tt)) (hand_out k (drop k (entries j)))) f

pub walk_entry : (j : List ℕ) (k : ℕ) → length_fits j ≡ true → 3 * k + 3 ≤ length j
    → stride_at j k ≡ record { said = Ok (Some (entry_at j k)); place = k + 1 }
unfolding hand_out
walk_entry j k f h =
    let room : 3 * k ≤ length j = omega arith in
    walk_fits j k f ∙ ap (hand_out k) (sym (entries_drop j k room) ∙ entries_from j k h)

pub walk_end : (j : List ℕ) (k : ℕ) → length_fits j ≡ true → length j ≤ 3 * k → stride_at j k ≡ stays k (Ok None)
unfolding hand_out
walk_end j k f h =
    let count : length (entries j) * 3 ≡ length j = entries_length j (fits_threes j f) in
    walk_fits j k f ∙ ap (hand_out k) (drop_of_length-le (entries j) (let z : length (entries j) ≤ k = omega arith in z))

-- ---- equal answers have equal parts

pub same_ended : (m n : Marking) (k l : ℕ) → ◌≡◌ {A = Ran} (Ok (ended m k)) (Ok (ended n l)) → (m ≡ n) × (k ≡ l)
same_ended m n k l e =
    let same : ended m k ≡ ended n l = cc in
    (ap (λ (x : Ended). x.marking) same, ap (λ (x : Ended). x.entries) same)

pub same_stopped : (k l : ℕ) (m n : Marking) (r q : Refusal) → ◌≡◌ {A = Ran} (Err (stopped k m r)) (Err (stopped l n q))
    → (k ≡ l) × (m ≡ n) × (r ≡ q)
same_stopped k l m n r q e =
    let same : stopped k m r ≡ stopped l n q = cc in
    (ap (λ (x : Stopped). x.index) same, ap (λ (x : Stopped). x.marking) same, ap (λ (x : Stopped). x.refusal) same)
