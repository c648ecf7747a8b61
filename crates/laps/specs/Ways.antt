-- What the code goes by, one law for each way that it takes: an entry of a leg, what follows a leg, and a refusal before any entry is
-- looked at.
-- Assumes nothing.
use Rattle.std.specs.Prelude.{ℕ, ◌+◌, ◌*◌, ◌≤◌, ◌≡◌, Bool, not, ◌&&◌, length, drop, eqb}
use Rattle.std.proofs.Math.Path.{refl, ap}
use Rattle.std.proofs.Common.{sym, ◌∙◌, drop_of_length-le}
use mathlib.Core.List.{List, [], ◌∷◌, ◌++◌}
use Rattle.std.proofs.Math.Bool.{true, false}
use native.Mathlib.Omega.{arith}
use Rattle.sets.specs.Sets.{full}
use Rattle.rules.specs.Graph.{Graph, graph_lines, graph_verdict}
use Rattle.moves.specs.declared.Marking.{Marking}
use Rattle.moves.specs.declared.Entry.{Entry}
use Rattle.moves.specs.declared.Refusal.{Refusal}
use Rattle.moves.specs.declared.Refusal.TheVariants.{Length, Outside, EmptyLap}
use Rattle.moves.specs.First.{Verdict}
use Rattle.moves.specs.Move.{Move}
use Rattle.moves.specs.First.{first}
use Rattle.rules.specs.Answers.{entry_asked, refusal_in, entry_move, marking_lines}
use Rattle.moves.specs.Move.{marking_fits}
use Rattle.moves.specs.Given.{first_clear, first_refused}
use Rattle.journal.specs.Ran.{Ran}
use Rattle.journal.specs.Journal.{entries, entry_at, length_fits}
use Rattle.journal.specs.Inner.{run_on}
use Rattle.journal.specs.Run as run
use Rattle.journal.specs.Allowed.{is_allowed, refused_moved}
use Rattle.journal.specs.Laws.{entries_from}
use Rattle.laps.specs.Lapped.{Lapped}
use Rattle.laps.specs.declared.Pass.{Pass}
use Rattle.laps.specs.Laps.{lengths_lines, empty_lines, lap_lines}
use Rattle.laps.specs.Decision.{Went, leg, halt, still, go_through, leg_on, leg_of, upon}
use Rattle.std.specs.Prelude.{Ok, Err}
use Rattle.moves.specs.Move.{denied}
use Rattle.journal.specs.Ran.{ended}
use Rattle.journal.specs.Ran.{stopped}
use Rattle.laps.specs.declared.Broken.{Broken}

-- ---- a leg, entry by entry

module _ (g : Graph) (m : Marking) (x : ℕ) (j : List ℕ) (k : ℕ) where
  -- entry k is allowed: the leg goes on behind it
  pub leg_moved : (next : Marking) (y : ℕ) → 3 * k + 3 ≤ length j → entry_move g m (entry_at j k) ≡ Ok next
      → y ≡ still x m (entry_at j k).step.0
      → leg_on g m x k (entries (drop (3 * k) j)) ≡ leg_on g next y (k + 1) (entries (drop (3 * (k + 1)) j))
  unfolding leg_on go_through
  leg_moved next y h q e =
      ap (leg_on g m x k) (entries_from j k h)
      ∙ ap (λ (o : Move). go_through k o (λ n. leg_on g n (still x m (entry_at j k).step.0) (k + 1) (entries (drop (3 * k + 3) j)))) q
      ∙ ap (λ (z : ℕ). leg_on g next z (k + 1) (entries (drop (3 * k + 3) j))) (sym e)
      ∙ ap (λ (z : ℕ). leg_on g next y (k + 1) (entries (drop z j))) (let w : 3 * k + 3 ≡ 3 * (k + 1) = omega arith in w)

  -- it is not: the leg stops there
  leg_refused : (r : Refusal) (back : Marking) → 3 * k + 3 ≤ length j → entry_move g m (entry_at j k) ≡ Err (denied back r)
      → leg_on g m x k (entries (drop (3 * k) j)) ≡ Err (halt k r)
  unfolding leg_on go_through
  leg_refused r back h q =
      ap (leg_on g m x k) (entries_from j k h)
      ∙ ap (λ (o : Move). go_through k o (λ n. leg_on g n (still x m (entry_at j k).step.0) (k + 1) (entries (drop (3 * k + 3) j)))) q

  -- with the refusal that `ask` gives
  pub leg_stopped : 3 * k + 3 ≤ length j → is_allowed g m (entry_at j k) ≡ false
      → leg_on g m x k (entries (drop (3 * k) j)) ≡ Err (halt k (refusal_in (entry_asked g m (entry_at j k))))
  leg_stopped h out =
      let f = refused_moved g m (entry_at j k) out in
      leg_refused (refusal_in (entry_asked g m (entry_at j k))) f.0 h f.1

  -- there is none
  pub leg_ended : length j ≤ 3 * k → leg_on g m x k (entries (drop (3 * k) j)) ≡ Ok (leg m x)
  unfolding leg_on entries
  leg_ended h = ap (λ (t : List ℕ). leg_on g m x k (entries t)) (drop_of_length-le j h)

-- ---- what follows a leg

pub upon_ended : (o : Went) (p : Pass) (rest : Marking → ℕ → Lapped) (m : Marking) (x : ℕ) → o ≡ Ok (leg m x)
    → upon o p rest ≡ rest m x
unfolding upon
upon_ended o p rest m x q = ap (λ (l : Went). upon l p rest) q

pub upon_stopped : (o : Went) (p : Pass) (rest : Marking → ℕ → Lapped) (k : ℕ) (r : Refusal) → o ≡ Err (halt k r)
    → upon o p rest ≡ Err (Broken.Stopped k p r)
unfolding upon
upon_stopped o p rest k r q = ap (λ (l : Went). upon l p rest) q

-- ---- where only the marking at the end of a leg counts, a run tells

unfoldable upon_run : Ran → Pass → (Marking → Lapped) → Lapped
upon_run (Ok e) p rest = rest e.marking
upon_run (Err d) p rest = Err (Broken.Stopped d.index p d.refusal)

leg_run : (g : Graph) (p : Pass) (rest : Marking → Lapped) (es : List Entry) (m : Marking) (x k : ℕ)
    → upon (leg_on g m x k es) p (λ end y. rest end) ≡ upon_run (run_on g m k es) p rest
unfolding upon upon_run leg_on go_through run_on run.go_on
leg_run g p rest [] m x k = refl
leg_run g p rest (e ∷ es) m x k = go (entry_move g m e) (λ next. leg_run g p rest es next (still x m e.step.0) (k + 1))
  where
    go : (o : Move)
        → ((next : Marking) → upon (leg_on g next (still x m e.step.0) (k + 1) es) p (λ end y. rest end) ≡ upon_run
        (run_on g next (k + 1) es) p rest)
        → upon (go_through k o (λ next. leg_on g next (still x m e.step.0) (k + 1) es)) p (λ end y. rest end) ≡ upon_run
        (run.go_on k m o (λ next. run_on g next (k + 1) es)) p rest
    go (Ok next) more = more next
    go (Err d) more = refl

module _ (g : Graph) (m : Marking) (es : List Entry) (p : Pass) (rest : Marking → Lapped) where
  pub upon_run_ended : (next : Marking) (k : ℕ) → run_on g m 0 es ≡ Ok (ended next k) → upon (leg_of g m es) p (λ end x. rest end) ≡ rest next
  unfolding upon_run
  upon_run_ended next k q = leg_run g p rest es m (full 64) 0 ∙ ap (λ (o : Ran). upon_run o p rest) q

  pub upon_run_stopped : (k : ℕ) (r : Refusal) (back : Marking) → run_on g m 0 es ≡ Err (stopped k back r)
      → upon (leg_of g m es) p (λ end x. rest end) ≡ Err (Broken.Stopped k p r)
  unfolding upon_run
  upon_run_stopped k r back q = leg_run g p rest es m (full 64) 0 ∙ ap (λ (o : Ran). upon_run o p rest) q

-- ---- the table, line by line

module _ (g : Graph) (m : Marking) (stem lap : List ℕ) where
  pub lines_graph : (r : Refusal) → graph_verdict g ≡ Err r → first (lap_lines g m stem lap) ≡ Err r
  lines_graph r q = first_refused (graph_lines g) (lengths_lines stem lap ++ marking_lines g m ++ empty_lines lap) r q

  -- the lines after the graph's
  lines_after : (l f n : Bool) → graph_verdict g ≡ Ok tt → (length_fits stem && length_fits lap) ≡ l → marking_fits g.steps m ≡ f
      → eqb (length lap) 0 ≡ n
      → first (lap_lines g m stem lap) ≡ first ((Length, not l) ∷ (Outside, not f) ∷ (EmptyLap, n) ∷ [])
  lines_after l f n q a b c =
      first_clear (graph_lines g) (lengths_lines stem lap ++ marking_lines g m ++ empty_lines lap) q
      ∙ (λ i. first ((Length, not (a i)) ∷ (Outside, not (b i)) ∷ (EmptyLap, c i) ∷ []))

  pub lines_length : graph_verdict g ≡ Ok tt → (length_fits stem && length_fits lap) ≡ false
      → first (lap_lines g m stem lap) ≡ Err Length
  unfolding first
  lines_length q a = lines_after false (marking_fits g.steps m) (eqb (length lap) 0) q a refl refl

  pub lines_outside : graph_verdict g ≡ Ok tt → (length_fits stem && length_fits lap) ≡ true → marking_fits g.steps m ≡ false
      → first (lap_lines g m stem lap) ≡ Err Outside
  unfolding first
  lines_outside q a b = lines_after true false (eqb (length lap) 0) q a b refl

  pub lines_empty : graph_verdict g ≡ Ok tt → (length_fits stem && length_fits lap) ≡ true → marking_fits g.steps m ≡ true
      → eqb (length lap) 0 ≡ true
      → first (lap_lines g m stem lap) ≡ Err EmptyLap
  unfolding first
  lines_empty q a b c = lines_after true true true q a b c

  pub lines_clear : graph_verdict g ≡ Ok tt → (length_fits stem && length_fits lap) ≡ true → marking_fits g.steps m ≡ true
      → eqb (length lap) 0 ≡ false
      → first (lap_lines g m stem lap) ≡ Ok tt
  unfolding first
  lines_clear q a b c = lines_after true true false q a b c
