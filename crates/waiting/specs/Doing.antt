-- Whoever does all that a step waits for is not sent back again: where a journal takes every waiting step and leaves In as it is, the
-- step waits for nothing any more. For what is done stays done, and nothing else can be waited for. Assumes nothing.
use Rattle.std.specs.Prelude.{ℕ, ◌≡◌, refl, List, [], ◌∷◌, Bool, true, false, not, ◌&&◌, ◌||◌, eqb}
use Rattle.std.proofs.Common.{sym, ap, ap₂, ◌∙◌, subst, true≢false}
use Rattle.sets.specs.Sets.{has}
use Rattle.sets.specs.Truth.{or_first, or_second, or_split}
use Rattle.moves.specs.declared.Marking.{Marking}
use Rattle.moves.specs.declared.Entry.{Entry}
use Rattle.moves.specs.Move.{Move}
use Rattle.moves.specs.Move.{after, number_of_move, waiting_of_move}
use Rattle.moves.specs.Inside.{Inside, fits_inside, inside_fits}
use Rattle.rules.specs.Graph.{Graph}
use Rattle.rules.specs.Answers.{row_of, the_move}
use Rattle.rules.specs.Signs.{◌∈◌, Ex, In}
use Rattle.rules.specs.Paper.{condition, Ready, after_done}
use Rattle.rules.proofs.Taken.{allowed_taken}
use Rattle.rules.specs.Entries.{moved_after}
use Rattle.journal.specs.Ran.{Ran}
use Rattle.journal.specs.Run.{marking_of_run}
use Rattle.runs.specs.Runs.{Passes, passes_run, run_within}
use Rattle.waiting.specs.Entry.{waited_for, Otherwise, otherwise_allowed, move_tells, waits_exactly}
use Rattle.std.specs.Prelude.{Ok}

-- step a is taken by one of the entries
unfoldable pub occurs : ℕ → List Entry → Bool
occurs a [] = false
occurs a (e ∷ rest) = eqb e.step.0 a || occurs a rest

-- what was done before, or is taken on the way, is done at the end
pub stays_done : (g : Graph) (m m' : Marking) (es : List Entry) (a : ℕ) → Passes g m es m' → ((a ∈ Ex m) || occurs a es) ≡ true
    → (a ∈ Ex m') ≡ true
unfolding Passes occurs
stays_done g m m' [] a p d =
    or_split (a ∈ Ex m) false ((a ∈ Ex m') ≡ true) d (λ here. ap (λ (x : Marking). a ∈ Ex x) (sym p) ∙ here)
    (λ no. absurd (true≢false (sym no)))
stays_done g m m' (e ∷ rest) a p d = stays_done g p.0 m' rest a p.2 (later (a ∈ Ex m) (eqb e.step.0 a) (occurs a rest) next d)
  where
    next : (a ∈ Ex p.0) ≡ ((a ∈ Ex m) || eqb e.step.0 a)
    next = ap (λ (x : Marking). a ∈ Ex x) (sym (moved_after g m p.0 e p.1)) ∙ after_done g m e.person e.step.0 a

    later : (b c o : Bool) → (a ∈ Ex p.0) ≡ (b || c) → (b || (c || o)) ≡ true → ((a ∈ Ex p.0) || o) ≡ true
    later true c o q t = or_first o q
    later false true o q t = or_first o q
    later false false o q t = or_second (a ∈ Ex p.0) t

-- every step that s waits for is taken by one of the entries
abbrev pub TakesAll : Graph → Marking → ℕ → List Entry → Type 0
TakesAll g m s es = (a : ℕ) → waited_for g m s a ≡ true → occurs a es ≡ true

-- where all of them are taken, and In is as it was, the step waits for nothing
pub waits_no_more : (g : Graph) (m m' : Marking) (s : ℕ) (es : List Entry) → Passes g m es m' → In m' ≡ In m → TakesAll g m s es
    → (a : ℕ) → waited_for g m' s a ≡ false
waits_no_more g m m' s es p same all a =
    ap (λ (i : ℕ). (condition g a s && (a ∈ i)) && not (a ∈ Ex m')) same ∙ go (condition g a s && (a ∈ In m)) refl (a ∈ Ex m) refl
  where
    go : (c : Bool) → (condition g a s && (a ∈ In m)) ≡ c → (d : Bool) → (a ∈ Ex m) ≡ d
        → ((condition g a s && (a ∈ In m)) && not (a ∈ Ex m')) ≡ false
    go false q d r = ap (λ (b : Bool). b && not (a ∈ Ex m')) q
    go true q true r = ap₂ (λ (b x : Bool). b && not x) q (stays_done g m m' es a p (or_first (occurs a es) r))
    go true q false r =
        ap₂ (λ (b x : Bool). b && not x) q
        (stays_done g m m' es a p (or_second (a ∈ Ex m) (all a (ap₂ (λ (b x : Bool). b && not x) q r))))

-- a journal that passes keeps the marking within the graph
within_after : (g : Graph) (m m' : Marking) (e : Entry) (es : List Entry) → Ready g m e → Passes g m es m' → Ready g m' e
unfolding marking_of_run
within_after g m m' e es r p =
    record {
      graph = r.graph;
      marking =
          inside_fits g.steps m'
          (subst (λ (o : Ran). Inside g.steps (marking_of_run o)) (passes_run g m m' 0 es p)
          (run_within g m 0 es r.graph (fits_inside g.steps m r.marking)));
      names = r.names;
    }

-- so an entry that got 15, with the set that it was told, is taken once all of that set was done
pub then_taken : (g : Graph) (m m' : Marking) (e : Entry) (es : List Entry) → number_of_move (the_move g m e) ≡ 15
    → Passes g m es m' → In m' ≡ In m
    → ((a : ℕ) → has (waiting_of_move (the_move g m e)) a ≡ true → occurs a es ≡ true)
    → the_move g m' e ≡ Ok (after (row_of g e.person e.step.0) m' e.step.0)
then_taken g m m' e es is p same all =
    let o : Otherwise g m e = ((waits_exactly g m e).0 is).0 in
    let free = waits_no_more g m m' e.step.0 es p same (λ a w. all a ((move_tells g m e).exactly is a ∙ w)) in
    let there : Otherwise g m' e =
    record {
      ready = within_after g m m' e es o.ready p;
      person_as = o.person_as;
      action_as = o.action_as;
      included = ap (λ (i : ℕ). e.step.0 ∈ i) same ∙ o.included;
    } in
    allowed_taken g m' e there.ready (otherwise_allowed g m' e there free)
