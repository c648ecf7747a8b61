-- The paper's Definitions 3, 4 and 5, item by item; proofs/Taken.antt has that the move is what they say. docs/RULES.md holds them beside the
-- paper's text.
-- Assumes nothing.
use Rattle.std.specs.Prelude.{ℕ, ◌<◌, ◌≤◌, ◌≡◌, refl, ◌++◌, Bool, true, false, not, ◌&&◌, ◌||◌, eqb}
use Rattle.std.proofs.Common.{sym, ap, ap₂, ◌∙◌}
use Rattle.std.proofs.lemmas.Bool.{false≢true, not-false}
use Rattle.sets.specs.Sets.{has, single, union, meet, minus, empty}
use Rattle.sets.specs.Laws.{has_union, has_meet, has_minus, has_single, empty_members, members_empty}
use Rattle.rules.specs.Graph.{Graph, graph_lines, graph_verdict, conditions_of, responses_of, includes_of, excludes_of, roles_of, roles_held}
use Rattle.moves.specs.declared.Marking.{Marking}
use Rattle.moves.specs.declared.Entry.{Entry}
use Rattle.moves.specs.First.{Verdict}
use Rattle.moves.specs.First.{first, number_of_verdict, number_of}
use Rattle.rules.specs.Answers.{the_move, move_lines, marking_lines, entry_known, row_of}
use Rattle.rules.specs.Answers.{number_of_ending, ending_of, the_ending}
use Rattle.moves.specs.Move.{row_lines, after, waits_for, is_finished, marking_fits, number_of_move}
use Rattle.moves.specs.Given.{ascends, holds, first_lowest, clear_head, clear_tail}
use Rattle.rules.specs.Signs.{◌∩◌, ◌∖◌, ◌∪◌, ◌∈◌, Ex, Re, In}
use Rattle.rules.specs.Asking.{asked_number, asked_lines}
use Rattle.std.specs.Prelude.{Ok, Err}

-- ---- Definition 3: the relations

-- (iv) a →• b
abbrev pub condition : Graph → ℕ → ℕ → Bool
condition g a b = a ∈ conditions_of g b

-- (v) a •→ b
abbrev pub response : Graph → ℕ → ℕ → Bool
response g a b = b ∈ responses_of g a

-- (vi) a →+ b
abbrev pub includes : Graph → ℕ → ℕ → Bool
includes g a b = b ∈ includes_of g a

-- (vi) a →% b
abbrev pub excludes : Graph → ℕ → ℕ → Bool
excludes g a b = b ∈ excludes_of g a

-- ---- Definitions 4 and 5: when person p may take step e in role r

pub record Allowed (g : Graph) (m : Marking) (e : Entry) : Type 0 where
  -- p as r
  pub person_as : (e.role ∈ roles_held g e.person) ≡ true
  -- a as r
  pub action_as : (e.role ∈ roles_of g e.step.0) ≡ true
  -- (iii) e ∈ In'
  pub included : (e.step.0 ∈ In m) ≡ true
  -- (iv) {e' ∈ In' | e' →• e} ⊆ Ex'
  pub conditions : (a : ℕ) → (a ∈ In m) ≡ true → condition g a e.step.0 ≡ true → (a ∈ Ex m) ≡ true

three : (p q r : Bool) → ((p && q) && not r) ≡ false → q ≡ true → p ≡ true → r ≡ true
three true true true e f h = refl
three true true false e f h = sym e
three true false r e f h = absurd (false≢true f)
three false q r e f h = absurd (false≢true h)

three_of : (p q r : Bool) → (q ≡ true → p ≡ true → r ≡ true) → ((p && q) && not r) ≡ false
three_of true true true f = refl
three_of true true false f = sym (f refl refl)
three_of true false r f = refl
three_of false q r f = refl

-- what is waited for, step by step
pub has_waits : (conditions : ℕ) (m : Marking) (a : ℕ)
    → has (waits_for conditions m) a ≡ ((has conditions a && has m.included a) && not (has m.done a))
has_waits conditions m a =
    has_minus (meet conditions m.included) m.done a
    ∙ ap (λ (b : Bool). b && not (has m.done a)) (has_meet conditions m.included a)

-- nothing is against an entry that is known exactly if the definitions allow it
pub lines_allowed : (g : Graph) (m : Marking) (e : Entry) → first (row_lines (row_of g e.person e.step.0) m e) ≡ Ok tt
    → Allowed g m e
lines_allowed g m e c =
    let c2 = clear_tail _ _ c in
    let c3 = clear_tail _ _ c2 in
    let c4 = clear_tail _ _ c3 in
    record {
      person_as = not-false (has (roles_held g e.person) e.role) (clear_head _ _ c);
      action_as = not-false (has (roles_of g e.step.0) e.role) (clear_head _ _ c2);
      included = not-false (has m.included e.step.0) (clear_head _ _ c3);
      conditions = λ a i r.
          three (condition g a e.step.0) (has m.included a) (has m.done a)
          (sym (has_waits (conditions_of g e.step.0) m a)
          ∙ empty_members (waits_for (conditions_of g e.step.0) m)
          (not-false (empty (waits_for (conditions_of g e.step.0) m)) (clear_head _ _ c4)) a) i r;
    }

pub allowed_lines : (g : Graph) (m : Marking) (e : Entry) → Allowed g m e
    → first (row_lines (row_of g e.person e.step.0) m e) ≡ Ok tt
unfolding first
allowed_lines g m e w =
    let none : empty (waits_for (conditions_of g e.step.0) m) ≡ true =
    members_empty (waits_for (conditions_of g e.step.0) m) (λ a. has_waits (conditions_of g e.step.0) m a
    ∙ three_of (condition g a e.step.0) (has m.included a) (has m.done a) (w.conditions a)) in
    simp (w.person_as, w.action_as, w.included, none)

-- ---- the move answers "moved" exactly if all is as it should be and the definitions allow the entry

-- the graph and the marking are as they should be, and the entry names what there is
pub record Ready (g : Graph) (m : Marking) (e : Entry) : Type 0 where
  pub graph : graph_verdict g ≡ Ok tt
  pub marking : marking_fits g.steps m ≡ true
  pub names : entry_known g e ≡ true

-- ---- the number is exactly the first of the table that holds

pub move_number : (g : Graph) (m : Marking) (e : Entry) → number_of_move (the_move g m e) ≡ number_of_verdict (first (move_lines g m e))
move_number g m e = sym (asked_number g m e) ∙ asked_lines g m e

ending_of_lem : (v : Verdict) (done : Bool) → number_of_ending (ending_of v done) ≡ number_of_verdict v
unfolding number_of_ending ending_of number_of_verdict
ending_of_lem (Ok _) true = refl
ending_of_lem (Ok _) false = refl
ending_of_lem (Err r) done = refl

pub ending_number : (g : Graph) (m : Marking) → number_of_ending (the_ending g m) ≡ number_of_verdict (first (graph_lines g ++ marking_lines g m))
unfolding the_ending
ending_number g m = ending_of_lem (first (graph_lines g ++ marking_lines g m)) (is_finished m)

-- the table of the move goes up, so that the first that holds is the lowest
pub move_ascends : (g : Graph) (m : Marking) (e : Entry) → ascends 0 (move_lines g m e) ≡ true
unfolding ascends number_of
move_ascends g m e = refl

pub move_lowest : (g : Graph) (m : Marking) (e : Entry) (k : ℕ) → holds k (move_lines g m e) ≡ true
    → (0 < number_of_move (the_move g m e)) × (number_of_move (the_move g m e) ≤ k)
move_lowest g m e k h = rw move_number (first_lowest 0 (move_lines g m e) (move_ascends g m e) k h)

-- ---- Definition 4 (ii), (v), (vi), as printed: the marking after step e

module _ (g : Graph) (m : Marking) (p e : ℕ) where
  -- Ex'' = Ex' ∪ {e}
  pub item_ii : Ex (after (row_of g p e) m e) ≡ (Ex m ∪ single e)
  item_ii = refl

  -- In'' = (In' ∪ {e' | e →+ e'}) ∖ {e' | e →% e'}
  pub item_v : In (after (row_of g p e) m e) ≡ ((In m ∪ includes_of g e) ∖ excludes_of g e)
  item_v = refl

  -- Re'' = (Re' ∖ {e}) ∪ {e' | e •→ e'}
  pub item_vi : Re (after (row_of g p e) m e) ≡ ((Re m ∖ single e) ∪ responses_of g e)
  item_vi = refl

-- finished: Re ∩ In = ∅
pub item_finished : (m : Marking) → is_finished m ≡ empty (Re m ∩ In m)
item_finished m = refl

-- ---- the same, step by step

-- Ex'' = Ex' ∪ {e}
pub after_done : (g : Graph) (m : Marking) (p e s : ℕ) → has (after (row_of g p e) m e).done s ≡ (has m.done s || eqb e s)
after_done g m p e s = has_union m.done (single e) s ∙ ap (λ (b : Bool). has m.done s || b) (has_single e s)

-- In'' = (In' ∪ {e' | e →+ e'}) \ {e' | e →% e'}
pub after_included : (g : Graph) (m : Marking) (p e s : ℕ)
    → has (after (row_of g p e) m e).included s ≡ ((has m.included s || includes g e s) && not (excludes g e s))
after_included g m p e s =
    has_minus (union m.included (includes_of g e)) (excludes_of g e) s
    ∙ ap (λ (b : Bool). b && not (excludes g e s)) (has_union m.included (includes_of g e) s)

-- Re'' = (Re' \ {e}) ∪ {e' | e •→ e'}
pub after_due : (g : Graph) (m : Marking) (p e s : ℕ)
    → has (after (row_of g p e) m e).due s ≡ ((has m.due s && not (eqb e s)) || response g e s)
after_due g m p e s =
    has_union (minus m.due (single e)) (responses_of g e) s
    ∙ ap (λ (b : Bool). b || response g e s) (has_minus m.due (single e) s ∙ ap (λ (b : Bool). has m.due s && not b) (has_single e s))

-- ---- finished: Re ∩ In = ∅

not_both : (p q : Bool) → (p && q) ≡ false → p ≡ true → q ≡ false
not_both true q e f = e
not_both false q e f = absurd (false≢true f)

both_not : (p q : Bool) → (p ≡ true → q ≡ false) → (p && q) ≡ false
both_not true q f = f refl
both_not false q f = refl

pub finished_apart : (m : Marking) → is_finished m ≡ true → (s : ℕ) → has m.due s ≡ true → has m.included s ≡ false
finished_apart m e s =
    not_both (has m.due s) (has m.included s)
    (sym (has_meet m.due m.included s) ∙ empty_members (meet m.due m.included) e s)

pub apart_finished : (m : Marking) → ((s : ℕ) → has m.due s ≡ true → has m.included s ≡ false) → is_finished m ≡ true
apart_finished m f = members_empty (meet m.due m.included)
    (λ s. has_meet m.due m.included s ∙ both_not (has m.due s) (has m.included s) (f s))

-- ---- what the slips would break

or_first : (p q : Bool) → p ≡ true → (p || q) ≡ true
or_first true q e = refl
or_first false q e = absurd (false≢true e)

or_second : (p q : Bool) → q ≡ true → (p || q) ≡ true
or_second true q e = refl
or_second false q e = e

-- a due step stays due while others are done, excluded or not
pub due_kept : (g : Graph) (m : Marking) (p e s : ℕ) → has m.due s ≡ true → eqb e s ≡ false → has (after (row_of g p e) m e).due s ≡ true
due_kept g m p e s d other =
    after_due g m p e s ∙ or_first (has m.due s && not (eqb e s)) (response g e s) (ap₂ (λ (x y : Bool). x && not y) d other)

-- a step that is its own response is due again after it is done
pub own_response : (g : Graph) (m : Marking) (p e : ℕ) → response g e e ≡ true → has (after (row_of g p e) m e).due e ≡ true
own_response g m p e r = after_due g m p e e ∙ or_second (has m.due e && not (eqb e e)) (response g e e) r

-- a step that excludes itself is out after it is done
pub own_exclude : (g : Graph) (m : Marking) (p e : ℕ) → excludes g e e ≡ true → has (after (row_of g p e) m e).included e ≡ false
own_exclude g m p e r = after_included g m p e e ∙ ap (λ (b : Bool). (has m.included e || includes g e e) && not b) r
    ∙ and_no (has m.included e || includes g e e)
  where
    and_no : (b : Bool) → (b && false) ≡ false
    and_no true = refl
    and_no false = refl

-- a step that includes itself, and does not exclude itself, is in after it is done
pub own_include : (g : Graph) (m : Marking) (p e : ℕ) → includes g e e ≡ true → excludes g e e ≡ false
    → has (after (row_of g p e) m e).included e ≡ true
own_include g m p e r x =
    after_included g m p e e ∙ ap₂ (λ (a b : Bool). a && not b) (or_second (has m.included e) (includes g e e) r) x

-- a step that is its own condition waits for itself while it is included and was never done: conditions are read before the move
pub own_condition : (g : Graph) (m : Marking) (e : ℕ) → condition g e e ≡ true → has m.included e ≡ true → has m.done e ≡ false
    → has (waits_for (conditions_of g e) m) e ≡ true
own_condition g m e c i d = has_waits (conditions_of g e) m e ∙ ap₂ (λ (a b : Bool). a && not b) (ap₂ ◌&&◌ c i) d
