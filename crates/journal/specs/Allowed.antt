-- Is an entry allowed? Verdict all at once, and how a run tests it on a graph with nothing against it.
-- Assumes nothing.
use Rattle.std.specs.Prelude.{◌^◌, ◌≤◌, ◌<◌, ◌≡◌, refl, List, [], ◌∷◌, Bool, true, false, not, ◌&&◌, cond}
use Rattle.std.proofs.Common.{sym, ap, ◌∙◌, true≢false, arith, lt-ltb}
use Rattle.std.specs.Int.Bits.{bit_or}
use Rattle.std.proofs.lemmas.Nat.{or_lt}
use Rattle.std.proofs.lemmas.Bool.{not-true}
use Rattle.sets.specs.Sets.{has, meet, empty}
use Rattle.sets.specs.Truth.{and_left, and_right, and_intro}
use Rattle.sets.specs.Laws.{has_meet, member_below}
use Rattle.rules.specs.Graph.{Graph, roles_of, roles_held, graph_verdict}
use Rattle.moves.specs.declared.Marking.{Marking}
use Rattle.moves.specs.declared.Entry.{Entry}
use Rattle.moves.specs.declared.Refusal.{Refusal}
use Rattle.moves.specs.First.{Verdict}
use Rattle.moves.specs.Move.{Move}
use Rattle.moves.specs.First.{Line, first}
use Rattle.rules.specs.Answers.{row_of, entry_known, entry_lines, after_entry, entry_asked, refusal_in, entry_move}
use Rattle.moves.specs.Move.{is_included, waits_for, given_back, move_of}
use Rattle.tables.specs.Laws.{Counted}
use Rattle.rules.specs.Laws.{clear_counts}
use Rattle.rules.specs.Entries.{Named, known_named}
use Rattle.rules.specs.Sound.{clear_sound}
use Rattle.std.specs.Prelude.{Ok, Err}
use Rattle.moves.specs.Move.{denied}

-- no line of the table holds
unfoldable pub nothing_in : List Line → Bool
nothing_in [] = true
nothing_in (l ∷ rest) = not l.1 && nothing_in rest

-- an entry is allowed where nothing in its table holds
abbrev pub is_allowed : Graph → Marking → Entry → Bool
is_allowed g m e = nothing_in (entry_lines g m e)

-- ---- what that says of asking and taking

nothing_clear : (a : List Line) → nothing_in a ≡ true → first a ≡ Ok tt
unfolding nothing_in first
nothing_clear [] e = refl
nothing_clear (l ∷ a) e =
    ap (λ (b : Bool). cond b (Err l.0) (first a)) (not-true l.1 (and_left (not l.1) (nothing_in a) e))
    ∙ nothing_clear a (and_right (not l.1) (nothing_in a) e)

something_refused : (a : List Line) → nothing_in a ≡ false → (r : Refusal) × (first a ≡ Err r)
unfolding nothing_in first
something_refused [] e = absurd (true≢false e)
something_refused (l ∷ a) e = go l.1 refl (something_refused a)
  where
    go : (b : Bool) → l.1 ≡ b → (nothing_in a ≡ false → (r : Refusal) × (first a ≡ Err r)) → (r : Refusal)
        × (cond l.1 (Err l.0) (first a) ≡ Err r)
    go true p rest = (l.0, ap (λ (b : Bool). cond b (Err l.0) (first a)) p)
    go false p rest =
        let later = rest (ap (λ (b : Bool). not b && nothing_in a) (sym p) ∙ e) in
        (later.0, ap (λ (b : Bool). cond b (Err l.0) (first a)) p ∙ later.1)

-- the quick test and `ask` say the same
pub quick_allowed : (g : Graph) (m : Marking) (e : Entry) → is_allowed g m e ≡ true → entry_asked g m e ≡ Ok tt
unfolding entry_asked
quick_allowed g m e ok = (nothing_clear (entry_lines g m e) ok)

pub quick_refused : (g : Graph) (m : Marking) (e : Entry) → is_allowed g m e ≡ false → (r : Refusal) × (entry_asked g m e ≡ Err r)
unfolding entry_asked
quick_refused g m e out =
    let f = something_refused (entry_lines g m e) out in
    (f.0, f.1)

-- so what it allows is taken
pub allowed_moved : (g : Graph) (m : Marking) (e : Entry) → is_allowed g m e ≡ true → entry_move g m e ≡ Ok (after_entry g m e)
unfolding entry_move move_of
allowed_moved g m e ok = ap (λ (o : Verdict). move_of o m (after_entry g m e)) (quick_allowed g m e ok)

-- and what it does not is refused, by the refusal that `ask` gives
pub refused_moved : (g : Graph) (m : Marking) (e : Entry) → is_allowed g m e ≡ false
    → (back : Marking) × (entry_move g m e ≡ Err (denied back (refusal_in (entry_asked g m e))))
unfolding entry_move move_of refusal_in
refused_moved g m e out =
    let f = quick_refused g m e out in
    let back : Marking = given_back m f.0 in
    (back, ap (λ (o : Verdict). move_of o m (after_entry g m e)) f.1 ∙ ap (λ (x : Refusal). Err (denied back x)) (sym (ap refusal_in f.1)))

-- ---- its five tests

parts : (a b c d w : Bool)
    → (not (not a) && (not (not b) && (not (not c) && (not (not d) && (not (not w) && true))))) ≡ (a && (b && (c && (d && w))))
parts false b c d w = refl
parts true false c d w = refl
parts true true false d w = refl
parts true true true false w = refl
parts true true true true false = refl
parts true true true true true = refl

abbrev none_waits : Graph → Marking → Entry → Bool
none_waits g m e = empty (waits_for (row_of g e.person e.step.0).conditions m)

allowed_parts : (g : Graph) (m : Marking) (e : Entry)
    → is_allowed g m e ≡ (entry_known g e
    && (has (roles_held g e.person) e.role && (has (roles_of g e.step.0) e.role && (is_included m e && none_waits g m e))))
unfolding nothing_in
allowed_parts g m e =
    parts (entry_known g e) (has (roles_held g e.person) e.role) (has (roles_of g e.step.0) e.role) (is_included m e)
    (none_waits g m e)

is_not : (b : Bool) → (b ≡ true → ⊥) → b ≡ false
is_not true h = absurd (h refl)
is_not false h = refl

-- an allowed entry names what there is
pub allowed_named : (g : Graph) (m : Marking) (e : Entry) → is_allowed g m e ≡ true → Named g e
allowed_named g m e ok = known_named g e (and_left (entry_known g e) _ (sym (allowed_parts g m e) ∙ ok))

-- ---- the tests of a run, on a graph with nothing against it

-- a person or a role from 16 on is unknown
pub unknown_person_role : (g : Graph) (m : Marking) (e : Entry) → graph_verdict g ≡ Ok tt → 16 ≤ bit_or e.person e.role
    → is_allowed g m e ≡ false
unknown_person_role g m e clear h =
    is_not (is_allowed g m e) (λ ok.
    let n : Named g e = allowed_named g m e ok in
    let b : Counted g.steps g.people g.roles g.actions = clear_counts g clear in
    let small : bit_or e.person e.role < 2 ^ 4 =
    or_lt 4 e.person e.role (let z : e.person < 16 = omega arith in z) (let z : e.role < 16 = omega arith in z) in
    let w : ⊥ = omega arith in w)

-- a step from the count on is unknown
pub unknown_step : (g : Graph) (m : Marking) (e : Entry) → g.steps ≤ e.step.0 → is_allowed g m e ≡ false
unknown_step g m e h =
    is_not (is_allowed g m e) (λ ok.
    let n : Named g e = allowed_named g m e ok in
    let w : ⊥ = omega arith in w)

-- the role is one that the person holds and the step has
pub without_role : (g : Graph) (m : Marking) (e : Entry) → has (meet (roles_held g e.person) (roles_of g e.step.0)) e.role ≡ false
    → is_allowed g m e ≡ false
without_role g m e out =
    is_not (is_allowed g m e) (λ ok.
    let p = has (roles_held g e.person) e.role in
    let s = has (roles_of g e.step.0) e.role in
    let rest : (p && (s && (is_included m e && none_waits g m e))) ≡ true = and_right (entry_known g e) _ (sym (allowed_parts g m e) ∙ ok) in
    true≢false (sym (and_intro (and_left p _ rest) (and_left s _ (and_right p _ rest)))
    ∙ sym (has_meet (roles_held g e.person) (roles_of g e.step.0) e.role) ∙ out))

pub not_included : (g : Graph) (m : Marking) (e : Entry) → is_included m e ≡ false → is_allowed g m e ≡ false
not_included g m e out =
    is_not (is_allowed g m e) (λ ok.
    let p = has (roles_held g e.person) e.role in
    let s = has (roles_of g e.step.0) e.role in
    let rest : (p && (s && (is_included m e && none_waits g m e))) ≡ true = and_right (entry_known g e) _ (sym (allowed_parts g m e) ∙ ok) in
    true≢false (sym (and_left (is_included m e) _ (and_right s _ (and_right p _ rest))) ∙ out))

-- so an entry of a known step whose role is held and had names what there is, and only the marking is left to ask
pub role_left : (g : Graph) (m : Marking) (e : Entry) → graph_verdict g ≡ Ok tt → e.step.0 < g.steps
    → has (meet (roles_held g e.person) (roles_of g e.step.0)) e.role ≡ true → is_included m e ≡ true
    → is_allowed g m e ≡ none_waits g m e
role_left g m e clear known both included =
    allowed_parts g m e
    ∙ ap (λ (b : Bool). b && (p && (s && (is_included m e && none_waits g m e)))) named
    ∙ ap (λ (b : Bool). b && (s && (is_included m e && none_waits g m e))) held
    ∙ ap (λ (b : Bool). b && (is_included m e && none_waits g m e)) had
    ∙ ap (λ (b : Bool). b && none_waits g m e) included
  where
    p : Bool
    p = has (roles_held g e.person) e.role

    s : Bool
    s = has (roles_of g e.step.0) e.role

    held : p ≡ true
    held = and_left p s (sym (has_meet (roles_held g e.person) (roles_of g e.step.0) e.role) ∙ both)

    had : s ≡ true
    had = and_right p s (sym (has_meet (roles_held g e.person) (roles_of g e.step.0) e.role) ∙ both)

    named : entry_known g e ≡ true
    named =
        and_intro
        (and_intro (lt-ltb e.person g.people ((clear_sound g clear).holder_known e.person e.role held))
        (lt-ltb e.step.0 g.steps known))
        (lt-ltb e.role g.roles
        (member_below g.roles (roles_held g e.person) e.role ((clear_sound g clear).roles_held_in e.person) held))
