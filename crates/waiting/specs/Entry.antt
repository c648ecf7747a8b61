-- Number 15 (Definition 4 (iv)): which entries get it, and the set that goes with it. Assumes nothing.
use Rattle.std.specs.Prelude.{ℕ, ◌^◌, ◌<◌, ◌≤◌, ◌≡◌, refl, ◌↔◌, List, ◌++◌, Bool, true, false, not, ◌&&◌, cond}
use Rattle.std.proofs.Common.{sym, ap, ◌∙◌, subst, true≢false, arith}
use Rattle.std.proofs.lemmas.Bool.{not-false, eqb-false}
use Rattle.sets.specs.Sets.{has, meet, empty, lowest}
use Rattle.sets.specs.Truth.{is_false}
use Rattle.sets.specs.Laws.{lowest_has, empty_members, members_empty, meet_lt, minus_lt}
use Rattle.moves.specs.declared.Marking.{Marking}
use Rattle.moves.specs.declared.Entry.{Entry}
use Rattle.moves.specs.Move.{Move}
use Rattle.moves.specs.declared.Refusal.{Refusal}
use Rattle.moves.specs.declared.Refusal.TheVariants.{Layout, Counts, Bodies, Beyond, Arrows, Both, Length, Outside, NoRank}
use Rattle.moves.specs.declared.Refusal.TheVariants.{IllFormed, Unknown, NotHeld, NotOnStep, Excluded, Waits, NotApplied, EmptyLap}
use Rattle.moves.specs.declared.Refusal.TheVariants.{Room, Store, Arms}
use Rattle.moves.specs.First.{Verdict}
use Rattle.moves.specs.First.{Line, first, number_of, waiting_of, number_of_verdict}
use Rattle.moves.specs.Move.{waits_for, marking_fits, number_of_asked, waiting_of_asked, number_of_move, waiting_of_move}
use Rattle.moves.specs.Given.{numbers_below, first_clear, first_late, clear_head, clear_front, clear_back}
use Rattle.rules.specs.Graph.{Graph, graph_lines, graph_verdict, conditions_of, roles_of, roles_held}
use Rattle.rules.specs.Answers.{entry_known, entry_lines, marking_lines, move_lines, the_asked, the_move}
use Rattle.rules.specs.Signs.{◌∈◌, Ex, In}
use Rattle.rules.specs.Paper.{condition, Allowed, Ready, has_waits, lines_allowed, move_number}
use Rattle.rules.specs.Asking.{asked_number, asked_waiting}
use Rattle.rules.specs.Entries.{refused_first}
use Rattle.rules.specs.Sound.{clear_sound}
use Rattle.std.specs.Prelude.{Ok, Err}

-- ---- what is said

-- in marking m step s waits for step a: a is a condition of s, it is included, and it is not done
abbrev pub waited_for : Graph → Marking → ℕ → ℕ → Bool
waited_for g m s a = (condition g a s && (a ∈ In m)) && not (a ∈ Ex m)

-- number n and set x, for step s in marking m: with 15 the set has exactly the steps that s waits for, and at least one; with every
-- other number it is empty
pub record Tells (g : Graph) (m : Marking) (s n x : ℕ) : Type 0 where
  pub exactly : n ≡ 15 → (a : ℕ) → has x a ≡ waited_for g m s a
  pub some : n ≡ 15 → x ≡ 0 → ⊥
  pub none : (n ≡ 15 → ⊥) → x ≡ 0

-- all but the conditions is as it should be: but for them the entry would be allowed
pub record Otherwise (g : Graph) (m : Marking) (e : Entry) : Type 0 where
  pub ready : Ready g m e
  pub person_as : (e.role ∈ roles_held g e.person) ≡ true
  pub action_as : (e.role ∈ roles_of g e.step.0) ≡ true
  pub included : (e.step.0 ∈ In m) ≡ true

-- where nothing is waited for it is allowed
pub otherwise_allowed : (g : Graph) (m : Marking) (e : Entry) → Otherwise g m e → ((a : ℕ) → waited_for g m e.step.0 a ≡ false)
    → Allowed g m e
unfolding first
otherwise_allowed g m e o free =
    let none : empty (waits_for (conditions_of g e.step.0) m) ≡ true =
    members_empty (waits_for (conditions_of g e.step.0) m) (λ a. has_waits (conditions_of g e.step.0) m a ∙ free a) in
    lines_allowed g m e (simp (o.person_as, o.action_as, o.included, none))

-- ---- the line of the table

-- where the last of five lines is the first that holds, the others do not, and the set is the line's
pub record Waited (g : Graph) (m : Marking) (e : Entry) (r : Refusal) : Type 0 where
  pub known : entry_known g e ≡ true
  pub person_as : (e.role ∈ roles_held g e.person) ≡ true
  pub action_as : (e.role ∈ roles_of g e.step.0) ≡ true
  pub included : (e.step.0 ∈ In m) ≡ true
  pub some : empty (waits_for (conditions_of g e.step.0) m) ≡ false
  pub refusal : r ≡ Waits (waits_for (conditions_of g e.step.0) m)

not_fifteen : {A : Type 0} (q r : Refusal) → ◌≡◌ {A = Verdict} (Err q) (Err r) → number_of q < 15 → number_of r ≡ 15 → A
not_fifteen q r e low is =
    let same : q ≡ r = cc in
    let other : number_of q ≡ number_of r = ap number_of same in
    absurd (let w : ⊥ = omega arith in w)

pub waited : (g : Graph) (m : Marking) (e : Entry) (r : Refusal) → first (entry_lines g m e) ≡ Err r → number_of r ≡ 15
    → Waited g m e r
unfolding first number_of
waited g m e r q is =
    go (entry_known g e) refl (has (roles_held g e.person) e.role) refl (has (roles_of g e.step.0) e.role) refl
    (has m.included e.step.0) refl
    (empty (waits_for (conditions_of g e.step.0) m)) refl q
  where
    go : (k : Bool) → entry_known g e ≡ k → (h : Bool) → has (roles_held g e.person) e.role ≡ h → (o : Bool)
        → has (roles_of g e.step.0) e.role ≡ o
        → (i : Bool) → has m.included e.step.0 ≡ i
        → (n : Bool) → empty (waits_for (conditions_of g e.step.0) m) ≡ n
        → ◌≡◌ {A = Verdict} (cond (not k) (Err Unknown)
        (cond (not h) (Err NotHeld)
        (cond (not o) (Err NotOnStep)
        (cond (not i) (Err Excluded)
        (cond (not n) (Err (Waits (waits_for (conditions_of g e.step.0) m))) (Ok tt))))))
        (Err r)
        → Waited g m e r
    go false a h b o c i d n f t = not_fifteen Unknown r t (let z : 11 < 15 = omega arith in z) is
    go true a false b o c i d n f t = not_fifteen NotHeld r t (let z : 12 < 15 = omega arith in z) is
    go true a true b false c i d n f t = not_fifteen NotOnStep r t (let z : 13 < 15 = omega arith in z) is
    go true a true b true c false d n f t = not_fifteen Excluded r t (let z : 14 < 15 = omega arith in z) is
    go true a true b true c true d false f t =
        record { known = a; person_as = b; action_as = c; included = d; some = f; refusal = cc }
    go true a true b true c true d true f t = absurd (let z : ◌≡◌ {A = ℕ} 0 1 = cc in let w : ⊥ = omega arith in w)

-- ---- a refusal

-- no other refusal has a set
pub waiting_none : (r : Refusal) → (number_of r ≡ 15 → ⊥) → waiting_of r ≡ 0
unfolding number_of waiting_of
waiting_none Layout f = refl
waiting_none Counts f = refl
waiting_none Bodies f = refl
waiting_none Beyond f = refl
waiting_none Arrows f = refl
waiting_none Both f = refl
waiting_none Length f = refl
waiting_none Outside f = refl
waiting_none NoRank f = refl
waiting_none IllFormed f = refl
waiting_none Unknown f = refl
waiting_none NotHeld f = refl
waiting_none NotOnStep f = refl
waiting_none Excluded f = refl
waiting_none (Waits awaited) f = absurd (f refl)
waiting_none NotApplied f = refl
waiting_none EmptyLap f = refl
waiting_none Room f = refl
waiting_none Store f = refl
waiting_none Arms f = refl

-- a refusal that is 15 only as the entry's own tells what the entry's step waits for
pub refusal_tells : (g : Graph) (m : Marking) (e : Entry) (r : Refusal)
    → (number_of r ≡ 15 → first (entry_lines g m e) ≡ Err r)
    → Tells g m e.step.0 (number_of r) (waiting_of r)
unfolding waiting_of
refusal_tells g m e r own =
    record {
      exactly = λ is a. ap (λ (x : ℕ). has x a) (set is) ∙ has_waits (conditions_of g e.step.0) m a;
      some = λ is none. eqb-false _ 0 (waited g m e r (own is) is).some (sym (set is) ∙ none);
      none = waiting_none r;
    }
  where
    set : number_of r ≡ 15 → waiting_of r ≡ waits_for (conditions_of g e.step.0) m
    set is = ap waiting_of (waited g m e r (own is) is).refusal

-- no number and no set
pub nothing_told : (g : Graph) (m : Marking) (s : ℕ) → Tells g m s 0 0
nothing_told g m s =
    record {
      exactly = λ is a. absurd (let w : ⊥ = omega arith in w);
      some = λ is none. omega arith;
      none = λ f. refl;
    }

-- ---- the move

-- what stands before the entry in the table of the move: 2, 4, 6, 8
abbrev before_entry : Graph → Marking → List Line
before_entry g m = graph_lines g ++ marking_lines g m

pub entry_refused : (g : Graph) (m : Marking) (e : Entry) (r : Refusal) → first (move_lines g m e) ≡ Err r → number_of r ≡ 15
    → (first (before_entry g m) ≡ Ok tt) × (first (entry_lines g m e) ≡ Err r)
unfolding numbers_below number_of
entry_refused g m e r q is =
    first_late 11 (before_entry g m) (entry_lines g m e) r refl q (let z : 11 ≤ number_of r = omega arith in z)

-- the move tells what the step waits for in the marking before
pub move_tells : (g : Graph) (m : Marking) (e : Entry)
    → Tells g m e.step.0 (number_of_move (the_move g m e)) (waiting_of_move (the_move g m e))
unfolding number_of_move waiting_of_move
move_tells g m e = go (the_move g m e) refl
  where
    go : (o : Move) → the_move g m e ≡ o → Tells g m e.step.0 (number_of_move o) (waiting_of_move o)
    go (Ok next) p = nothing_told g m e.step.0
    go (Err d) p = refusal_tells g m e d.refusal (λ is. (entry_refused g m e d.refusal (refused_first g m d.marking e d.refusal p) is).1)

-- and asking tells the same
pub ask_tells : (g : Graph) (m : Marking) (e : Entry)
    → Tells g m e.step.0 (number_of_asked (the_asked g m e)) (waiting_of_asked (the_asked g m e))
ask_tells g m e =
    subst (λ (n : ℕ). Tells g m e.step.0 n (waiting_of_asked (the_asked g m e))) (sym (asked_number g m e))
    (subst (Tells g m e.step.0 (number_of_move (the_move g m e))) (sym (asked_waiting g m e)) (move_tells g m e))

ready : (g : Graph) (m : Marking) (e : Entry) → first (before_entry g m) ≡ Ok tt → entry_known g e ≡ true → Ready g m e
ready g m e clear known =
    record {
      graph = clear_front (graph_lines g) (marking_lines g m) clear;
      marking = not-false (marking_fits g.steps m) (clear_head _ _ (clear_back (graph_lines g) (marking_lines g m) clear));
      names = known;
    }

-- 15 exactly if the step would otherwise be allowed and some condition of it is included and not done
pub waits_exactly : (g : Graph) (m : Marking) (e : Entry)
    → (number_of_move (the_move g m e) ≡ 15) ↔ (Otherwise g m e × ((a : ℕ) × (waited_for g m e.step.0 a ≡ true)))
unfolding number_of_verdict number_of first
waits_exactly g m e = (λ is. there (first (move_lines g m e)) refl (sym (move_number g m e) ∙ is), back)
  where
    awaited : ℕ
    awaited = waits_for (conditions_of g e.step.0) m

    there : (v : Verdict) → first (move_lines g m e) ≡ v → number_of_verdict v ≡ 15
        → Otherwise g m e × ((a : ℕ) × (waited_for g m e.step.0 a ≡ true))
    there (Ok _) p is = absurd (let w : ⊥ = omega arith in w)
    there (Err r) p is =
        let parts = entry_refused g m e r p is in
        let w : Waited g m e r = waited g m e r parts.1 is in
        let clear : graph_verdict g ≡ (Ok tt) = clear_front (graph_lines g) (marking_lines g m) parts.0 in
        let small : awaited < 2 ^ g.steps =
        minus_lt g.steps (meet (conditions_of g e.step.0) m.included) m.done
        (meet_lt g.steps (conditions_of g e.step.0) m.included ((clear_sound g clear).conditions_in e.step.0)) in (
          record {
            ready = ready g m e parts.0 w.known;
            person_as = w.person_as;
            action_as = w.action_as;
            included = w.included;
          },
          (
            lowest g.steps awaited,
            sym (has_waits (conditions_of g e.step.0) m (lowest g.steps awaited))
                ∙ lowest_has g.steps awaited small (eqb-false awaited 0 w.some),
          ),
        )

    back : Otherwise g m e × ((a : ℕ) × (waited_for g m e.step.0 a ≡ true)) → number_of_move (the_move g m e) ≡ 15
    back h = move_number g m e ∙ ap number_of_verdict (given h.0 h.1.0 h.1.1)
      where
        given : Otherwise g m e → (a : ℕ) → waited_for g m e.step.0 a ≡ true
            → first (move_lines g m e) ≡ Err (Waits (waits_for (conditions_of g e.step.0) m))
        given o a w =
            let some : empty (waits_for (conditions_of g e.step.0) m) ≡ false =
            is_false _ (λ none. true≢false (sym w ∙ sym (has_waits (conditions_of g e.step.0) m a)
            ∙ empty_members (waits_for (conditions_of g e.step.0) m) none a)) in
            first_clear (graph_lines g) (marking_lines g m ++ entry_lines g m e) o.ready.graph
            ∙ simp (o.ready.marking, o.ready.names, o.person_as, o.action_as, o.included, some)
