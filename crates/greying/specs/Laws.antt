-- What is found row by row is what is asked for entry by entry: a step has a role in common with a person exactly if in one of the roles
-- both tests of Definition 5 hold; the other two tests of an entry do not depend on the role. Assumes nothing.
use Rattle.std.specs.Prelude.{ℕ, ◌<◌, ◌≡◌, refl, List, [], ◌∷◌, ◌++◌, Bool, true, false, ◌&&◌, ltb}
use Rattle.std.proofs.Math.Path.{sym, ap}
use Rattle.std.proofs.Common.{◌∙◌, lt-ltb}
use Rattle.std.proofs.Math.Bool.{not}
use Rattle.sets.specs.Sets.{has, meet, empty, gather, those}
use Rattle.sets.specs.Truth.{and_intro}
use Rattle.sets.specs.Laws.{has_meet, meet_lt}
use Rattle.sets.specs.Ranges.{any_same, any_and, any_member, any_meets, gather_less, those_same, those_meet}
use Rattle.moves.specs.declared.Marking.{Marking}
use Rattle.moves.specs.declared.Entry.{Entry}
use Rattle.moves.specs.declared.Refusal.{Refusal}
use Rattle.moves.specs.declared.Refusal.TheVariants.{Outside, Unknown, NotHeld, NotOnStep, Excluded, Waits}
use Rattle.moves.specs.First.{Verdict}
use Rattle.moves.specs.First.{Line, first}
use Rattle.moves.specs.Move.{entry_of, marking_fits, waits_for}
use Rattle.moves.specs.Given.{first_clear, first_refused}
use Rattle.rules.specs.Graph.{Graph, graph_lines, graph_verdict, conditions_of, roles_of, roles_held}
use Rattle.rules.specs.Answers.{the_asked, entry_known, marking_lines}
use Rattle.rules.specs.Laws.{asked_clear, on_inside, entry_known_lem, clear_counts}
use Rattle.rules.specs.Sound.{clear_sound}
use Rattle.greying.specs.Greying.{granted, allowed_to, allowed_to_someone, person_lines, choice_of, the_choice, the_choice_of_all}
use Rattle.greying.specs.Rows.{step_passes, steps_for}
use Rattle.std.specs.Prelude.{Ok, Err}

-- ---- one entry, asked all at once

four : (x : ℕ) (a b c d : Bool)
    → granted ((first ((NotHeld, not a) ∷ (NotOnStep, not b) ∷ (Excluded, not c) ∷ (Waits x, not d) ∷ []))) ≡ ((a && b) && (c && d))
unfolding granted first
four x true true true true = refl
four x true true true false = refl
four x true true false d = refl
four x true false c d = refl
four x false b c d = refl

regroup : (n i w : Bool) → (n && (i && w)) ≡ ((n && w) && i)
regroup true true true = refl
regroup true true false = refl
regroup true false true = refl
regroup true false false = refl
regroup false i w = refl

module _ (g : Graph) (m : Marking) (clear : graph_verdict g ≡ Ok tt) (fits : marking_fits g.steps m ≡ true) where
  asked_tests : (e : Entry) → entry_known g e ≡ true
      → granted (the_asked g m e)
      ≡ ((has (roles_held g e.person) e.role && has (roles_of g e.step.0) e.role)
      && (has m.included e.step.0 && empty (waits_for (conditions_of g e.step.0) m)))
  asked_tests e known = ap granted (asked_clear g m e clear ∙ on_inside g m e fits ∙ entry_known_lem g m e known)
      ∙ four (waits_for (conditions_of g e.step.0) m) (has (roles_held g e.person) e.role) (has (roles_of g e.step.0) e.role)
      (has m.included e.step.0) (empty (waits_for (conditions_of g e.step.0) m))

  -- a step is allowed to a person exactly if its row lets it pass, and it is included
  allowed_row : (p s : ℕ) → p < g.people → s < g.steps
      → allowed_to g m p s ≡ (step_passes g m (roles_held g p) s && has m.included s)
  unfolding allowed_to
  allowed_row p s here there =
      let held = roles_held g p in
      let allows = roles_of g s in
      let inside = has m.included s in
      let free = empty (waits_for (conditions_of g s) m) in
      any_same g.roles (λ r. granted (the_asked g m (entry_of p s r))) (λ r. (has held r && has allows r) && (inside && free))
      (λ r h. asked_tests (entry_of p s r)
      (and_intro (and_intro (lt-ltb p g.people here) (lt-ltb s g.steps there)) (lt-ltb r g.roles h)))
      ∙ any_and g.roles (λ r. has held r && has allows r) (inside && free)
      ∙ ap (λ (b : Bool). b && (inside && free))
      (any_same g.roles (λ r. has held r && has allows r) (has (meet held allows)) (λ r h. sym (has_meet held allows r))
      ∙ any_member g.roles (meet held allows) (meet_lt g.roles held allows ((clear_sound g clear).roles_held_in p)))
      ∙ regroup (not (empty (meet held allows))) inside free

  -- and to someone exactly if its row lets one pass who holds what all hold together
  someone_row : (s : ℕ) → s < g.steps
      → allowed_to_someone g m s ≡ (step_passes g m (gather g.people (roles_held g)) s && has m.included s)
  unfolding allowed_to_someone
  someone_row s there =
      let allows = roles_of g s in
      let inside = has m.included s in
      let free = empty (waits_for (conditions_of g s) m) in
      any_same g.people (λ p. allowed_to g m p s) (λ p. step_passes g m (roles_held g p) s && inside) (λ p h. allowed_row p s h there)
      ∙ any_and g.people (λ p. step_passes g m (roles_held g p) s) inside
      ∙ ap (λ (b : Bool). b && inside)
      (any_and g.people (λ p. not (empty (meet (roles_held g p) allows))) free
      ∙ ap (λ (b : Bool). b && free) (any_meets g.people (roles_held g) allows))

  -- so for all steps at once
  pub steps_of_lem : (p : ℕ) → p < g.people → steps_for g m (roles_held g p) ≡ those g.steps (allowed_to g m p)
  unfolding steps_for
  steps_of_lem p here = those_meet g.steps (step_passes g m (roles_held g p)) m.included
      ∙ those_same g.steps (λ s. step_passes g m (roles_held g p) s && has m.included s) (allowed_to g m p)
      (λ s h. sym (allowed_row p s here h))

  -- nobody beyond the people holds a role, so that sixteen may be looked at
  pub steps_of_all : steps_for g m (gather 16 (roles_held g)) ≡ those g.steps (allowed_to_someone g m)
  unfolding steps_for
  steps_of_all =
      let all = gather g.people (roles_held g) in
      ap (steps_for g m) (gather_less 16 g.people (roles_held g) (clear_counts g clear).people_most (clear_sound g clear).nobody_holds)
      ∙ those_meet g.steps (step_passes g m all) m.included
      ∙ those_same g.steps (λ s. step_passes g m all s && has m.included s) (allowed_to_someone g m) (λ s h. sym (someone_row s h))

-- ---- the answers, by what is found of the graph, the marking and the person

module _ (g : Graph) (rest : List Line) (steps : ℕ) where
  by_refused : (r : Refusal) → graph_verdict g ≡ Err r → choice_of (first (graph_lines g ++ rest)) steps ≡ Err r
  unfolding choice_of
  by_refused r q = ap (λ (v : Verdict). choice_of v steps) (first_refused (graph_lines g) rest r q)

  by_clear : graph_verdict g ≡ Ok tt → choice_of (first (graph_lines g ++ rest)) steps ≡ choice_of (first rest) steps
  by_clear q = ap (λ (v : Verdict). choice_of v steps) (first_clear (graph_lines g) rest q)

module _ (g : Graph) (m : Marking) (p : ℕ) where
  abbrev to_person : ℕ
  to_person = those g.steps (allowed_to g m p)

  pub choice_refused : (r : Refusal) → graph_verdict g ≡ Err r → the_choice g m p ≡ Err r
  unfolding the_choice
  choice_refused = by_refused g (marking_lines g m ++ person_lines g p) to_person

  pub choice_outside : graph_verdict g ≡ Ok tt → marking_fits g.steps m ≡ false → the_choice g m p ≡ Err Outside
  unfolding the_choice first choice_of
  choice_outside q f = by_clear g (marking_lines g m ++ person_lines g p) to_person q ∙ simp f

  pub choice_unknown : graph_verdict g ≡ Ok tt → marking_fits g.steps m ≡ true → ltb p g.people ≡ false
      → the_choice g m p ≡ Err Unknown
  unfolding the_choice first choice_of
  choice_unknown q f k = by_clear g (marking_lines g m ++ person_lines g p) to_person q ∙ simp (f, k)

  pub choice_steps : graph_verdict g ≡ Ok tt → marking_fits g.steps m ≡ true → ltb p g.people ≡ true
      → the_choice g m p ≡ Ok to_person
  unfolding the_choice first choice_of
  choice_steps q f k = by_clear g (marking_lines g m ++ person_lines g p) to_person q ∙ simp (f, k)

module _ (g : Graph) (m : Marking) where
  abbrev to_all : ℕ
  to_all = those g.steps (allowed_to_someone g m)

  pub all_refused : (r : Refusal) → graph_verdict g ≡ Err r → the_choice_of_all g m ≡ Err r
  unfolding the_choice_of_all
  all_refused = by_refused g (marking_lines g m) to_all

  pub all_outside : graph_verdict g ≡ Ok tt → marking_fits g.steps m ≡ false → the_choice_of_all g m ≡ Err Outside
  unfolding the_choice_of_all first choice_of
  all_outside q f = by_clear g (marking_lines g m) to_all q ∙ simp f

  pub all_steps : graph_verdict g ≡ Ok tt → marking_fits g.steps m ≡ true → the_choice_of_all g m ≡ Ok to_all
  unfolding the_choice_of_all first choice_of
  all_steps q f = by_clear g (marking_lines g m) to_all q ∙ simp f
