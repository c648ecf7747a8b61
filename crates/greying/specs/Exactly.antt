-- What the sets say of asking, and with it of Definitions 4 and 5: a step is in a set exactly if an entry that takes it is allowed.
-- Assumes nothing.
use Rattle.std.specs.Prelude.{ℕ, ◌≡◌, refl, ◌↔◌, ◌++◌, true, ltb}
use Rattle.std.proofs.Common.{sym, ◌∙◌, arith, lt-ltb}
use Rattle.std.proofs.Math.Path.{ap}
use Rattle.std.proofs.lemmas.Bool.{false≢true}
use Rattle.sets.specs.Sets.{has, those}
use Rattle.sets.specs.Truth.{and_intro, and_right}
use Rattle.sets.specs.Laws.{has_those}
use Rattle.sets.specs.Ranges.{any_at, any_of}
use Rattle.moves.specs.Move.{entry_of}
use Rattle.moves.specs.declared.Marking.{Marking}
use Rattle.moves.specs.First.{Verdict}
use Rattle.moves.specs.First.{first, number_of_verdict}
use Rattle.rules.specs.Graph.{Graph, graph_lines}
use Rattle.rules.specs.Answers.{the_asked, marking_lines}
use Rattle.rules.specs.Entries.{Named, known_named}
use Rattle.rules.specs.Paper.{Ready, Allowed}
use Rattle.rules.proofs.Taken.{asked_allowed, allowed_asked}
use Rattle.greying.specs.Greying.{granted, allowed_to, allowed_to_someone, choice_lines, choice_of, the_choice, the_choice_of_all}
use Rattle.greying.specs.Greying.{number_of_choice}
use Rattle.std.specs.Prelude.{Ok, Err}

-- ---- an entry, and the roles and people that there are

pub granted_is : (o : Verdict) → granted o ≡ true → o ≡ Ok tt
unfolding granted
granted_is (Ok _) e = refl
granted_is (Err r) e = absurd (false≢true e)

is_granted : (o : Verdict) → o ≡ Ok tt → granted o ≡ true
unfolding granted
is_granted o e = ap granted e

steps_in : (v : Verdict) (all x : ℕ) → choice_of v all ≡ Ok x → all ≡ x
unfolding choice_of
steps_in (Ok _) all x e = cc
steps_in (Err r) all x e = absurd (let z : ◌≡◌ {A = ℕ} 0 1 = cc in let w : ⊥ = omega arith in w)

module _ (g : Graph) (m : Marking) where
  -- who is allowed a step names what there is
  named : (p s r : ℕ) → the_asked g m (entry_of p s r) ≡ Ok tt → Named g (entry_of p s r)
  named p s r e = known_named g (entry_of p s r) (asked_allowed g m (entry_of p s r) e).0.names

  -- a step is allowed to a person exactly if `ask` allows it in some role, and to someone exactly if to some person
  pub to_person_lem : (p s : ℕ) → (allowed_to g m p s ≡ true) ↔ ((r : ℕ) × (the_asked g m (entry_of p s r) ≡ Ok tt))
  unfolding allowed_to
  to_person_lem p s = (
    λ t. let w = any_at g.roles (λ r. granted (the_asked g m (entry_of p s r))) t in (w.0, granted_is _ w.2),
    λ w. any_of g.roles (λ r. granted (the_asked g m (entry_of p s r))) w.0 (named p s w.0 w.1).role_in (is_granted _ w.1),
  )

  pub to_someone : (s : ℕ) → (allowed_to_someone g m s ≡ true) ↔ ((p : ℕ) × ((r : ℕ) × (the_asked g m (entry_of p s r) ≡ Ok tt)))
  unfolding allowed_to_someone
  to_someone s = (
    λ t. let w = any_at g.people (λ p. allowed_to g m p s) t in (w.0, (to_person_lem w.0 s).0 w.2),
    λ w. any_of g.people (λ p. allowed_to g m p s) w.0 (named w.0 s w.1.0 w.1.1).person_in ((to_person_lem w.0 s).1 w.1),
  )

  -- ---- the sets

  -- step s is in the set for person p exactly if `ask` allows p to take it in some role
  pub allowed_exactly : (p x : ℕ) → the_choice g m p ≡ Ok x
      → (s : ℕ) → (has x s ≡ true) ↔ ((r : ℕ) × (the_asked g m (entry_of p s r) ≡ Ok tt))
  unfolding the_choice
  allowed_exactly p x e s =
      let same = steps_in (first (choice_lines g m p)) (those g.steps (allowed_to g m p)) x e in
      let member = ap (λ (y : ℕ). has y s) (sym same) ∙ has_those g.steps (allowed_to g m p) s in (
        λ t. (to_person_lem p s).0 (and_right (ltb s g.steps) (allowed_to g m p s) (sym member ∙ t)),
        λ w. member ∙ and_intro (lt-ltb s g.steps (named p s w.0 w.1).step_in) ((to_person_lem p s).1 w),
      )

  -- and in the set for all exactly if `ask` allows someone to
  pub someone_exactly : (x : ℕ) → the_choice_of_all g m ≡ Ok x
      → (s : ℕ) → (has x s ≡ true) ↔ ((p : ℕ) × ((r : ℕ) × (the_asked g m (entry_of p s r) ≡ Ok tt)))
  unfolding the_choice_of_all
  someone_exactly x e s =
      let same = steps_in (first (graph_lines g ++ marking_lines g m)) (those g.steps (allowed_to_someone g m)) x e in
      let member = ap (λ (y : ℕ). has y s) (sym same) ∙ has_those g.steps (allowed_to_someone g m) s in (
        λ t. (to_someone s).0 (and_right (ltb s g.steps) (allowed_to_someone g m s) (sym member ∙ t)),
        λ w. member ∙ and_intro (lt-ltb s g.steps (named w.0 s w.1.0 w.1.1).step_in) ((to_someone s).1 w),
      )

  -- Definitions 4 (iii), (iv) and 5: in some role p may take s
  pub allowed_paper : (p x : ℕ) → the_choice g m p ≡ Ok x
      → (s : ℕ) → (has x s ≡ true) ↔ ((r : ℕ) × (Ready g m (entry_of p s r) × Allowed g m (entry_of p s r)))
  allowed_paper p x e s = (
    λ t. let w = (allowed_exactly p x e s).0 t in (w.0, asked_allowed g m (entry_of p s w.0) w.1),
    λ w. (allowed_exactly p x e s).1 (w.0, allowed_asked g m (entry_of p s w.0) w.1.0 w.1.1),
  )

-- ---- the numbers

choice_of_lem : (v : Verdict) (x : ℕ) → number_of_choice (choice_of v x) ≡ number_of_verdict v
unfolding number_of_choice choice_of number_of_verdict
choice_of_lem (Ok _) x = refl
choice_of_lem (Err r) x = refl

pub choice_number : (g : Graph) (m : Marking) (p : ℕ) → number_of_choice (the_choice g m p) ≡ number_of_verdict (first (choice_lines g m p))
unfolding the_choice
choice_number g m p = choice_of_lem (first (choice_lines g m p)) (those g.steps (allowed_to g m p))

pub all_number : (g : Graph) (m : Marking)
    → number_of_choice (the_choice_of_all g m) ≡ number_of_verdict (first (graph_lines g ++ marking_lines g m))
unfolding the_choice_of_all
all_number g m = choice_of_lem (first (graph_lines g ++ marking_lines g m)) (those g.steps (allowed_to_someone g m))
