-- Two steps with one action are open to the same people in the same roles: the roles belong to the action, and of what is asked of an entry
-- before its step's own state, the numbers up to 13, nothing else looks at the step. Assumes nothing.
use Rattle.std.specs.Prelude.{ℕ, ◌≤◌, ◌<◌, ◌≡◌, refl, ◌↔◌, List, [], ◌∷◌, ◌++◌, Bool, not, ◌&&◌, ltb}
use Rattle.std.proofs.Common.{sym, ap, ap₂, ◌∙◌, subst, lt-ltb}
use Rattle.std.proofs.Math.Bool.{true, false}
use native.Mathlib.Omega.{arith}
use Rattle.sets.specs.Sets.{has, empty}
use Rattle.moves.specs.declared.Marking.{Marking}
use Rattle.moves.specs.declared.Refusal.TheVariants.{Unknown, NotHeld, NotOnStep, Excluded, Waits}
use Rattle.moves.specs.First.{Verdict}
use Rattle.moves.specs.First.{Line, first, number_of, number_of_verdict}
use Rattle.moves.specs.Given.{first_clear, first_refused}
use Rattle.moves.specs.Move.{entry_of, waits_for, number_of_asked}
use Rattle.rules.specs.Graph.{Graph, graph_lines, action_of, roles_of, roles_of_action, roles_held, conditions_of}
use Rattle.rules.specs.Answers.{the_asked, marking_lines}
use Rattle.rules.specs.Asking.{asked_lines}
use Rattle.std.specs.Prelude.{Ok, Err}

module _ (g : Graph) (a b : ℕ) (same : action_of g a ≡ action_of g b) where
  -- the two have the same roles
  pub one_action : roles_of g a ≡ roles_of g b
  one_action = ap (roles_of_action g) same

  -- what is asked of an entry up to 13, and after it
  abbrev before : Marking → ℕ → ℕ → ℕ → List Line
  before m p r s =
      graph_lines g ++ marking_lines g m
      ++ ((Unknown, not (ltb p g.people && ltb s g.steps && ltb r g.roles))
      ∷ (NotHeld, not (has (roles_held g p) r))
      ∷ (NotOnStep, not (has (roles_of g s) r))
      ∷ [])

  abbrev behind : Marking → ℕ → List Line
  behind m s =
      (Excluded, not (has m.included s))
      ∷ (Waits (waits_for (conditions_of g s) m), not (empty (waits_for (conditions_of g s) m)))
      ∷ []

  -- what comes after 13 gives no number up to it
  above : (w k : ℕ) (x y : Bool) → 0 < k → k ≤ 13 → number_of_verdict (first ((Excluded, x) ∷ (Waits w, y) ∷ [])) ≡ k → ⊥
  unfolding first number_of_verdict number_of
  above w k true y some low e = omega arith
  above w k false true some low e = omega arith
  above w k false false some low e = omega arith

  -- a number that is given for the one entry is given for the other, if it comes of what they share
  shared : (c d e : List Line) (k : ℕ) → (number_of_verdict (first d) ≡ k → ⊥) → number_of_verdict (first (c ++ d)) ≡ k
      → number_of_verdict (first (c ++ e)) ≡ k
  shared c d e k none q = go (first c) refl
    where
      go : (v : Verdict) → first c ≡ v → number_of_verdict (first (c ++ e)) ≡ k
      go (Ok _) p = absurd (none (ap number_of_verdict (sym (first_clear c d p)) ∙ q))
      go (Err x) p = ap number_of_verdict (first_refused c e x p ∙ sym (first_refused c d x p)) ∙ q

  module _ (here : a < g.steps) (there : b < g.steps) (m : Marking) (p r : ℕ) where
    before_same : before m p r a ≡ before m p r b
    before_same =
        ap₂ (λ (known : Bool) (roles : ℕ). graph_lines g ++ marking_lines g m
        ++ ((Unknown, not (ltb p g.people && known && ltb r g.roles)) ∷ (NotHeld, not (has (roles_held g p) r))
        ∷ (NotOnStep, not (has roles r)) ∷ []))
        (lt-ltb a g.steps here ∙ sym (lt-ltb b g.steps there)) one_action

    abbrev number : ℕ → ℕ
    number s = number_of_asked (the_asked g m (entry_of p s r))

    -- each number up to 13 is given for the one exactly if it is given for the other: 12 and 13, the person's role and the action's, too
    pub one_action_asked : (k : ℕ) → 0 < k → k ≤ 13 → (number a ≡ k) ↔ (number b ≡ k)
    one_action_asked k some low = (
      λ e. asked_lines g m (entry_of p b r)
          ∙ subst (λ (l : List Line). number_of_verdict (first (l ++ behind m b)) ≡ k) before_same
          (shared (before m p r a) (behind m a) (behind m b) k (above _ k _ _ some low) (sym (asked_lines g m (entry_of p a r)) ∙ e)),
      λ e. asked_lines g m (entry_of p a r)
          ∙ subst (λ (l : List Line). number_of_verdict (first (l ++ behind m a)) ≡ k) (sym before_same)
          (shared (before m p r b) (behind m b) (behind m a) k (above _ k _ _ some low) (sym (asked_lines g m (entry_of p b r)) ∙ e)),
    )
