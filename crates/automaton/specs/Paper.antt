-- The paper's Definition 7, item by item as it is printed, with `ln` read as In. The events are the steps, E = {e₁, .., eₙ}, in the order
-- of their numbers. Nothing of the rule that the code follows (Tracker.antt) is used here; Same.antt proves that the two are the same.
use Rattle.std.specs.Prelude.{ℕ, ◌≤◌, ◌≡◌, Bool, false, ◌&&◌, ◌||◌, cond, ltb}
use Rattle.std.proofs.Math.Option.{Option, none, some}
use Rattle.sets.specs.Sets.{has, single, empty, lowest, those}
use Rattle.rules.specs.Graph.{Graph}
use Rattle.moves.specs.declared.Marking.{Marking}
use Rattle.moves.specs.declared.Entry.{Entry}
use Rattle.rules.specs.Answers.{the_move}
use Rattle.rules.specs.Signs.{◌∩◌, ◌∖◌, ◌∪◌, Ex, Re, In}
use Rattle.moves.specs.Inside.{Inside}
use Rattle.moves.specs.Move.{rank_of}
use Rattle.tracker.specs.declared.Track.{Track}
use Rattle.std.specs.Prelude.{Ok}

-- ---- the paper's signs

infix 50 ◌∈?◌
-- min(E'): of the events in E' the one of lowest rank; there is none where E' is empty
abbrev pub min : ℕ → ℕ → Option ℕ
min n x = cond (empty x) none (some (lowest n x))

-- min(E') ∈ X: where there is no min(E') it is in no set
unfoldable pub ◌∈?◌ : Option ℕ → ℕ → Bool
none ∈? x = false
some e ∈? x = has x e

-- rank(min(E')), asked for only where min(E') is in some set
unfoldable pub rank_of_min : Option ℕ → ℕ
rank_of_min none = 0
rank_of_min (some e) = rank_of e

-- ---- the states

-- S = M(G) × {1, .., n} × {0, 1}
pub record State (n : ℕ) (t : Track) : Type 0 where
  pub marking_in_lem : Inside n t.marking
  pub rank_some : 1 ≤ t.rank.0
  pub rank_most : t.rank.0 ≤ n

-- s = (M, 1, 1) if In ∩ Re = ∅, and s = (M, 1, 0) otherwise
pub record Initial (M : Marking) (s : Track) : Type 0 where
  pub marking_is : s.marking ≡ M
  pub rank_is : s.rank.0 ≡ 1
  pub flag_is : s.flag ≡ empty (In M ∩ Re M)

-- ---- (M', i, j) —τ→ (M', i, j')

pub record Tau (from to : Track) : Type 0 where
  pub marking_is : to.marking ≡ from.marking
  pub rank_is : to.rank.0 ≡ from.rank.0
  -- (a) j' = 1 if In' ∩ Re' = ∅, otherwise j' = 0
  pub a : to.flag ≡ empty (In from.marking ∩ Re from.marking)

-- ---- (M', i, j) —(e, (p, a, r))→ (M'', i', j')

module _ (n : ℕ) (M' M'' : Marking) (i e : ℕ) where
  -- for Mᵣ = {e ∈ In' ∩ Re' | rank(e) > i}
  abbrev pub Mᵣ : ℕ
  Mᵣ = those n (λ e. has (In M' ∩ Re M') e && ltb i (rank_of e))

  -- (In' ∩ Re' \ (In'' ∩ Re'')) ∪ {e}
  abbrev pub gone : ℕ
  gone = In M' ∩ Re M' ∖ (In M'' ∩ Re M'') ∪ single e

  -- (iii) (a) In'' ∩ Re'' = ∅
  abbrev pub iii_a : Bool
  iii_a = empty (In M'' ∩ Re M'')

  -- (iii) (b) min(Mᵣ) ∈ (In' ∩ Re' \ (In'' ∩ Re'')) ∪ {e}
  abbrev pub iii_b : Bool
  iii_b = min n Mᵣ ∈? gone

  -- (iii) (c) Mᵣ = ∅ and min(In' ∩ Re') ∈ (In' ∩ Re' \ (In'' ∩ Re'')) ∪ {e}
  abbrev pub iii_c : Bool
  iii_c = empty Mᵣ && (min n (In M' ∩ Re M') ∈? gone)

  -- (iii) j' = 1 if (a) or (b) or (c), otherwise j' = 0
  abbrev pub j' : Bool
  j' = iii_a || iii_b || iii_c

  -- (iv) i' = rank(min(Mᵣ)) if min(Mᵣ) ∈ (In' ∩ Re' \ (In'' ∩ Re'')) ∪ {e}, or else
  -- (v) i' = rank(min(In' ∩ Re')) if Mᵣ = ∅ and min(In' ∩ Re') ∈ (In' ∩ Re' \ (In'' ∩ Re'')) ∪ {e}, or else
  -- (vi) i' = i otherwise
  abbrev pub i' : ℕ
  i' = cond iii_b (rank_of_min (min n Mᵣ)) (cond iii_c (rank_of_min (min n (In M' ∩ Re M'))) i)

pub record Transition (g : Graph) (entry : Entry) (from to : Track) : Type 0 where
  -- M' = (Ex', Re', In') and M'' = (Ex' ∪ {e}, Re'', In'')
  pub i : Ex to.marking ≡ (Ex from.marking ∪ single entry.step.0)
  -- M' —(e, (p, a, r))→ M''
  pub ii : the_move g from.marking entry ≡ Ok to.marking
  pub iii : to.flag ≡ j' g.steps from.marking to.marking from.rank.0 entry.step.0
  pub iv_v_vi : to.rank.0 ≡ i' g.steps from.marking to.marking from.rank.0 entry.step.0
