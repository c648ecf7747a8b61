-- The laws of laps: what is computed is an answer, there is only one, it never has pass 3, and exactly one of refused, accepted and
-- starved holds. Assumes nothing.
use Rattle.std.specs.Prelude.{ℕ, zero, suc, ◌≤◌, ◌<◌, ◌≡◌, ◌⊎◌, List, true}
use Rattle.std.proofs.Math.Path.{refl, sym}
use Rattle.std.proofs.Common.{ap, ◌∙◌, true≢false, le_refl, arith}
use Rattle.std.proofs.Math.Logic.{inl, inr}
use Rattle.std.proofs.Math.Decide.{dec_lt}
use Rattle.rules.specs.Graph.{Graph}
use Rattle.moves.specs.declared.Marking.{Marking}
use Rattle.moves.specs.declared.Entry.{Entry}
use Rattle.moves.specs.declared.Step.{Step}
use Rattle.moves.specs.declared.Refusal.{Refusal}
use Rattle.moves.specs.First.{Verdict}
use Rattle.moves.specs.Move.{Move}
use Rattle.moves.specs.First.{first, number_of}
use Rattle.moves.specs.Given.{ascends, clear_refused}
use Rattle.journal.specs.Journal.{entries}
use Rattle.laps.specs.Lapped.{Lapped}
use Rattle.laps.specs.declared.Pass.{Pass}
use Rattle.laps.specs.Endless.{marking_at, moved_at, TakenAt, DoneAt, ExcludedAt, RefusedAt, GoesOn, Accepting, Starving, Starves}
use Rattle.laps.specs.Laps.{endless_run, index_at, pass_at, number_of_pass, lap_lines, Stops, LapAnswer}
use Rattle.laps.specs.Decision.{decision, lap_of, the_lap}
use Rattle.laps.specs.Places.{never_later}
use Rattle.laps.specs.Three.{IsRefused, IsAccepted, IsStarved, OneOfThree}
use Rattle.laps.proofs.Right.{some, sound, inside, decision_right}
use Rattle.std.specs.Prelude.{Ok, Err}
use Rattle.moves.specs.declared.Denied.{Denied}
use Rattle.moves.specs.Move.{denied}
use Rattle.laps.specs.declared.Endless.{Endless}
use Rattle.laps.specs.declared.Broken.{Broken}

-- ---- any endless run

module _ (g : Graph) (m : Marking) (e : ℕ → Entry) where
  -- an entry that is taken is not refused
  taken_refused : {A : Type 0} (i : ℕ) (r : Refusal) → TakenAt g m e i → moved_at g m e i ≡ Err (denied (marking_at g m e i) r) → A
  taken_refused i r p q = absurd (let z : ◌≡◌ {A = ℕ} 0 1 = cc in let w : ⊥ = omega arith in w)

  -- the first entry not allowed is one
  one_position : (i j : ℕ) (r q : Refusal) → RefusedAt g m e i r → RefusedAt g m e j q → (i ≡ j) × (r ≡ q)
  one_position i j r q a b = go (dec_lt i j) (dec_lt j i)
    where
      go : Dec (i < j) → Dec (j < i) → (i ≡ j) × (r ≡ q)
      go (yes h) d = taken_refused i r (b.before i h) a.here
      go (no h) (yes k) = taken_refused j q (a.before j k) b.here
      go (no h) (no k) =
          let same : i ≡ j = omega arith in
          let both : Err (denied (marking_at g m e i) r) ≡ Err (denied (marking_at g m e j) q) = sym a.here ∙ ap (moved_at g m e) same
          ∙ b.here in
          let parts : denied (marking_at g m e i) r ≡ denied (marking_at g m e j) q = cc in
          (same, ap (λ (d : Denied). d.refusal) parts)

  one_starved : (s t : Step) → Starves g m e s.0 → Starves g m e t.0
      → ◌≡◌ {A = Lapped} (Ok (Endless.Starved s)) (Ok (Endless.Starved t))
  one_starved s t a b = ap (λ (x : ℕ). Ok (Endless.Starved (record { 0 = x }))) (go (dec_lt s.0 t.0) (dec_lt t.0 s.0))
    where
      go : Dec (s.0 < t.0) → Dec (t.0 < s.0) → s.0 ≡ t.0
      go (yes h) d = absurd (b.lowest s.0 h a.starving)
      go (no h) (yes k) = absurd (a.lowest t.0 k b.starving)
      go (no h) (no k) = omega arith

  -- accepting and starving are opposites
  pub accepting_starving : (s : ℕ) → Accepting g m e → Starving g m e s → ⊥
  accepting_starving s acc st = go (acc st.0 s (st.1 st.0 (le_refl st.0)).due)
    where
      go : (j : ℕ) × (st.0 ≤ j) × (DoneAt g m e j s ⊎ ExcludedAt g m e j s) → ⊥
      go f = at f.2
        where
          at : DoneAt g m e f.0 s ⊎ ExcludedAt g m e f.0 s → ⊥
          at (inl p) = (st.1 f.0 f.1).undone p
          at (inr p) = true≢false (sym (st.1 f.0 f.1).included ∙ p)

-- the pass of a number
named : ℕ → Pass
named zero = Pass.Stem
named (suc zero) = Pass.First
named (suc (suc zero)) = Pass.Second
named (suc (suc (suc n))) = Pass.Later

named_number : (p : Pass) → named (number_of_pass p) ≡ p
unfolding named number_of_pass
named_number Pass.Stem = refl
named_number Pass.First = refl
named_number Pass.Second = refl
named_number Pass.Later = refl

-- ---- a stem and a lap

module _ (g : Graph) (m : Marking) (stem lap : List ℕ) where
  abbrev S : List Entry
  S = entries stem

  abbrev L : List Entry
  L = entries lap

  abbrev e : ℕ → Entry
  e i = endless_run S L i

  -- the table goes up, so that the number given is the lowest that holds (`first_lowest` of the rules)
  pub lines_ascend : ascends 0 (lap_lines g m stem lap) ≡ true
  unfolding ascends number_of
  lines_ascend = refl

  -- what is computed is an answer, whatever is handed in
  pub the_lap_right : LapAnswer g m stem lap (the_lap g m stem lap)
  unfolding the_lap lap_of LapAnswer
  the_lap_right = go (first (lap_lines g m stem lap)) refl
    where
      go : (v : Verdict) → first (lap_lines g m stem lap) ≡ v → LapAnswer g m stem lap (lap_of v (decision g m S L))
      go (Ok _) q = decision_right g m stem lap q
      go (Err r) q = q

  -- ---- there is only one answer

  one_stop : (k j : ℕ) (p q : Pass) (r t : Refusal) → Stops g m S L k p r → Stops g m S L j q t
      → ◌≡◌ {A = Lapped} (Err (Broken.Stopped k p r)) (Err (Broken.Stopped j q t))
  one_stop k j p q r t a b =
      let at = one_position g m e a.position b.position r t a.refused b.refused in
      let index : k ≡ j = a.index ∙ ap (index_at S L) at.0 ∙ sym b.index in
      let number : number_of_pass p ≡ number_of_pass q = a.pass ∙ ap (pass_at S L) at.0 ∙ sym b.pass in
      let pass : p ≡ q = sym (named_number p) ∙ ap named number ∙ named_number q in
      let why : r ≡ t = at.1 in
      cc

  -- a run that goes on is not refused
  on_or_stopped : {A : Type 0} (k : ℕ) (p : Pass) (r : Refusal) → GoesOn g m e → Stops g m S L k p r → A
  on_or_stopped k p r on s = taken_refused g m e s.position r (on s.position) s.refused.here

  -- any two answers are equal
  pub one_answer : (r q : Lapped) → LapAnswer g m stem lap r → LapAnswer g m stem lap q → r ≡ q
  unfolding LapAnswer
  one_answer (Err (Broken.Refused r)) (Err (Broken.Refused q)) a b = let both : Err r ≡ Err q = sym a ∙ b in cc
  one_answer (Err (Broken.Refused r)) (Err (Broken.Stopped k p q)) a b = clear_refused _ r b.0 a
  one_answer (Err (Broken.Refused r)) (Ok Endless.Accepted) a b = clear_refused _ r b.0 a
  one_answer (Err (Broken.Refused r)) (Ok (Endless.Starved s)) a b = clear_refused _ r b.0 a
  one_answer (Err (Broken.Stopped k p r)) (Err (Broken.Refused q)) a b = clear_refused _ q a.0 b
  one_answer (Err (Broken.Stopped k p r)) (Err (Broken.Stopped j q t)) a b = one_stop k j p q r t a.1 b.1
  one_answer (Err (Broken.Stopped k p r)) (Ok Endless.Accepted) a b = on_or_stopped k p r b.1 a.1
  one_answer (Err (Broken.Stopped k p r)) (Ok (Endless.Starved s)) a b = on_or_stopped k p r b.1 a.1
  one_answer (Ok Endless.Accepted) (Err (Broken.Refused q)) a b = clear_refused _ q a.0 b
  one_answer (Ok Endless.Accepted) (Err (Broken.Stopped k p r)) a b = on_or_stopped k p r a.1 b.1
  one_answer (Ok Endless.Accepted) (Ok Endless.Accepted) a b = refl
  one_answer (Ok Endless.Accepted) (Ok (Endless.Starved s)) a b = absurd (accepting_starving g m e s.0 a.2 b.2.starving)
  one_answer (Ok (Endless.Starved s)) (Err (Broken.Refused q)) a b = clear_refused _ q a.0 b
  one_answer (Ok (Endless.Starved s)) (Err (Broken.Stopped k p r)) a b = on_or_stopped k p r a.1 b.1
  one_answer (Ok (Endless.Starved s)) (Ok Endless.Accepted) a b = absurd (accepting_starving g m e s.0 b.2 a.2.starving)
  one_answer (Ok (Endless.Starved s)) (Ok (Endless.Starved t)) a b = one_starved g m e s t a.2 b.2

  -- so it is what is computed
  pub answer_is : (r : Lapped) → LapAnswer g m stem lap r → r ≡ the_lap g m stem lap
  answer_is r a = one_answer r (the_lap g m stem lap) a the_lap_right

  -- "pass 3 never happens"
  pub no_pass_3 : (k : ℕ) (r : Refusal) → LapAnswer g m stem lap (Err (Broken.Stopped k Pass.Later r)) → ⊥
  unfolding LapAnswer
  no_pass_3 k r a = never_later S L (some g m stem lap a.0) g m (sound g m stem lap a.0) (inside g m stem lap a.0) k r a.1

  -- ---- exactly one of refused, accepted, starved holds

  pub one_of_three : first (lap_lines g m stem lap) ≡ Ok tt → OneOfThree g m stem lap
  unfolding LapAnswer
  one_of_three clear =
      record {
        one = go (decision g m S L) (decision_right g m stem lap clear);
        refused_accepted = λ a b. on_or_stopped a.0 a.1 a.2 b.0 a.3;
        refused_starved = λ a b. on_or_stopped a.0 a.1 a.2 b.0 a.3;
        accepted_starved = λ a b. accepting_starving g m e b.1.0 a.1 b.1.1;
      }
    where
      go : (o : Lapped) → LapAnswer g m stem lap o
          → IsRefused g m stem lap ⊎ (IsAccepted g m stem lap ⊎ IsStarved g m stem lap)
      go (Err (Broken.Refused r)) a = clear_refused _ r clear a
      go (Err (Broken.Stopped k p r)) a = inl (k, p, r, a.1)
      go (Ok Endless.Accepted) a = inr (inl (a.1, a.2))
      go (Ok (Endless.Starved s)) a = inr (inr (a.1, (s.0, a.2.starving)))
