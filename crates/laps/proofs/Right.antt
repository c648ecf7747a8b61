-- The decision is the answer for the infinite run. Assumes nothing.
use Rattle.std.specs.Prelude.{ℕ, ◌+◌, ◌*◌, ◌^◌, ◌≤◌, ◌<◌, ◌≡◌, ◌⊎◌, List, ◌++◌, Bool, ◌&&◌, cond}
use Rattle.std.proofs.Math.Path.{refl, sym, subst}
use Rattle.std.proofs.Common.{ap, ◌∙◌, inl, inr, true≢false, lt_trans}
use Rattle.std.proofs.Math.Bool.{true, false}
use native.Mathlib.Omega.{arith}
use Rattle.std.proofs.Math.Decide.{dec_lt}
use Rattle.std.proofs.Math.ListN.{length}
use borrow.Author.Tests.{ltb-true, lt-ltb, eqb-false, not-false}
use Rattle.sets.specs.Sets.{has, empty, full, lowest}
use Rattle.sets.specs.Truth.{and_right}
use Rattle.sets.specs.Laws.{has_full, has_above, lt_of_members, lowest_least, lowest_has, empty_members}
use Rattle.rules.specs.Graph.{Graph, graph_lines, graph_verdict}
use Rattle.rules.specs.Laws.{clear_counts}
use Rattle.moves.specs.declared.Marking.{Marking}
use Rattle.moves.specs.declared.Entry.{Entry}
use Rattle.moves.specs.First.{Verdict}
use Rattle.moves.specs.First.{first}
use Rattle.rules.specs.Answers.{marking_lines}
use Rattle.moves.specs.Move.{marking_fits}
use Rattle.moves.specs.Given.{clear_head, clear_tail, clear_front, clear_back}
use Rattle.moves.specs.Inside.{Inside, fits_inside}
use Rattle.journal.specs.Journal.{entries, length_fits}
use Rattle.journal.specs.Laws.{fits_threes, entries_length}
use Rattle.laps.specs.Lapped.{Lapped}
use Rattle.laps.specs.declared.Pass.{Pass}
use Rattle.laps.specs.Decision.{Went}
use Rattle.laps.specs.Endless.{GoesOn, marking_at, DueAt}
use Rattle.laps.specs.Inner.{verdict_at, Unbarred, inside_until, moves_at, refuses_at}
use Rattle.laps.specs.Laps.{endless_run, index_at, pass_at, number_of_pass, lengths_lines, empty_lines, lap_lines, LapAnswer}
use Rattle.laps.specs.Decision.{leg_of, upon, judged, second_lap, first_lap, decision}
use Rattle.laps.specs.Legs.{Throughout, Passed, Barred, leg_tells}
use Rattle.laps.specs.Repeats.{Decides}
use Rattle.laps.specs.Places.{in_stem, in_lap, pass_first, pass_second, stem_stands, lap_stands, lap_stands_again, twice_for_ever}
use Rattle.laps.specs.Places.{second_decides}
use Rattle.laps.specs.Ways.{upon_ended, upon_stopped}
use Rattle.std.specs.Prelude.{Ok}
use Rattle.journal.specs.Ran.{stopped}
use Rattle.laps.specs.Decision.{leg}
use Rattle.laps.specs.declared.Endless.{Endless}

-- ---- markings within the graph

module _ (g : Graph) (m : Marking) (e : ℕ → Entry) (clear : graph_verdict g ≡ Ok tt) (inside : Inside g.steps m) where
  -- a step that is due is one of 64
  due_known : Unbarred g m e → (i s : ℕ) → DueAt g m e i s → has (full 64) s ≡ true
  due_known on i s due = has_full 64 s ∙ lt-ltb s 64 (go (dec_lt s 64))
    where
      go : Dec (s < 64) → s < 64
      go (yes h) = h
      go (no h) =
          let most : g.steps ≤ 64 = (clear_counts g clear).steps_most in
          absurd (true≢false (sym due
          ∙ has_above g.steps (marking_at g m e i).due s (inside_until g m e clear inside i (λ j h. on j)).due_in
          (let z : g.steps ≤ s = omega arith in z)))

-- ---- the decision

module _ (g : Graph) (m : Marking) (stem lap : List ℕ) where
  abbrev S : List Entry
  S = entries stem

  abbrev L : List Entry
  L = entries lap

  abbrev e : ℕ → Entry
  e i = endless_run S L i

  module _ (clear : first (lap_lines g m stem lap) ≡ Ok tt) where
    pub sound : graph_verdict g ≡ Ok tt
    sound = (clear_front (graph_lines g) (lengths_lines stem lap ++ marking_lines g m ++ empty_lines lap) clear)

    lines : first (lengths_lines stem lap ++ marking_lines g m ++ empty_lines lap) ≡ Ok tt
    lines = clear_back (graph_lines g) (lengths_lines stem lap ++ marking_lines g m ++ empty_lines lap) clear

    pub inside : Inside g.steps m
    inside = fits_inside g.steps m (not-false (marking_fits g.steps m) (clear_head _ _ (clear_tail _ _ lines)))

    pub some : 0 < length L
    some =
        let fits : length_fits lap ≡ true =
        and_right (length_fits stem) (length_fits lap) (not-false (length_fits stem && length_fits lap) (clear_head _ _ lines)) in
        let count : length L * 3 ≡ length lap = entries_length lap (fits_threes lap fits) in
        let full_lap : length lap ≡ 0 → ⊥ = eqb-false (length lap) 0 (clear_head _ _ (clear_tail _ _ (clear_tail _ _ lines))) in
        go (dec_lt 0 (length L)) count full_lap
      where
        go : Dec (0 < length L) → length L * 3 ≡ length lap → (length lap ≡ 0 → ⊥) → 0 < length L
        go (yes h) c f = h
        go (no h) c f = absurd (f (omega arith))

    -- the stem, the first lap and the second begin at 0 and at
    abbrev b₁ : ℕ
    b₁ = length S

    abbrev b₂ : ℕ
    b₂ = length S + length L

    -- every entry before position i is allowed
    abbrev Until : ℕ → Type 0
    Until i = (j : ℕ) → j < i → verdict_at g m e j ≡ Ok tt

    until_more : (i n w : ℕ) (leg : Went) → Until i → Passed g m e i n w leg → Until (i + n)
    until_more i n w leg all p j h = go (dec_lt j i)
      where
        go : Dec (j < i) → verdict_at g m e j ≡ Ok tt
        go (yes l) = all j l
        go (no l) = p.allowed j (let z : i ≤ j = omega arith in z) h

    -- a leg that is stopped, in the pass that begins at i
    stopped_right : (i n : ℕ) (p : Pass) (leg : Went) (rest : Marking → ℕ → Lapped) (b : Barred g m e i n 0 leg) → Until i
        → index_at S L (i + b.depth) ≡ b.depth → pass_at S L (i + b.depth) ≡ number_of_pass p → LapAnswer g m stem lap (upon leg p rest)
    unfolding LapAnswer
    stopped_right i n p leg rest b all x y =
        subst (LapAnswer g m stem lap) (sym (upon_stopped leg p rest (0 + b.depth) b.refusal b.is)) (
          clear,
          record {
            position = i + b.depth;
            refused =
                record {
                  before = λ j h. moves_at g m e sound inside j (λ k l. before k (lt_trans l h)) (before j h);
                  here =
                      refuses_at g m e sound inside (i + b.depth) b.refusal before b.here;
                };
            index =
                (let z : 0 + b.depth ≡ b.depth = omega arith in z) ∙ sym x;
            pass = sym y;
          },
        )
      where
        before : Until (i + b.depth)
        before j h = go (dec_lt j i)
          where
            go : Dec (j < i) → verdict_at g m e j ≡ Ok tt
            go (yes l) = all j l
            go (no l) = b.before j (let z : i ≤ j = omega arith in z) h

    -- what is left of the second lap decides
    judged_right : Unbarred g m e → (x : ℕ) → Throughout g m e b₂ (length L) (full 64) x → LapAnswer g m stem lap (judged x)
    unfolding LapAnswer
    judged_right on x kept = go (empty x) refl
      where
        in_64 : x < 2 ^ 64
        in_64 = lt_of_members 64 x (λ s h. at s h (has x s) refl)
          where
            at : (s : ℕ) → 64 ≤ s → (b : Bool) → has x s ≡ b → has x s ≡ false
            at s h true q = absurd
                (let low : s < 64 = ltb-true s 64 (sym (has_full 64 s) ∙ (kept.only s q).0) in let z : ⊥ = omega arith in z)
            at s h false q = q

        goes : GoesOn g m e
        goes i = moves_at g m e sound inside i (λ j h. on j) (on i)

        decides : Decides g m e x
        decides = second_decides S L some g m (full 64) x kept (due_known g m e sound inside on)

        go : (b : Bool) → empty x ≡ b → LapAnswer g m stem lap (cond b (Ok Endless.Accepted) (Ok (Endless.Starved (record { 0 = lowest 64 x }))))
        go true q = (clear, goes, decides.accepting (empty_members x q))
        go false q = (
          clear,
          goes,
          record {
            starving = decides.starving (lowest 64 x) (lowest_has 64 x in_64 (eqb-false x 0 q));
            lowest = λ t h.
                decides.others t ((lowest_least 64 x).none t h);
          },
        )

    second_right : (x : Marking) → x ≡ marking_at g m e b₂ → Until b₂ → LapAnswer g m stem lap (second_lap g x L)
    unfolding second_lap number_of_pass
    second_right x q all = go (leg_tells g m e L b₂ (full 64) 0 x (lap_stands_again S L some) q)
      where
        go : Passed g m e b₂ (length L) (full 64) (leg_of g x L) ⊎ Barred g m e b₂ (length L) 0 (leg_of g x L)
            → LapAnswer g m stem lap (upon (leg_of g x L) Pass.Second (λ end y. judged y))
        go (inl p) =
            subst (LapAnswer g m stem lap)
            (sym (upon_ended (leg_of g x L) Pass.Second (λ end y. judged y) (marking_at g m e (b₂ + length L)) p.left p.is))
            (judged_right (twice_for_ever S L some g m (until_more b₂ (length L) (full 64) (leg_of g x L) all p)) p.left p.kept)
        go (inr b) =
            let low : b.depth < length L = b.small in
            stopped_right b₂ (length L) Pass.Second (leg_of g x L) (λ end y. judged y) b all
            (in_lap S L some (b₂ + b.depth) b.depth low (inr refl) (let z : length S ≤ b₂ + b.depth = omega arith in z)).1
            (pass_second S L some (b₂ + b.depth) (let z : b₂ ≤ b₂ + b.depth = omega arith in z)
            (let z : b₂ + b.depth < b₂ + length L = omega arith in z))

    first_right : (x : Marking) → x ≡ marking_at g m e b₁ → Until b₁ → LapAnswer g m stem lap (first_lap g x L)
    unfolding first_lap number_of_pass
    first_right x q all = go (leg_tells g m e L b₁ (full 64) 0 x (lap_stands S L some) q)
      where
        go : Passed g m e b₁ (length L) (full 64) (leg_of g x L) ⊎ Barred g m e b₁ (length L) 0 (leg_of g x L)
            → LapAnswer g m stem lap (upon (leg_of g x L) Pass.First (λ end y. second_lap g end L))
        go (inl p) =
            subst (LapAnswer g m stem lap)
            (sym (upon_ended (leg_of g x L) Pass.First (λ end y. second_lap g end L) (marking_at g m e b₂) p.left p.is))
            (second_right (marking_at g m e b₂) refl (until_more b₁ (length L) (full 64) (leg_of g x L) all p))
        go (inr b) =
            let low : b.depth < length L = b.small in
            stopped_right b₁ (length L) Pass.First (leg_of g x L) (λ end y. second_lap g end L) b all
            (in_lap S L some (b₁ + b.depth) b.depth low (inl refl) (let z : length S ≤ b₁ + b.depth = omega arith in z)).1
            (pass_first S L some (b₁ + b.depth) (let z : b₁ ≤ b₁ + b.depth = omega arith in z)
            (let z : b₁ + b.depth < b₂ = omega arith in z))

    -- the stem and two laps decide the run
    pub decision_right : LapAnswer g m stem lap (decision g m S L)
    unfolding decision marking_at number_of_pass
    decision_right = go (leg_tells g m e S 0 (full 64) 0 m (stem_stands S L some) refl)
      where
        none : Until 0
        none j h = absurd (let z : ⊥ = omega arith in z)

        go : Passed g m e 0 (length S) (full 64) (leg_of g m S) ⊎ Barred g m e 0 (length S) 0 (leg_of g m S)
            → LapAnswer g m stem lap (upon (leg_of g m S) Pass.Stem (λ end y. first_lap g end L))
        go (inl p) =
            let at : 0 + length S ≡ length S = omega arith in
            subst (LapAnswer g m stem lap)
            (sym (upon_ended (leg_of g m S) Pass.Stem (λ end y. first_lap g end L) (marking_at g m e (0 + length S)) p.left p.is))
            (first_right (marking_at g m e (0 + length S)) (ap (marking_at g m e) at)
            (subst Until at (until_more 0 (length S) (full 64) (leg_of g m S) none p)))
        go (inr b) =
            let at : 0 + b.depth ≡ b.depth = omega arith in
            stopped_right 0 (length S) Pass.Stem (leg_of g m S) (λ end y. first_lap g end L) b none
            (ap (index_at S L) at ∙ (in_stem S L some b.depth b.small).1)
            (ap (pass_at S L) at ∙ (in_stem S L some b.depth b.small).2)
