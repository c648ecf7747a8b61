-- The fold of a journal is the one well-formed record that acts as its run does, and it is never exactly if no marking lets every entry
-- pass. That is so for four causes: an entry names what there is not, its person does not hold the role, its step does not have it, or an
-- earlier entry shut its step out and none since has let it in. For at the marking with everything done and included nothing else can
-- stand in the way. Assumes nothing.
use Rattle.std.specs.Prelude.{ℕ, ◌<◌, ◌≡◌, ◌↔◌, List, [], ◌∷◌, not, ◌&&◌, ◌||◌, Ok}
use Rattle.std.proofs.Math.Path.{refl, sym, ap}
use Rattle.std.proofs.Common.{ap₂, ◌∙◌, true≢false, lt-ltb}
use Rattle.std.proofs.Math.Bool.{Bool, true, false, cond}
use Rattle.std.proofs.lemmas.Bool.{false≢true}
use Rattle.std.proofs.Math.Option.{Option, none, some, bind}
use Rattle.sets.specs.Sets.{has, single, union, meet, minus, empty}
use Rattle.sets.specs.Truth.{and_left, or_first}
use Rattle.sets.specs.Laws.{has_union, has_meet, has_minus, has_full, has_zero, member_below, members_empty}
use Rattle.moves.specs.declared.Marking.{Marking}
use Rattle.moves.specs.declared.Entry.{Entry}
use Rattle.moves.specs.Move.{marking_fits, after, is_included, waits_for, person_holds, step_has}
use Rattle.moves.specs.Inside.{inside_fits}
use Rattle.rules.specs.Graph.{Graph, graph_verdict, conditions_of, includes_of, excludes_of}
use Rattle.rules.specs.Answers.{entry_known, entry_move}
use Rattle.rules.specs.Entries.{known_named}
use Rattle.rules.specs.Sound.{Sound, clear_sound}
use Rattle.journal.specs.Journal.{entries, length_fits}
use Rattle.journal.specs.Run.{the_run}
use Rattle.records.specs.declared.Record.{Record}
use Rattle.records.specs.Records.{acts, applies, gives, well_formed}
use Rattle.records.specs.Laws.{applies_never}
use Rattle.records.specs.WellFormed.{well_formed_lem}
use Rattle.exact.specs.Unique.{unique, everything, everything_inside, applies_everything}
use Rattle.folding.specs.Fold.{row_met, possible, fold_of}
use Rattle.folding.specs.Effect.{moved_to, end_of_all}
use Rattle.folding.specs.Laws.{moved_if, acts_fold, fold_well_formed}
use Rattle.folding.specs.Answers.{the_fold}
use Rattle.folding.specs.Answered.{fold_clear}
use Rattle.folded.specs.Theorems.{end_of, Folding, folding, fold_tells}

-- ---- the one record

-- at every marking of the graph r does what the run of the journal does
abbrev pub Tells : Graph → List ℕ → Record → Type 0
Tells g j r = (m : Marking) → marking_fits g.steps m ≡ true → acts r m ≡ end_of (the_run g m j)

pub fold_exactly : (g : Graph) (j : List ℕ) (r : Record) → graph_verdict g ≡ Ok tt → length_fits j ≡ true
    → (the_fold g j ≡ Ok r) ↔ ((well_formed g.steps r ≡ true) × Tells g j r)
fold_exactly g j r clear long = (fold_tells g j r, back)
  where
    back : (well_formed g.steps r ≡ true) × Tells g j r → the_fold g j ≡ Ok r
    back t =
        let made : the_fold g j ≡ Ok (fold_of g (entries j)) = fold_clear g j clear long in
        let told = fold_tells g j (fold_of g (entries j)) made in
        made ∙ ap Ok
        (unique g.steps (fold_of g (entries j)) r (well_formed_lem g.steps (fold_of g (entries j)) told.0)
        (well_formed_lem g.steps r t.0)
        (λ m i. told.1 m (inside_fits g.steps m i) ∙ sym (t.1 m (inside_fits g.steps m i))))

-- ---- never

-- the steps that are shut out after entry e, if those of `out` were before it
abbrev pub shut_after : Graph → ℕ → Entry → ℕ
shut_after g out e = union (minus out (includes_of g e.step.0)) (excludes_of g e.step.0)

-- some entry can be allowed by no marking: it is not possible, or its step is shut out
unfoldable pub barred : Graph → ℕ → List Entry → Bool
barred g out [] = false
barred g out (e ∷ rest) = (not (possible g e) || has out e.step.0) || barred g (shut_after g out e) rest

-- the steps of `out` are not included
abbrev ShutIn : ℕ → Marking → Type 0
ShutIn out m = (t : ℕ) → has out t ≡ true → has m.included t ≡ false

shut_on : (g : Graph) (out : ℕ) (m : Marking) (e : Entry) → ShutIn out m → ShutIn (shut_after g out e) (after (row_met g e) m e.step.0)
shut_on g out m e shut t h =
    has_minus (union m.included inc) exc t
    ∙ ap (λ (b : Bool). b && not (has exc t)) (has_union m.included inc t)
    ∙ go (has out t) refl (has inc t) refl (has exc t) refl
  where
    inc : ℕ
    inc = includes_of g e.step.0

    exc : ℕ
    exc = excludes_of g e.step.0

    told : ((has out t && not (has inc t)) || has exc t) ≡ true
    told = ap (λ (b : Bool). b || has exc t) (sym (has_minus out inc t)) ∙ sym (has_union (minus out inc) exc t) ∙ h

    none_left : (b : Bool) → (b && false) ≡ false
    none_left true = refl
    none_left false = refl

    go : (o : Bool) → has out t ≡ o → (i : Bool) → has inc t ≡ i → (x : Bool) → has exc t ≡ x
        → ((has m.included t || has inc t) && not (has exc t)) ≡ false
    go o p i q true r = ap (λ (b : Bool). (has m.included t || has inc t) && not b) r ∙ none_left (has m.included t || has inc t)
    go true p false q false r = ap₂ (λ (a b : Bool). (a || b) && not (has exc t)) (shut t p) q
    go true p true q false r = absurd (false≢true (sym (ap₂ (λ (a b : Bool). (a && not b) || has exc t) p q ∙ r) ∙ told))
    go false p i q false r = absurd (false≢true (sym (ap₂ (λ (a b : Bool). (a && not (has inc t)) || b) p r) ∙ told))

-- where one is barred, no marking that leaves out what is shut out lets every entry pass
barred_none : (g : Graph) (es : List Entry) (out : ℕ) (m : Marking) → ShutIn out m → barred g out es ≡ true → end_of_all g m es ≡ none
unfolding barred end_of_all bind
barred_none g [] out m shut h = absurd (false≢true h)
barred_none g (e ∷ es) out m shut h =
    ap (λ (o : Option Marking). bind o (λ next. end_of_all g next es)) (moved_if g e m)
    ∙ go (possible g e) refl (is_included m e) refl (empty (waits_for (row_met g e).conditions m)) (has out e.step.0) refl
    (barred_none g es (shut_after g out e) (after (row_met g e) m e.step.0) (shut_on g out m e shut))
  where
    next : Marking
    next = after (row_met g e) m e.step.0

    go : (p : Bool) → possible g e ≡ p → (i : Bool) → is_included m e ≡ i → (w o : Bool) → has out e.step.0 ≡ o
        → (barred g (shut_after g out e) es ≡ true → end_of_all g next es ≡ none)
        → bind (cond (possible g e) (cond (is_included m e && w) (some next) none) none) (λ x. end_of_all g x es) ≡ none
    go false p i q w o r rest = simp p
    go true p false q w o r rest = simp (p, q)
    go true p true q false o r rest = simp (p, q)
    go true p true q true true r rest = absurd (true≢false (sym q ∙ shut e.step.0 r))
    go true p true q true false r rest =
        simp (p, q) (rest (ap₂ (λ (a b : Bool). (not a || b) || barred g (shut_after g out e) es) (sym p) (sym r) ∙ h))

-- every step of the graph is done, and included unless it is shut out
record Free (g : Graph) (out : ℕ) (m : Marking) : Type 0 where
  pub all_done : (t : ℕ) → t < g.steps → has m.done t ≡ true
  pub let_in : (t : ℕ) → t < g.steps → has out t ≡ false → has m.included t ≡ true

free_on : (g : Graph) (out : ℕ) (m : Marking) (e : Entry) → Free g out m → Free g (shut_after g out e) (after (row_met g e) m e.step.0)
free_on g out m e free =
    record {
      all_done = λ t l. has_union m.done (single e.step.0) t ∙ or_first (has (single e.step.0) t) (free.all_done t l);
      let_in = λ t l h.
          has_minus (union m.included inc) exc t
          ∙ ap (λ (b : Bool). b && not (has exc t)) (has_union m.included inc t)
          ∙ go t l (has out t) refl (has inc t) refl (has exc t) refl (told t h);
    }
  where
    inc : ℕ
    inc = includes_of g e.step.0

    exc : ℕ
    exc = excludes_of g e.step.0

    told : (t : ℕ) → has (shut_after g out e) t ≡ false → ((has out t && not (has inc t)) || has exc t) ≡ false
    told t h = ap (λ (b : Bool). b || has exc t) (sym (has_minus out inc t)) ∙ sym (has_union (minus out inc) exc t) ∙ h

    or_true : (b : Bool) → (b || true) ≡ true
    or_true true = refl
    or_true false = refl

    go : (t : ℕ) → t < g.steps → (o : Bool) → has out t ≡ o → (i : Bool) → has inc t ≡ i → (x : Bool) → has exc t ≡ x
        → ((has out t && not (has inc t)) || has exc t) ≡ false → ((has m.included t || has inc t) && not (has exc t)) ≡ true
    go t l o p i q true r f =
        absurd (true≢false (sym (ap (λ (b : Bool). (has out t && not (has inc t)) || b) r ∙ or_true (has out t && not (has inc t))) ∙ f))
    go t l true p false q false r f = absurd (true≢false (sym (ap₂ (λ (a b : Bool). (a && not b) || has exc t) p q) ∙ f))
    go t l o p true q false r f = ap₂ (λ (a b : Bool). (has m.included t || a) && not b) q r
        ∙ ap (λ (b : Bool). b && true) (or_true (has m.included t))
    go t l false p false q false r f = ap₂ (λ (a b : Bool). (a || has inc t) && not b) (free.let_in t l p) r

-- where none is barred, every entry passes at such a marking
free_passes : (g : Graph) (es : List Entry) (out : ℕ) (m : Marking) → Sound g → Free g out m → barred g out es ≡ false → (x : Marking)
    × (end_of_all g m es ≡ some x)
unfolding barred end_of_all bind
free_passes g [] out m sound free h = (m, refl)
free_passes g (e ∷ es) out m sound free h =
    go (possible g e) refl (has out e.step.0) refl
    (free_passes g es (shut_after g out e) (after (row_met g e) m e.step.0) sound (free_on g out m e free))
  where
    s : ℕ
    s = e.step.0

    next : Marking
    next = after (row_met g e) m s

    -- what is done does not keep anything waiting
    waits_not : empty (waits_for (conditions_of g s) m) ≡ true
    waits_not =
        members_empty (waits_for (conditions_of g s) m)
        (λ t. has_minus (meet (conditions_of g s) m.included) m.done t
        ∙ ap (λ (b : Bool). b && not (has m.done t)) (has_meet (conditions_of g s) m.included t)
        ∙ each t (has (conditions_of g s) t) refl)
      where
        done_away : (b : Bool) → ((true && b) && false) ≡ false
        done_away true = refl
        done_away false = refl

        each : (t : ℕ) (c : Bool) → has (conditions_of g s) t ≡ c
            → ((has (conditions_of g s) t && has m.included t) && not (has m.done t)) ≡ false
        each t false p = ap (λ (b : Bool). (b && has m.included t) && not (has m.done t)) p
        each t true p =
            ap₂ (λ (a b : Bool). (a && has m.included t) && not b) p
            (free.all_done t (member_below g.steps (conditions_of g s) t (sound.conditions_in s) p)) ∙ done_away (has m.included t)

    go : (p : Bool) → possible g e ≡ p → (o : Bool) → has out s ≡ o
        → (barred g (shut_after g out e) es ≡ false → (x : Marking) × (end_of_all g next es ≡ some x))
        → (x : Marking) × (bind (moved_to (entry_move g m e)) (λ y. end_of_all g y es) ≡ some x)
    go false p o q on = absurd (true≢false (sym (ap (λ (a : Bool). (not a || has out s) || barred g (shut_after g out e) es) p) ∙ h))
    go true p true q on = absurd (true≢false (sym (ap₂ (λ (a b : Bool). (not a || b) || barred g (shut_after g out e) es) p q) ∙ h))
    go true p false q on =
        let there : s < g.steps =
        (known_named g e (and_left (entry_known g e) (person_holds (row_met g e) e)
        (and_left (entry_known g e && person_holds (row_met g e) e) (step_has (row_met g e) e) p))).step_in in
        let rest : barred g (shut_after g out e) es ≡ false =
        ap₂ (λ (a b : Bool). (not a || b) || barred g (shut_after g out e) es) (sym p) (sym q) ∙ h in
        let goes = on rest in
        let moved : moved_to (entry_move g m e) ≡ some next =
        moved_if g e m ∙ ap₂ (λ (a b : Bool). cond a (cond b (some next) none) none) p (ap₂ ◌&&◌ (free.let_in s there q) waits_not) in
        (goes.0, ap (λ (o : Option Marking). bind o (λ y. end_of_all g y es)) moved ∙ goes.1)

-- a fold of entries is never exactly if one of them is barred
fold_barred : (g : Graph) (es : List Entry) → Sound g → (fold_of g es).never ≡ barred g 0 es
unfolding acts
fold_barred g es sound = go (fold_of g es).never refl (barred g 0 es) refl
  where
    n : ℕ
    n = g.steps

    r : Record
    r = fold_of g es

    all : Marking
    all = everything n

    acted : acts r all ≡ end_of_all g all es
    acted = acts_fold g es all

    free : Free g 0 all
    free = record { all_done = λ t l. has_full n t ∙ lt-ltb t n l; let_in = λ t l h. has_full n t ∙ lt-ltb t n l }

    some_none : {A : Type 0} (o : Option Marking) (x : Marking) → o ≡ some x → o ≡ none → A
    some_none o x p q = absurd (let z : ◌≡◌ {A = Bool} true false = ap is (sym p ∙ q) in true≢false z)
      where
        is : Option Marking → Bool
        is none = false
        is (some y) = true

    go : (p : Bool) → r.never ≡ p → (b : Bool) → barred g 0 es ≡ b → r.never ≡ barred g 0 es
    go true p true q = p ∙ sym q
    go false p false q = p ∙ sym q
    go false p true q =
        some_none (acts r all) (gives r all)
        (ap (λ (b : Bool). cond b (some (gives r all)) none) (applies_everything n r (fold_well_formed g es sound).bounded p))
        (acted ∙ barred_none g es 0 all (λ t h. absurd (true≢false (sym h ∙ has_zero t))) q)
    go true p false q =
        let goes = free_passes g es 0 all sound free q in
        some_none (acts r all) goes.0 (acted ∙ goes.1) (ap (λ (b : Bool). cond b (some (gives r all)) none) (applies_never r all p))

-- The fold of a journal is never exactly if an entry is barred; and exactly if no marking of the graph lets every entry pass
module _ (g : Graph) (j : List ℕ) (r : Record) (e : the_fold g j ≡ Ok r) where
  pub never_causes : r.never ≡ barred g 0 (entries j)
  never_causes =
      let f : Folding g j r = folding g j r e in
      ap (λ (x : Record). x.never) (sym f.made) ∙ fold_barred g (entries j) (clear_sound g f.clear)

  pub never_exactly : (r.never ≡ true) ↔ ((m : Marking) → marking_fits g.steps m ≡ true → end_of (the_run g m j) ≡ none)
  unfolding acts
  never_exactly = (
    λ on m i. sym ((fold_tells g j r e).1 m i) ∙ ap (λ (b : Bool). cond b (some (gives r m)) none) (applies_never r m on),
    λ none_passes. back none_passes r.never refl,
  )
    where
      back : ((m : Marking) → marking_fits g.steps m ≡ true → end_of (the_run g m j) ≡ none) → (p : Bool) → r.never ≡ p → r.never ≡ true
      back f true p = p
      back f false p =
          let told = fold_tells g j r e in
          let all : Marking = everything g.steps in
          let i : marking_fits g.steps all ≡ true = inside_fits g.steps all (everything_inside g.steps) in
          let suits : applies r all ≡ true = applies_everything g.steps r (well_formed_lem g.steps r told.0).bounded p in
          absurd (true≢false (ap is (sym (ap (λ (b : Bool). cond b (some (gives r all)) none) suits) ∙ told.1 all i ∙ f all i)))
        where
          is : Option Marking → Bool
          is none = false
          is (some y) = true
