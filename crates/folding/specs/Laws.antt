-- The laws of folding, over lists of entries: a fold is well-formed and does what the entries do one by one; the fold of one list
-- after another is the join of their folds; and what the entries do together, done twice, is what they do once. Assumes nothing.
use Rattle.std.specs.Prelude.{ℕ, ◌+◌, ◌*◌, ◌<◌, ◌≤◌, ◌≡◌, refl, List, [], ◌∷◌, ◌++◌, Bool, true, false, not, ◌&&◌, ◌||◌, cond, length, get_or, drop, ltb}
use Rattle.std.proofs.Common.{sym, ap, ap₂, ◌∙◌, arith, drop_of_length-le, pow_pos, ltb-true, eqb-true, eq-eqb}
use Rattle.std.proofs.Math.Path.{fun_ext}
use Rattle.std.proofs.Math.Option.{Option, none, some, bind, some-injective, none-ne-some}
use Rattle.sets.specs.Sets.{has, single, union, meet, minus, empty, subset}
use Rattle.sets.specs.Truth.{and_left, and_right, same_truth}
use Rattle.sets.specs.Laws.{has_single, subset_members, members_subset, single_lt, minus_lt}
use Rattle.sets.specs.Digits.{at_digit, as_sets}
use Rattle.rules.specs.Graph.{Graph, graph_verdict}
use Rattle.moves.specs.declared.inner.Row.{Row}
use Rattle.moves.specs.declared.Marking.{Marking}
use Rattle.moves.specs.declared.Entry.{Entry}
use Rattle.moves.specs.declared.Refusal.TheVariants.{Unknown, NotHeld, NotOnStep, Excluded, Waits}
use Rattle.moves.specs.First.{Verdict}
use Rattle.moves.specs.Move.{Move}
use Rattle.moves.specs.First.{first}
use Rattle.rules.specs.Answers.{entry_known, entry_asked, entry_move}
use Rattle.moves.specs.Move.{person_holds, step_has, is_included, waits_for, after, move_of}
use Rattle.rules.specs.Entries.{entry_after}
use Rattle.rules.specs.Sound.{Sound}
use Rattle.journal.specs.Journal.{entries, entry_at}
use Rattle.journal.specs.Laws.{entries_from}
use Rattle.records.specs.declared.Record.{Record}
use Rattle.records.specs.Records.{applies, gives, acts, identity, impossible, compose, sorted, tidy, join}
use Rattle.records.specs.Laws.{acts_join, acts_tidy, acts_compose, acts_identity, acts_impossible, gives_identity, gives_compose}
use Rattle.records.specs.Laws.{gives_again}
use Rattle.records.specs.WellFormed.{Bounded, WellFormed, compose_bounded, identity_well_formed, tidy_well_formed, join_well_formed}
use Rattle.exact.specs.Unique.{unique}
use Rattle.exact.specs.Theorems.{then_none, then_again, then_same, join_assoc, join_identity_left}
use Rattle.folding.specs.Fold.{row_met, step_record, possible, entry_record, fold_of}
use Rattle.folding.specs.Effect.{moved_to, end_of_all, after_all, effect}
use Rattle.folding.specs.Possible.{possible_serves}
use Rattle.std.specs.Prelude.{Ok, Err}

-- ---- one entry

-- a set has a step exactly if the step alone is within it
single_within : (s x : ℕ) → subset (single s) x ≡ has x s
single_within s x =
    same_truth (subset (single s) x) (has x s)
    (λ e. subset_members (single s) x e s (has_single s s ∙ eq-eqb s s refl))
    (λ e. members_subset (single s) x (λ t h. ap (has x) (sym (eqb-true s t (sym (has_single s t) ∙ h))) ∙ e))

-- to include and exclude is to exclude, and include what is left
included_after : (x i e : ℕ) → union (minus x e) (minus i e) ≡ minus (union x i) e
included_after x i e =
    as_sets (λ v. union (minus (get_or v 0 0) (get_or v 2 0)) (minus (get_or v 1 0) (get_or v 2 0)))
    (λ v. minus (union (get_or v 0 0) (get_or v 1 0)) (get_or v 2 0))
    (x ∷ i ∷ e ∷ []) (λ i. simp at_digit) (λ i. simp at_digit) refl

-- a step's record gives the marking after the step
pub gives_step : (w : Row) (s : ℕ) (m : Marking) → gives (step_record w s) m ≡ after w m s
gives_step w s m i =
    record {
      done = union m.done (single s);
      due = union (minus m.due (single s)) w.responses;
      included = included_after m.included w.includes w.excludes i;
    }

-- and applies exactly if the step is included and waits for nothing
applies_step : (w : Row) (s : ℕ) (m : Marking) → applies (step_record w s) m ≡ (has m.included s && empty (waits_for w.conditions m))
unfolding applies
applies_step w s m = simp (single_within s m.included, and_true)
  where
    and_true : (p : Bool) → (p && true) ≡ p
    and_true true = refl
    and_true false = refl

-- an entry passes exactly if none of its lines holds
moved_by_lines : (p q r i w : Bool) (awaited : ℕ) (m next : Marking)
    → moved_to (move_of ((cond (not p) (Err Unknown)
    (cond (not q) (Err NotHeld)
    (cond (not r) (Err NotOnStep)
    (cond (not i) (Err Excluded) (cond (not w) (Err (Waits awaited)) (Ok tt))))))) m next)
    ≡ cond (p && q && r) (cond (i && w) (some next) none) none
unfolding moved_to move_of
moved_by_lines false q r i w awaited m next = refl
moved_by_lines true false r i w awaited m next = refl
moved_by_lines true true false i w awaited m next = refl
moved_by_lines true true true false w awaited m next = refl
moved_by_lines true true true true false awaited m next = refl
moved_by_lines true true true true true awaited m next = refl

-- an entry moves a marking exactly if some marking could allow it, its step is included and it waits for nothing
pub moved_if : (g : Graph) (e : Entry) (m : Marking) → moved_to (entry_move g m e)
    ≡ cond (possible g e)
    (cond (is_included m e && empty (waits_for (row_met g e).conditions m)) (some (after (row_met g e) m e.step.0)) none) none
unfolding entry_move entry_asked first
moved_if g e m =
    moved_by_lines (entry_known g e) (person_holds (row_met g e) e) (step_has (row_met g e) e) (is_included m e)
    (empty (waits_for (row_met g e).conditions m)) _ m
    (after (row_met g e) m e.step.0)

-- an entry's record does what the entry does
pub acts_entry : (g : Graph) (e : Entry) (m : Marking) → acts (entry_record g e) m ≡ moved_to (entry_move g m e)
unfolding entry_record acts
acts_entry g e m = go (possible g e) ∙ sym (moved_if g e m)
  where
    go : (p : Bool) → acts (cond p (step_record (row_met g e) e.step.0) impossible) m
        ≡ cond p (cond (is_included m e && empty (waits_for (row_met g e).conditions m)) (some (after (row_met g e) m e.step.0)) none) none
    go true = ap₂ (λ (q : Bool) (x : Marking). cond q (some x) none) (applies_step (row_met g e) e.step.0 m)
        (gives_step (row_met g e) e.step.0 m)
    go false = acts_impossible m

-- a test that fails leaves none of both
pub and_none : (p : Bool) → (p && false) ≡ false
and_none true = refl
and_none false = refl

-- an entry that names what there is not
pub record_unknown : (g : Graph) (e : Entry) → entry_known g e ≡ false → entry_record g e ≡ impossible
unfolding entry_record
record_unknown g e k = simp k

-- in a graph with nothing against it, the roles alone say whether some marking could allow an entry
pub record_serves : (g : Graph) (e : Entry) (p : Bool) → graph_verdict g ≡ Ok tt → e.step.0 < g.steps
    → (person_holds (row_met g e) e && step_has (row_met g e) e) ≡ p
    → entry_record g e ≡ cond p (step_record (row_met g e) e.step.0) impossible
unfolding entry_record
record_serves g e p clear known q =
    ap (λ (x : Bool). cond x (step_record (row_met g e) e.step.0) impossible) (possible_serves g e clear known ∙ q)

-- an entry's record clears what is due of the steps that it does, and of no other
pub entry_clears : (g : Graph) (e : Entry) → (entry_record g e).dueclear ≡ (entry_record g e).done
unfolding entry_record
entry_clears g e = go (possible g e)
  where
    go : (p : Bool) → (cond p (step_record (row_met g e) e.step.0) impossible).dueclear ≡ (cond p
        (step_record (row_met g e) e.step.0) impossible).done
    go true = refl
    go false = refl

pub compose_clears : (g : Graph) (r : Record) (e : Entry) → r.dueclear ≡ r.done
    → (compose r (entry_record g e)).dueclear ≡ (compose r (entry_record g e)).done
compose_clears g r e p = ap₂ union p (entry_clears g e)

-- on a graph as it should be, an entry's record keeps to its steps
pub entry_bounded : (g : Graph) (e : Entry) → Sound g → Bounded g.steps (entry_record g e)
unfolding entry_record
entry_bounded g e sound = go (possible g e) refl
  where
    s : ℕ
    s = e.step.0

    go : (p : Bool) → possible g e ≡ p → Bounded g.steps (cond p (step_record (row_met g e) s) impossible)
    go true q =
        let is : entry_known g e ≡ true =
        and_left (entry_known g e) (person_holds (row_met g e) e)
        (and_left (entry_known g e && person_holds (row_met g e) e) (step_has (row_met g e) e) q) in
        let below : s < g.steps =
        ltb-true s g.steps
        (and_right (ltb e.person g.people) (ltb s g.steps)
        (and_left (ltb e.person g.people && ltb s g.steps) (ltb e.role g.roles) is)) in
        record {
          needin_in = single_lt g.steps s below;
          needex_in = pow_pos g.steps;
          needout_in = sound.conditions_in s;
          done_in = single_lt g.steps s below;
          dueset_in = sound.responses_in s;
          dueclear_in = single_lt g.steps s below;
          inset_in = minus_lt g.steps (row_met g e).includes (row_met g e).excludes (sound.includes_in s);
          inclear_in = sound.excludes_in s;
        }
    go false q = search pow_pos

-- ---- a list of entries

-- a fold is well-formed
pub fold_well_formed : (g : Graph) (es : List Entry) → Sound g → WellFormed g.steps (fold_of g es)
unfolding fold_of
fold_well_formed g [] sound = identity_well_formed g.steps
fold_well_formed g (e ∷ es) sound =
    join_well_formed g.steps (tidy (entry_record g e)) (fold_of g es)
    (tidy_well_formed g.steps (entry_record g e) (entry_bounded g e sound)) (fold_well_formed g es sound)

-- it applies exactly when every entry is allowed in turn, and then gives the end marking
pub acts_fold : (g : Graph) (es : List Entry) (m : Marking) → acts (fold_of g es) m ≡ end_of_all g m es
unfolding fold_of end_of_all
acts_fold g [] m = acts_identity m
acts_fold g (e ∷ es) m =
    acts_join (tidy (entry_record g e)) (fold_of g es) m
    ∙ ap₂ (λ (o : Option Marking) (k : Marking → Option Marking). bind o k) (acts_tidy (entry_record g e) m ∙ acts_entry g e m)
    (fun_ext (acts_fold g es))

-- the fold of one list after another is the join of their folds
pub fold_append : (g : Graph) (a b : List Entry) → Sound g → fold_of g (a ++ b) ≡ join (fold_of g a) (fold_of g b)
unfolding fold_of
fold_append g [] b sound = sym (join_identity_left g.steps (fold_of g b) (fold_well_formed g b sound))
fold_append g (e ∷ a) b sound =
    ap (join (tidy (entry_record g e))) (fold_append g a b sound)
    ∙ sym (join_assoc g.steps (tidy (entry_record g e)) (fold_of g a) (fold_of g b)
    (tidy_well_formed g.steps (entry_record g e) (entry_bounded g e sound)) (fold_well_formed g a sound) (fold_well_formed g b sound))

-- going through one list and then another
pub passes_append : (g : Graph) (a b : List Entry) (m : Marking) → end_of_all g m (a ++ b) ≡ bind (end_of_all g m a) (λ x. end_of_all g x b)
unfolding end_of_all bind
passes_append g [] b m = refl
passes_append g (e ∷ a) b m =
    then_same (moved_to (entry_move g m e)) (λ x. end_of_all g x (a ++ b)) (λ x. bind (end_of_all g x a) (λ y. end_of_all g y b))
    (passes_append g a b)
    ∙ sym (then_again (moved_to (entry_move g m e)) (λ x. end_of_all g x a) (λ y. end_of_all g y b))

-- applying the fold of one list and then going through another is going through both
pub restored : (g : Graph) (a b : List Entry) (m : Marking) → bind (acts (fold_of g a) m) (λ x. end_of_all g x b) ≡ end_of_all g m (a ++ b)
restored g a b m = ap (λ (o : Option Marking). bind o (λ x. end_of_all g x b)) (acts_fold g a m) ∙ sym (passes_append g a b m)

-- ---- composing first, and tidying once at the end

-- r, and then each entry's record, with nothing tidied
unfoldable pub compound : Graph → Record → List Entry → Record
compound g r [] = r
compound g r (e ∷ es) = compound g (compose r (entry_record g e)) es

compound_bounded : (g : Graph) (r : Record) (es : List Entry) → Sound g → Bounded g.steps r → Bounded g.steps (compound g r es)
unfolding compound
compound_bounded g r [] sound b = b
compound_bounded g r (e ∷ es) sound b =
    compound_bounded g (compose r (entry_record g e)) es sound (compose_bounded g.steps r (entry_record g e) b (entry_bounded g e sound))

acts_compound : (g : Graph) (r : Record) (es : List Entry) (m : Marking) → acts (compound g r es) m ≡ bind (acts r m) (λ x. end_of_all g x es)
unfolding compound end_of_all
acts_compound g r [] m = sym (then_none (acts r m))
acts_compound g r (e ∷ es) m =
    acts_compound g (compose r (entry_record g e)) es m
    ∙ ap (λ (o : Option Marking). bind o (λ x. end_of_all g x es)) (acts_compose r (entry_record g e) m)
    ∙ then_again (acts r m) (acts (entry_record g e)) (λ x. end_of_all g x es)
    ∙ then_same (acts r m) (λ x. bind (acts (entry_record g e) x) (λ y. end_of_all g y es))
    (λ x. bind (moved_to (entry_move g x e)) (λ y. end_of_all g y es))
    (λ x. ap (λ (o : Option Marking). bind o (λ y. end_of_all g y es)) (acts_entry g e x))

-- once never, always never
pub compound_never : (g : Graph) (r : Record) (es : List Entry) → r.never ≡ true → tidy (compound g r es) ≡ impossible
unfolding compound tidy
compound_never g r [] on = ap (λ (p : Bool). cond p impossible (sorted r)) on
compound_never g r (e ∷ es) on =
    compound_never g (compose r (entry_record g e)) es
    (ap (λ (p : Bool). p || (entry_record g e).never || not (empty (meet (entry_record g e).needin (minus r.inclear r.inset)))) on)

-- an entry that is never makes all never
pub compound_barred : (g : Graph) (r : Record) (e : Entry) (es : List Entry) → (entry_record g e).never ≡ true
    → tidy (compound g r (e ∷ es)) ≡ impossible
unfolding compound
compound_barred g r e es on =
    compound_never g (compose r (entry_record g e)) es
    (ap (λ (p : Bool). r.never || p || not (empty (meet (entry_record g e).needin (minus r.inclear r.inset)))) on
    ∙ or_on r.never _)
  where
    or_on : (p q : Bool) → (p || true || q) ≡ true
    or_on true q = refl
    or_on false q = refl

-- entry k of a journal is the next
pub compound_more : (g : Graph) (r : Record) (j : List ℕ) (k : ℕ) → 3 * k + 3 ≤ length j
    → compound g r (entries (drop (3 * k) j)) ≡ compound g (compose r (entry_record g (entry_at j k))) (entries (drop (3 * (k + 1)) j))
unfolding compound
compound_more g r j k h =
    ap (compound g r) (entries_from j k h)
    ∙ ap (λ (x : ℕ). compound g (compose r (entry_record g (entry_at j k))) (entries (drop x j)))
    (let z : 3 * k + 3 ≡ 3 * (k + 1) = omega arith in z)

-- there is none
pub compound_ended : (g : Graph) (r : Record) (j : List ℕ) (k : ℕ) → length j ≤ 3 * k → compound g r (entries (drop (3 * k) j)) ≡ r
unfolding compound entries
compound_ended g r j k h = ap (λ (t : List ℕ). compound g r (entries t)) (drop_of_length-le j h)

-- the same record comes of it
pub tidy_compound : (g : Graph) (es : List Entry) → Sound g → tidy (compound g identity es) ≡ fold_of g es
unfolding bind
tidy_compound g es sound =
    unique g.steps (tidy (compound g identity es)) (fold_of g es)
    (tidy_well_formed g.steps (compound g identity es) (compound_bounded g identity es sound (identity_well_formed g.steps).bounded))
    (fold_well_formed g es sound)
    (λ m h. acts_tidy (compound g identity es) m ∙ acts_compound g identity es m
    ∙ ap (λ (o : Option Marking). bind o (λ x. end_of_all g x es)) (acts_identity m) ∙ sym (acts_fold g es m))

-- ---- a fold, entry by entry

module _ (g : Graph) (j : List ℕ) (k : ℕ) (r : Record) (sound : Sound g)
    (so_far : compound g identity (entries j) ≡ compound g r (entries (drop (3 * k) j))) where
  -- entry k is one that no marking could allow
  pub fold_barred : 3 * k + 3 ≤ length j → (entry_record g (entry_at j k)).never ≡ true → fold_of g (entries j) ≡ impossible
  fold_barred h on =
      sym (tidy_compound g (entries j) sound)
      ∙ ap tidy (so_far ∙ ap (compound g r) (entries_from j k h))
      ∙ compound_barred g r (entry_at j k) (entries (drop (3 * k + 3) j)) on

  -- no marking could allow it after those before
  pub fold_stuck : 3 * k + 3 ≤ length j → (compose r (entry_record g (entry_at j k))).never ≡ true → fold_of g (entries j) ≡ impossible
  fold_stuck h on =
      sym (tidy_compound g (entries j) sound)
      ∙ ap tidy (so_far ∙ compound_more g r j k h)
      ∙ compound_never g (compose r (entry_record g (entry_at j k))) (entries (drop (3 * (k + 1)) j)) on

  -- there is none
  pub fold_ended : length j ≤ 3 * k → fold_of g (entries j) ≡ tidy r
  fold_ended h = sym (tidy_compound g (entries j) sound) ∙ ap tidy (so_far ∙ compound_ended g r j k h)

-- ---- what the entries do together

-- the record of what they do together gives the marking after all of them
pub gives_effect : (g : Graph) (es : List Entry) (m : Marking) → gives (effect g es) m ≡ after_all g m es
unfolding effect after_all
gives_effect g [] m = gives_identity m
gives_effect g (e ∷ es) m =
    gives_compose (step_record (row_met g e) e.step.0) (effect g es) m
    ∙ ap (gives (effect g es)) (gives_step (row_met g e) e.step.0 m)
    ∙ gives_effect g es (after (row_met g e) m e.step.0)

-- what they do, done twice, is what they do once
pub after_twice : (g : Graph) (es : List Entry) (m : Marking) → after_all g (after_all g m es) es ≡ after_all g m es
after_twice g es m =
    sym (gives_effect g es (after_all g m es)) ∙ ap (gives (effect g es)) (sym (gives_effect g es m)) ∙ gives_again (effect g es) m
    ∙ gives_effect g es m

-- where all pass, they end at the marking after all of them
pub passes_after : (g : Graph) (es : List Entry) (m x : Marking) → end_of_all g m es ≡ some x → x ≡ after_all g m es
unfolding end_of_all after_all bind moved_to
passes_after g [] m x e = sym (some-injective m x e)
passes_after g (e ∷ es) m x p = go (entry_move g m e) refl (passes_after g es) p
  where
    go : (o : Move) → entry_move g m e ≡ o → ((m x : Marking) → end_of_all g m es ≡ some x → x ≡ after_all g m es)
        → bind (moved_to o) (λ next. end_of_all g next es) ≡ some x
        → x ≡ after_all g (after (row_met g e) m e.step.0) es
    go (Ok next) q rest p = rest next x p
        ∙ ap (λ (n : Marking). after_all g n es) (sym (entry_after g m next e q).1)
    go (Err d) q rest p = absurd (none-ne-some x p)
