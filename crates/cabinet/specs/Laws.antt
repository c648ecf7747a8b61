-- The job of a cabinet is one that nothing is against, so that only the arms and the room can stand in the way of its sheet.
-- Assumes nothing.
use Rattle.std.specs.Prelude.{ℕ, ◌+◌, ◌^◌, ◌≤◌, ◌<◌, ◌≡◌, List, [], ◌∷◌, ◌++◌, Bool, true, false, ◌&&◌, ◌||◌, cond, length, eqb, leb}
use Rattle.std.proofs.Math.Path.{refl, sym}
use Rattle.std.proofs.Common.{ap, ap₂, ◌∙◌, subst, arith, lit<}
use Rattle.std.proofs.Math.Decide.{dec_lt}
use Rattle.std.proofs.Math.ListN.{drop}
use Rattle.std.proofs.Math.Dec.{ltb}
use Rattle.std.proofs.Math.Pow.{pow_pos}
use borrow.Author.Tests.{lt-ltb, le-ltb, le-leb, lt-leb, leb-true, eq-eqb, ne_eqb}
use Rattle.sets.specs.Sets.{has, single, union, meet, empty, full, span, every}
use Rattle.sets.specs.Truth.{and_intro, and_left, and_right, dec_eq}
use Rattle.sets.specs.Laws.{has_union, has_meet, has_single, has_zero, members_empty, union_lt, single_lt, every_of}
use Rattle.sets.specs.Spans.{single_apart, span_below, span_lt, span_last}
use Rattle.moves.specs.declared.Refusal.TheVariants.{Arms, Room}
use Rattle.moves.specs.declared.Marking.{Marking}
use Rattle.moves.specs.First.{Verdict}
use Rattle.moves.specs.First.{first}
use Rattle.moves.specs.Given.{first_clear}
use Rattle.moves.specs.Move.{marking_fits}
use Rattle.tables.specs.Tables.{row, counts_fit, keeps, labels_fit, kinds_apart}
use Rattle.rules.specs.Graph.{Graph, graph_verdict, sets_fit}
use Rattle.bodies.specs.Tables.{tabled, row_tabled, keeps_tabled, labels_tabled}
use Rattle.writing.specs.Writing.{content_lines}
use Rattle.writing.specs.Laws.{content_graph}
use Rattle.sheet.specs.Sheet.{Written}
use Rattle.sheet.specs.Sheet.{write_verdict, answer_of, the_written, room_after, if_clear}
use Rattle.sheet.specs.Laws.{if_refused}
use Rattle.cabinet.specs.Cabinet.{publish, checks, by_step, following, includes_at, excludes_at, label_at, allows_at, holds_at}
use Rattle.cabinet.specs.Cabinet.{climber, desk, cabinet, at_first, cabinet_bytes, arms_fit, cabinet_verdict, the_cabinet, cabinet_after}
use Rattle.std.specs.Prelude.{Ok, Err}

above : (a b : ℕ) → a < b → eqb b a ≡ false
above a b h = ne_eqb b a (λ e. let w : ⊥ = omega arith in w)

-- ---- a row by its step

module _ (b s r c p : ℕ) where
  pub by_reboot : s ≡ 0 → by_step b s r c p ≡ r
  unfolding by_step
  by_reboot h = simp (eq-eqb s 0 h)

  pub by_check : 1 ≤ s → s ≤ b → by_step b s r c p ≡ c
  unfolding by_step
  by_check h l = simp (above 0 s h, le-leb s b l)

  pub by_publish : s ≡ b + 1 → by_step b s r c p ≡ p
  unfolding by_step
  by_publish h = simp (above 0 s (omega arith), lt-leb s b (omega arith), eq-eqb s (b + 1) h)

  pub by_none : b + 1 < s → by_step b s r c p ≡ 0
  unfolding by_step
  by_none h = simp (above 0 s (omega arith), lt-leb s b (omega arith), above (b + 1) s h)

  -- what holds for each kind of step holds of the row
  pub by_kind : (P : ℕ → Type 0) → (s ≡ 0 → P r) → (1 ≤ s → s ≤ b → P c) → (s ≡ b + 1 → P p) → (b + 1 < s → P 0) → P (by_step b s r c p)
  by_kind P first each last none = go (dec_eq s 0) (dec_lt b s) (dec_eq s (b + 1))
    where
      go : Dec (s ≡ 0) → Dec (b < s) → Dec (s ≡ b + 1) → P (by_step b s r c p)
      go (yes h) l q = subst P (sym (by_reboot h)) (first h)
      go (no h) (no l) q = subst P (sym (by_check (omega arith) (omega arith))) (each (omega arith) (omega arith))
      go (no h) (yes l) (yes q) = subst P (sym (by_publish q)) (last q)
      go (no h) (yes l) (no q) = subst P (sym (by_none (omega arith))) (none (omega arith))

-- after check k comes step k + 1
pub following_next : (b k : ℕ) → k ≤ b → following b k ≡ k + 1
following_next b k h = go (dec_lt k b)
  where
    go : Dec (k < b) → following b k ≡ k + 1
    go (yes l) = ap (λ (t : Bool). cond t (k + 1) (publish b)) (lt-ltb k b l)
    go (no l) = simp (le-ltb k b (omega arith)) (let z : b + 1 ≡ k + 1 = omega arith in z)

pub following_most : (b k : ℕ) → following b k ≤ b + 1
following_most b k = go (dec_lt k b)
  where
    go : Dec (k < b) → following b k ≤ b + 1
    go (yes l) = simp (lt-ltb k b l) (let z : k + 1 ≤ b + 1 = omega arith in z)
    go (no l) = simp (le-ltb k b (omega arith)) (let z : b + 1 ≤ b + 1 = omega arith in z)

-- the check at the ground
pub span_ground : span 1 2 ≡ single 1
unfolding full
span_ground = refl

-- the checks behind the first, and publishing
pub others_span : (b : ℕ) → 2 ≤ b → span 2 (b + 2) ≡ union (span 2 (publish b)) (single (publish b))
others_span b h = ap (span 2) (let z : b + 2 ≡ b + 1 + 1 = omega arith in z) ∙ span_last 2 (b + 1) (omega arith)

-- ---- the job keeps to its counts

module _ (b : ℕ) (few : b ≤ 16) where
  -- a table of arrows, given what stands there for each kind of step
  arrows_kept : (r p : ℕ) (c : ℕ → ℕ) → r < 2 ^ (b + 2) → ((s : ℕ) → s ≤ b → c s < 2 ^ (b + 2)) → p < 2 ^ (b + 2)
      → keeps (b + 2) (b + 2) (tabled 64 (λ s. by_step b s r (c s) p)) ≡ true
  arrows_kept r p c hr hc hp =
      keeps_tabled (b + 2) (b + 2) 64 (λ s. by_step b s r (c s) p)
      (λ s l. by_kind b s r (c s) p (λ x. x < 2 ^ (b + 2)) (λ h. hr) (λ h k. hc s k) (λ h. hp) (λ h. pow_pos (b + 2)))
      (λ s h. by_none b s r (c s) p (omega arith))

  following_few : (s : ℕ) → s ≤ b → single (following b s) < 2 ^ (b + 2)
  following_few s h = single_lt (b + 2) (following b s) (let z : following b s ≡ s + 1 = following_next b s h in omega arith)

  -- the roles of the actions and of the people
  roles_kept : keeps (b + 2) 2 (tabled 64 (allows_at b)) ≡ true
  roles_kept =
      keeps_tabled (b + 2) 2 64 (allows_at b)
      (λ a l. by_kind b a (union (single climber) (single desk)) (single climber) (single desk) (λ x. x < 2 ^ 2)
      (λ h. lit< tt) (λ h k. lit< tt) (λ h. lit< tt) (λ h. lit< tt))
      (λ a h. by_none b a (union (single climber) (single desk)) (single climber) (single desk) (omega arith))

  holds_kept : keeps 2 2 (tabled 16 holds_at) ≡ true
  unfolding keeps tabled every
  holds_kept = refl

  labels_kept : labels_fit (b + 2) (b + 2) (tabled 64 (label_at b)) ≡ true
  labels_kept =
      labels_tabled (b + 2) (b + 2) 64 (label_at b)
      (λ s l. by_kind b s s s s (λ x. x < b + 2) (λ h. l) (λ h k. l) (λ h. l) (λ h. omega arith))
      (λ s h. by_none b s s s s (omega arith))

  counts_kept : counts_fit (b + 2) 2 2 (b + 2) ≡ true
  counts_kept =
      let some = le-leb 1 (b + 2) (omega arith) in
      let most = le-leb (b + 2) 64 (omega arith) in
      and_intro (and_intro (and_intro (and_intro some most) refl) refl) (and_intro some most)

  -- no step lets in what it shuts out
  apart_at : 1 ≤ b → (s : ℕ) → empty (meet (includes_at b s) (excludes_at b s)) ≡ true
  apart_at some s = go (dec_eq s 0) (dec_lt b s)
    where
      others : ℕ
      others = union (span 2 (publish b)) (single (publish b))

      first_out : has others 1 ≡ false
      first_out =
          has_union (span 2 (publish b)) (single (publish b)) 1
          ∙ ap₂ (λ (p q : Bool). p || q) (span_below 2 (publish b) 1 (lit< tt)) (has_single (publish b) 1 ∙ above 1 (b + 1) (omega arith))

      at : (x y : ℕ) → includes_at b s ≡ x → excludes_at b s ≡ y → empty (meet x y) ≡ true → empty (meet (includes_at b s) (excludes_at b s)) ≡ true
      at x y p q e = ap₂ (λ (u v : ℕ). empty (meet u v)) p q ∙ e

      go : Dec (s ≡ 0) → Dec (b < s) → empty (meet (includes_at b s) (excludes_at b s)) ≡ true
      go (yes h) l =
          at (single 1) others (by_reboot b s (single 1) (single (following b s)) 0 h) (by_reboot b s others (single s) 0 h)
          (single_apart 1 others first_out)
      go (no h) (no l) =
          let low : s ≤ b = omega arith in
          let next : following b s ≡ s + 1 = following_next b s low in
          at (single (following b s)) (single s) (by_check b s (single 1) (single (following b s)) 0 (omega arith) low)
          (by_check b s others (single s) 0 (omega arith) low)
          (single_apart (following b s) (single s)
          (has_single s (following b s) ∙ ne_eqb s (following b s) (λ e. let w : ⊥ = omega arith in w)))
      go (no h) (yes l) =
          let none : includes_at b s ≡ 0 =
          by_kind b s (single 1) (single (following b s)) 0 (λ x. x ≡ 0) (λ e. absurd (h e)) (λ k m. absurd (let w : ⊥ = omega arith in w))
          (λ e. refl) (λ e. refl) in
          ap (λ (u : ℕ). empty (meet u (excludes_at b s))) none ∙ members_empty (meet 0 (excludes_at b s))
          (λ t. has_meet 0 (excludes_at b s) t ∙ ap (λ (p : Bool). p && has (excludes_at b s) t) (has_zero t))

  apart_kept : 1 ≤ b → kinds_apart (b + 2) (tabled 64 (includes_at b)) (tabled 64 (excludes_at b)) ≡ true
  apart_kept some =
      every_of (b + 2) (λ a. empty (meet (row (tabled 64 (includes_at b)) a) (row (tabled 64 (excludes_at b)) a))) (λ s l.
      ap₂ (λ (u v : ℕ). empty (meet u v)) (row_tabled 64 (includes_at b) s (omega arith)) (row_tabled 64 (excludes_at b) s (omega arith))
      ∙ apart_at some s)

  sets_kept : sets_fit (cabinet b) ≡ true
  unfolding sets_fit
  sets_kept =
      let one : single 1 < 2 ^ (b + 2) = single_lt (b + 2) 1 (omega arith) in
      let last : single (publish b) < 2 ^ (b + 2) = single_lt (b + 2) (b + 1) (omega arith) in
      let zero : 0 < 2 ^ (b + 2) = pow_pos (b + 2) in
      and_intro (and_intro (and_intro roles_kept holds_kept) labels_kept)
      (and_intro
      (and_intro (keeps_tabled (b + 2) (b + 2) 64 (λ s. 0) (λ s l. zero) (λ s h. refl))
      (arrows_kept (checks b) 0 (λ s. 0) (span_lt (b + 2) 1 (publish b) (omega arith)) (λ s l. zero) zero))
      (and_intro (arrows_kept (single 1) 0 (λ s. single (following b s)) one following_few zero)
      (arrows_kept (union (span 2 (publish b)) (single (publish b))) 0 single
      (union_lt (b + 2) (span 2 (publish b)) (single (publish b)) (span_lt (b + 2) 2 (publish b) (omega arith)) last)
      (λ s l. single_lt (b + 2) s (omega arith)) zero)))

-- nothing is against the job
pub cabinet_clear : (b : ℕ) → 1 ≤ b → b ≤ 16 → graph_verdict (cabinet b) ≡ Ok tt
unfolding first
cabinet_clear b some few = simp (counts_kept b few, sets_kept b few, apart_kept b few some)

-- and its first marking is one of it
pub first_fits : (b : ℕ) → marking_fits (b + 2) (at_first b) ≡ true
first_fits b =
    and_intro
    (and_intro (lt-ltb 0 (2 ^ (b + 2)) (pow_pos (b + 2))) (lt-ltb (checks b) (2 ^ (b + 2)) (span_lt (b + 2) 1 (publish b) (omega arith))))
    (lt-ltb (union (single 0) (single 1)) (2 ^ (b + 2))
    (union_lt (b + 2) (single 0) (single 1) (single_lt (b + 2) 0 (omega arith)) (single_lt (b + 2) 1 (omega arith))))

-- ---- the answers

pub arms_low : (b : ℕ) → arms_fit b ≡ true → 2 ≤ b
arms_low b e = leb-true 2 b (and_left (leb 2 b) (leb b 16) e)

pub arms_high : (b : ℕ) → arms_fit b ≡ true → b ≤ 16
arms_high b e = leb-true b 16 (and_right (leb 2 b) (leb b 16) e)

module _ (b : ℕ) (old : List ℕ) where
  -- what is left behind: the answer, and the room
  pub record Wrote (new : List ℕ) (w : Written) : Type 0 where
    pub answer : w ≡ the_cabinet b (length old)
    pub room : new ≡ cabinet_after b old

  pub wrong_arms : arms_fit b ≡ false → Wrote old (Err Arms)
  unfolding cabinet_verdict first answer_of
  wrong_arms e =
      let v : cabinet_verdict b (length old) ≡ Err Arms = simp e in
      record {
        answer = sym (ap (λ (w : Verdict). answer_of w (length (cabinet_bytes b))) v);
        room = sym (if_refused (cabinet_verdict b (length old)) Arms (cabinet_bytes b ++ drop (length (cabinet_bytes b)) old) old v);
      }

  -- with arms that fit, the sheet is written as that of any job
  same_verdict : arms_fit b ≡ true → (room : ℕ) → write_verdict (cabinet b) (at_first b) room ≡ cabinet_verdict b room
  unfolding write_verdict cabinet_verdict first
  same_verdict e room =
      first_clear (content_lines (cabinet b) (at_first b)) ((Room, ltb room (length (cabinet_bytes b))) ∷ [])
      (content_graph (cabinet b) (at_first b) (first_fits b) ∙ cabinet_clear b (let h : 2 ≤ b = arms_low b e in omega arith) (arms_high b e))
      ∙ sym (simp e)

  pub right_arms : arms_fit b ≡ true → (g : Graph) (m : Marking) (new : List ℕ) (w : Written) → g ≡ cabinet b → m ≡ at_first b
      → w ≡ the_written g m (length old) → new ≡ room_after g m old → Wrote new w
  right_arms e g m new w p q answered after =
      record {
        answer = answered ∙ ap₂ (λ (x : Graph) (y : Marking). the_written x y (length old)) p q
            ∙ ap (λ (v : Verdict). answer_of v (length (cabinet_bytes b))) (same_verdict e (length old));
        room = after ∙ ap₂ (λ (x : Graph) (y : Marking). room_after x y old) p q
            ∙ ap (λ (v : Verdict). if_clear v (cabinet_bytes b ++ drop (length (cabinet_bytes b)) old) old) (same_verdict e (length old));
      }
