-- The test of the contents in words: byte 0 is the number of bodies; the kinds count up from 1; and the bodies start behind the contents,
-- each where the one before it ends, the last ending with the sheet. Assumes nothing.
use Rattle.std.specs.Prelude.{ℕ, zero, suc, ◌+◌, ◌≤◌, ◌<◌, ◌≡◌, ◌↔◌, List, true, ◌&&◌, length, get_or, eqb}
use Rattle.std.proofs.Common.{sym, ap, ◌∙◌, subst, arith, eq-eqb, eqb-true}
use Rattle.std.proofs.Math.Decide.{dec_le}
use Rattle.sets.specs.Truth.{and_left, and_right, and_intro}
use Rattle.layout.specs.Layout.{start, kind_at, offset_at, size_at, follows, contents_fit}

-- the lines from line i on, of `count` in all, where the next body starts at `at`
pub record Lines (count i at : ℕ) (s : List ℕ) : Type 0 where
  pub kinds : (j : ℕ) → i ≤ j → j < count → kind_at s j ≡ j + 1
  pub starts : i < count → offset_at s i ≡ at
  pub no_gap : (j : ℕ) → i ≤ j → j + 1 < count → offset_at s (j + 1) ≡ offset_at s j + size_at s j
  pub ends : (j : ℕ) → i ≤ j → j + 1 ≡ count → offset_at s j + size_at s j ≡ length s
  pub nothing : i ≡ count → at ≡ length s

-- a line in front of those
line_more : (count i at : ℕ) (s : List ℕ) → i < count → kind_at s i ≡ i + 1 → offset_at s i ≡ at → Lines count (i + 1) (at + size_at s i) s
    → Lines count i at s
line_more count i at s here kind offset rest = record {
  kinds = λ j h l. kinds j h l (dec_le (i + 1) j);
  starts = λ h. offset;
  no_gap = λ j h l. no_gap j h l (dec_le (i + 1) j);
  ends = λ j h l. ends j h l (dec_le (i + 1) j);
  nothing = λ h. absurd (let z : ⊥ = omega arith in z);
}
  where
    kinds : (j : ℕ) → i ≤ j → j < count → Dec (i + 1 ≤ j) → kind_at s j ≡ j + 1
    kinds j h l (yes m) = rest.kinds j m l
    kinds j h l (no m) = subst (λ (t : ℕ). kind_at s t ≡ t + 1) (let z : i ≡ j = omega arith in z) kind

    no_gap : (j : ℕ) → i ≤ j → j + 1 < count → Dec (i + 1 ≤ j) → offset_at s (j + 1) ≡ offset_at s j + size_at s j
    no_gap j h l (yes m) = rest.no_gap j m l
    no_gap j h l (no m) =
        subst (λ (t : ℕ). offset_at s (t + 1) ≡ offset_at s t + size_at s t) (let z : i ≡ j = omega arith in z)
        (rest.starts (omega arith) ∙ ap (λ (t : ℕ). t + size_at s i) (sym offset))

    ends : (j : ℕ) → i ≤ j → j + 1 ≡ count → Dec (i + 1 ≤ j) → offset_at s j + size_at s j ≡ length s
    ends j h l (yes m) = rest.ends j m l
    ends j h l (no m) =
        subst (λ (t : ℕ). offset_at s t + size_at s t ≡ length s) (let z : i ≡ j = omega arith in z)
        (ap (λ (t : ℕ). t + size_at s i) offset ∙ rest.nothing (omega arith))

follows_lines : (count k i at : ℕ) (s : List ℕ) → i + k ≡ count → follows k i at s ≡ true → Lines count i at s
unfolding follows
follows_lines count zero i at s c e = record {
  kinds = λ j h l. absurd (let z : ⊥ = omega arith in z);
  starts = λ h. absurd (let z : ⊥ = omega arith in z);
  no_gap = λ j h l. absurd (let z : ⊥ = omega arith in z);
  ends = λ j h l. absurd (let z : ⊥ = omega arith in z);
  nothing = λ h. eqb-true at (length s) e;
}
follows_lines count (suc k) i at s c e =
    let kind = eqb (kind_at s i) (i + 1) in
    let offset = eqb (offset_at s i) at in
    let line : (kind && offset) ≡ true = and_left (kind && offset) (follows k (i + 1) (at + size_at s i) s) e in
    line_more count i at s (omega arith) (eqb-true (kind_at s i) (i + 1) (and_left kind offset line))
    (eqb-true (offset_at s i) at (and_right kind offset line))
    (follows_lines count k (i + 1) (at + size_at s i) s (omega arith) (and_right (kind && offset) (follows k (i + 1) (at + size_at s i) s) e))

lines_follow : (count k i at : ℕ) (s : List ℕ) → i + k ≡ count → Lines count i at s → follows k i at s ≡ true
unfolding follows
lines_follow count zero i at s c l = eq-eqb at (length s) (l.nothing (omega arith))
lines_follow count (suc k) i at s c l =
    let offset : offset_at s i ≡ at = l.starts (omega arith) in
    and_intro (and_intro (eq-eqb (kind_at s i) (i + 1) (l.kinds i (omega arith) (omega arith))) (eq-eqb (offset_at s i) at offset))
    (lines_follow count k (i + 1) (at + size_at s i) s (omega arith) (record {
      kinds = λ j h m. l.kinds j (omega arith) m;
      starts = λ h. l.no_gap i (omega arith) h ∙ ap (λ (t : ℕ). t + size_at s i) offset;
      no_gap = λ j h m. l.no_gap j (omega arith) m;
      ends = λ j h m. l.ends j (omega arith) m;
      nothing = λ h. ap (λ (t : ℕ). t + size_at s i) (sym offset) ∙ l.ends i (omega arith) h;
    }))

pub contents_exactly : (count : ℕ) (s : List ℕ) → (contents_fit count s ≡ true) ↔ ((get_or s 0 0 ≡ count) × Lines count 0 (start count) s)
contents_exactly count s = (
  λ e. (
    eqb-true (get_or s 0 0) count (and_left (eqb (get_or s 0 0) count) (follows count 0 (start count) s) e),
    follows_lines count count 0 (start count) s (omega arith) (and_right (eqb (get_or s 0 0) count) (follows count 0 (start count) s) e),
  ),
  λ p. and_intro (eq-eqb (get_or s 0 0) count p.0) (lines_follow count count 0 (start count) s (omega arith) p.1),
)
