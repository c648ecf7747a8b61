-- What the loops over the contents carry: what is left to do, and the law for one line more. Assumes nothing.
use Prim.Native.Nat.{ℕ, suc, ◌+◌, ◌-◌, ◌*◌, ◌≤◌, ◌<◌}
use Rattle.std.specs.Prelude.{◌≡◌, refl, ◌&&◌, eqb}
use Rattle.std.proofs.Math.Path.{sym, ap, ap₂}
use Rattle.std.proofs.Common.{◌∙◌, drop_of_length-le, drop-cons}
use mathlib.Core.List.{List, ◌∷◌}
use native.Mathlib.Omega.{arith}
use Rattle.std.proofs.Math.ListN.{length, get_or, drop}
use Rattle.std.proofs.Math.Seq.{sets}
use Rattle.numbers.specs.Numbers.{Spliced}
use Rattle.numbers.specs.Laws.{sets_append, spliced_length}
use Rattle.layout.specs.Layout.{line_of, contents, start, kind_at, offset_at, size_at, follows}
use Rattle.layout.specs.Laws.{length_line, length_contents}

-- ---- reading

-- one line more
pub follows_more : (count i at : ℕ) (s : List ℕ) → i < count
    → follows (count - i) i at s ≡ (eqb (kind_at s i) (i + 1) && eqb (offset_at s i) at
    && follows (count - (i + 1)) (i + 1) (at + size_at s i) s)
unfolding follows
follows_more count i at s h = ap (λ (k : ℕ). follows k i at s) (let z : count - i ≡ suc (count - (i + 1)) = omega arith in z)

-- no line left
pub follows_done : (count i at : ℕ) (s : List ℕ) → count ≤ i → follows (count - i) i at s ≡ eqb at (length s)
unfolding follows
follows_done count i at s h = ap (λ (k : ℕ). follows k i at s) (let z : count - i ≡ 0 = omega arith in z)

-- ---- writing

abbrev pub lines : List ℕ → List ℕ
lines sizes = contents 1 (start (length sizes)) sizes

-- the lines from i on, stored where the loop stands, give what all lines give at the start
pub record Storing (sizes : List ℕ) (at : ℕ) (old room : List ℕ) (to offset i : ℕ) : Type 0 where
  pub left : sets old at (lines sizes) ≡ sets room to (contents (i + 1) offset (drop i sizes))
  pub place : to + 5 * (length sizes - i) ≡ at + 5 * length sizes
  pub same : length room ≡ length old

module _ (sizes : List ℕ) (at : ℕ) (old : List ℕ) where
  pub storing_start : Storing sizes at old old at (start (length sizes)) 0
  storing_start = record { left = refl; place = omega arith; same = refl }

  pub storing_more : (room new : List ℕ) (to offset i r : ℕ) → Storing sizes at old room to offset i → i < length sizes
      → Spliced (line_of (i + 1) offset (get_or sizes i 0)) to room new r → Storing sizes at old new r (offset + get_or sizes i 0) (i + 1)
  unfolding contents
  storing_more room new to offset i r w h s =
      let line : List ℕ = line_of (i + 1) offset (get_or sizes i 0) in
      let rest : List ℕ = contents (i + 1 + 1) (offset + get_or sizes i 0) (drop (i + 1) sizes) in
      let n : length line ≡ 5 = length_line (i + 1) offset (get_or sizes i 0) in
      let p : r ≡ to + length line = s.next in
      let q : to + 5 * (length sizes - i) ≡ at + 5 * length sizes = w.place in
      record {
        left = w.left
            ∙ ap (λ (l : List ℕ). sets room to (contents (i + 1) offset l))
            (drop-cons sizes i 0 h ∙ ap (λ (k : ℕ). get_or sizes i 0 ∷ drop k sizes) (let z : suc i ≡ i + 1 = omega arith in z))
            ∙ sym (sets_append line rest room to)
            ∙ ap₂ (λ (l : List ℕ) (k : ℕ). sets l k rest) (sym s.stored) (sym p);
        place = omega arith;
        same = spliced_length line to room new r s ∙ w.same;
      }

  pub storing_done : (room : List ℕ) (to offset i : ℕ) → Storing sizes at old room to offset i → length sizes ≤ i
      → Spliced (lines sizes) at old room to
  unfolding contents
  storing_done room to offset i w h =
      let n : length (lines sizes) ≡ 5 * length sizes = length_contents 1 (start (length sizes)) sizes in
      let p : to + 5 * (length sizes - i) ≡ at + 5 * length sizes = w.place in
      record {
        next = omega arith;
        stored = sym (w.left ∙ ap (λ (l : List ℕ). sets room to (contents (i + 1) offset l)) (drop_of_length-le sizes h));
      }
