-- The laws of the layout: the contents of laid-out bodies lead to these bodies, and a sheet whose contents fit is laid out from the bodies
-- that
-- they lead to. Assumes nothing.
use Prim.Native.Nat.{ℕ, zero, suc, ◌+◌, ◌-◌, ◌*◌, ◌%◌, ◌≤◌, ◌<◌}
use Rattle.std.specs.Prelude.{◌≡◌, refl, true, ◌&&◌, take, eqb}
use Rattle.std.proofs.Math.Path.{sym, ap, ap₂, subst}
use Rattle.std.proofs.Common.{◌∙◌, add-zero, not-suc-le-zero, le_of_suc-le-suc, length-drop, take-append-drop, drop-drop, get_or-drop, take-add, eq-eqb, eqb-true}
use mathlib.Core.List.{List, [], ◌∷◌, ◌++◌, map, append_assoc, append-nil}
use Rattle.std.proofs.Math.Nat.{mod-eq_of_lt}
use native.Mathlib.Omega.{arith}
use Rattle.std.proofs.Math.ListN.{length, get_or, drop, length-append, length-map}
use Rattle.std.proofs.Math.Seq.{take-append_seam, drop-length}
use Rattle.sets.specs.Truth.{and_left, and_right, and_intro}
use Rattle.numbers.specs.Numbers.{number, bytes, Bytes}
use Rattle.numbers.specs.Laws.{drop_bytes, number_bytes, bytes_number}
use Rattle.layout.specs.Layout.{line_of, contents, joined, start, front, laid, kind_at, offset_at, size_at, body_at, follows, contents_fit}
use Rattle.layout.specs.Lists.{drop_past, part_rest, length_part}

-- ---- lengths

pub length_line : (kind offset size : ℕ) → length (line_of kind offset size) ≡ 5
unfolding bytes
length_line kind offset size = refl

pub length_contents : (kind offset : ℕ) (sizes : List ℕ) → length (contents kind offset sizes) ≡ 5 * length sizes
unfolding contents
length_contents kind offset [] = refl
length_contents kind offset (size ∷ rest) =
    let r : length (contents (kind + 1) (offset + size) rest) ≡ 5 * length rest = length_contents (kind + 1) (offset + size) rest in
    let a : length (line_of kind offset size ++ contents (kind + 1) (offset + size) rest) ≡ length (line_of kind offset size) + length
    (contents (kind + 1) (offset + size) rest) =
    length-append (line_of kind offset size) (contents (kind + 1) (offset + size) rest) in
    let l : length (line_of kind offset size) ≡ 5 = length_line kind offset size in
    omega arith

pub length_front : (sizes : List ℕ) → length (front sizes) ≡ start (length sizes)
unfolding bytes
length_front sizes = let r : length (contents 1 (start (length sizes)) sizes) ≡ 5 * length sizes =
    length_contents 1 (start (length sizes)) sizes in omega arith

-- ---- the bodies that the contents lead to

unfoldable pub bodies_from : ℕ → ℕ → List ℕ → List (List ℕ)
bodies_from zero i s = []
bodies_from (suc k) i s = body_at s i ∷ bodies_from k (i + 1) s

-- line i and those after it are the lines of `bodies`, whose first one starts at `at`
record Lines (i at : ℕ) (bodies : List (List ℕ)) (s : List ℕ) : Type 0 where
  pre : List ℕ
  mid : List ℕ
  split : s ≡ pre ++ (contents (i + 1) at (map length bodies) ++ (mid ++ joined bodies))
  begins : length pre ≡ 1 + 5 * i
  reaches : length pre + length (contents (i + 1) at (map length bodies)) + length mid ≡ at

regroup : (p c m j : List ℕ) → p ++ (c ++ (m ++ j)) ≡ (p ++ (c ++ m)) ++ j
regroup p c m j = simp append_assoc

shift : (p l c m b j : List ℕ) → p ++ ((l ++ c) ++ (m ++ (b ++ j))) ≡ (p ++ l) ++ (c ++ ((m ++ b) ++ j))
shift p l c m b j = simp append_assoc

module _ (i at : ℕ) (body : List ℕ) (rest : List (List ℕ)) (s : List ℕ) (l : Lines i at (body ∷ rest) s) (small : length s < 65536)
    (few : i < 255) where
  later : List ℕ
  later = contents (i + 1 + 1) (at + length body) (map length rest)

  -- from the line on
  from_line : drop (1 + 5 * i) s ≡ (line_of (i + 1) at (length body) ++ later) ++ (l.mid ++ (body ++ joined rest))
  unfolding contents joined later
  from_line = ap₂ (λ (k : ℕ) (t : List ℕ). drop k t) (let z : 1 + 5 * i ≡ 1 + 5 * i + 0 = omega arith in z) l.split
      ∙ drop_past l.pre ((line_of (i + 1) at (length body) ++ later) ++ (l.mid ++ (body ++ joined rest))) (1 + 5 * i) 0 l.begins

  -- from the body on
  before_body : List ℕ
  before_body = l.pre ++ (contents (i + 1) at (length body ∷ map length rest) ++ l.mid)

  split_body : s ≡ before_body ++ (body ++ joined rest)
  unfolding joined before_body
  split_body = l.split ∙ regroup l.pre (contents (i + 1) at (length body ∷ map length rest)) l.mid (body ++ joined rest)

  length_before : length before_body ≡ at
  unfolding before_body
  length_before =
      length-append l.pre (contents (i + 1) at (length body ∷ map length rest) ++ l.mid)
      ∙ ap (λ (k : ℕ). length l.pre + k) (length-append (contents (i + 1) at (length body ∷ map length rest)) l.mid)
      ∙ (let r : length l.pre + length (contents (i + 1) at (length body ∷ map length rest)) + length l.mid ≡ at = l.reaches in
      let z : length l.pre + (length (contents (i + 1) at (length body ∷ map length rest)) + length l.mid) ≡ at = omega arith in z)

  from_body : drop at s ≡ body ++ joined rest
  from_body = ap₂ (λ (k : ℕ) (t : List ℕ). drop k t) (let z : at ≡ at + 0 = omega arith in z) split_body
      ∙ drop_past before_body (body ++ joined rest) at 0 length_before

  at_small : at + length body < 65536
  at_small =
      let a : length s ≡ length before_body + length (body ++ joined rest) = ap length split_body
      ∙ length-append before_body (body ++ joined rest) in
      let b : length (body ++ joined rest) ≡ length body + length (joined rest) = length-append body (joined rest) in
      let c : length before_body ≡ at = length_before in
      omega arith

  line_kind : kind_at s i ≡ i + 1
  unfolding bytes later
  line_kind =
      sym (get_or-drop (1 + 5 * i) s 0 0 ∙ ap (λ (k : ℕ). get_or s k 0) (add-zero (1 + 5 * i)))
      ∙ ap (λ (t : List ℕ). get_or t 0 0) from_line ∙ mod-eq_of_lt (let z : i + 1 < 256 = omega arith in z)

  line_offset : offset_at s i ≡ at
  unfolding bytes
  line_offset =
      ap (number 2) (ap (λ (k : ℕ). drop k s) (let z : 2 + 5 * i ≡ 1 + 5 * i + 1 = omega arith in z) ∙ sym (drop-drop 1 (1 + 5 * i) s)
      ∙ ap (drop 1) from_line)
      ∙ number_bytes 2 at ((bytes 2 (length body) ++ later) ++ (l.mid ++ (body ++ joined rest)))
      (let z : at + length body < 65536 = at_small in omega arith)

  line_size : size_at s i ≡ length body
  unfolding bytes
  line_size =
      ap (number 2) (ap (λ (k : ℕ). drop k s) (let z : 4 + 5 * i ≡ 1 + 5 * i + 3 = omega arith in z) ∙ sym (drop-drop 3 (1 + 5 * i) s)
      ∙ ap (drop 3) from_line)
      ∙ number_bytes 2 (length body) (later ++ (l.mid ++ (body ++ joined rest)))
      (let z : at + length body < 65536 = at_small in omega arith)

  line_body : body_at s i ≡ body
  line_body = ap₂ (λ (a b : ℕ). take a (drop b s)) line_size line_offset ∙ ap (take (length body)) from_body
      ∙ take-append_seam body (joined rest)

  lines_tail : Lines (i + 1) (at + length body) rest s
  unfolding contents joined later
  lines_tail =
      let line : List ℕ = line_of (i + 1) at (length body) in
      let n : length line ≡ 5 = length_line (i + 1) at (length body) in
      let a : length (l.pre ++ line) ≡ length l.pre + length line = length-append l.pre line in
      let b : length (l.mid ++ body) ≡ length l.mid + length body = length-append l.mid body in
      let c : length (line ++ later) ≡ length line + length later = length-append line later in
      let r : length l.pre + length (line ++ later) + length l.mid ≡ at = l.reaches in
      let g : length l.pre ≡ 1 + 5 * i = l.begins in
      record {
        pre = l.pre ++ line;
        mid = l.mid ++ body;
        split = l.split ∙ shift l.pre line later l.mid body (joined rest);
        begins = omega arith;
        reaches = omega arith;
      }

-- ---- what was laid out is read back

lines_follow : (i at : ℕ) (bodies : List (List ℕ)) (s : List ℕ) → Lines i at bodies s → length s < 65536 → i + length bodies < 256
    → follows (length bodies) i at s ≡ true
unfolding follows contents joined
lines_follow i at [] s l small few =
    eq-eqb at (length s) (let a : length s ≡ length (l.pre ++ (l.mid ++ [])) = ap length l.split in
    let b : length (l.pre ++ (l.mid ++ [])) ≡ length l.pre + length (l.mid ++ []) = length-append l.pre (l.mid ++ []) in
    let c : length (l.mid ++ []) ≡ length l.mid = ap length (append-nil l.mid) in
    let r : length l.pre + 0 + length l.mid ≡ at = l.reaches in
    omega arith)
lines_follow i at (body ∷ rest) s l small few =
    let h : i < 255 = omega arith in
    and_intro (and_intro (eq-eqb (kind_at s i) (i + 1) (line_kind i at body rest s l small h))
    (eq-eqb (offset_at s i) at (line_offset i at body rest s l small h)))
    (ap (λ (k : ℕ). follows (length rest) (i + 1) (at + k) s) (line_size i at body rest s l small h)
    ∙ lines_follow (i + 1) (at + length body) rest s (lines_tail i at body rest s l small h) small (omega arith))

lines_bodies : (i at : ℕ) (bodies : List (List ℕ)) (s : List ℕ) → Lines i at bodies s → length s < 65536 → i + length bodies < 256
    → bodies_from (length bodies) i s ≡ bodies
unfolding bodies_from
lines_bodies i at [] s l small few = refl
lines_bodies i at (body ∷ rest) s l small few =
    let h : i < 255 = omega arith in
    ap₂ (λ (b : List ℕ) (r : List (List ℕ)). b ∷ r) (line_body i at body rest s l small h)
    (lines_bodies (i + 1) (at + length body) rest s (lines_tail i at body rest s l small h) small (omega arith))

module _ (bodies : List (List ℕ)) (small : length (laid bodies) < 65536) (few : length bodies < 256) where
  sizes : List ℕ
  sizes = map length bodies

  count : length sizes ≡ length bodies
  unfolding sizes
  count = length-map bodies length

  all_lines : Lines 0 (start (length bodies)) bodies (laid bodies)
  unfolding bytes sizes
  all_lines =
      let n : length (contents 1 (start (length sizes)) sizes) ≡ 5 * length sizes = length_contents 1 (start (length sizes)) sizes in
      let e : length sizes ≡ length bodies = count in
      subst (λ (k : ℕ). Lines 0 (start k) bodies (laid bodies)) e
      (record {
        pre = length sizes % 256 ∷ [];
        mid = [];
        split = ap (λ (l : List ℕ). length sizes % 256 ∷ l) refl;
        begins = refl;
        reaches = omega arith;
      })

  pub laid_fits : contents_fit (length bodies) (laid bodies) ≡ true
  unfolding bytes sizes
  laid_fits =
      and_intro (eq-eqb (length sizes % 256) (length bodies) (ap (λ (k : ℕ). k % 256) count ∙ mod-eq_of_lt few))
      (lines_follow 0 (start (length bodies)) bodies (laid bodies) all_lines small (let z : 0 + length bodies < 256 = omega arith in z))

  pub laid_bodies : bodies_from (length bodies) 0 (laid bodies) ≡ bodies
  laid_bodies = lines_bodies 0 (start (length bodies)) bodies (laid bodies) all_lines small
      (let z : 0 + length bodies < 256 = omega arith in z)

-- ---- a sheet whose contents fit is laid out from its bodies

pub follows_end : (k i at : ℕ) (s : List ℕ) → follows k i at s ≡ true → at ≤ length s
unfolding follows
follows_end zero i at s e = let z : at ≡ length s = eqb-true at (length s) e in omega arith
follows_end (suc k) i at s e =
    let r : at + size_at s i ≤ length s =
    follows_end k (i + 1) (at + size_at s i) s
    (and_right (eqb (kind_at s i) (i + 1) && eqb (offset_at s i) at) (follows k (i + 1) (at + size_at s i) s) e) in
    omega arith

-- each body lies within the sheet
pub body_inside : (k i at : ℕ) (s : List ℕ) (j : ℕ) → follows k i at s ≡ true → j < k → offset_at s (i + j) + size_at s (i + j) ≤ length s
unfolding follows
body_inside zero i at s j e h = absurd (not-suc-le-zero h)
body_inside (suc k) i at s zero e h =
    let o : offset_at s i ≡ at =
    eqb-true (offset_at s i) at
    (and_right (eqb (kind_at s i) (i + 1)) (eqb (offset_at s i) at)
    (and_left (eqb (kind_at s i) (i + 1) && eqb (offset_at s i) at) (follows k (i + 1) (at + size_at s i) s) e)) in
    let r : at + size_at s i ≤ length s =
    follows_end k (i + 1) (at + size_at s i) s
    (and_right (eqb (kind_at s i) (i + 1) && eqb (offset_at s i) at) (follows k (i + 1) (at + size_at s i) s) e) in
    subst (λ (m : ℕ). offset_at s m + size_at s m ≤ length s) (sym (add-zero i)) (omega arith)
body_inside (suc k) i at s (suc j) e h =
    subst (λ (m : ℕ). offset_at s m + size_at s m ≤ length s) (let z : i + 1 + j ≡ i + suc j = omega arith in z)
    (body_inside k (i + 1) (at + size_at s i) s j
    (and_right (eqb (kind_at s i) (i + 1) && eqb (offset_at s i) at) (follows k (i + 1) (at + size_at s i) s) e) (le_of_suc-le-suc h))

-- a line is the five bytes that it was read from
line_back : (i : ℕ) (s : List ℕ) → Bytes s → 6 + 5 * i ≤ length s → kind_at s i ≡ i + 1
    → line_of (i + 1) (offset_at s i) (size_at s i) ≡ take 5 (drop (1 + 5 * i) s)
unfolding number
line_back i s b h e =
    let x : List ℕ = drop (1 + 5 * i) s in
    let n : length (drop (1 + 5 * i) s) ≡ length s - (1 + 5 * i) = length-drop (1 + 5 * i) s in
    let n2 : length (drop (2 + 5 * i) s) ≡ length s - (2 + 5 * i) = length-drop (2 + 5 * i) s in
    let n4 : length (drop (4 + 5 * i) s) ≡ length s - (4 + 5 * i) = length-drop (4 + 5 * i) s in
    let k : number 1 (drop (1 + 5 * i) s) ≡ i + 1 =
    (let g : get_or (drop (1 + 5 * i) s) 0 0 ≡ kind_at s i = get_or-drop (1 + 5 * i) s 0 0 ∙ ap (λ (m : ℕ). get_or s m 0) (add-zero (1 + 5 * i)) in
    omega arith) in
    let one : bytes 1 (i + 1) ≡ take 1 (drop (1 + 5 * i) s) = ap (bytes 1) (sym k)
    ∙ bytes_number 1 (drop (1 + 5 * i) s) (drop_bytes (1 + 5 * i) s b) (omega arith) in
    let two : bytes 2 (offset_at s i) ≡ take 2 (drop 1 (drop (1 + 5 * i) s)) =
    bytes_number 2 (drop (2 + 5 * i) s) (drop_bytes (2 + 5 * i) s b) (omega arith)
    ∙ ap (take 2) (ap (λ (m : ℕ). drop m s) (let z : 2 + 5 * i ≡ 1 + 5 * i + 1 = omega arith in z) ∙ sym (drop-drop 1 (1 + 5 * i) s)) in
    let three : bytes 2 (size_at s i) ≡ take 2 (drop 2 (drop 1 (drop (1 + 5 * i) s))) =
    bytes_number 2 (drop (4 + 5 * i) s) (drop_bytes (4 + 5 * i) s b) (omega arith)
    ∙ ap (take 2) (ap (λ (m : ℕ). drop m s) (let z : 4 + 5 * i ≡ 1 + 5 * i + 3 = omega arith in z) ∙ sym (drop-drop 3 (1 + 5 * i) s)
    ∙ sym (drop-drop 2 1 (drop (1 + 5 * i) s))) in
    ap₂ (λ (p q : List ℕ). p ++ q) one (ap₂ (λ (p q : List ℕ). p ++ q) two three)
    ∙ sym (take-add 1 4 (drop (1 + 5 * i) s)
    ∙ ap (λ (q : List ℕ). take 1 (drop (1 + 5 * i) s) ++ q) (take-add 2 2 (drop 1 (drop (1 + 5 * i) s))))

record Back (k i at : ℕ) (s : List ℕ) : Type 0 where
  lines : drop (1 + 5 * i) s ≡ contents (i + 1) at (map length (bodies_from k i s)) ++ drop (1 + 5 * (i + k)) s
  parts : drop at s ≡ joined (bodies_from k i s)

follows_back : (k i at : ℕ) (s : List ℕ) → Bytes s → follows k i at s ≡ true → 1 + 5 * (i + k) ≤ length s → Back k i at s
unfolding follows bodies_from contents joined
follows_back zero i at s b e h = record {
  lines = ap (λ (m : ℕ). drop (1 + 5 * m) s) (sym (add-zero i));
  parts = ap (λ (m : ℕ). drop m s) (eqb-true at (length s) e) ∙ drop-length s;
}
follows_back (suc k) i at s b e h =
    let front : (eqb (kind_at s i) (i + 1) && eqb (offset_at s i) at) ≡ true =
    and_left (eqb (kind_at s i) (i + 1) && eqb (offset_at s i) at) (follows k (i + 1) (at + size_at s i) s) e in
    let kind : kind_at s i ≡ i + 1 = eqb-true (kind_at s i) (i + 1) (and_left (eqb (kind_at s i) (i + 1)) (eqb (offset_at s i) at) front) in
    let o : offset_at s i ≡ at = eqb-true (offset_at s i) at (and_right (eqb (kind_at s i) (i + 1)) (eqb (offset_at s i) at) front) in
    let more : follows k (i + 1) (at + size_at s i) s ≡ true =
    and_right (eqb (kind_at s i) (i + 1) && eqb (offset_at s i) at) (follows k (i + 1) (at + size_at s i) s) e in
    let end : at + size_at s i ≤ length s = follows_end k (i + 1) (at + size_at s i) s more in
    let size : length (body_at s i) ≡ size_at s i = length_part (offset_at s i) (size_at s i) s (omega arith) in
    let r : Back k (i + 1) (at + size_at s i) s = follows_back k (i + 1) (at + size_at s i) s b more (omega arith) in
    record {
      lines =
          part_rest (1 + 5 * i) 5 s
          ∙ ap₂ (λ (p q : List ℕ). p ++ q)
          (sym (line_back i s b (omega arith) kind) ∙ ap₂ (line_of (i + 1)) o (sym size))
          (ap (λ (m : ℕ). drop m s) (let z : 1 + 5 * i + 5 ≡ 1 + 5 * (i + 1) = omega arith in z) ∙ r.lines
          ∙ ap₂ (λ (m n : ℕ). contents (i + 1 + 1) (at + m) (map length (bodies_from k (i + 1) s)) ++ drop (1 + 5 * n) s) (sym size)
          (let z : i + 1 + k ≡ i + suc k = omega arith in z))
          ∙ sym (append_assoc (line_of (i + 1) at (length (body_at s i)))
          (contents (i + 1 + 1) (at + length (body_at s i)) (map length (bodies_from k (i + 1) s))) (drop (1 + 5 * (i + suc k)) s));
      parts = part_rest at (size_at s i) s
          ∙ ap₂ (λ (p q : List ℕ). p ++ q) (ap (λ (m : ℕ). take (size_at s i) (drop m s)) (sym o)) r.parts;
    }

length_bodies : (k i : ℕ) (s : List ℕ) → length (bodies_from k i s) ≡ k
unfolding bodies_from
length_bodies zero i s = refl
length_bodies (suc k) i s = ap suc (length_bodies k (i + 1) s)

-- a sheet whose contents fit is laid out from the bodies that they lead to
pub fits_laid : (count : ℕ) (s : List ℕ) → Bytes s → count < 256 → contents_fit count s ≡ true → start count ≤ length s
    → laid (bodies_from count 0 s) ≡ s
unfolding number
fits_laid count s b few e h =
    let many : length (map length (bodies_from count 0 s)) ≡ count = length-map (bodies_from count 0 s) length ∙ length_bodies count 0 s in
    let byte : get_or s 0 0 ≡ count = eqb-true (get_or s 0 0) count (and_left (eqb (get_or s 0 0) count) (follows count 0 (start count) s) e) in
    let r : Back count 0 (start count) s =
    follows_back count 0 (start count) s b (and_right (eqb (get_or s 0 0) count) (follows count 0 (start count) s) e)
    (let z : 1 + 5 * (0 + count) ≤ length s = omega arith in z) in
    let n : number 1 s ≡ count = omega arith in
    let first : bytes 1 count ≡ take 1 s = ap (bytes 1) (sym n) ∙ bytes_number 1 s b (omega arith) in
    ap (λ (m : ℕ). (bytes 1 m ++ contents 1 (start m) (map length (bodies_from count 0 s))) ++ joined (bodies_from count 0 s)) many
    ∙ append_assoc (bytes 1 count) (contents 1 (start count) (map length (bodies_from count 0 s))) (joined (bodies_from count 0 s))
    ∙ ap₂ (λ (p q : List ℕ). p ++ q) first
    (ap (λ (q : List ℕ). contents 1 (start count) (map length (bodies_from count 0 s)) ++ q)
    (sym r.parts ∙ ap (λ (m : ℕ). drop (1 + 5 * m) s) (let z : count ≡ 0 + count = omega arith in z))
    ∙ sym r.lines)
    ∙ take-append-drop 1 s
