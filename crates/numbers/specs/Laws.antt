-- The laws of numbers as bytes: each way undoes the other, at any width. Assumes nothing.
use Rattle.std.specs.Prelude.{ℕ, zero, suc, ◌+◌, ◌-◌, ◌*◌, ◌/◌, ◌%◌, ◌^◌, ◌≤◌, ◌<◌, ◌≡◌, refl, List, [], ◌∷◌, ◌++◌, length, get_or, take, drop, set}
use Rattle.std.proofs.Common.{sym, ap, ap₂, ◌∙◌, subst, add-zero, zero-add, suc-add, add-suc, pow-suc, div-lt_iff_lt-mul, not-suc-le-zero, le_of_suc-le-suc, add-one, arith, length-append, get_or-take, get_or-drop, drop-drop, lit<}
use Rattle.std.proofs.Math.Decide.{dec_lt}
use Rattle.std.proofs.Math.ListN.{get_or-eq_default}
use Rattle.std.proofs.lemmas.List.Edits.{sets}
use Rattle.std.proofs.Math.Seq.{length-sets}
use Rattle.numbers.specs.Numbers.{number, bytes, Bytes, Spliced}

pub length_bytes : (w x : ℕ) → length (bytes w x) ≡ w
unfolding bytes
length_bytes zero x = refl
length_bytes (suc w) x = ap suc (length_bytes w (x / 256))

-- one byte, and the rest
pub bytes_pos : (w x : ℕ) → 0 < w → bytes w x ≡ x % 256 ∷ bytes (w - 1) (x / 256)
unfolding bytes
bytes_pos zero x h = absurd (not-suc-le-zero h)
bytes_pos (suc w) x h = ap (λ (k : ℕ). x % 256 ∷ bytes k (x / 256)) (let z : w ≡ suc w - 1 = omega arith in z)

pub number_suc : (w i : ℕ) (s : List ℕ) → number (suc w) (drop i s) ≡ get_or s i 0 + 256 * number w (drop (i + 1) s)
unfolding number
number_suc w i s =
    ap₂ (λ (a : ℕ) (l : List ℕ). a + 256 * number w l) (get_or-drop i s 0 0 ∙ ap (λ (k : ℕ). get_or s k 0) (add-zero i)) (drop-drop 1 i s)

pub number_two : (i : ℕ) (s : List ℕ) → number 2 (drop i s) ≡ get_or s i 0 + 256 * get_or s (i + 1) 0
unfolding number
number_two i s =
    let a : number 2 (drop i s) ≡ get_or s i 0 + 256 * number 1 (drop (i + 1) s) = number_suc 1 i s in
    let b : number 1 (drop (i + 1) s) ≡ get_or s (i + 1) 0 + 256 * 0 = number_suc 0 (i + 1) s in
    omega arith

-- one byte, and those from k on
number_next : (w j k : ℕ) (s : List ℕ) → j + 1 ≡ k → number (suc w) (drop j s) ≡ get_or s j 0 + 256 * number w (drop k s)
number_next w j k s e = number_suc w j s ∙ ap (λ (m : ℕ). get_or s j 0 + 256 * number w (drop m s)) e

pub number_eight : (i : ℕ) (s : List ℕ)
    → number 8 (drop i s) ≡ get_or s i 0 + 256 * (get_or s (i + 1) 0 + 256 * (get_or s (i + 2) 0 + 256 * (get_or s (i + 3) 0
    + 256 * (get_or s (i + 4) 0 + 256 * (get_or s (i + 5) 0 + 256 * (get_or s (i + 6) 0 + 256 * get_or s (i + 7) 0))))))
unfolding number
number_eight i s =
    let a = number_next 7 i (i + 1) s (omega arith) in
    let b = number_next 6 (i + 1) (i + 2) s (omega arith) in
    let c = number_next 5 (i + 2) (i + 3) s (omega arith) in
    let d = number_next 4 (i + 3) (i + 4) s (omega arith) in
    let e = number_next 3 (i + 4) (i + 5) s (omega arith) in
    let f = number_next 2 (i + 5) (i + 6) s (omega arith) in
    let g = number_next 1 (i + 6) (i + 7) s (omega arith) in
    let h : number 1 (drop (i + 7) s) ≡ get_or s (i + 7) 0 + 256 * 0 = number_suc 0 (i + 7) s in
    omega arith

-- the first a bytes, and the b bytes after them
pub number_add : (a b i : ℕ) (s : List ℕ) → number (a + b) (drop i s) ≡ number a (drop i s) + 256 ^ a * number b (drop (i + a) s)
unfolding number
number_add zero b i s = rw (zero-add, add-zero) (omega arith)
number_add (suc a) b i s =
    let l : number (suc a + b) (drop i s) ≡ number (suc (a + b)) (drop i s) = ap (λ (k : ℕ). number k (drop i s)) (suc-add a b) in
    let f : number (suc (a + b)) (drop i s) ≡ get_or s i 0 + 256 * number (a + b) (drop (i + 1) s) = number_suc (a + b) i s in
    let r : number (a + b) (drop (i + 1) s) ≡ number a (drop (i + 1) s) + 256 ^ a * number b (drop (i + 1 + a) s) =
    number_add a b (i + 1) s in
    let g : number (suc a) (drop i s) ≡ get_or s i 0 + 256 * number a (drop (i + 1) s) = number_suc a i s in
    let p : 256 ^ suc a ≡ 256 ^ a * 256 = pow-suc 256 a in
    let e : number b (drop (i + 1 + a) s) ≡ number b (drop (i + suc a) s) =
    ap (λ (k : ℕ). number b (drop k s)) (let z : i + 1 + a ≡ i + suc a = omega arith in z) in
    rw (p, l, f, r, g, e) (omega arith)

-- a number in two halves: the low one, and the high one times what it weighs
pub number_halves : (w i : ℕ) (s : List ℕ) (low high : ℕ) → low ≡ number w (drop i s) → high ≡ number w (drop (i + w) s)
    → low + 256 ^ w * high ≡ number (w + w) (drop i s)
number_halves w i s low high p q = ap₂ (λ (x y : ℕ). x + 256 ^ w * y) p q ∙ sym (number_add w w i s)

-- reading what was spelt gives the number
pub number_bytes : (w x : ℕ) (rest : List ℕ) → x < 256 ^ w → number w (bytes w x ++ rest) ≡ x
unfolding number bytes
number_bytes zero x rest h = omega arith
number_bytes (suc w) x rest h =
    let p : 256 ^ suc w ≡ 256 ^ w * 256 = pow-suc 256 w in
    let low : x / 256 < 256 ^ w = (div-lt_iff_lt-mul (lit< tt)).1 (omega arith) in
    let r : number w (bytes w (x / 256) ++ rest) ≡ x / 256 = number_bytes w (x / 256) rest low in
    omega arith

-- what is left of bytes is bytes
pub drop_bytes : (k : ℕ) (s : List ℕ) → Bytes s → Bytes (drop k s)
drop_bytes k s h i = subst (λ (x : ℕ). x < 256) (sym (get_or-drop k s i 0)) (h (k + i))

-- a part of bytes is bytes
pub take_bytes : (k : ℕ) (s : List ℕ) → Bytes s → Bytes (take k s)
take_bytes k s b i = go (dec_lt i k) (dec_lt i (length (take k s)))
  where
    go : Dec (i < k) → Dec (i < length (take k s)) → get_or (take k s) i 0 < 256
    go (yes h) l = subst (λ (x : ℕ). x < 256) (sym (get_or-take k s i 0 h)) (b i)
    go (no h) (yes l) = absurd (let z : length (take k s) ≤ k = most k s in let w : ⊥ = omega arith in w)
      where
        most : (k : ℕ) (s : List ℕ) → length (take k s) ≤ k
        most zero s = omega arith
        most (suc k) [] = omega arith
        most (suc k) (x ∷ s) = let r : length (take k s) ≤ k = most k s in omega arith
    go (no h) (no l) =
        let z : length (take k s) ≤ i = omega arith in
        subst (λ (x : ℕ). x < 256) (sym (get_or-eq_default (take k s) 0 {n = i} z)) (lit< tt)

-- spelling what was read gives the bytes
pub bytes_number : (w : ℕ) (s : List ℕ) → Bytes s → w ≤ length s → bytes w (number w s) ≡ take w s
unfolding number bytes
bytes_number zero s h l = refl
bytes_number (suc w) [] h l = absurd (not-suc-le-zero l)
bytes_number (suc w) (b ∷ s) h l =
    let small : b < 256 = h 0 in
    let low : (b + 256 * number w s) % 256 ≡ b = omega arith in
    let high : (b + 256 * number w s) / 256 ≡ number w s = omega arith in
    ap₂ (λ (x y : ℕ). x ∷ bytes w y) low high
    ∙ ap (λ (r : List ℕ). b ∷ r) (bytes_number w s (drop_bytes 1 (b ∷ s) h) (le_of_suc-le-suc l))

pub number_lt : (w : ℕ) (s : List ℕ) → Bytes s → number w s < 256 ^ w
unfolding number
number_lt zero s h = lit< tt
number_lt (suc w) s h =
    let p : 256 ^ suc w ≡ 256 ^ w * 256 = pow-suc 256 w in
    let b : get_or s 0 0 < 256 = h 0 in
    let r : number w (drop 1 s) < 256 ^ w = number_lt w (drop 1 s) (drop_bytes 1 s h) in
    rw p (omega arith)

-- what is stored in two runs is stored in one
pub sets_append : (v w l : List ℕ) (i : ℕ) → sets (sets l i v) (i + length v) w ≡ sets l i (v ++ w)
sets_append [] w l i = ap (λ (k : ℕ). sets l k w) (add-zero i)
sets_append (x ∷ v) w l i =
    ap (λ (k : ℕ). sets (sets (set l i x) (suc i) v) k w) (add-suc i (length v) ∙ sym (suc-add i (length v)))
    ∙ sets_append v w (set l i x) (suc i)

-- ---- writers, one after the other

pub spliced_then : (v w : List ℕ) (at : ℕ) (old mid new : List ℕ) (r q : ℕ)
    → Spliced v at old mid r → Spliced w r mid new q → Spliced (v ++ w) at old new q
spliced_then v w at old mid new r q a b =
    let l : length (v ++ w) ≡ length v + length w = length-append v w in
    let n : r ≡ at + length v = a.next in
    let m : q ≡ r + length w = b.next in
    record {
      next = omega arith;
      stored = b.stored ∙ ap₂ (λ (l : List ℕ) (k : ℕ). sets l k w) a.stored n ∙ sets_append v w old at;
    }

pub spliced_length : (v : List ℕ) (at : ℕ) (old new : List ℕ) (r : ℕ) → Spliced v at old new r → length new ≡ length old
spliced_length v at old new r a = ap length a.stored ∙ length-sets old at v

-- where there is room for two, there is room for the first, and then for the second
pub room_first : (v w : List ℕ) (at room : ℕ) → at + length (v ++ w) ≤ room → at + length v ≤ room
room_first v w at room h = let l : length (v ++ w) ≡ length v + length w = length-append v w in omega arith

pub room_then : (v w : List ℕ) (at : ℕ) (old new : List ℕ) (r : ℕ) → Spliced v at old new r
    → at + length (v ++ w) ≤ length old → r + length w ≤ length new
room_then v w at old new r a h =
    let l : length (v ++ w) ≡ length v + length w = length-append v w in
    let n : r ≡ at + length v = a.next in
    let e : length new ≡ length old = spliced_length v at old new r a in
    omega arith

-- ---- the loop that spells

-- one byte more
pub put_more : (l : List ℕ) (to left x : ℕ) → 0 < left
    → sets l to (bytes left x) ≡ sets (set l to (x % 256)) (to + 1) (bytes (left - 1) (x / 256))
put_more l to left x h =
    ap (sets l to) (bytes_pos left x h)
    ∙ ap (λ (k : ℕ). sets (set l to (x % 256)) k (bytes (left - 1) (x / 256))) (sym (add-one to))

-- none left
pub put_done : (l : List ℕ) (to left x : ℕ) → left ≤ 0 → sets l to (bytes left x) ≡ l
unfolding bytes
put_done l to left x h = ap (λ (k : ℕ). sets l to (bytes k x)) (let z : left ≡ 0 = omega arith in z)

-- ---- lists of bytes

pub none_bytes : Bytes []
none_bytes i = lit< tt

pub more_bytes : (x : ℕ) (s : List ℕ) → x < 256 → Bytes s → Bytes (x ∷ s)
more_bytes x s h b zero = h
more_bytes x s h b (suc i) = b i

pub append_bytes : (s t : List ℕ) → Bytes s → Bytes t → Bytes (s ++ t)
append_bytes [] t b c = c
append_bytes (x ∷ s) t b c = more_bytes x (s ++ t) (b 0) (append_bytes s t (λ i. b (suc i)) c)
