-- std's words of bytes, lowest first, are numbers of as many bytes: byte i weighs 256 to the i-th in both. Assumes nothing.
use Rattle.std.proofs.Common.{◌%◌, ◌/◌, sym, ◌∙◌, ◌^◌, ◌<◌, append-nil, ◌≡◌, ℕ, zero, suc, ◌+◌, ◌*◌, List, [], get_or, drop, ap, arith}
use Rattle.std.specs.Int.{w64, from_le_bytes, to_le_bytes}
use Rattle.std.proofs.lemmas.Nat.{le_bytes_8}
use Rattle.numbers.specs.Numbers.{number, bytes, Bytes}
use Rattle.numbers.specs.Laws.{number_suc, number_bytes, length_bytes, none_bytes, more_bytes}

pub number_word : (s : List ℕ) → from_le_bytes w64 s ≡ number 8 s
unfolding number
number_word s =
    let a : number 8 (drop 0 s) ≡ get_or s 0 0 + 256 * number 7 (drop 1 s) = number_suc 7 0 s in
    let b : number 7 (drop 1 s) ≡ get_or s 1 0 + 256 * number 6 (drop 2 s) = number_suc 6 1 s in
    let c : number 6 (drop 2 s) ≡ get_or s 2 0 + 256 * number 5 (drop 3 s) = number_suc 5 2 s in
    let d : number 5 (drop 3 s) ≡ get_or s 3 0 + 256 * number 4 (drop 4 s) = number_suc 4 3 s in
    let e : number 4 (drop 4 s) ≡ get_or s 4 0 + 256 * number 3 (drop 5 s) = number_suc 3 4 s in
    let f : number 3 (drop 5 s) ≡ get_or s 5 0 + 256 * number 2 (drop 6 s) = number_suc 2 5 s in
    let g : number 2 (drop 6 s) ≡ get_or s 6 0 + 256 * number 1 (drop 7 s) = number_suc 1 6 s in
    let h : number 1 (drop 7 s) ≡ get_or s 7 0 + 256 * 0 = number_suc 0 7 s in
    omega arith

bytes_small : (w x : ℕ) → Bytes (bytes w x)
unfolding bytes
bytes_small zero x = none_bytes
bytes_small (suc w) x = more_bytes (x % 256) (bytes w (x / 256)) (omega arith) (bytes_small w (x / 256))

-- the eight bytes of a number, as std has them
pub word_bytes : (x : ℕ) → x < 2 ^ 64 → to_le_bytes w64 x ≡ bytes 8 x
word_bytes x h =
    let whole : number 8 (bytes 8 x) ≡ x = ap (number 8) (sym (append-nil (bytes 8 x))) ∙ number_bytes 8 x [] h in
    le_bytes_8 (bytes 8 x) x (length_bytes 8 x) (bytes_small 8 x) (sym (number_word (bytes 8 x) ∙ whole))
