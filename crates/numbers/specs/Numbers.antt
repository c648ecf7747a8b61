-- Numbers as bytes, lowest first, of any width.
use Rattle.std.specs.Prelude.{ℕ, zero, suc, ◌+◌, ◌*◌, ◌/◌, ◌%◌, ◌<◌, ◌≡◌, List, [], ◌∷◌, length, get_or, drop}
use Rattle.std.proofs.lemmas.List.Edits.{sets}

-- the number that the first w bytes of s spell; what is missing at the end counts as 0
unfoldable pub number : ℕ → List ℕ → ℕ
number zero s = 0
number (suc w) s = get_or s 0 0 + 256 * number w (drop 1 s)

-- the w bytes of x
unfoldable pub bytes : ℕ → ℕ → List ℕ
bytes zero x = []
bytes (suc w) x = x % 256 ∷ bytes w (x / 256)

-- s is a list of bytes
abbrev pub Bytes : List ℕ → Type 0
Bytes s = (i : ℕ) → get_or s i 0 < 256

-- v was written from `at` on, and r is the place after it: what every writer here promises
pub record Spliced (v : List ℕ) (at : ℕ) (old new : List ℕ) (r : ℕ) : Type 0 where
  pub next : r ≡ at + length v
  pub stored : new ≡ sets old at v
