-- What the code gathers of a graph's tables, on its way to an answer. No promise of a public call speaks of it.
use Rattle.std.specs.Prelude.{◌≡◌, ℕ, ◌+◌, ◌%◌, ◌^◌, ◌≤◌, cond, List, length, nat_lt}
use Rattle.sets.specs.Sets.{meet, union}
use Rattle.tables.specs.Tables.{row}

-- row i, where i is not below the count
abbrev pub beyond : ℕ → (ℕ → ℕ) → ℕ → ℕ
beyond count rows i = cond (nat_lt i count) 0 (rows i)

-- row i, and row i moved up, in a word: both are below 64 exactly if row i is so far below 64
abbrev pub raised : ℕ → (ℕ → ℕ) → ℕ → ℕ
raised up rows i = union (rows i) ((rows i + up) % 2 ^ 64)

-- what row i of one of four tables names
abbrev pub rows_together : List ℕ → List ℕ → List ℕ → List ℕ → ℕ → ℕ
rows_together a b c d i = union (union (row a i) (row b i)) (union (row c i) (row d i))

-- what row i of both of two tables names
abbrev pub rows_shared : List ℕ → List ℕ → ℕ → ℕ
rows_shared a b i = meet (row a i) (row b i)

-- each of four tables has at least k rows
pub record Reach (k : ℕ) (a b c d : List ℕ) : Type 0 where
  pub first : k ≤ length a
  pub second : k ≤ length b
  pub third : k ≤ length c
  pub fourth : k ≤ length d

-- each of four tables has k rows
pub record Sized (k : ℕ) (a b c d : List ℕ) : Type 0 where
  pub first : length a ≡ k
  pub second : length b ≡ k
  pub third : length c ≡ k
  pub fourth : length d ≡ k
