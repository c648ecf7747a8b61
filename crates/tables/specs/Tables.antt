-- What is asked of a graph's counts and tables: a table is a list of sets, a row for each number.
use Rattle.std.specs.Prelude.{ℕ, Bool, cond, ◌&&◌, ltb, List, length, take, drop, nat_lt, slice_index}
use Rattle.sets.specs.Sets.{meet, empty, within, every}
use Rattle.moves.specs.Move.{within1to}

-- row s of a table; nothing stands beyond its end
abbrev pub row : List ℕ → ℕ → ℕ
row table s = slice_index table s

-- the table of `count` rows from row `at` on
abbrev pub table_at : ℕ → ℕ → List ℕ → List ℕ
table_at at count words = take count (drop at words)

-- 2 is given unless there are 1 to 64 steps, 1 to 16 people, 1 to 16 roles and 1 to 64 actions
abbrev pub counts_fit : ℕ → ℕ → ℕ → ℕ → Bool
counts_fit steps people roles actions = within1to steps 64 && within1to people 16 && within1to roles 16 && within1to actions 64

-- a table that keeps a row for each number below `count`: such a row names nothing at or beyond `limit`, and any other row nothing at all
unfoldable pub keeps : ℕ → ℕ → List ℕ → Bool
keeps count limit table = every (length table) (λ i. within (cond (nat_lt i count) limit 0) (row table i))

-- the role sets of the actions and of the people
abbrev pub roles_fit : ℕ → ℕ → ℕ → List ℕ → List ℕ → Bool
roles_fit actions people roles allows holds = keeps actions roles allows && keeps people roles holds

-- each step's action is one that there is, and 0 stands for a step that there is not
unfoldable pub labels_fit : ℕ → ℕ → List ℕ → Bool
labels_fit steps actions labels = every (length labels) (λ s. ltb (row labels s) (cond (nat_lt s steps) actions 1))

-- the arrows of the four kinds
abbrev pub arrow_rows_fit : ℕ → List ℕ → List ℕ → List ℕ → List ℕ → Bool
arrow_rows_fit steps conditions responses includes excludes =
    (keeps steps steps conditions && keeps steps steps responses) && (keeps steps steps includes && keeps steps steps excludes)

-- 6 is given unless no pair is both include and exclude
abbrev pub kinds_apart : ℕ → List ℕ → List ℕ → Bool
kinds_apart steps includes excludes = every steps (λ a. empty (meet (row includes a) (row excludes a)))
