-- The arrows of a sheet: three bytes each, kind, from, to, strictly ascending as triples; and the table that they fill.
use Rattle.std.specs.Prelude.{ℕ, ◌+◌, ◌*◌, ◌/◌, ◌%◌, List, [], ◌∷◌, map, Bool, true, ◌&&◌, ◌||◌, cond, set, replicate, eqb, ltb, leb}
use Rattle.sets.specs.Sets.{has, single, union}
pub use Rattle.sets.specs.Sets.{kept_if}
unfoldable pub use Rattle.sets.specs.Sets.{listed}
use Rattle.tables.specs.Tables.{row}

pub record Arrow : Type 0 where
  pub kind : ℕ
  pub from : ℕ
  pub to : ℕ

-- ---- bytes

-- the arrows that the bytes spell; one or two bytes at the end spell none
unfoldable pub arrows_in : List ℕ → List Arrow
arrows_in [] = []
arrows_in (k ∷ []) = []
arrows_in (k ∷ a ∷ []) = []
arrows_in (k ∷ a ∷ b ∷ rest) = record { kind = k; from = a; to = b } ∷ arrows_in rest

-- the bytes that spell the arrows
unfoldable pub spelt : List Arrow → List ℕ
spelt [] = []
spelt (x ∷ rest) = x.kind ∷ x.from ∷ x.to ∷ spelt rest

-- ---- when 5 is not given

-- the kind is at most 3, and both steps are among the n that there are
abbrev pub links : ℕ → Arrow → Bool
links n x = leb x.kind 3 && ltb x.from n && ltb x.to n

-- x comes before y, as triples
abbrev pub before : Arrow → Arrow → Bool
before x y =
    ltb x.kind y.kind
    || (eqb x.kind y.kind && (ltb x.from y.from || (eqb x.from y.from && ltb x.to y.to)))

unfoldable pub all_link : ℕ → List Arrow → Bool
all_link n [] = true
all_link n (x ∷ rest) = links n x && all_link n rest

-- each comes before the next
unfoldable pub ascending : List Arrow → Bool
ascending [] = true
ascending (x ∷ []) = true
ascending (x ∷ y ∷ rest) = before x y && ascending (y ∷ rest)

abbrev pub link_in_order : ℕ → List Arrow → Bool
link_in_order n arrows = all_link n arrows && ascending arrows

-- ---- the table: a row for each kind and step. A condition stands with the step that waits, any other arrow with the one it comes from

abbrev pub row_at : Arrow → ℕ
row_at x = cond (eqb x.kind 0) x.to (x.kind * 64 + x.from)

abbrev pub column_at : Arrow → ℕ
column_at x = cond (eqb x.kind 0) x.from x.to

-- the table with one arrow more
unfoldable pub put : List ℕ → Arrow → List ℕ
put table x = set table (row_at x) (union (row table (row_at x)) (single (column_at x)))

unfoldable pub put_all : List ℕ → List Arrow → List ℕ
put_all table [] = table
put_all table (x ∷ rest) = put_all (put table x) rest

-- the table that the arrows fill
abbrev pub table_of : List Arrow → List ℕ
table_of arrows = put_all (replicate 256 0) arrows

-- the arrow x is in the table, whose rows are given one by one
unfoldable pub held : (ℕ → ℕ) → Arrow → Bool
held rows x = has (rows (row_at x)) (column_at x)

-- ---- the arrows of a table in order. An arrow's place is its number among all that could be: triples are ordered as places are

abbrev pub place : Arrow → ℕ
place x = x.kind * 4096 + x.from * 64 + x.to

abbrev pub arrow_at : ℕ → Arrow
arrow_at p = record { kind = p / 4096; from = p / 64 % 64; to = p % 64 }

-- all arrows of the table, ascending
unfoldable pub arrows_of : (ℕ → ℕ) → List Arrow
arrows_of rows = map arrow_at (listed 16384 0 (λ p. held rows (arrow_at p)))

-- and the bytes that spell them: body 5 of a sheet
abbrev pub arrows_body : List ℕ → List ℕ
arrows_body table = spelt (arrows_of (row table))
