-- The layout of a sheet: the number of bodies, a contents line for each, and the bodies without gaps to the end.
use Rattle.std.specs.Prelude.{ℕ, zero, suc, ◌+◌, ◌*◌, List, [], ◌∷◌, ◌++◌, map, Bool, ◌&&◌, length, get_or, take, drop, eqb}
use Rattle.numbers.specs.Numbers.{number, bytes}

-- ---- written

-- a contents line of 5 bytes: of what kind the body is, where it starts, how long it is
abbrev pub line_of : ℕ → ℕ → ℕ → List ℕ
line_of kind offset size = bytes 1 kind ++ (bytes 2 offset ++ bytes 2 size)

-- the lines of bodies of these sizes, one after the other
unfoldable pub contents : ℕ → ℕ → List ℕ → List ℕ
contents kind offset [] = []
contents kind offset (size ∷ rest) = line_of kind offset size ++ contents (kind + 1) (offset + size) rest

unfoldable pub joined : List (List ℕ) → List ℕ
joined [] = []
joined (body ∷ rest) = body ++ joined rest

-- where the bodies start
abbrev pub start : ℕ → ℕ
start count = 1 + 5 * count

-- byte 0 and the contents
abbrev pub front : List ℕ → List ℕ
front sizes = bytes 1 (length sizes) ++ contents 1 (start (length sizes)) sizes

-- the sheet of these bodies
abbrev pub laid : List (List ℕ) → List ℕ
laid bodies = front (map length bodies) ++ joined bodies

-- ---- read

-- line i of the contents, counted from 0
abbrev pub kind_at : List ℕ → ℕ → ℕ
kind_at s i = get_or s (1 + 5 * i) 0

abbrev pub offset_at : List ℕ → ℕ → ℕ
offset_at s i = number 2 (drop (2 + 5 * i) s)

abbrev pub size_at : List ℕ → ℕ → ℕ
size_at s i = number 2 (drop (4 + 5 * i) s)

-- body i: the part of the sheet from its offset to its end
abbrev pub body_at : List ℕ → ℕ → List ℕ
body_at s i = take (size_at s i) (drop (offset_at s i) s)

-- the k lines from line i on: kinds in order, bodies from `at` without gaps to the end of the sheet. Offset and length add up as whole
-- numbers
unfoldable pub follows : ℕ → ℕ → ℕ → List ℕ → Bool
follows zero i at s = eqb at (length s)
follows (suc k) i at s = eqb (kind_at s i) (i + 1) && eqb (offset_at s i) at && follows k (i + 1) (at + size_at s i) s

-- byte 0 and the contents are those of `count` bodies
abbrev pub contents_fit : ℕ → List ℕ → Bool
contents_fit count s = eqb (get_or s 0 0) count && follows count 0 (start count) s
