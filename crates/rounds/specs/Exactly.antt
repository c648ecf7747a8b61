-- A job with its first marking has exactly one sheet of six bodies: a list of bytes with these says them if and only if it is what is
-- written of them. Every part of a sheet is made of numbers as bytes, and of arrows whose kinds and steps are below 64. Assumes that a
-- block has 404 words.
use Rattle.std.specs.Prelude.{ℕ, zero, suc, ◌+◌, ◌/◌, ◌%◌, ◌≤◌, ◌≡◌, ◌↔◌, List, [], ◌∷◌, ◌++◌, map, Bool, true, false, length, get_or, Ok}
use Rattle.std.proofs.Common.{sym, ap, ◌∙◌, subst, arith}
use Rattle.moves.specs.declared.Marking.{Marking}
use Rattle.moves.specs.First.{first}
use Rattle.tables.specs.Tables.{row}
use Rattle.rules.specs.Graph.{Graph, graph_of}
use Rattle.numbers.specs.Numbers.{bytes, Bytes}
use Rattle.numbers.specs.Laws.{none_bytes, more_bytes, append_bytes}
use Rattle.arrows.specs.Arrows.{spelt, held, arrow_at, kept_if, listed, arrows_of}
use Rattle.layout.specs.Layout.{contents, joined, start, front}
use Rattle.bodies.specs.Bodies.{rows_body}
use Rattle.reading.specs.Reading.{is_six}
use Rattle.writing.specs.Writing.{arrow_table, bodies_of, sheet_bytes, content_lines}
use Rattle.rounds.specs.Says.{Says}
use Rattle.rounds.specs.Read.{read_written}
use Rattle.rounds.specs.Write.{sheet_six, one_sheet}

-- ---- what is written is bytes

number_is_bytes : (w x : ℕ) → Bytes (bytes w x)
unfolding bytes
number_is_bytes zero x = none_bytes
number_is_bytes (suc w) x = more_bytes (x % 256) (bytes w (x / 256)) (omega arith) (number_is_bytes w (x / 256))

-- three numbers, one after the other
three_bytes : (u v w x y z : ℕ) → Bytes (bytes u x ++ (bytes v y ++ bytes w z))
three_bytes u v w x y z =
    append_bytes (bytes u x) (bytes v y ++ bytes w z) (number_is_bytes u x)
    (append_bytes (bytes v y) (bytes w z) (number_is_bytes v y) (number_is_bytes w z))

contents_bytes : (kind offset : ℕ) (sizes : List ℕ) → Bytes (contents kind offset sizes)
unfolding contents
contents_bytes kind offset [] = none_bytes
contents_bytes kind offset (size ∷ rest) =
    append_bytes (bytes 1 kind ++ (bytes 2 offset ++ bytes 2 size)) (contents (kind + 1) (offset + size) rest)
    (three_bytes 1 2 2 kind offset size) (contents_bytes (kind + 1) (offset + size) rest)

rows_bytes : (w n : ℕ) (table : List ℕ) → Bytes (rows_body w n table)
unfolding rows_body
rows_bytes w zero table = none_bytes
rows_bytes w (suc k) table =
    append_bytes (rows_body w k table) (bytes w (row table k)) (rows_bytes w k table) (number_is_bytes w (row table k))

-- the places below 16,384 are those of arrows that fit three bytes
places_bytes : (k s : ℕ) (f : ℕ → Bool) → s + k ≤ 16384 → Bytes (spelt (map arrow_at (listed k s f)))
unfolding listed spelt
places_bytes zero s f h = none_bytes
places_bytes (suc k) s f h = go (f s) (places_bytes k (suc s) f (omega arith))
  where
    go : (b : Bool) → Bytes (spelt (map arrow_at (listed k (suc s) f))) → Bytes (spelt (map arrow_at (kept_if b s (listed k (suc s) f))))
    go true rest =
        more_bytes (s / 4096) (s / 64 % 64 ∷ s % 64 ∷ spelt (map arrow_at (listed k (suc s) f))) (omega arith)
        (more_bytes (s / 64 % 64) (s % 64 ∷ spelt (map arrow_at (listed k (suc s) f))) (omega arith)
        (more_bytes (s % 64) (spelt (map arrow_at (listed k (suc s) f))) (omega arith) rest))
    go false rest = rest

arrows_bytes : (rows : ℕ → ℕ) → Bytes (spelt (arrows_of rows))
unfolding arrows_of
arrows_bytes rows = places_bytes 16384 0 (λ p. held rows (arrow_at p)) (omega arith)

joined_bytes : (bodies : List (List ℕ)) → ((i : ℕ) → Bytes (get_or bodies i [])) → Bytes (joined bodies)
unfolding joined
joined_bytes [] all = none_bytes
joined_bytes (body ∷ rest) all = append_bytes body (joined rest) (all 0) (joined_bytes rest (λ i. all (suc i)))

body_bytes : (g : Graph) (m : Marking) (i : ℕ) → Bytes (get_or (bodies_of g m) i [])
body_bytes g m zero =
    append_bytes (bytes 1 g.steps) (bytes 1 g.people ++ (bytes 1 g.roles ++ bytes 1 g.actions)) (number_is_bytes 1 g.steps)
    (three_bytes 1 1 1 g.people g.roles g.actions)
body_bytes g m (suc zero) = three_bytes 8 8 8 m.done m.due m.included
body_bytes g m (suc (suc zero)) = rows_bytes 2 g.actions g.allows
body_bytes g m (suc (suc (suc zero))) = rows_bytes 2 g.people g.holds
body_bytes g m (suc (suc (suc (suc zero)))) = arrows_bytes (row (arrow_table g))
body_bytes g m (suc (suc (suc (suc (suc zero))))) = rows_bytes 1 g.steps g.labels
body_bytes g m (suc (suc (suc (suc (suc (suc i)))))) = none_bytes

pub sheet_is_bytes : (g : Graph) (m : Marking) → Bytes (sheet_bytes g m)
unfolding sheet_bytes
sheet_is_bytes g m =
    let sizes : List ℕ = map length (bodies_of g m) in
    append_bytes (front sizes) (joined (bodies_of g m))
    (append_bytes (bytes 1 (length sizes)) (contents 1 (start (length sizes)) sizes) (number_is_bytes 1 (length sizes))
    (contents_bytes 1 (start (length sizes)) sizes))
    (joined_bytes (bodies_of g m) (body_bytes g m))

-- ---- exactly one sheet

pub exactly_one : (block : List ℕ) (m : Marking) → length block ≡ 404 → first (content_lines (graph_of block) m) ≡ Ok tt
    → (s : List ℕ)
    → (Bytes s × (is_six s ≡ true) × Says s block m) ↔ (s ≡ sheet_bytes (graph_of block) m)
exactly_one block m whole e s = (
  λ p. one_sheet s block m p.0 p.1 p.2,
  λ q. (
    subst Bytes (sym q) (sheet_is_bytes (graph_of block) m),
    ap is_six q ∙ sheet_six (graph_of block) m,
    subst (λ (t : List ℕ). Says t block m) (sym q) (read_written block m whole e),
  ),
)
