-- The smallest sheet is the sheet of its graph, both ways; and the smallest sheet of five bodies, that of document 01, is read as the same
-- graph. Each side computes. Assumes nothing.
use Rattle.std.specs.Prelude.{ℕ, ◌≡◌, refl, List, [], ◌∷◌, ◌++◌, length, replicate, Ok}
use Rattle.sets.specs.Sets.{has, every}
use Rattle.moves.specs.declared.Marking.{Marking}
use Rattle.moves.specs.First.{first}
use Rattle.tables.specs.Tables.{keeps, labels_fit}
use Rattle.rules.specs.Graph.{graph_of, sets_fit}
use Rattle.numbers.specs.Numbers.{number, bytes}
use Rattle.layout.specs.Layout.{contents, joined, follows}
use Rattle.arrows.specs.Arrows.{arrows_in, spelt, all_link, ascending, put, put_all, held, listed, arrows_of}
use Rattle.bodies.specs.Tables.{tabled}
use Rattle.bodies.specs.Bodies.{rows_body, role_sets_fit, actions_fit}
use Rattle.reading.specs.Reading.{form_of, labels_part, own_steps, layout_fits, read_verdict, block_read}
use Rattle.writing.specs.Writing.{sheet_bytes, content_lines}
use Rattle.rounds.specs.Says.{Says}

-- 06 01 1F 00 04 00 02 23 00 18 00 03 3B 00 02 00 04 3D 00 02 00 05 3F 00 00 00 06 3F 00 01 00,
-- then 01 01 01 01, sixteen bytes 00, 01 and seven 00, 01 00, 01 00, 00
unfoldable pub smallest : List ℕ
smallest =
    (6 ∷ 1 ∷ 31 ∷ 0 ∷ 4 ∷ 0 ∷ 2 ∷ 35 ∷ 0 ∷ 24 ∷ 0 ∷ 3 ∷ 59 ∷ 0 ∷ 2 ∷ 0 ∷ 4 ∷ 61 ∷ 0 ∷ 2 ∷ 0 ∷ 5 ∷ 63 ∷ 0 ∷ 0 ∷ 0 ∷ 6 ∷ 63 ∷ 0 ∷ 1 ∷ 0 ∷ [])
    ++ ((1 ∷ 1 ∷ 1 ∷ 1 ∷ []) ++ (replicate 16 0 ++ ((1 ∷ replicate 7 0) ++ ((1 ∷ 0 ∷ []) ++ ((1 ∷ 0 ∷ []) ++ (0 ∷ []))))))

-- 05 01 1A 00 03 00 02 1D 00 18 00 03 35 00 02 00 04 37 00 02 00 05 39 00 00 00,
-- then 01 01 01, sixteen bytes 00, 01 and seven 00, 01 00, 01 00
unfoldable pub smallest_five : List ℕ
smallest_five =
    (5 ∷ 1 ∷ 26 ∷ 0 ∷ 3 ∷ 0 ∷ 2 ∷ 29 ∷ 0 ∷ 24 ∷ 0 ∷ 3 ∷ 53 ∷ 0 ∷ 2 ∷ 0 ∷ 4 ∷ 55 ∷ 0 ∷ 2 ∷ 0 ∷ 5 ∷ 57 ∷ 0 ∷ 0 ∷ 0 ∷ [])
    ++ ((1 ∷ 1 ∷ 1 ∷ []) ++ (replicate 16 0 ++ ((1 ∷ replicate 7 0) ++ ((1 ∷ 0 ∷ []) ++ (1 ∷ 0 ∷ [])))))

-- one step, one person, one role, one action; no arrow; the action has the role, the person holds it, and the step has the action
unfoldable pub smallest_block : List ℕ
smallest_block = 1 ∷ 1 ∷ 1 ∷ 1 ∷ (replicate 256 0 ++ ((1 ∷ replicate 63 0) ++ ((1 ∷ replicate 15 0) ++ replicate 64 0)))

-- the step is included
unfoldable pub smallest_marking : Marking
smallest_marking = record { done = 0; due = 0; included = 1 }

pub smallest_long : length smallest ≡ 64
unfolding smallest
smallest_long = refl

pub smallest_clear : first (content_lines (graph_of smallest_block) smallest_marking) ≡ Ok tt
unfolding smallest_block smallest_marking first sets_fit keeps labels_fit every
smallest_clear = refl

pub smallest_written : sheet_bytes (graph_of smallest_block) smallest_marking ≡ smallest
unfolding smallest smallest_block smallest_marking sheet_bytes bytes contents joined rows_body spelt arrows_of listed held has
smallest_written = refl

pub smallest_read : Says smallest smallest_block smallest_marking
unfolding smallest smallest_block smallest_marking read_verdict block_read form_of labels_part own_steps first layout_fits follows number
    role_sets_fit actions_fit every arrows_in all_link ascending put_all put tabled
smallest_read = record { clear = refl; job = refl; marking = refl }

-- ---- the sheet of five bodies

pub five_long : length smallest_five ≡ 57
unfolding smallest_five
five_long = refl

-- it is read as the same
pub five_read : Says smallest_five smallest_block smallest_marking
unfolding smallest_five smallest_block smallest_marking read_verdict block_read form_of labels_part own_steps first layout_fits follows number
    role_sets_fit actions_fit every arrows_in all_link ascending put_all put tabled
five_read = record { clear = refl; job = refl; marking = refl }
