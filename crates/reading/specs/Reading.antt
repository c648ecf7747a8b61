-- What a sheet says, and when each number is given for reading it.
use Rattle.std.specs.Prelude.{ℕ, ◌*◌, ◌%◌, List, [], ◌∷◌, ◌++◌, Bool, true, not, ◌&&◌, cond, length, get_or, eqb, leb}
use Rattle.moves.specs.declared.Marking.{Marking}
use Rattle.moves.specs.First.{Verdict}
use Rattle.moves.specs.declared.Refusal.TheVariants.{Layout, Counts, Bodies, Beyond, Arrows, Both}
use Rattle.moves.specs.First.{Line, first}
use Rattle.moves.specs.Move.{marking_fits}
use Rattle.tables.specs.Tables.{counts_fit, kinds_apart}
use Rattle.rules.specs.Graph.{Graph, graph_of}
use Rattle.arrows.specs.Arrows.{Arrow, arrows_in, link_in_order, table_of}
use Rattle.layout.specs.Layout.{contents_fit, size_at, body_at}
use Rattle.tables.specs.declared.Counts.{Counts as CountsOf}
use Rattle.bodies.specs.Bodies.{counts_in, marking_in, sets_in, labels_in, role_sets_fit, actions_fit}
use Rattle.reading.specs.declared.Form.{Form}

-- ---- the two forms of a sheet

-- six bodies; body 1 has 4 bytes, and the last of them counts the actions
abbrev pub six_bodies : Form
six_bodies = record { bodies = 6; counts = 4; actions = 3; least = 35; most = 37147 }

-- five bodies; every step is its own action, so that the byte that counts the steps counts the actions too
abbrev pub five_bodies : Form
five_bodies = record { bodies = 5; counts = 3; actions = 0; least = 29; most = 37077 }

-- byte 0 is 6
abbrev pub is_six : List ℕ → Bool
is_six s = eqb (get_or s 0 0) 6

-- any other first byte is taken for that of five bodies, and refused if it is not 5
unfoldable pub form_of : List ℕ → Form
form_of s = cond (is_six s) six_bodies five_bodies

-- ---- what a sheet says

abbrev pub counts_of : List ℕ → CountsOf
counts_of s = counts_in (form_of s).actions (body_at s 0)

abbrev pub first_of : List ℕ → Marking
first_of s = marking_in (body_at s 1)

abbrev pub arrows_on : List ℕ → List Arrow
arrows_on s = arrows_in (body_at s 4)

-- body 6; of five bodies there is none
unfoldable pub labels_part : List ℕ → List ℕ
labels_part s = cond (is_six s) (body_at s 5) []

-- how many steps are their own actions: of five bodies all
unfoldable pub own_steps : List ℕ → ℕ
own_steps s = cond (is_six s) 0 (counts_of s).steps

-- the block that it is read into: the counts, the table that its arrows fill, the role sets of the actions and of the people, and the
-- actions of the steps
unfoldable pub block_read : List ℕ → List ℕ
block_read s =
    (counts_of s).steps
    ∷ (counts_of s).people
    ∷ (counts_of s).roles
    ∷ (counts_of s).actions
    ∷ (table_of (arrows_on s) ++ (sets_in 64 (body_at s 2) ++ (sets_in 16 (body_at s 3) ++ labels_in 64 (own_steps s) (labels_part s))))

abbrev pub graph_in : List ℕ → Graph
graph_in s = graph_of (block_read s)

-- ---- the table for reading

-- 1: by its form, a length out of bounds, byte 0 or contents not as they should be, body 1 not of its bytes, body 2 not 24 or body 5 no
-- multiple of 3 bytes long
unfoldable pub layout_fits : List ℕ → Bool
layout_fits s =
    leb (form_of s).least (length s)
    && leb (length s) (form_of s).most
    && contents_fit (form_of s).bodies s
    && eqb (size_at s 0) (form_of s).counts
    && eqb (size_at s 1) 24
    && eqb (size_at s 4 % 3) 0

-- 2: steps or actions not 1 to 64, people or roles not 1 to 16
abbrev pub counts_right : List ℕ → Bool
counts_right s = counts_fit (counts_of s).steps (counts_of s).people (counts_of s).roles (counts_of s).actions

-- 3: body 3, 4 or 6 is not of the length that the counts ask for
abbrev pub labels_match : List ℕ → Bool
labels_match s = cond (is_six s) (eqb (size_at s 5) (counts_of s).steps) true

abbrev pub bodies_match : List ℕ → Bool
bodies_match s = eqb (size_at s 2) (2 * (counts_of s).actions) && eqb (size_at s 3) (2 * (counts_of s).people) && labels_match s

-- 4: the first marking, a role set or a step's action is beyond the counts
abbrev pub sets_inside : List ℕ → Bool
sets_inside s =
    marking_fits (counts_of s).steps (first_of s)
    && role_sets_fit (counts_of s).roles (body_at s 2)
    && role_sets_fit (counts_of s).roles (body_at s 3)
    && actions_fit (counts_of s).actions (labels_part s)

-- 5: an arrow of a kind above 3 or of a step that there is not, or arrows that do not ascend
abbrev pub arrows_right : List ℕ → Bool
arrows_right s = link_in_order (counts_of s).steps (arrows_on s)

-- 6: an include and an exclude of one pair
abbrev pub kinds_right : List ℕ → Bool
kinds_right s = kinds_apart (graph_in s).steps (graph_in s).includes (graph_in s).excludes

abbrev pub read_lines : List ℕ → List Line
read_lines s =
    (Layout, not (layout_fits s))
    ∷ (Counts, not (counts_right s))
    ∷ (Bodies, not (bodies_match s))
    ∷ (Beyond, not (sets_inside s))
    ∷ (Arrows, not (arrows_right s))
    ∷ (Both, not (kinds_right s))
    ∷ []

unfoldable pub read_verdict : List ℕ → Verdict
read_verdict s = first (read_lines s)
