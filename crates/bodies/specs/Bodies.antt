-- The bodies of a sheet, written and read.
use Rattle.std.specs.Prelude.{ℕ, zero, suc, ◌*◌, ◌/◌, List, [], ◌++◌, Bool, cond, length, get_or, drop, ltb}
use Rattle.sets.specs.Sets.{within, every}
use Rattle.moves.specs.declared.Marking.{Marking}
use Rattle.tables.specs.Tables.{row}
use Rattle.numbers.specs.Numbers.{number, bytes}
use Rattle.tables.specs.declared.Counts.{Counts}
use Rattle.bodies.specs.Tables.{tabled}

-- ---- 1. Counts: steps, people, roles, actions. 4 bytes

abbrev pub counts_body : ℕ → ℕ → ℕ → ℕ → List ℕ
counts_body steps people roles actions = bytes 1 steps ++ (bytes 1 people ++ (bytes 1 roles ++ bytes 1 actions))

-- byte `at` counts the actions: byte 3; or byte 0, where there are as many actions as steps and none is counted
abbrev pub counts_in : ℕ → List ℕ → Counts
counts_in at body = record { steps = get_or body 0 0; people = get_or body 1 0; roles = get_or body 2 0; actions = get_or body at 0 }

-- ---- 2. First marking: the sets done, due and included, in 8 bytes. 24 bytes

abbrev pub marking_body : Marking → List ℕ
marking_body m = bytes 8 m.done ++ (bytes 8 m.due ++ bytes 8 m.included)

abbrev pub marking_in : List ℕ → Marking
marking_in body = record { done = number 8 body; due = number 8 (drop 8 body); included = number 8 (drop 16 body) }

-- ---- rows of `width` bytes each

unfoldable pub rows_body : ℕ → ℕ → List ℕ → List ℕ
rows_body width zero table = []
rows_body width (suc i) table = rows_body width i table ++ bytes width (row table i)

-- row i of a body; nothing stands past its end
abbrev pub row_in : ℕ → List ℕ → ℕ → ℕ
row_in width body i = number width (drop (width * i) body)

-- ---- 3, 4. One 2-byte role set per action, and per person

abbrev pub roles_body : ℕ → List ℕ → List ℕ
roles_body = rows_body 2

-- role set i of a body
abbrev pub set_at : List ℕ → ℕ → ℕ
set_at = row_in 2

-- a table of `rows` role sets, those of the body and then empty ones
abbrev pub sets_in : ℕ → List ℕ → List ℕ
sets_in rows body = tabled rows (set_at body)

-- each role set of the body names only roles that there are
unfoldable pub role_sets_fit : ℕ → List ℕ → Bool
role_sets_fit roles body = every (length body / 2) (λ i. within roles (set_at body i))

-- ---- 5. Arrows: see the crate `arrows`

-- ---- 6. One byte per step: its action

abbrev pub labels_body : ℕ → List ℕ → List ℕ
labels_body = rows_body 1

-- the action of step i: the first `own` steps are their own actions, and the others have what the body says, or 0 past its end
abbrev pub label_at : ℕ → List ℕ → ℕ → ℕ
label_at own body i = cond (ltb i own) i (row_in 1 body i)

-- a table of `rows` actions
abbrev pub labels_in : ℕ → ℕ → List ℕ → List ℕ
labels_in rows own body = tabled rows (label_at own body)

-- each action of the body is one that there is
unfoldable pub actions_fit : ℕ → List ℕ → Bool
actions_fit actions body = every (length body) (λ i. ltb (row_in 1 body i) actions)
