-- The laws of the bodies' readers and writers, and what their loops carry. Assumes nothing.
use Rattle.std.specs.Prelude.{ℕ, zero, suc, ◌+◌, ◌*◌, ◌/◌, ◌≤◌, ◌<◌, ◌≡◌, refl, List, [], Bool, true, ◌&&◌, length, get_or, drop, ltb}
use Rattle.std.proofs.Common.{sym, ap, ap₂, ◌∙◌, subst, mul-zero, mul-suc, mul-le-mul_left, add-one, arith, length-append, drop_of_length-le}
use Rattle.sets.specs.Sets.{within, gather, every}
use Rattle.sets.specs.Laws.{within_gather}
use Rattle.moves.specs.declared.Marking.{Marking}
use Rattle.tables.specs.Tables.{row}
use Rattle.numbers.specs.Numbers.{number, bytes, Spliced}
use Rattle.numbers.specs.Laws.{length_bytes, number_suc, spliced_then}
use Rattle.bodies.specs.Bodies.{counts_body, marking_body, rows_body, row_in, set_at, role_sets_fit}

-- past the end nothing stands
number_none : (w : ℕ) → number w [] ≡ 0
unfolding number
number_none zero = refl
number_none (suc w) = ap (λ (x : ℕ). 0 + 256 * x) (number_none w)

pub row_past : (w : ℕ) (body : List ℕ) (i : ℕ) → length body ≤ w * i → row_in w body i ≡ 0
row_past w body i h = ap (number w) (drop_of_length-le body h) ∙ number_none w

-- a row of one byte is that byte
pub row_byte : (body : List ℕ) (i : ℕ) → row_in 1 body i ≡ get_or body i 0
unfolding number
row_byte body i =
    let a : number 1 (drop (1 * i) body) ≡ get_or body (1 * i) 0 + 256 * 0 = number_suc 0 (1 * i) body in
    let e : get_or body (1 * i) 0 ≡ get_or body i 0 = ap (λ (k : ℕ). get_or body k 0) (let z : 1 * i ≡ i = omega arith in z) in
    omega arith

-- the role sets fit exactly if what they name together does
pub roles_together : (roles : ℕ) (body : List ℕ) → within roles (gather (length body / 2) (set_at body)) ≡ role_sets_fit roles body
unfolding role_sets_fit
roles_together roles body = within_gather roles (length body / 2) (set_at body)

pub length_counts : (steps people roles actions : ℕ) → length (counts_body steps people roles actions) ≡ 4
unfolding bytes
length_counts steps people roles actions = refl

pub length_marking : (m : Marking) → length (marking_body m) ≡ 24
unfolding bytes
length_marking m = refl

pub length_rows : (w count : ℕ) (table : List ℕ) → length (rows_body w count table) ≡ w * count
unfolding rows_body
length_rows w zero table = sym (mul-zero w)
length_rows w (suc i) table =
    let r : length (rows_body w i table) ≡ w * i = length_rows w i table in
    let b : length (bytes w (row table i)) ≡ w = length_bytes w (row table i) in
    let m : w * suc i ≡ w * i + w = mul-suc w i in
    length-append (rows_body w i table) (bytes w (row table i))
    ∙ let z : length (rows_body w i table) + length (bytes w (row table i)) ≡ w * suc i = omega arith in z

-- where there is room for all rows, there is room for one more
pub row_fits : (w i count : ℕ) → i < count → w * i + w ≤ w * count
row_fits w i count h = subst (λ (k : ℕ). k ≤ w * count) (mul-suc w i) (mul-le-mul_left w h)

-- no row yet
pub rows_none : (w : ℕ) (table room : List ℕ) (at : ℕ) → Spliced (rows_body w 0 table) at room room at
unfolding rows_body
rows_none w table room at = record { next = omega arith; stored = refl }

-- one row more
pub rows_more : (w i at : ℕ) (table old mid new : List ℕ) (r q : ℕ) → Spliced (rows_body w i table) at old mid r
    → Spliced (bytes w (row table i)) r mid new q
    → Spliced (rows_body w (i + 1) table) at old new q
unfolding rows_body
rows_more w i at table old mid new r q s t =
    subst (λ (k : ℕ). Spliced (rows_body w k table) at old new q) (sym (add-one i))
    (spliced_then (rows_body w i table) (bytes w (row table i)) at old mid new r q s t)

-- ---- the actions of the steps, test by test

pub actions_none : (actions : ℕ) (body : List ℕ) → every 0 (λ i. ltb (row_in 1 body i) actions) ≡ true
unfolding every
actions_none actions body = refl

-- one step more
pub actions_more : (actions i x : ℕ) (body : List ℕ) (fit : Bool) → fit ≡ every i (λ j. ltb (row_in 1 body j) actions) → x ≡ row_in 1 body i
    → (fit && ltb x actions) ≡ every (i + 1) (λ j. ltb (row_in 1 body j) actions)
unfolding every
actions_more actions i x body fit e f =
    ap₂ (λ (b : Bool) (y : ℕ). b && ltb y actions) e f
    ∙ ap (λ (k : ℕ). every k (λ j. ltb (row_in 1 body j) actions)) (sym (add-one i))
