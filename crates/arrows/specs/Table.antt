-- The table: what it holds after arrows were put into it, and that its arrows decide it. Assumes nothing.
use Rattle.std.specs.Prelude.{ℕ, ◌+◌, ◌*◌, ◌/◌, ◌%◌, ◌^◌, ◌≤◌, ◌<◌, ◌≡◌, refl, List, [], ◌∷◌, map, Bool, true, false, ◌||◌, cond, length, set, replicate, eqb, ltb}
use Rattle.std.proofs.Common.{sym, ap₂, ◌∙◌, subst, arith, length-set, get_or-set_same, get_or-set_other, lit<, pow_pos, lt-ltb, le-ltb, eq-eqb, ne_eqb}
use Rattle.std.proofs.Math.Path.{ap}
use Rattle.std.proofs.Math.Decide.{dec_lt, ℕ_discrete}
use Rattle.std.proofs.lemmas.List.{length-replicate, get_or-replicate}
use Rattle.std.proofs.Math.ListN.{get_or-eq_default}
use Rattle.sets.specs.Sets.{has, single, union}
use Rattle.sets.specs.Truth.{and_left, and_right, or_false}
use Rattle.sets.specs.Laws.{has_union, has_single, has_zero, has_above, ext, union_lt, single_lt}
use Rattle.tables.specs.Tables.{row}
use Rattle.arrows.specs.Arrows.{Arrow, row_at, column_at, put, put_all, held, place, arrow_at, links, all_link}
use Rattle.arrows.specs.Lists.{member}
use Rattle.arrows.specs.Places.{Ranged, links_ranged, arrow_at_place}

-- ---- where an arrow stands

pub row_condition : (x : Arrow) → x.kind ≡ 0 → row_at x ≡ x.to
row_condition x e = ap (λ (b : Bool). cond b x.to (x.kind * 64 + x.from)) (eq-eqb x.kind 0 e)

pub row_other : (x : Arrow) → (x.kind ≡ 0 → ⊥) → row_at x ≡ x.kind * 64 + x.from
row_other x e = ap (λ (b : Bool). cond b x.to (x.kind * 64 + x.from)) (ne_eqb x.kind 0 e)

pub column_condition : (x : Arrow) → x.kind ≡ 0 → column_at x ≡ x.from
column_condition x e = ap (λ (b : Bool). cond b x.from x.to) (eq-eqb x.kind 0 e)

pub column_other : (x : Arrow) → (x.kind ≡ 0 → ⊥) → column_at x ≡ x.to
column_other x e = ap (λ (b : Bool). cond b x.from x.to) (ne_eqb x.kind 0 e)

pub row_lt : (x : Arrow) → Ranged x → row_at x < 256
row_lt x r = go (ℕ_discrete x.kind 0)
  where
    go : Dec (x.kind ≡ 0) → row_at x < 256
    go (yes e) = rw (row_condition x e) (omega arith)
    go (no e) = rw (row_other x e) (omega arith)

pub column_lt : (x : Arrow) → Ranged x → column_at x < 64
column_lt x r = go (ℕ_discrete x.kind 0)
  where
    go : Dec (x.kind ≡ 0) → column_at x < 64
    go (yes e) = rw (column_condition x e) (omega arith)
    go (no e) = rw (column_other x e) (omega arith)

-- two arrows that stand at one spot are one
same_spot : (x y : Arrow) → Ranged x → Ranged y → row_at x ≡ row_at y → column_at x ≡ column_at y → place x ≡ place y
same_spot x y r q e f = go (ℕ_discrete x.kind 0) (ℕ_discrete y.kind 0)
  where
    go : Dec (x.kind ≡ 0) → Dec (y.kind ≡ 0) → place x ≡ place y
    go (yes h) (yes i) =
        let a : x.to ≡ y.to = sym (row_condition x h) ∙ e ∙ row_condition y i in
        let b : x.from ≡ y.from = sym (column_condition x h) ∙ f ∙ column_condition y i in
        omega arith
    go (yes h) (no i) =
        let a : x.to ≡ y.kind * 64 + y.from = sym (row_condition x h) ∙ e ∙ row_other y i in
        absurd (i (omega arith))
    go (no h) (yes i) =
        let a : x.kind * 64 + x.from ≡ y.to = sym (row_other x h) ∙ e ∙ row_condition y i in
        absurd (h (omega arith))
    go (no h) (no i) =
        let a : x.kind * 64 + x.from ≡ y.kind * 64 + y.from = sym (row_other x h) ∙ e ∙ row_other y i in
        let b : x.to ≡ y.to = sym (column_other x h) ∙ f ∙ column_other y i in
        let k : x.kind ≡ y.kind = omega arith in
        omega arith

same_arrow : (x y : Arrow) → Ranged x → Ranged y → place x ≡ place y → x ≡ y
same_arrow x y r q e = sym (arrow_at_place x r) ∙ ap arrow_at e ∙ arrow_at_place y q

-- ---- one arrow more

or_swap : (a b : Bool) → (a || b) ≡ (b || a)
or_swap true true = refl
or_swap true false = refl
or_swap false true = refl
or_swap false false = refl

pub held_put : (t : List ℕ) (x y : Arrow) → row_at x < length t → Ranged x → Ranged y
    → held (row (put t x)) y ≡ (eqb (place x) (place y) || held (row t) y)
unfolding held put
held_put t x y inside r q = go (ℕ_discrete (row_at y) (row_at x))
  where
    v : ℕ
    v = union (row t (row_at x)) (single (column_at x))

    column : row_at y ≡ row_at x → Dec (column_at x ≡ column_at y) → eqb (column_at x) (column_at y) ≡ eqb (place x) (place y)
    column e (yes f) = eq-eqb (column_at x) (column_at y) f ∙ sym (eq-eqb (place x) (place y) (same_spot x y r q (sym e) f))
    column e (no f) =
        ne_eqb (column_at x) (column_at y) f
        ∙ sym (ne_eqb (place x) (place y) (λ p. f (ap column_at (same_arrow x y r q p))))

    go : Dec (row_at y ≡ row_at x)
        → has (row (set t (row_at x) v) (row_at y)) (column_at y) ≡ (eqb (place x) (place y) || has (row t (row_at y)) (column_at y))
    go (yes e) =
        ap (λ (i : ℕ). has (row (set t (row_at x) v) i) (column_at y)) e
        ∙ ap (λ (w : ℕ). has w (column_at y)) (get_or-set_same t (row_at x) v 0 inside)
        ∙ has_union (row t (row_at x)) (single (column_at x)) (column_at y)
        ∙ ap₂ (λ (a b : Bool). a || b) (ap (λ (i : ℕ). has (row t i) (column_at y)) (sym e))
        (has_single (column_at x) (column_at y) ∙ column e (ℕ_discrete (column_at x) (column_at y)))
        ∙ or_swap (has (row t (row_at y)) (column_at y)) (eqb (place x) (place y))
    go (no e) =
        ap (λ (w : ℕ). has w (column_at y)) (get_or-set_other t (row_at x) (row_at y) v 0 e)
        ∙ ap (λ (b : Bool). b || has (row t (row_at y)) (column_at y))
        (sym (ne_eqb (place x) (place y) (λ p. e (sym (ap row_at (same_arrow x y r q p))))))

pub length_put : (t : List ℕ) (x : Arrow) → length (put t x) ≡ length t
unfolding put
length_put t x = simp length-set

-- each row of the table is a set of the 64 steps
abbrev pub Rows64 : List ℕ → Type 0
Rows64 t = (i : ℕ) → row t i < 2 ^ 64

pub rows_put : (t : List ℕ) (x : Arrow) → row_at x < length t → Ranged x → Rows64 t → Rows64 (put t x)
unfolding put
rows_put t x inside r rows i = go (ℕ_discrete i (row_at x))
  where
    v : ℕ
    v = union (row t (row_at x)) (single (column_at x))

    go : Dec (i ≡ row_at x) → row (set t (row_at x) v) i < 2 ^ 64
    go (yes e) =
        subst (λ (w : ℕ). w < 2 ^ 64) (sym (ap (row (set t (row_at x) v)) e ∙ get_or-set_same t (row_at x) v 0 inside))
        (union_lt 64 (row t (row_at x)) (single (column_at x)) (rows (row_at x)) (single_lt 64 (column_at x) (column_lt x r)))
    go (no e) = subst (λ (w : ℕ). w < 2 ^ 64) (sym (get_or-set_other t (row_at x) i v 0 e)) (rows i)

-- ---- all arrows

pub length_put_all : (t : List ℕ) (l : List Arrow) → length (put_all t l) ≡ length t
unfolding put_all
length_put_all t [] = refl
length_put_all t (x ∷ rest) = length_put_all (put t x) rest ∙ length_put t x

-- each arrow is of one of the four kinds between two of 64 steps, and stands in one of the m rows
abbrev pub AllIn : ℕ → List Arrow → Type 0
AllIn m [] = Unit {0}
AllIn m (x ∷ rest) = Ranged x × (row_at x < m) × AllIn m rest

pub links_in : (n : ℕ) (l : List Arrow) → n ≤ 64 → all_link n l ≡ true → AllIn 256 l
unfolding all_link
links_in n [] h k = tt
links_in n (x ∷ rest) h k =
    let r : Ranged x = links_ranged n x h (and_left (links n x) (all_link n rest) k) in
    (r, row_lt x r, links_in n rest h (and_right (links n x) (all_link n rest) k))

pub rows_put_all : (t : List ℕ) (l : List Arrow) → AllIn (length t) l → Rows64 t → Rows64 (put_all t l)
unfolding put_all
rows_put_all t [] k rows = rows
rows_put_all t (x ∷ rest) k rows =
    rows_put_all (put t x) rest (subst (λ (m : ℕ). AllIn m rest) (sym (length_put t x)) k.2) (rows_put t x k.1 k.0 rows)

or_regroup : (a b c : Bool) → (b || (a || c)) ≡ ((a || b) || c)
or_regroup true true c = refl
or_regroup true false c = refl
or_regroup false b c = refl

pub held_put_all : (t : List ℕ) (l : List Arrow) (y : Arrow) → AllIn (length t) l → Ranged y
    → held (row (put_all t l)) y ≡ (member (map place l) (place y) || held (row t) y)
unfolding put_all member
held_put_all t [] y k q = refl
held_put_all t (x ∷ rest) y k q =
    held_put_all (put t x) rest y (subst (λ (m : ℕ). AllIn m rest) (sym (length_put t x)) k.2) q
    ∙ ap (λ (b : Bool). member (map place rest) (place y) || b) (held_put t x y k.1 k.0 q)
    ∙ or_regroup (eqb (place x) (place y)) (member (map place rest) (place y)) (held (row t) y)

row_empty : (m i : ℕ) → row (replicate m 0) i ≡ 0
row_empty m i = go (dec_lt i m)
  where
    go : Dec (i < m) → row (replicate m 0) i ≡ 0
    go (yes h) = get_or-replicate m i 0 0 h
    go (no h) = get_or-eq_default (replicate m 0) 0 {n = i} (subst (λ (k : ℕ). k ≤ i) (sym (length-replicate {A = ℕ} m 0)) (omega arith))

-- ---- a table that arrows filled

module _ (m : ℕ) (l : List Arrow) (k : AllIn m l) where
  inside : AllIn (length {A = ℕ} (replicate m 0)) l
  inside = subst (λ (j : ℕ). AllIn j l) (sym (length-replicate {A = ℕ} m 0)) k

  pub rows_filled : Rows64 (put_all (replicate m 0) l)
  rows_filled = rows_put_all (replicate m 0) l inside (λ i. subst (λ (w : ℕ). w < 2 ^ 64) (sym (row_empty m i)) (pow_pos 64))

  -- it holds just those
  pub held_filled : (y : Arrow) → Ranged y → held (row (put_all (replicate m 0) l)) y ≡ member (map place l) (place y)
  unfolding held
  held_filled y q =
      held_put_all (replicate m 0) l y inside q
      ∙ ap (λ (b : Bool). member (map place l) (place y) || b)
      (ap (λ (w : ℕ). has w (column_at y)) (row_empty m (row_at y)) ∙ has_zero (column_at y))
      ∙ or_false (member (map place l) (place y))

pub length_filled : (m : ℕ) (l : List Arrow) → length (put_all (replicate m 0) l) ≡ m
length_filled m l = length_put_all (replicate m 0) l ∙ length-replicate {A = ℕ} m 0

-- ---- the arrows decide the table

-- the arrow that stands in row i and column s
abbrev pub arrow_on : ℕ → ℕ → Arrow
arrow_on i s = cond (ltb i 64) (record { kind = 0; from = s; to = i }) (record { kind = i / 64; from = i % 64; to = s })

pub on_ranged : (i s : ℕ) → i < 256 → s < 64 → Ranged (arrow_on i s)
on_ranged i s h l = go (dec_lt i 64)
  where
    go : Dec (i < 64) → Ranged (arrow_on i s)
    go (yes e) =
        subst (λ (b : Bool). Ranged (cond b (record { kind = 0; from = s; to = i }) (record { kind = i / 64; from = i % 64; to = s })))
        (sym (lt-ltb i 64 e))
        (record { kind_in = lit< tt; from_in = l; to_in = e })
    go (no e) =
        subst (λ (b : Bool). Ranged (cond b (record { kind = 0; from = s; to = i }) (record { kind = i / 64; from = i % 64; to = s })))
        (sym (le-ltb i 64 (omega arith)))
        (record { kind_in = omega arith; from_in = omega arith; to_in = l })

pub on_held : (rows : ℕ → ℕ) (i s : ℕ) → held rows (arrow_on i s) ≡ has (rows i) s
unfolding held
on_held rows i s = go (dec_lt i 64)
  where
    go : Dec (i < 64) → held rows (arrow_on i s) ≡ has (rows i) s
    go (yes e) = ap (λ (b : Bool).
        held rows (cond b (record { kind = 0; from = s; to = i }) (record { kind = i / 64; from = i % 64; to = s }))) (lt-ltb i 64 e)
    go (no e) =
        let x : Arrow = record { kind = i / 64; from = i % 64; to = s } in
        let some : i / 64 ≡ 0 → ⊥ = λ z. let w : ⊥ = omega arith in w in
        ap (λ (b : Bool). held rows (cond b (record { kind = 0; from = s; to = i }) x)) (le-ltb i 64 (omega arith))
        ∙ ap₂ (λ (r c : ℕ). has (rows r) c) (row_other x some ∙ let z : i / 64 * 64 + i % 64 ≡ i = omega arith in z) (column_other x some)

pub rows_same : (p q : ℕ → ℕ) → ((x : Arrow) → Ranged x → held p x ≡ held q x) → (i : ℕ) → i < 256 → p i < 2 ^ 64 → q i < 2 ^ 64 → p i ≡ q i
rows_same p q same i h a b = ext (p i) (q i) (λ s. go s (dec_lt s 64))
  where
    go : (s : ℕ) → Dec (s < 64) → has (p i) s ≡ has (q i) s
    go s (yes l) = sym (on_held p i s) ∙ same (arrow_on i s) (on_ranged i s h l) ∙ on_held q i s
    go s (no l) = has_above 64 (p i) s a (omega arith) ∙ sym (has_above 64 (q i) s b (omega arith))
