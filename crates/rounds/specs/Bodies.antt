-- The bodies of counts and rows: reading what was written gives the values, and writing what was read gives the bytes. Each is
-- made of numbers as bytes, for which both hold at any width; so the role sets, of two bytes each, and the actions of the steps, of one,
-- are rows under the same laws. Assumes nothing.
use Rattle.std.specs.Prelude.{ℕ, zero, suc, ◌+◌, ◌-◌, ◌*◌, ◌/◌, ◌%◌, ◌^◌, ◌≤◌, ◌<◌, ◌≡◌, refl, List, [], ◌∷◌, ◌++◌, Bool, true, false, cond, length, take, drop, ltb}
use Rattle.std.proofs.Common.{sym, ap, ap₂, ◌∙◌, subst, append-nil, append_assoc, add-zero, mul-zero, mul-suc, mul-le-mul_left, mod-eq_of_lt, not-suc-le-zero, lt_of_lt_of_le, arith, length-drop, take-add, take_all, pow_mono, lt-ltb, le-ltb}
use Rattle.std.proofs.Math.Decide.{dec_lt}
use Rattle.sets.specs.Sets.{within, every}
use Rattle.sets.specs.Laws.{every_at, every_of}
use Rattle.tables.specs.Tables.{row, keeps, labels_fit}
use Rattle.tables.specs.Laws.{keeps_row, keeps_gone, label_few, label_below, label_gone}
use Rattle.numbers.specs.Numbers.{number, bytes, Bytes}
use Rattle.numbers.specs.Laws.{number_bytes, bytes_number, drop_bytes}
use Rattle.layout.specs.Lists.{drop_past}
use Rattle.bodies.specs.Tables.{tabled, length_tabled, row_tabled, tabled_same, tabled_rows}
use Rattle.bodies.specs.Bodies.{counts_body, counts_in, rows_body, row_in, roles_body, set_at, sets_in, role_sets_fit}
use Rattle.bodies.specs.Bodies.{labels_body, label_at, labels_in, actions_fit}
use Rattle.bodies.specs.Laws.{row_past, length_rows}

-- ---- counts

pub counts_read : (steps people roles actions : ℕ) → steps < 256 → people < 256 → roles < 256 → actions < 256
    → counts_in 3 (counts_body steps people roles actions) ≡ record { steps = steps; people = people; roles = roles; actions = actions }
unfolding bytes
counts_read steps people roles actions a b c d =
    let x : steps % 256 ≡ steps = mod-eq_of_lt a in
    let y : people % 256 ≡ people = mod-eq_of_lt b in
    let z : roles % 256 ≡ roles = mod-eq_of_lt c in
    let w : actions % 256 ≡ actions = mod-eq_of_lt d in
    λ i. record { steps = x i; people = y i; roles = z i; actions = w i }

pub counts_written : (body : List ℕ) → Bytes body → length body ≡ 4
    → let c = counts_in 3 body in counts_body c.steps c.people c.roles c.actions ≡ body
unfolding bytes
counts_written [] b e = absurd (let z : ⊥ = omega arith in z)
counts_written (x ∷ []) b e = absurd (let z : ⊥ = omega arith in z)
counts_written (x ∷ y ∷ []) b e = absurd (let z : ⊥ = omega arith in z)
counts_written (x ∷ y ∷ z ∷ []) b e = absurd (let z : ⊥ = omega arith in z)
counts_written (x ∷ y ∷ z ∷ w ∷ []) b e =
    let p : x % 256 ≡ x = mod-eq_of_lt (b 0) in
    let q : y % 256 ≡ y = mod-eq_of_lt (b 1) in
    let r : z % 256 ≡ z = mod-eq_of_lt (b 2) in
    let t : w % 256 ≡ w = mod-eq_of_lt (b 3) in
    λ i. p i ∷ q i ∷ r i ∷ t i ∷ []
counts_written (x ∷ y ∷ z ∷ w ∷ v ∷ rest) b e = absurd (let z : ⊥ = omega arith in z)

-- ---- rows of w bytes each

-- row i of a body that begins with the rows of a table
row_at_front : (w n : ℕ) (table rest : List ℕ) (i : ℕ) → i < n → row table i < 256 ^ w
    → row_in w (rows_body w n table ++ rest) i ≡ row table i
unfolding rows_body
row_at_front w zero table rest i h small = absurd (not-suc-le-zero h)
row_at_front w (suc k) table rest i h small =
    ap (λ (l : List ℕ). row_in w l i) (append_assoc (rows_body w k table) (bytes w (row table k)) rest)
    ∙ go (dec_lt i k) (λ l. row_at_front w k table (bytes w (row table k) ++ rest) i l small)
  where
    go : Dec (i < k) → (i < k → row_in w (rows_body w k table ++ (bytes w (row table k) ++ rest)) i ≡ row table i)
        → row_in w (rows_body w k table ++ (bytes w (row table k) ++ rest)) i ≡ row table i
    go (yes l) before = before l
    go (no l) before =
        let e : i ≡ k = omega arith in
        let here : List ℕ = bytes w (row table i) ++ rest in
        ap (λ (j : ℕ). row_in w (rows_body w k table ++ (bytes w (row table j) ++ rest)) i) (sym e)
        ∙ ap (number w)
        (ap (λ (j : ℕ). drop j (rows_body w k table ++ here)) (ap (λ (j : ℕ). w * j) e ∙ sym (add-zero (w * k)))
        ∙ drop_past (rows_body w k table) here (w * k) 0 (length_rows w k table))
        ∙ number_bytes w (row table i) rest small

-- a table whose rows go into w bytes each, with nothing at or beyond n
pub record RowTable (w n : ℕ) (table : List ℕ) : Type 0 where
  pub small : (i : ℕ) → row table i < 256 ^ w
  pub gone : (i : ℕ) → n ≤ i → row table i ≡ 0

row_read : (w n : ℕ) (table : List ℕ) → RowTable w n table → (i : ℕ) → row_in w (rows_body w n table) i ≡ row table i
row_read w n table t i = go (dec_lt i n)
  where
    go : Dec (i < n) → row_in w (rows_body w n table) i ≡ row table i
    go (yes h) = ap (λ (l : List ℕ). row_in w l i) (sym (append-nil (rows_body w n table))) ∙ row_at_front w n table [] i h (t.small i)
    go (no h) =
        let past : n ≤ i = omega arith in
        row_past w (rows_body w n table) i (subst (λ (k : ℕ). k ≤ w * i) (sym (length_rows w n table)) (mul-le-mul_left w past))
        ∙ sym (t.gone i past)

-- what was written is read back
pub rows_read : (w n rows : ℕ) (table : List ℕ) → length table ≡ rows → RowTable w n table
    → tabled rows (row_in w (rows_body w n table)) ≡ table
rows_read w n rows table e t =
    tabled_same rows (row_in w (rows_body w n table)) (row table) (λ i h. row_read w n table t i) ∙ tabled_rows rows table e

rows_front : (w rows k : ℕ) (body : List ℕ) → Bytes body → k ≤ rows → w * k ≤ length body
    → rows_body w k (tabled rows (row_in w body)) ≡ take (w * k) body
unfolding rows_body
rows_front w rows zero body b h l = ap (λ (k : ℕ). take k body) (sym (mul-zero w))
rows_front w rows (suc k) body b h l =
    let m : w * suc k ≡ w * k + w = mul-suc w k in
    let n : length (drop (w * k) body) ≡ length body - w * k = length-drop (w * k) body in
    ap₂ (λ (p q : List ℕ). p ++ q) (rows_front w rows k body b (omega arith) (omega arith))
    (ap (bytes w) (row_tabled rows (row_in w body) k h) ∙ bytes_number w (drop (w * k) body) (drop_bytes (w * k) body b) (omega arith))
    ∙ sym (take-add (w * k) w body)
    ∙ ap (λ (j : ℕ). take j body) (sym m)

-- what was read is written back
pub rows_written : (w rows n : ℕ) (body : List ℕ) → Bytes body → n ≤ rows → length body ≡ w * n
    → rows_body w n (tabled rows (row_in w body)) ≡ body
rows_written w rows n body b h e = rows_front w rows n body b h (omega arith) ∙ take_all (w * n) body (omega arith)

-- rows below a bound are so in the body
rows_below : (w n most : ℕ) (table : List ℕ) → RowTable w n table → ((i : ℕ) → i < n → row table i < most)
    → (count : ℕ) → count ≤ n → every count (λ i. ltb (row_in w (rows_body w n table) i) most) ≡ true
rows_below w n most table t below count few =
    every_of count (λ i. ltb (row_in w (rows_body w n table) i) most)
    (λ i h. ap (λ (x : ℕ). ltb x most) (row_read w n table t i) ∙ lt-ltb (row table i) most (below i (omega arith)))

-- and those of a body of n rows are so in the table, with 0 at and beyond n
below_rows : (w n most : ℕ) (body : List ℕ) → length body ≡ w * n → every n (λ i. ltb (row_in w body i) most) ≡ true
    → (i : ℕ) → ltb (row_in w body i) (cond (ltb i n) most 1) ≡ true
below_rows w n most body e f i = go (dec_lt i n)
  where
    go : Dec (i < n) → ltb (row_in w body i) (cond (ltb i n) most 1) ≡ true
    go (yes h) =
        ap (λ (b : Bool). ltb (row_in w body i) (cond b most 1)) (lt-ltb i n h) ∙ every_at n (λ j. ltb (row_in w body j) most) f i h
    go (no h) =
        let past : n ≤ i = omega arith in
        ap₂ (λ (b : Bool) (x : ℕ). ltb x (cond b most 1)) (le-ltb i n past)
        (row_past w body i (subst (λ (k : ℕ). k ≤ w * i) (sym e) (mul-le-mul_left w past)))

-- ---- role sets: rows of two bytes

pub kept_roles : (n roles : ℕ) (table : List ℕ) → roles ≤ 16 → keeps n roles table ≡ true → RowTable 2 n table
kept_roles n roles table h e =
    record { small = λ i. lt_of_lt_of_le (keeps_row n roles table e i) (pow_mono h); gone = keeps_gone n roles table e }

-- the role sets of a body fit where the table keeps to its counts, and the table keeps to them where those fit
pub roles_fit_lem : (n roles : ℕ) (table : List ℕ) → roles ≤ 16 → keeps n roles table ≡ true → role_sets_fit roles (roles_body n table) ≡ true
unfolding role_sets_fit
roles_fit_lem n roles table few k =
    let e : length (roles_body n table) ≡ 2 * n = length_rows 2 n table in
    rows_below 2 n (2 ^ roles) table (kept_roles n roles table few k) (λ i h. keeps_row n roles table k i) (length (roles_body n table) / 2)
    (omega arith)

pub roles_kept : (rows n roles : ℕ) (body : List ℕ) → length body ≡ 2 * n → role_sets_fit roles body ≡ true
    → keeps n roles (sets_in rows body) ≡ true
unfolding role_sets_fit keeps
roles_kept rows n roles body e f =
    let half : length body / 2 ≡ n = omega arith in
    every_of (length (sets_in rows body)) (λ i. within (cond (ltb i n) roles 0) (row (sets_in rows body) i))
    (λ i l. let k : length (sets_in rows body) ≡ rows = length_tabled rows (set_at body) in
    ap (within (cond (ltb i n) roles 0)) (row_tabled rows (set_at body) i (omega arith))
    ∙ ap (ltb (set_at body i)) (bound (ltb i n))
    ∙ below_rows 2 n (2 ^ roles) body e (subst (λ (c : ℕ). every c (λ j. within roles (set_at body j)) ≡ true) half f) i)
  where
    bound : (b : Bool) → 2 ^ cond b roles 0 ≡ cond b (2 ^ roles) 1
    bound true = refl
    bound false = refl

-- ---- the actions of the steps: rows of one byte

pub kept_labels : (steps actions : ℕ) (labels : List ℕ) → 1 ≤ actions → actions ≤ 64 → labels_fit steps actions labels ≡ true
    → RowTable 1 steps labels
kept_labels steps actions labels some most e = record {
  small = λ i. let few : row labels i < 64 = label_few steps actions labels some most e i in omega arith;
  gone = label_gone steps actions labels e;
}

-- where no step is its own action by the form, the table is that of the body
pub labels_rows : (rows : ℕ) (body : List ℕ) → labels_in rows 0 body ≡ tabled rows (row_in 1 body)
labels_rows rows body =
    tabled_same rows (label_at 0 body) (row_in 1 body) (λ i h. ap (λ (b : Bool). cond b i (row_in 1 body i)) (le-ltb i 0 (omega arith)))

pub labels_fit_lem : (steps actions : ℕ) (labels : List ℕ) → 1 ≤ actions → actions ≤ 64 → labels_fit steps actions labels ≡ true
    → actions_fit actions (labels_body steps labels) ≡ true
unfolding actions_fit
labels_fit_lem steps actions labels some most e =
    let n : length (labels_body steps labels) ≡ 1 * steps = length_rows 1 steps labels in
    rows_below 1 steps actions labels (kept_labels steps actions labels some most e) (label_below steps actions labels some e)
    (length (labels_body steps labels)) (omega arith)

-- a table of actions fits where each of its rows does
labels_by_row : (rows own steps actions : ℕ) (body : List ℕ)
    → ((i : ℕ) → ltb (label_at own body i) (cond (ltb i steps) actions 1) ≡ true) → labels_fit steps actions (labels_in rows own body) ≡ true
unfolding labels_fit
labels_by_row rows own steps actions body each =
    every_of (length (labels_in rows own body)) (λ i. ltb (row (labels_in rows own body) i) (cond (ltb i steps) actions 1))
    (λ i l. let k : length (labels_in rows own body) ≡ rows = length_tabled rows (label_at own body) in
    ap (λ (x : ℕ). ltb x (cond (ltb i steps) actions 1)) (row_tabled rows (label_at own body) i (omega arith)) ∙ each i)

-- those that a body says
pub labels_kept : (rows steps actions : ℕ) (body : List ℕ) → length body ≡ steps → actions_fit actions body ≡ true
    → labels_fit steps actions (labels_in rows 0 body) ≡ true
unfolding actions_fit
labels_kept rows steps actions body e f =
    labels_by_row rows 0 steps actions body
    (λ i. ap (λ (b : Bool). ltb (cond b i (row_in 1 body i)) (cond (ltb i steps) actions 1)) (le-ltb i 0 (omega arith))
    ∙ below_rows 1 steps actions body (omega arith)
    (subst (λ (c : ℕ). every c (λ j. ltb (row_in 1 body j) actions) ≡ true) e f) i)

-- and those of steps that are their own actions
pub labels_own : (rows steps : ℕ) → labels_fit steps steps (labels_in rows steps []) ≡ true
labels_own rows steps = labels_by_row rows steps steps steps [] (λ i. go i (dec_lt i steps))
  where
    go : (i : ℕ) → Dec (i < steps) → ltb (label_at steps [] i) (cond (ltb i steps) steps 1) ≡ true
    go i (yes h) = ap (λ (b : Bool). ltb (cond b i (row_in 1 [] i)) (cond b steps 1)) (lt-ltb i steps h) ∙ lt-ltb i steps h
    go i (no h) =
        ap₂ (λ (b : Bool) (x : ℕ). ltb (cond b i x) (cond b steps 1)) (le-ltb i steps (omega arith)) (row_past 1 [] i (omega arith))
