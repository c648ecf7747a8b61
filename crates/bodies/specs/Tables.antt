-- Tables made row by row. Assumes nothing.
use Rattle.std.specs.Prelude.{ℕ, zero, suc, ◌+◌, ◌^◌, ◌≤◌, ◌<◌, ◌≡◌, refl, List, [], ◌∷◌, ◌++◌, Bool, true, cond, length, set, take, ltb}
use Rattle.std.proofs.Common.{sym, ap, ap₂, ◌∙◌, subst, not-suc-le-zero, add-one, arith, length-append, ext_get_or, length-take-le, take-suc, take_all, lt-ltb, le-ltb}
use Rattle.std.proofs.Math.Decide.{dec_lt}
use Rattle.std.proofs.Math.ListN.{get_or-append, get_or-eq_default}
use Rattle.std.proofs.lemmas.List.Edits.{sets}
use Rattle.std.proofs.lemmas.List.{get_or_at}
use Rattle.sets.specs.Sets.{within}
use Rattle.sets.specs.Laws.{every_of}
use Rattle.tables.specs.Tables.{row, table_at, keeps, labels_fit}
use Rattle.tables.specs.Laws.{row_at_lem, rows_at}
use Rattle.numbers.specs.Numbers.{Spliced}
use Rattle.numbers.specs.Laws.{sets_append}

-- the rows f 0, f 1, .. up to the k-th
unfoldable pub tabled : ℕ → (ℕ → ℕ) → List ℕ
tabled zero f = []
tabled (suc k) f = tabled k f ++ (f k ∷ [])

pub length_tabled : (k : ℕ) (f : ℕ → ℕ) → length (tabled k f) ≡ k
unfolding tabled
length_tabled zero f = refl
length_tabled (suc k) f =
    let r : length (tabled k f) ≡ k = length_tabled k f in
    length-append (tabled k f) (f k ∷ []) ∙ let z : length (tabled k f) + 1 ≡ suc k = omega arith in z

pub row_tabled : (k : ℕ) (f : ℕ → ℕ) (i : ℕ) → i < k → row (tabled k f) i ≡ f i
unfolding tabled
row_tabled zero f i h = absurd (not-suc-le-zero h)
row_tabled (suc k) f i h = go (dec_lt i k) (row_tabled k f i)
  where
    go : Dec (i < k) → (i < k → row (tabled k f) i ≡ f i) → row (tabled k f ++ (f k ∷ [])) i ≡ f i
    go (yes l) rest =
        let n : length (tabled k f) ≡ k = length_tabled k f in
        get_or-append (tabled k f) (f k ∷ []) 0 i (omega arith) ∙ rest l
    go (no l) rest =
        let e : i ≡ k = omega arith in
        get_or_at (tabled k f) (f k) [] 0 i (length_tabled k f ∙ sym e) ∙ ap f (sym e)

pub row_beyond : (k : ℕ) (f : ℕ → ℕ) (i : ℕ) → k ≤ i → row (tabled k f) i ≡ 0
row_beyond k f i h = get_or-eq_default (tabled k f) 0 {n = i} (subst (λ (n : ℕ). n ≤ i) (sym (length_tabled k f)) h)

pub tabled_same : (k : ℕ) (f g : ℕ → ℕ) → ((i : ℕ) → i < k → f i ≡ g i) → tabled k f ≡ tabled k g
unfolding tabled
tabled_same zero f g e = refl
tabled_same (suc k) f g e =
    ap₂ (λ (l : List ℕ) (x : ℕ). l ++ (x ∷ [])) (tabled_same k f g (λ i h. e i (omega arith))) (e k (omega arith))

-- a table of k rows is made of its rows
pub tabled_rows : (k : ℕ) (t : List ℕ) → length t ≡ k → tabled k (row t) ≡ t
tabled_rows k t e =
    let n : length (tabled k (row t)) ≡ k = length_tabled k (row t) in
    ext_get_or 0 (tabled k (row t)) t (n ∙ sym e) (λ i h. row_tabled k (row t) i (omega arith))

-- a part of a table that was made row by row is made so too
pub table_tabled : (at n k : ℕ) (f : ℕ → ℕ) → at + n ≤ k → table_at at n (tabled k f) ≡ tabled n (λ s. f (at + s))
table_tabled at n k f h =
    let all : length (tabled k f) ≡ k = length_tabled k f in
    let some : length (table_at at n (tabled k f)) ≡ n = rows_at at n (tabled k f) (omega arith) in
    ext_get_or 0 (table_at at n (tabled k f)) (tabled n (λ s. f (at + s))) (some ∙ sym (length_tabled n (λ s. f (at + s))))
    (λ i l.
    let low : i < n = omega arith in
    row_at_lem at n (tabled k f) i low ∙ row_tabled k f (at + i) (omega arith) ∙ sym (row_tabled n (λ s. f (at + s)) i low))

-- what is asked of a table, row by row
pub keeps_tabled : (count limit k : ℕ) (f : ℕ → ℕ) → ((i : ℕ) → i < count → f i < 2 ^ limit) → ((i : ℕ) → count ≤ i → f i ≡ 0)
    → keeps count limit (tabled k f) ≡ true
unfolding keeps
keeps_tabled count limit k f low gone =
    every_of (length (tabled k f)) (λ i. within (cond (ltb i count) limit 0) (row (tabled k f) i)) (λ i h.
    let here : row (tabled k f) i ≡ f i = row_tabled k f i (let n : length (tabled k f) ≡ k = length_tabled k f in omega arith) in
    ap (λ (x : ℕ). within (cond (ltb i count) limit 0) x) here ∙ go i (dec_lt i count))
  where
    go : (i : ℕ) → Dec (i < count) → within (cond (ltb i count) limit 0) (f i) ≡ true
    go i (yes h) = ap (λ (b : Bool). within (cond b limit 0) (f i)) (lt-ltb i count h) ∙ lt-ltb (f i) (2 ^ limit) (low i h)
    go i (no h) =
        let out : count ≤ i = omega arith in
        ap (λ (b : Bool). within (cond b limit 0) (f i)) (le-ltb i count out) ∙ ap (within 0) (gone i out)

pub labels_tabled : (steps actions k : ℕ) (f : ℕ → ℕ) → ((i : ℕ) → i < steps → f i < actions) → ((i : ℕ) → steps ≤ i → f i ≡ 0)
    → labels_fit steps actions (tabled k f) ≡ true
unfolding labels_fit
labels_tabled steps actions k f low gone =
    every_of (length (tabled k f)) (λ i. ltb (row (tabled k f) i) (cond (ltb i steps) actions 1)) (λ i h.
    let here : row (tabled k f) i ≡ f i = row_tabled k f i (let n : length (tabled k f) ≡ k = length_tabled k f in omega arith) in
    ap (λ (x : ℕ). ltb x (cond (ltb i steps) actions 1)) here ∙ go i (dec_lt i steps))
  where
    go : (i : ℕ) → Dec (i < steps) → ltb (f i) (cond (ltb i steps) actions 1) ≡ true
    go i (yes h) = ap (λ (b : Bool). ltb (f i) (cond b actions 1)) (lt-ltb i steps h) ∙ lt-ltb (f i) actions (low i h)
    go i (no h) =
        let out : steps ≤ i = omega arith in
        ap (λ (b : Bool). ltb (f i) (cond b actions 1)) (le-ltb i steps out) ∙ ap (λ (x : ℕ). ltb x 1) (gone i out)

-- ---- the loops that fill a block from `at` on

pub fill_more : (l : List ℕ) (at i : ℕ) (f : ℕ → ℕ) → set (sets l at (tabled i f)) (at + i) (f i) ≡ sets l at (tabled (i + 1) f)
unfolding tabled
fill_more l at i f =
    let n : length (tabled i f) ≡ i = length_tabled i f in
    ap (λ (k : ℕ). set (sets l at (tabled i f)) k (f i)) (let z : at + i ≡ at + length (tabled i f) = omega arith in z)
    ∙ sets_append (tabled i f) (f i ∷ []) l at
    ∙ ap (λ (k : ℕ). sets l at (tabled k f)) (sym (add-one i))

pub fill_done : (l new : List ℕ) (at i k : ℕ) (f : ℕ → ℕ) → i ≡ k → new ≡ sets l at (tabled i f)
    → Spliced (tabled k f) at l new (at + k)
fill_done l new at i k f e h =
    let n : length (tabled k f) ≡ k = length_tabled k f in
    record {
      next = omega arith;
      stored = h ∙ ap (λ (j : ℕ). sets l at (tabled j f)) e;
    }

-- one row of a table copied
pub copy_more : (l : List ℕ) (at i : ℕ) (v : List ℕ) → i < length v
    → set (sets l at (take i v)) (at + i) (row v i) ≡ sets l at (take (i + 1) v)
copy_more l at i v h =
    let n : length (take i v) ≡ i = length-take-le i v (omega arith) in
    ap (λ (k : ℕ). set (sets l at (take i v)) k (row v i)) (let z : at + i ≡ at + length (take i v) = omega arith in z)
    ∙ sets_append (take i v) (row v i ∷ []) l at
    ∙ ap (sets l at) (sym (take-suc v i 0 h) ∙ ap (λ (k : ℕ). take k v) (sym (add-one i)))

-- all of them
pub copy_done : (l new : List ℕ) (at i : ℕ) (v : List ℕ) → length v ≤ i → new ≡ sets l at (take i v) → Spliced v at l new (at + length v)
copy_done l new at i v e h = record { next = refl; stored = h ∙ ap (sets l at) (take_all i v e) }
