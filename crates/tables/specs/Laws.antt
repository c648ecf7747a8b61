-- What is gathered of a graph's tables tells whether they keep to the counts. Assumes nothing.
use Rattle.std.specs.Prelude.{◌≡◌, ℕ, zero, suc, ◌+◌, ◌-◌, ◌%◌, ◌^◌, ◌<◌, ◌≤◌, Bool, true, false, cond, ◌&&◌, ltb, leb, List, [], ◌∷◌, ◌++◌, length, take, drop, nat_le, nat_lt, refl}
use Rattle.std.proofs.Common.{sym, ap, ap₂, ◌∙◌, subst, true≢false, le_refl, lt_of_lt_of_le, lt_of_le_of_lt, zero-add, suc-add, mod-eq_of_lt, arith, length-drop, get_or-take, get_or-drop, length-take-le, take-add, take-take, drop-drop, ltb-true, leb-true, lt-ltb, le-ltb, eq-eqb, eqb-true, pow_pos, pow_mono}
use Rattle.std.proofs.Math.Decide.{dec_lt}
use Rattle.std.proofs.Math.ListN.{get_or-eq_default}
use Rattle.std.proofs.Math.Seq.{take-nil, drop-append-add}
use Rattle.std.proofs.lemmas.List.{take-append-le, drop-append-le}
use Rattle.sets.specs.Sets.{union, empty, within, full, gather, every, has}
use Rattle.sets.specs.Truth.{and_exchange, and_left, and_right, and_intro, and_true, same_truth}
use Rattle.sets.specs.Laws.{empty_gather, empty_union, within_gather, within_union, within_full, every_and, every_same, every_at, every_of}
use Rattle.sets.specs.Laws.{has_zero}
use Rattle.tables.specs.Tables.{row, table_at, keeps, roles_fit, labels_fit, arrow_rows_fit, kinds_apart, counts_fit}
use Rattle.moves.specs.Move.{within1to}
use Rattle.tables.specs.Gathered.{beyond, raised, rows_together, rows_shared, Sized}

-- ---- a part of a list of words

-- row s of the table from row `at` on is word at + s
pub row_at_lem : (at count : ℕ) (words : List ℕ) (s : ℕ) → s < count → row (table_at at count words) s ≡ row words (at + s)
row_at_lem at count words s h = get_or-take count (drop at words) s 0 h ∙ get_or-drop at words s 0

-- a table within them has its count of rows
pub rows_at : (at count : ℕ) (words : List ℕ) → at + count ≤ length words → length (table_at at count words) ≡ count
rows_at at count words h =
    length-take-le count (drop at words) (let l : length (drop at words) ≡ length words - at = length-drop at words in omega arith)

-- two tables, one after the other
pub table_join : (at a b : ℕ) (words : List ℕ) → table_at at a words ++ table_at (at + a) b words ≡ table_at at (a + b) words
table_join at a b words =
    sym (take-add a b (drop at words) ∙ ap (λ (rest : List ℕ). table_at at a words ++ take b rest) (drop-drop a at words))

-- a table of a table
pub table_of_table : (from whole at count : ℕ) (words : List ℕ) → at + count ≤ whole
    → table_at at count (table_at from whole words) ≡ table_at (from + at) count words
table_of_table from whole at count words h =
    ap (λ (k : ℕ). table_at at count (take k (drop from words))) (let z : whole ≡ at + (whole - at) = omega arith in z)
    ∙ ap (take count) (behind at (whole - at) (drop from words))
    ∙ take-take count (whole - at) (drop at (drop from words)) (omega arith)
    ∙ ap (take count) (drop-drop at from words)
  where
    behind : (a k : ℕ) (l : List ℕ) → drop a (take (a + k) l) ≡ take k (drop a l)
    behind zero k l = ap (λ (n : ℕ). take n l) (zero-add k)
    behind (suc a) k [] = ap (drop (suc a)) (take-nil (suc a + k)) ∙ sym (take-nil k)
    behind (suc a) k (x ∷ l) = ap (λ (n : ℕ). drop (suc a) (take n (x ∷ l))) (suc-add a k) ∙ behind a k l

-- a table that lies in the first of two lists, and one that lies in the second
pub table_front : (at count : ℕ) (a b : List ℕ) → at + count ≤ length a → table_at at count (a ++ b) ≡ table_at at count a
table_front at count a b h =
    ap (take count) (drop-append-le at a b (omega arith))
    ∙ take-append-le count (drop at a) b (let l : length (drop at a) ≡ length a - at = length-drop at a in omega arith)

pub table_back : (at count : ℕ) (a b : List ℕ) → table_at (length a + at) count (a ++ b) ≡ table_at at count b
table_back at count a b = ap (take count) (drop-append-add a b at)

-- ---- what is gathered

-- below the count nothing is gathered of what lies beyond it
pub gather_front : (k count : ℕ) (rows : ℕ → ℕ) → k ≤ count → gather k (beyond count rows) ≡ 0
unfolding gather
gather_front zero count rows h = refl
gather_front (suc k) count rows h =
    ap₂ union (gather_front k count rows (let z : k ≤ count = omega arith in z)) (ap (λ (b : Bool). cond b 0 (rows k)) (lt-ltb k count h))

-- the rows of f below the count are within the limit, and the others, up to the room's end, empty
kept : ℕ → ℕ → ℕ → (ℕ → ℕ) → Bool
kept room count limit f = every room (λ i. within (cond (nat_lt i count) limit 0) (f i))

-- what is gathered beyond the count, and of the rows up to some place at or beyond it, tells whether the rows are kept
gathered_kept : (room far count limit : ℕ) (f : ℕ → ℕ) → count ≤ far → far ≤ room
    → (within limit (gather far f) && empty (gather room (beyond count f))) ≡ kept room count limit f
unfolding kept
gathered_kept room far count limit f h t =
    ap₂ ◌&&◌ (within_gather limit far f) (empty_gather room (beyond count f))
    ∙ same_truth (every far low && every room high) (every room both)
    (λ e. every_of room both
    (λ i l. join i l (dec_lt i count) (λ k. every_at far low (and_left (every far low) (every room high) e) i (lt_of_lt_of_le k h))
    (every_at room high (and_right (every far low) (every room high) e) i l)))
    (λ e. and_intro
    (every_of far low (λ i l. inside i (dec_lt i count) (every_at room both e i (lt_of_lt_of_le l t))))
    (every_of room high (λ i l. part i (dec_lt i count) (every_at room both e i l))))
  where
    low : ℕ → Bool
    low i = within limit (f i)

    high : ℕ → Bool
    high i = empty (beyond count f i)

    both : ℕ → Bool
    both i = within (cond (nat_lt i count) limit 0) (f i)

    none : (x : ℕ) → empty x ≡ true → within 0 x ≡ true
    none x e = lt-ltb x 1 (let z : x ≡ 0 = eqb-true x 0 e in omega arith)

    join : (i : ℕ) → i < room → Dec (i < count) → (i < count → within limit (f i) ≡ true) → empty (cond (nat_lt i count) 0 (f i)) ≡ true
        → within (cond (nat_lt i count) limit 0) (f i) ≡ true
    join i l (yes k) w e = subst (λ (b : Bool). within (cond b limit 0) (f i) ≡ true) (sym (lt-ltb i count k)) (w k)
    join i l (no k) w e =
        let off : ltb i count ≡ false = le-ltb i count (let z : count ≤ i = omega arith in z) in
        subst (λ (b : Bool). within (cond b limit 0) (f i) ≡ true) (sym off)
        (none (f i) (subst (λ (b : Bool). empty (cond b 0 (f i)) ≡ true) off e))

    inside : (i : ℕ) → Dec (i < count) → within (cond (nat_lt i count) limit 0) (f i) ≡ true → within limit (f i) ≡ true
    inside i (yes k) e = subst (λ (b : Bool). within (cond b limit 0) (f i) ≡ true) (lt-ltb i count k) e
    inside i (no k) e =
        let off : ltb i count ≡ false = le-ltb i count (let z : count ≤ i = omega arith in z) in
        let small : f i < 1 = ltb-true (f i) 1 (subst (λ (b : Bool). within (cond b limit 0) (f i) ≡ true) off e) in
        lt-ltb (f i) (2 ^ limit) (lt_of_lt_of_le small (pow_pos limit))

    part : (i : ℕ) → Dec (i < count) → within (cond (nat_lt i count) limit 0) (f i) ≡ true → empty (cond (nat_lt i count) 0 (f i)) ≡ true
    part i (yes k) e = subst (λ (b : Bool). empty (cond b 0 (f i)) ≡ true) (sym (lt-ltb i count k)) refl
    part i (no k) e =
        let off : ltb i count ≡ false = le-ltb i count (let z : count ≤ i = omega arith in z) in
        let small : f i < 1 = ltb-true (f i) 1 (subst (λ (b : Bool). within (cond b limit 0) (f i) ≡ true) off e) in
        subst (λ (b : Bool). empty (cond b 0 (f i)) ≡ true) (sym off) (eq-eqb (f i) 0 (omega arith))

-- two tables are kept together exactly if each is
kept_union : (room count limit : ℕ) (f g : ℕ → ℕ)
    → kept room count limit (λ i. union (f i) (g i)) ≡ (kept room count limit f && kept room count limit g)
unfolding kept
kept_union room count limit f g =
    every_same room (λ i. within (bound i) (union (f i) (g i))) (λ i. within (bound i) (f i) && within (bound i) (g i))
    (λ i. within_union (bound i) (f i) (g i))
    ∙ every_and room (λ i. within (bound i) (f i)) (λ i. within (bound i) (g i))
  where
    bound : ℕ → ℕ
    bound i = cond (nat_lt i count) limit 0

-- one table, whole
pub table_keeps : (count limit : ℕ) (table : List ℕ) (a x : ℕ) → count ≤ length table
    → a ≡ gather (length table) (row table) → x ≡ gather (length table) (beyond count (row table))
    → (within limit a && empty x) ≡ keeps count limit table
unfolding keeps kept
table_keeps count limit table a x h pa px =
    ap₂ ◌&&◌ (ap (within limit) pa) (ap empty px)
    ∙ gathered_kept (length table) (length table) count limit (row table) h (le_refl (length table))

-- nothing lies beyond 64 rows
pub beyond_64 : (t : List ℕ) → length t ≡ 64 → 0 ≡ gather (length t) (beyond 64 (row t))
beyond_64 t e = sym (gather_front (length t) 64 (row t) (omega arith))

-- the two tables of roles
pub roles_keep : (actions people roles : ℕ) (allows holds : List ℕ) (named a b x y : ℕ) → named ≡ full roles
    → actions ≤ length allows → people ≤ length holds
    → a ≡ gather (length allows) (row allows) → b ≡ gather (length holds) (row holds)
    → x ≡ gather (length allows) (beyond actions (row allows)) → y ≡ gather (length holds) (beyond people (row holds))
    → (nat_le (union a b) named && empty (union x y)) ≡ roles_fit actions people roles allows holds
roles_keep actions people roles allows holds named a b x y n ha hb pa pb px py =
    ap₂ ◌&&◌ (ap (leb (union a b)) n ∙ within_full roles (union a b) ∙ within_union roles a b) (empty_union x y)
    ∙ and_exchange (within roles a) (within roles b) (empty x) (empty y)
    ∙ ap₂ ◌&&◌ (table_keeps actions roles allows a x ha pa px) (table_keeps people roles holds b y hb pb py)

-- a number is below the count of actions exactly if it is below 64, and so it is moved up by what the count lacks of 64
raised_below : (actions t : ℕ) → 1 ≤ actions → actions ≤ 64 → (within 6 t && within 6 ((t + (64 - actions)) % 2 ^ 64)) ≡ nat_lt t actions
raised_below actions t some most =
    same_truth (within 6 t && within 6 ((t + (64 - actions)) % 2 ^ 64)) (nat_lt t actions)
    (λ e.
    let low : t < 64 = ltb-true t 64 (and_left (within 6 t) (within 6 ((t + (64 - actions)) % 2 ^ 64)) e) in
    let high : (t + (64 - actions)) % 2 ^ 64 < 64 = ltb-true _ 64 (and_right (within 6 t) (within 6 ((t + (64 - actions)) % 2 ^ 64)) e) in
    let same : (t + (64 - actions)) % 2 ^ 64 ≡ t + (64 - actions) = mod-eq_of_lt (let z : t + (64 - actions) < 2 ^ 64 = omega arith in z) in
    lt-ltb t actions (omega arith))
    (λ e.
    let low : t < actions = ltb-true t actions e in
    let same : (t + (64 - actions)) % 2 ^ 64 ≡ t + (64 - actions) = mod-eq_of_lt (let z : t + (64 - actions) < 2 ^ 64 = omega arith in z) in
    and_intro (lt-ltb t 64 (omega arith)) (lt-ltb ((t + (64 - actions)) % 2 ^ 64) 64 (omega arith)))

-- the actions of the steps
pub labels_keep : (steps actions : ℕ) (labels : List ℕ) (a x : ℕ) → 1 ≤ actions → actions ≤ 64
    → a ≡ gather (length labels) (raised (64 - actions) (row labels)) → x ≡ gather (length labels) (beyond steps (row labels))
    → (nat_lt a 64 && empty x) ≡ labels_fit steps actions labels
unfolding labels_fit
labels_keep steps actions labels a x some most pa px =
    ap₂ ◌&&◌ (ap (within 6) pa ∙ within_gather 6 room (raised (64 - actions) (row labels))
    ∙ every_same room (λ s. within 6 (raised (64 - actions) (row labels) s)) (λ s. ltb (row labels s) actions)
    (λ s. within_union 6 (row labels s) ((row labels s + (64 - actions)) % 2 ^ 64) ∙ raised_below actions (row labels s) some most))
    (ap empty px ∙ empty_gather room (beyond steps (row labels)))
    ∙ sym (every_and room (λ s. ltb (row labels s) actions) (λ s. empty (beyond steps (row labels) s)))
    ∙ every_same room (λ s. nat_lt (row labels s) actions && empty (beyond steps (row labels) s))
    (λ s. ltb (row labels s) (cond (nat_lt s steps) actions 1)) (λ s. both (nat_lt s steps) (row labels s))
  where
    room : ℕ
    room = length labels

    both : (b : Bool) (t : ℕ) → (nat_lt t actions && empty (cond b 0 t)) ≡ nat_lt t (cond b actions 1)
    both true t = and_true (nat_lt t actions)
    both false t =
        same_truth (nat_lt t actions && empty t) (nat_lt t 1)
        (λ e. lt-ltb t 1 (let z : t ≡ 0 = eqb-true t 0 (and_right (nat_lt t actions) (empty t) e) in omega arith))
        (λ e. let z : t < 1 = ltb-true t 1 e in and_intro (lt-ltb t actions (omega arith)) (eq-eqb t 0 (omega arith)))

-- a table of 64 rows
keeps_64 : (k : ℕ) (t : List ℕ) → length t ≡ 64 → kept 64 k k (row t) ≡ keeps k k t
unfolding keeps kept
keeps_64 k t e = ap (λ (room : ℕ). every room (λ i. within (cond (nat_lt i k) k 0) (row t i))) (sym e)

-- the four tables of arrows, in one pass
pub arrows_keep : (k : ℕ) (r s t u : List ℕ) (inside all past : ℕ) → inside ≡ full k → k ≤ 64
    → length r ≡ 64 → length s ≡ 64 → length t ≡ 64 → length u ≡ 64
    → all ≡ gather k (rows_together r s t u) → past ≡ gather 64 (beyond k (rows_together r s t u))
    → (nat_le all inside && empty past) ≡ arrow_rows_fit k r s t u
arrows_keep k r s t u inside all past n h lr ls lt lu pa pp =
    ap₂ ◌&&◌ (ap (leb all) n ∙ within_full k all ∙ ap (within k) pa) (ap empty pp)
    ∙ gathered_kept 64 k k k (rows_together r s t u) (le_refl k) h
    ∙ kept_union 64 k k (λ i. union (row r i) (row s i)) (λ i. union (row t i) (row u i))
    ∙ ap₂ ◌&&◌ (kept_union 64 k k (row r) (row s) ∙ ap₂ ◌&&◌ (keeps_64 k r lr) (keeps_64 k s ls))
    (kept_union 64 k k (row t) (row u) ∙ ap₂ ◌&&◌ (keeps_64 k t lt) (keeps_64 k u lu))

-- a table of 64 words names no step beyond 64, and has no row beyond
words_keep : (t : List ℕ) → length t ≡ 64 → ((i : ℕ) → row t i < 2 ^ 64) → keeps 64 64 t ≡ true
unfolding keeps
words_keep t e w =
    every_of (length t) (λ i. within (cond (nat_lt i 64) 64 0) (row t i))
    (λ i h. subst (λ (b : Bool). within (cond b 64 0) (row t i) ≡ true) (sym (lt-ltb i 64 (omega arith))) (lt-ltb (row t i) (2 ^ 64) (w i)))

pub words_fit : (r s t u : List ℕ) → Sized 64 r s t u
    → ((i : ℕ) → row r i < 2 ^ 64) → ((i : ℕ) → row s i < 2 ^ 64) → ((i : ℕ) → row t i < 2 ^ 64) → ((i : ℕ) → row u i < 2 ^ 64)
    → true ≡ arrow_rows_fit 64 r s t u
words_fit r s t u l wr ws wt wu =
    sym (and_intro (and_intro (words_keep r l.first wr) (words_keep s l.second ws))
    (and_intro (words_keep t l.third wt) (words_keep u l.fourth wu)))

-- nothing is shared exactly if no pair is both include and exclude
pub shared_apart : (k : ℕ) (t u : List ℕ) (both : ℕ) → both ≡ gather k (rows_shared t u) → empty both ≡ kinds_apart k t u
shared_apart k t u both e = ap empty e ∙ empty_gather k (rows_shared t u)

-- counts that fit are within their bounds
pub record Counted (steps people roles actions : ℕ) : Type 0 where
  pub steps_some : 1 ≤ steps
  pub steps_most : steps ≤ 64
  pub people_some : 1 ≤ people
  pub people_most : people ≤ 16
  pub roles_some : 1 ≤ roles
  pub roles_most : roles ≤ 16
  pub actions_some : 1 ≤ actions
  pub actions_most : actions ≤ 64

-- a count that fits is within its bounds
count_bound : (k most : ℕ) → within1to k most ≡ true → (1 ≤ k) × (k ≤ most)
count_bound k most e = (leb-true 1 k (and_left (nat_le 1 k) (nat_le k most) e), leb-true k most (and_right (nat_le 1 k) (nat_le k most) e))

pub counts_bound : (steps people roles actions : ℕ) → counts_fit steps people roles actions ≡ true → Counted steps people roles actions
counts_bound steps people roles actions e =
    let s = within1to steps 64 in
    let p = within1to people 16 in
    let r = within1to roles 16 in
    let a = within1to actions 64 in
    let e3 : (s && p && r) ≡ true = and_left (s && p && r) a e in
    let e2 : (s && p) ≡ true = and_left (s && p) r e3 in
    let bs = count_bound steps 64 (and_left s p e2) in
    let bp = count_bound people 16 (and_right s p e2) in
    let br = count_bound roles 16 (and_right (s && p) r e3) in
    let ba = count_bound actions 64 (and_right (s && p && r) a e) in
    record {
      steps_some = bs.0;
      steps_most = bs.1;
      people_some = bp.0;
      people_most = bp.1;
      roles_some = br.0;
      roles_most = br.1;
      actions_some = ba.0;
      actions_most = ba.1;
    }

-- a table that keeps to its counts has no row beyond the limit
pub keeps_row : (count limit : ℕ) (table : List ℕ) → keeps count limit table ≡ true → (i : ℕ) → row table i < 2 ^ limit
unfolding keeps
keeps_row count limit table e i = go (dec_lt i (length table))
  where
    low : (b : Bool) → cond b limit 0 ≤ limit
    low true = omega arith
    low false = omega arith

    go : Dec (i < length table) → row table i < 2 ^ limit
    go (yes h) =
        lt_of_lt_of_le
        (ltb-true (row table i) (2 ^ cond (nat_lt i count) limit 0)
        (every_at (length table) (λ k. within (cond (nat_lt k count) limit 0) (row table k)) e i h))
        (pow_mono (low (nat_lt i count)))
    go (no h) = lt_of_le_of_lt
        (let z : row table i ≤ 0 = omega (arith, get_or-eq_default table 0 {n = i} (let w : length table ≤ i = omega arith in w)) in z)
        (pow_pos limit)

-- a table that keeps to its counts has nothing at or beyond them
pub keeps_gone : (count limit : ℕ) (table : List ℕ) → keeps count limit table ≡ true → (i : ℕ) → count ≤ i → row table i ≡ 0
unfolding keeps
keeps_gone count limit table e i h = go (dec_lt i (length table))
  where
    go : Dec (i < length table) → row table i ≡ 0
    go (yes l) =
        let small : row table i < 1 =
        ltb-true (row table i) 1
        (subst (λ (b : Bool). within (cond b limit 0) (row table i) ≡ true) (le-ltb i count h)
        (every_at (length table) (λ k. within (cond (nat_lt k count) limit 0) (row table k)) e i l)) in
        omega arith
    go (no l) = get_or-eq_default table 0 {n = i} (let z : length table ≤ i = omega arith in z)

-- a row with a member is not beyond the counts
pub named_below : (count limit : ℕ) (table : List ℕ) → keeps count limit table ≡ true → (i s : ℕ) → has (row table i) s ≡ true → i < count
named_below count limit table e i s h = go (dec_lt i count)
  where
    go : Dec (i < count) → i < count
    go (yes l) = l
    go (no l) = absurd (true≢false (sym h ∙ ap (λ (x : ℕ). has x s) (keeps_gone count limit table e i (omega arith)) ∙ has_zero s))

-- ---- the actions of the steps

-- every word of a table of actions that fits is a number of the 64
pub label_few : (steps actions : ℕ) (labels : List ℕ) → 1 ≤ actions → actions ≤ 64 → labels_fit steps actions labels ≡ true
    → (s : ℕ) → row labels s < 64
unfolding labels_fit
label_few steps actions labels some most e s = go (dec_lt s (length labels))
  where
    low : (b : Bool) → cond b actions 1 ≤ 64
    low true = most
    low false = omega arith

    go : Dec (s < length labels) → row labels s < 64
    go (yes h) =
        lt_of_lt_of_le (ltb-true (row labels s) (cond (nat_lt s steps) actions 1)
        (every_at (length labels) (λ k. ltb (row labels k) (cond (nat_lt k steps) actions 1)) e s h)) (low (nat_lt s steps))
    go (no h) =
        let none : row labels s ≡ 0 = get_or-eq_default labels 0 {n = s} (let w : length labels ≤ s = omega arith in w) in
        omega arith

-- the action of a step is one that there is
pub label_below : (steps actions : ℕ) (labels : List ℕ) → 1 ≤ actions → labels_fit steps actions labels ≡ true
    → (s : ℕ) → s < steps → row labels s < actions
unfolding labels_fit
label_below steps actions labels some e s l = go (dec_lt s (length labels))
  where
    go : Dec (s < length labels) → row labels s < actions
    go (yes h) =
        ltb-true (row labels s) actions
        (subst (λ (b : Bool). nat_lt (row labels s) (cond b actions 1) ≡ true) (lt-ltb s steps l)
        (every_at (length labels) (λ k. ltb (row labels k) (cond (nat_lt k steps) actions 1)) e s h))
    go (no h) =
        let none : row labels s ≡ 0 = get_or-eq_default labels 0 {n = s} (let w : length labels ≤ s = omega arith in w) in
        omega arith

-- and none stands for a step that there is not
pub label_gone : (steps actions : ℕ) (labels : List ℕ) → labels_fit steps actions labels ≡ true
    → (s : ℕ) → steps ≤ s → row labels s ≡ 0
unfolding labels_fit
label_gone steps actions labels e s l = go (dec_lt s (length labels))
  where
    go : Dec (s < length labels) → row labels s ≡ 0
    go (yes h) =
        let small : row labels s < 1 =
        ltb-true (row labels s) 1
        (subst (λ (b : Bool). nat_lt (row labels s) (cond b actions 1) ≡ true) (le-ltb s steps l)
        (every_at (length labels) (λ k. ltb (row labels k) (cond (nat_lt k steps) actions 1)) e s h)) in
        omega arith
    go (no h) = get_or-eq_default labels 0 {n = s} (let w : length labels ≤ s = omega arith in w)
