-- What the loops over arrows carry: for each, what is left to do and the law for one turn more. Assumes nothing.
use Prim.Native.Nat.{ℕ, zero, suc, ◌+◌, ◌*◌, ◌^◌, ◌≤◌, ◌<◌}
use Rattle.std.specs.Prelude.{◌≡◌, refl, Bool, true, false, ◌&&◌, get_or, set, drop, leb}
use Rattle.std.proofs.Math.Path.{sym, ap}
use Rattle.std.proofs.Common.{◌∙◌, subst, add-one, arith, drop_of_length-le, drop-cons}
use mathlib.Core.List.{List, [], ◌∷◌, ◌++◌, map}
use Rattle.std.proofs.Math.Bool.{cond}
use Rattle.std.proofs.Math.ListN.{length, length-set}
use Rattle.std.proofs.lemmas.List.{length-map}
use Rattle.std.proofs.Math.Seq.{sets}
use Rattle.sets.specs.Sets.{has, single, union, lowest}
use Rattle.sets.specs.Later.{later}
use Rattle.sets.specs.Members.{members_later, members_none}
use Rattle.sets.specs.Truth.{and_left, and_right}
use Rattle.tables.specs.Tables.{row}
use Rattle.numbers.specs.Numbers.{Spliced}
use Rattle.numbers.specs.Laws.{spliced_then}
use Rattle.tables.specs.Laws.{rows_at}
use Rattle.arrows.specs.Arrows.{Arrow, arrows_in, links, link_in_order, put, put_all, place, spelt, arrows_body}
use Rattle.arrows.specs.Lists.{listed_length}
use Rattle.arrows.specs.Places.{fit_from, fit_places, length_spelt, spelt_append}
use Rattle.arrows.specs.Rows.{members, toward, row_arrows, kind_arrows, count_of, count_arrows, count_mono}
use Rattle.arrows.specs.Rows.{kind_rows, Kept, turned_in, length_turned, from_rows, first_kinds, count_kinds, count_kinds_lem, by_kind}

-- ---- reading

-- the arrow links two of the n steps, and its place is at least `next`
abbrev pub passes : ℕ → ℕ → Arrow → Bool
passes n next x = links n x && leb next (place x)

-- the table with the arrows up to the first that does not pass
unfoldable pub filled : ℕ → ℕ → List ℕ → List Arrow → List ℕ
filled n next table [] = table
filled n next table (x ∷ rest) = cond (passes n next x) (filled n (place x + 1) (put table x) rest) table

-- where all fit it is the table with all of them
pub filled_all : (n next : ℕ) (table : List ℕ) (l : List Arrow) → fit_from n next l ≡ true → filled n next table l ≡ put_all table l
unfolding filled put_all fit_from
filled_all n next table [] e = refl
filled_all n next table (x ∷ rest) e =
    ap (λ (b : Bool). cond b (filled n (place x + 1) (put table x) rest) table)
    (and_left (passes n next x) (fit_from n (place x + 1) rest) e)
    ∙ filled_all n (place x + 1) (put table x) rest (and_right (passes n next x) (fit_from n (place x + 1) rest) e)

-- the arrow that the three bytes at i spell
abbrev pub arrow_in : List ℕ → ℕ → Arrow
arrow_in s i = record { kind = get_or s i 0; from = get_or s (i + 1) 0; to = get_or s (i + 2) 0 }

-- and those after it
pub arrow_at_lem : (s : List ℕ) (i : ℕ) → i + 2 < length s → arrows_in (drop i s) ≡ arrow_in s i ∷ arrows_in (drop (i + 3) s)
unfolding arrows_in
arrow_at_lem s i h =
    ap arrows_in
    (drop-cons s i 0 (omega arith)
    ∙ ap (λ (l : List ℕ). get_or s i 0 ∷ l)
    (ap (λ (k : ℕ). drop k s) (let z : suc i ≡ i + 1 = omega arith in z) ∙ drop-cons s (i + 1) 0 (omega arith)
    ∙ ap (λ (l : List ℕ). get_or s (i + 1) 0 ∷ l)
    (ap (λ (k : ℕ). drop k s) (let z : suc (i + 1) ≡ i + 2 = omega arith in z) ∙ drop-cons s (i + 2) 0 (omega arith)
    ∙ ap (λ (k : ℕ). get_or s (i + 2) 0 ∷ drop k s) (let z : suc (i + 2) ≡ i + 3 = omega arith in z))))

pub arrows_end : (s : List ℕ) (i : ℕ) → length s ≤ i → arrows_in (drop i s) ≡ []
unfolding arrows_in
arrows_end s i h = ap arrows_in (drop_of_length-le s h)

-- what is left of a body from byte i on, with the table as it stands, comes to what was left from byte h on with the table as it stood
pub record Goes (n : ℕ) (s : List ℕ) (from h : ℕ) (old : List ℕ) (next i : ℕ) (table : List ℕ) : Type 0 where
  pub fit : fit_from n from (arrows_in (drop h s)) ≡ fit_from n next (arrows_in (drop i s))
  pub full : filled n from old (arrows_in (drop h s)) ≡ filled n next table (arrows_in (drop i s))

module _ (n : ℕ) (s : List ℕ) where
  pub goes_start : (next i : ℕ) (table : List ℕ) → Goes n s next i table next i table
  goes_start next i table = record { fit = refl; full = refl }

  pub goes_then : (f h : ℕ) (old : List ℕ) (g i : ℕ) (mid : List ℕ) (next j : ℕ) (table : List ℕ)
      → Goes n s f h old g i mid → Goes n s g i mid next j table → Goes n s f h old next j table
  goes_then f h old g i mid next j table x y = record { fit = x.fit ∙ y.fit; full = x.full ∙ y.full }

  -- an arrow that passes is put
  pub goes_more : (next i : ℕ) (table : List ℕ) → i + 2 < length s → passes n next (arrow_in s i) ≡ true
      → Goes n s next i table (place (arrow_in s i) + 1) (i + 3) (put table (arrow_in s i))
  unfolding fit_from filled
  goes_more next i table h e = record {
    fit = ap (fit_from n next) (arrow_at_lem s i h) ∙ ap (λ (b : Bool). b && fit_from n (place (arrow_in s i) + 1) (arrows_in (drop (i + 3) s))) e;
    full = ap (filled n next table) (arrow_at_lem s i h)
        ∙ ap (λ (b : Bool). cond b (filled n (place (arrow_in s i) + 1) (put table (arrow_in s i)) (arrows_in (drop (i + 3) s))) table) e;
  }

-- what is left of a body decides what is left to do
abbrev pub Reading : ℕ → List ℕ → List ℕ → ℕ → ℕ → List ℕ → Type 0
Reading n s table₀ next i table = Goes n s 0 0 table₀ next i table

module _ (n : ℕ) (s table₀ : List ℕ) (next i : ℕ) (table : List ℕ) (r : Reading n s table₀ next i table) where
  pub reading_refused : n ≤ 64 → i + 2 < length s → passes n next (arrow_in s i) ≡ false → (false ≡ link_in_order n (arrows_in s))
      × (table ≡ filled n 0 table₀ (arrows_in s))
  unfolding fit_from filled
  reading_refused k h e = (
    sym (sym (fit_places n (arrows_in s) k) ∙ r.fit ∙ ap (fit_from n next) (arrow_at_lem s i h)
        ∙ ap (λ (b : Bool). b && fit_from n (place (arrow_in s i) + 1) (arrows_in (drop (i + 3) s))) e),
    sym (r.full ∙ ap (filled n next table) (arrow_at_lem s i h)
        ∙ ap (λ (b : Bool). cond b (filled n (place (arrow_in s i) + 1) (put table (arrow_in s i)) (arrows_in (drop (i + 3) s))) table) e),
  )

  pub reading_done : n ≤ 64 → length s ≤ i → (true ≡ link_in_order n (arrows_in s)) × (table ≡ filled n 0 table₀ (arrows_in s))
  unfolding fit_from filled
  reading_done k h = (
    sym (sym (fit_places n (arrows_in s) k) ∙ r.fit ∙ ap (fit_from n next) (arrows_end s i h)),
    sym (r.full ∙ ap (filled n next table) (arrows_end s i h)),
  )

-- ---- writing

-- the lowest step of a row, and the rest of the row
pub row_more : (k a x : ℕ) → x < 2 ^ 64 → (x ≡ 0 → ⊥) → row_arrows k a x ≡ toward k a (lowest 64 x) ∷ row_arrows k a (later x)
row_more k a x small some = ap (map (toward k a)) (members_later x small some)

pub row_none : (k a x : ℕ) → x ≡ 0 → row_arrows k a x ≡ []
row_none k a x e = ap (row_arrows k a) e ∙ ap (map (toward k a)) members_none

-- one step fewer
pub members_less : (x : ℕ) → x < 2 ^ 64 → (x ≡ 0 → ⊥) → length (members x) ≡ suc (length (members (later x)))
members_less x small some = ap length (members_later x small some)

pub members_nil : (x : ℕ) → x ≡ 0 → length (members x) ≡ 0
members_nil x e = ap (λ (y : ℕ). length (members y)) e ∙ ap length members_none

sets_three : (l v : List ℕ) (i a b c : ℕ) → sets l i (a ∷ b ∷ c ∷ v) ≡ sets (set (set (set l i a) (i + 1) b) (i + 2) c) (i + 3) v
sets_three l v i a b c =
    let p : suc i ≡ i + 1 = omega arith in
    let q : suc (suc i) ≡ i + 2 = omega arith in
    let r : suc (suc (suc i)) ≡ i + 3 = omega arith in
    λ j. sets (set (set (set l i a) (p j) b) (q j) c) (r j) v

pub length_row : (k a x : ℕ) → length (spelt (row_arrows k a x)) ≡ 3 * length (members x)
length_row k a x = length_spelt (row_arrows k a x) ∙ ap (λ (n : ℕ). 3 * n) (length-map (members x) (toward k a))

-- a row of which these steps are left to write: stored from `to` on, they give what the whole row gives from `at` on
pub record RowLeft (k a x at : ℕ) (old steps : List ℕ) (to : ℕ) (room : List ℕ) : Type 0 where
  pub ends : to + 3 * length steps ≡ at + 3 * length (members x)
  pub long : length room ≡ length old
  pub stored : sets old at (spelt (row_arrows k a x)) ≡ sets room to (spelt (map (toward k a) steps))

module _ {k a x at : ℕ} {old : List ℕ} {to : ℕ} {room : List ℕ} where
  -- while a step is left, an arrow of it has room
  pub row_room : {b : ℕ} {steps more : List ℕ} → RowLeft k a x at old steps to room → steps ≡ b ∷ more
      → to + 3 ≤ at + 3 * length (members x)
  row_room r e = let n = ap length e in let t = r.ends in omega arith

  -- the next step is written
  pub row_next : {b : ℕ} {steps more : List ℕ} → RowLeft k a x at old steps to room → steps ≡ b ∷ more
      → RowLeft k a x at old more (to + 3) (set (set (set room to k) (to + 1) a) (to + 2) b)
  unfolding spelt
  row_next {b} {steps} {more} r e =
      let n = ap length e in
      let t = r.ends in
      record {
        ends = omega arith;
        long = simp length-set r.long;
        stored = r.stored ∙ ap (λ (l : List ℕ). sets room to (spelt (map (toward k a) l))) e
            ∙ sets_three room (spelt (map (toward k a) more)) to k a b;
      }

  -- none is left
  pub row_written : {steps : List ℕ} → RowLeft k a x at old steps to room → steps ≡ [] → Spliced (spelt (row_arrows k a x)) at old room to
  unfolding spelt
  row_written r none =
      let t = r.ends in
      let nil = ap length none in
      let long : length (spelt (row_arrows k a x)) ≡ 3 * length (members x) = length_row k a x in
      record {
        next = omega arith;
        stored = sym (r.stored ∙ ap (λ (l : List ℕ). sets room to (spelt (map (toward k a) l))) none);
      }

pub length_kind : (k n : ℕ) (rows : ℕ → ℕ) → length (spelt (kind_arrows k n rows)) ≡ 3 * count_of n rows
length_kind k n rows = length_spelt (kind_arrows k n rows) ∙ ap (λ (m : ℕ). 3 * m) (count_arrows k n rows)

-- no row
pub kind_none : (k at : ℕ) (rows : ℕ → ℕ) (room : List ℕ) → Spliced (spelt (kind_arrows k 0 rows)) at room room at
unfolding kind_arrows spelt
kind_none k at rows room = record { next = omega arith; stored = refl }

-- one row more
pub kind_more : (k a at : ℕ) (rows : ℕ → ℕ) (old mid new : List ℕ) (r q : ℕ) → Spliced (spelt (kind_arrows k a rows)) at old mid r
    → Spliced (spelt (row_arrows k a (rows a))) r mid new q
    → Spliced (spelt (kind_arrows k (a + 1) rows)) at old new q
unfolding kind_arrows
kind_more k a at rows old mid new r q s t =
    subst (λ (v : List ℕ). Spliced v at old new q)
    (sym (spelt_append (kind_arrows k a rows) (row_arrows k a (rows a))) ∙ ap (λ (n : ℕ). spelt (kind_arrows k n rows)) (sym (add-one a)))
    (spliced_then (spelt (kind_arrows k a rows)) (spelt (row_arrows k a (rows a))) at old mid new r q s t)

pub count_more : (a : ℕ) (rows : ℕ → ℕ) → count_of (a + 1) rows ≡ count_of a rows + length (members (rows a))
unfolding count_of
count_more a rows = rw add-one refl

-- and the room that the kind takes has room for the row
pub kind_room : (k a n at : ℕ) (rows : ℕ → ℕ) (old mid : List ℕ) (r : ℕ) → a < n → Spliced (spelt (kind_arrows k a rows)) at old mid r
    → r + 3 * length (members (rows a)) ≤ at + 3 * count_of n rows
kind_room k a n at rows old mid r h s =
    let here : count_of (a + 1) rows ≡ count_of a rows + length (members (rows a)) = count_more a rows in
    let all : count_of (a + 1) rows ≤ count_of n rows = count_mono a n rows h in
    let gone : length (spelt (kind_arrows k a rows)) ≡ 3 * count_of a rows = length_kind k a rows in
    let next : r ≡ at + length (spelt (kind_arrows k a rows)) = s.next in
    omega arith

pub count_most : (n : ℕ) (rows : ℕ → ℕ) → count_of n rows ≤ 64 * n
unfolding count_of
count_most zero rows = omega arith
count_most (suc a) rows =
    let r : count_of a rows ≤ 64 * a = count_most a rows in
    let l : length (members (rows a)) ≤ 64 = listed_length 64 0 (has (rows a)) in
    omega arith

-- ---- kind after kind

-- the rows that no turning concerns
pub from_other : (conditions table : List ℕ) (kind : ℕ) → (kind ≡ 0 → ⊥) → from_rows conditions table kind ≡ kind_rows table kind
unfolding from_rows
from_other conditions table zero some = absurd (some refl)
from_other conditions table (suc kind) some = refl

pub length_kinds : (kinds n : ℕ) (conditions table : List ℕ)
    → length (spelt (first_kinds kinds n conditions table)) ≡ 3 * count_kinds kinds n conditions table
length_kinds kinds n conditions table =
    length_spelt (first_kinds kinds n conditions table) ∙ ap (λ (m : ℕ). 3 * m) (count_kinds_lem kinds n conditions table)

-- one kind more
pub kinds_count : (kind n : ℕ) (conditions table : List ℕ)
    → count_kinds (kind + 1) n conditions table ≡ count_kinds kind n conditions table + count_of n (row (from_rows conditions table kind))
unfolding count_kinds
kinds_count kind n conditions table = rw add-one refl

pub kinds_more : (kind n at : ℕ) (conditions table rows old mid new : List ℕ) (r q : ℕ) → rows ≡ from_rows conditions table kind
    → Spliced (spelt (first_kinds kind n conditions table)) at old mid r → Spliced (spelt (kind_arrows kind n (row rows))) r mid new q
    → Spliced (spelt (first_kinds (kind + 1) n conditions table)) at old new q
unfolding first_kinds
kinds_more kind n at conditions table rows old mid new r q e s t =
    let before : List Arrow = first_kinds kind n conditions table in
    let here : List Arrow = kind_arrows kind n (row rows) in
    subst (λ (v : List ℕ). Spliced v at old new q)
    (sym (spelt_append before here)
    ∙ ap (λ (l : List ℕ). spelt (before ++ kind_arrows kind n (row l))) e
    ∙ ap (λ (m : ℕ). spelt (first_kinds m n conditions table)) (sym (add-one kind)))
    (spliced_then (spelt before) (spelt here) at old mid new r q s t)

-- no kind
pub kinds_none : (n at : ℕ) (conditions table room : List ℕ) → Spliced (spelt (first_kinds 0 n conditions table)) at room room at
unfolding first_kinds spelt
kinds_none n at conditions table room = record { next = omega arith; stored = refl }

pub kinds_most : (kinds n : ℕ) (conditions table : List ℕ) → n ≤ 64 → count_kinds kinds n conditions table ≤ kinds * 4096
unfolding count_kinds
kinds_most zero n conditions table h = omega arith
kinds_most (suc kind) n conditions table h =
    let before : count_kinds kind n conditions table ≤ kind * 4096 = kinds_most kind n conditions table h in
    let here : count_of n (row (from_rows conditions table kind)) ≤ 64 * n = count_most n (row (from_rows conditions table kind)) in
    omega arith

pub kinds_mono : (kinds n : ℕ) (conditions table : List ℕ) → kinds < 4
    → count_kinds (kinds + 1) n conditions table ≤ count_kinds 4 n conditions table
unfolding count_kinds
kinds_mono zero n conditions table h = omega arith
kinds_mono (suc zero) n conditions table h = omega arith
kinds_mono (suc (suc zero)) n conditions table h = omega arith
kinds_mono (suc (suc (suc zero))) n conditions table h = omega arith
kinds_mono (suc (suc (suc (suc k)))) n conditions table h = absurd (let z : ⊥ = omega arith in z)

-- all four, with the conditions turned
module _ (n : ℕ) (conditions table : List ℕ) (k : Kept n table) (e : conditions ≡ turned_in n table) where
  pub length_from : length table ≡ 256 → (kind : ℕ) → kind < 4 → length (from_rows conditions table kind) ≡ 64
  unfolding from_rows
  length_from l zero h = ap length e ∙ length_turned n (row (kind_rows table 0))
  length_from l (suc kind) h = rows_at (suc kind * 64) 64 table (omega arith)

  pub body_kinds : spelt (first_kinds 4 n conditions table) ≡ arrows_body table
  body_kinds = ap (λ (t : List ℕ). spelt (first_kinds 4 n t table)) e ∙ ap spelt (sym (by_kind n table k))

  pub length_body : length (arrows_body table) ≡ 3 * count_kinds 4 n conditions table
  length_body = ap length (sym body_kinds) ∙ length_kinds 4 n conditions table

  -- the room that the body takes has room for the next kind
  pub kinds_room : (kind at : ℕ) (old mid : List ℕ) (r : ℕ) → kind < 4 → Spliced (spelt (first_kinds kind n conditions table)) at old mid r
      → r + 3 * count_of n (row (from_rows conditions table kind)) ≤ at + length (arrows_body table)
  kinds_room kind at old mid r h s =
      let here : count_kinds (kind + 1) n conditions table
      ≡ count_kinds kind n conditions table + count_of n (row (from_rows conditions table kind)) = kinds_count kind n conditions table in
      let all : count_kinds (kind + 1) n conditions table ≤ count_kinds 4 n conditions table = kinds_mono kind n conditions table h in
      let gone : length (spelt (first_kinds kind n conditions table)) ≡ 3 * count_kinds kind n conditions table =
      length_kinds kind n conditions table in
      let body : length (arrows_body table) ≡ 3 * count_kinds 4 n conditions table = length_body in
      let next : r ≡ at + length (spelt (first_kinds kind n conditions table)) = s.next in
      omega arith

  pub body_most : length (arrows_body table) ≤ 49152
  body_most =
      let l : length (arrows_body table) ≡ 3 * count_kinds 4 n conditions table = length_body in
      let most : count_kinds 4 n conditions table ≤ 4 * 4096 = kinds_most 4 n conditions table k.few in
      omega arith

-- ---- turning

put_all_append : (t : List ℕ) (l m : List Arrow) → put_all (put_all t l) m ≡ put_all t (l ++ m)
unfolding put_all
put_all_append t [] m = refl
put_all_append t (x ∷ rest) m = put_all_append (put t x) rest m

-- a row of which these steps are left to put: put into the table as it stands, they give what the whole row gives
abbrev pub SpillLeft : ℕ → ℕ → List ℕ → List ℕ → List ℕ → Type 0
SpillLeft x b old steps table = put_all old (row_arrows 0 b x) ≡ put_all table (map (toward 0 b) steps)

pub spill_next : {a : ℕ} {steps more : List ℕ} (x b : ℕ) (old table : List ℕ) → SpillLeft x b old steps table → steps ≡ a ∷ more
    → SpillLeft x b old more (set table a (union (row table a) (single b)))
unfolding put_all put
spill_next x b old table l e = l ∙ ap (λ (m : List ℕ). put_all table (map (toward 0 b) m)) e

pub spill_done : {steps : List ℕ} (x b : ℕ) (old table : List ℕ) → SpillLeft x b old steps table → steps ≡ []
    → table ≡ put_all old (row_arrows 0 b x)
unfolding put_all
spill_done x b old table l e = sym (l ∙ ap (λ (m : List ℕ). put_all table (map (toward 0 b) m)) e)

pub turn_more : (t : List ℕ) (b : ℕ) (rows : ℕ → ℕ)
    → put_all (put_all t (kind_arrows 0 b rows)) (row_arrows 0 b (rows b)) ≡ put_all t (kind_arrows 0 (b + 1) rows)
unfolding kind_arrows
turn_more t b rows = put_all_append t (kind_arrows 0 b rows) (row_arrows 0 b (rows b))
    ∙ ap (λ (n : ℕ). put_all t (kind_arrows 0 n rows)) (sym (add-one b))
