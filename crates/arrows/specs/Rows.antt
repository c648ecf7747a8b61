-- The arrows of a table row by row, as the writer goes: a kind, then a step that arrows come from, then the steps of its row, the lowest
-- first. Conditions stand with the step that waits, so their table is turned first. Assumes nothing.
use Prim.Native.Nat.{ℕ, zero, suc, ◌+◌, ◌-◌, ◌*◌, ◌/◌, ◌%◌, ◌^◌, ◌≤◌, ◌<◌}
use Rattle.std.specs.Prelude.{◌≡◌, refl, Bool, true, false, length, replicate, eqb}
use Rattle.std.proofs.Math.Path.{sym, ap, ap₂}
use Rattle.std.proofs.Common.{◌∙◌, subst, zero-add, zero-mul, suc-mul, not-suc-le-zero, le_of_eq, length-append, lit<}
use mathlib.Core.List.{List, [], ◌∷◌, ◌++◌, map, append-nil}
use Rattle.std.proofs.Math.Nat.{two-pow-succ}
use native.Mathlib.Omega.{arith}
use Rattle.std.proofs.Math.Decide.{dec_lt}
use Rattle.std.proofs.lemmas.List.{length-map}
use Rattle.std.proofs.Math.ListN.{get_or-eq_default}
use Rattle.std.specs.Int.Count.{ones, ones_step}
use Rattle.sets.specs.Sets.{has}
pub use Rattle.sets.specs.Sets.{members}
pub use Rattle.sets.specs.Members.{members_none, members_more}
use Rattle.sets.specs.Laws.{has_zero, has_above, ext, has_half, has_low}
use Rattle.tables.specs.Tables.{row, table_at, keeps}
use Rattle.tables.specs.Laws.{row_at_lem, keeps_row, keeps_gone}
use Rattle.arrows.specs.Arrows.{Arrow, put_all, held, place, arrow_at, listed, kept_if, arrows_of}
use Rattle.arrows.specs.Lists.{member, listed_add, member_listed}
use Rattle.arrows.specs.Places.{place_arrow_at}
use Rattle.arrows.specs.Table.{AllIn, held_filled, rows_filled, length_filled, row_other, column_other}

-- ---- how many steps a set has

listed_shift : (k s : ℕ) (f g : ℕ → Bool) → ((p : ℕ) → f (suc p) ≡ g p) → length (listed k (suc s) f) ≡ length (listed k s g)
unfolding listed
listed_shift zero s f g same = refl
listed_shift (suc k) s f g same =
    ap (λ (b : Bool). length (kept_if b (suc s) (listed k (suc (suc s)) f))) (same s) ∙ go (g s) (listed_shift k (suc s) f g same)
  where
    go : (b : Bool) → length (listed k (suc (suc s)) f) ≡ length (listed k (suc s) g)
        → length (kept_if b (suc s) (listed k (suc (suc s)) f)) ≡ length (kept_if b s (listed k (suc s) g))
    go true e = ap suc e
    go false e = e

count_digits : (k x : ℕ) → x < 2 ^ k → length (listed k 0 (has x)) ≡ ones x
unfolding listed ones
count_digits zero x small = sym (ap ones (let z : x ≡ 0 = omega arith in z))
count_digits (suc k) x small =
    ap (λ (b : Bool). length (kept_if b 0 (listed k 1 (has x)))) (has_low x (x % 2) refl)
    ∙ go (x % 2) refl
    ∙ ap (λ (y : ℕ). x % 2 + y)
    (listed_shift k 0 (has x) (has (x / 2)) (has_half x)
    ∙ count_digits k (x / 2) (let p : 2 ^ suc k ≡ 2 ^ k + 2 ^ k = two-pow-succ k in omega arith))
    ∙ sym (ones_step x)
  where
    go : (d : ℕ) → x % 2 ≡ d → length (kept_if (eqb d 1) 0 (listed k 1 (has x))) ≡ d + length (listed k 1 (has x))
    go zero e = omega arith
    go (suc zero) e = omega arith
    go (suc (suc d)) e = absurd (let z : ⊥ = omega arith in z)

-- as many as the machine counts digits that are set
pub members_count : (x : ℕ) → x < 2 ^ 64 → length (members x) ≡ ones x
members_count = count_digits 64

-- ---- the arrows of a kind that come from a step

abbrev pub toward : ℕ → ℕ → ℕ → Arrow
toward kind from to = record { kind = kind; from = from; to = to }

abbrev pub row_arrows : ℕ → ℕ → ℕ → List Arrow
row_arrows kind from x = map (toward kind from) (members x)

-- those that come from the first n steps
unfoldable pub kind_arrows : ℕ → ℕ → (ℕ → ℕ) → List Arrow
kind_arrows kind zero rows = []
kind_arrows kind (suc a) rows = kind_arrows kind a rows ++ row_arrows kind a (rows a)

unfoldable pub count_of : ℕ → (ℕ → ℕ) → ℕ
count_of zero rows = 0
count_of (suc a) rows = count_of a rows + length (members (rows a))

pub count_arrows : (kind n : ℕ) (rows : ℕ → ℕ) → length (kind_arrows kind n rows) ≡ count_of n rows
unfolding kind_arrows count_of
count_arrows kind zero rows = refl
count_arrows kind (suc a) rows =
    length-append (kind_arrows kind a rows) (row_arrows kind a (rows a))
    ∙ ap₂ (λ (x y : ℕ). x + y) (count_arrows kind a rows) (length-map (members (rows a)) (toward kind a))

pub count_mono : (a n : ℕ) (rows : ℕ → ℕ) → a < n → count_of (a + 1) rows ≤ count_of n rows
unfolding count_of
count_mono a zero rows h = absurd (not-suc-le-zero h)
count_mono a (suc n) rows h = go (dec_lt a n) (count_mono a n rows)
  where
    go : Dec (a < n) → (a < n → count_of (a + 1) rows ≤ count_of n rows) → count_of (a + 1) rows ≤ count_of n rows + length (members (rows n))
    go (yes l) rest = let r : count_of (a + 1) rows ≤ count_of n rows = rest l in omega arith
    go (no l) rest = le_of_eq (ap (λ (k : ℕ). count_of k rows) (let z : a + 1 ≡ suc n = omega arith in z))

-- ---- the table's list in these terms

map_append : {A B : Type 0} (f : A → B) (l m : List A) → map f (l ++ m) ≡ map f l ++ map f m
map_append f [] m = refl
map_append f (x ∷ rest) m = ap (λ (r : List _). f x ∷ r) (map_append f rest m)

at_place : (kind a b : ℕ) → a < 64 → b < 64 → arrow_at (kind * 4096 + a * 64 + b) ≡ toward kind a b
at_place kind a b k l =
    let u : (kind * 4096 + a * 64 + b) / 4096 ≡ kind = omega arith in
    let v : (kind * 4096 + a * 64 + b) / 64 % 64 ≡ a = omega arith in
    let w : (kind * 4096 + a * 64 + b) % 64 ≡ b = omega arith in
    λ j. record { kind = u j; from = v j; to = w j }

row_listed : (j kind a b x : ℕ) (f : ℕ → Bool) → a < 64 → b + j ≤ 64
    → ((c : ℕ) → c < 64 → f (kind * 4096 + a * 64 + c) ≡ has x c)
    → map arrow_at (listed j (kind * 4096 + a * 64 + b) f) ≡ map (toward kind a) (listed j b (has x))
unfolding listed
row_listed zero kind a b x f h l same = refl
row_listed (suc j) kind a b x f h l same =
    ap (λ (c : Bool). map arrow_at (kept_if c (base + b) (listed j (suc (base + b)) f))) (same b (omega arith))
    ∙ go (has x b)
    (ap (λ (s : ℕ). map arrow_at (listed j s f)) (let z : suc (base + b) ≡ base + suc b = omega arith in z)
    ∙ row_listed j kind a (suc b) x f h (omega arith) same)
  where
    base : ℕ
    base = kind * 4096 + a * 64

    go : (c : Bool) → map arrow_at (listed j (suc (base + b)) f) ≡ map (toward kind a) (listed j (suc b) (has x))
        → map arrow_at (kept_if c (base + b) (listed j (suc (base + b)) f)) ≡ map (toward kind a) (kept_if c b (listed j (suc b) (has x)))
    go true e = ap₂ (λ (y : Arrow) (m : List Arrow). y ∷ m) (at_place kind a b h (omega arith)) e
    go false e = e

pub block_listed : (kind n : ℕ) (rows : ℕ → ℕ) (f : ℕ → Bool) → n ≤ 64
    → ((a b : ℕ) → a < 64 → b < 64 → f (kind * 4096 + a * 64 + b) ≡ has (rows a) b)
    → map arrow_at (listed (n * 64) (kind * 4096) f) ≡ kind_arrows kind n rows
unfolding listed kind_arrows
block_listed kind zero rows f h same = ap (λ (k : ℕ). map arrow_at (listed k (kind * 4096) f)) (zero-mul 64)
block_listed kind (suc a) rows f h same =
    ap (λ (k : ℕ). map arrow_at (listed k (kind * 4096) f)) (suc-mul a 64)
    ∙ ap (map arrow_at) (listed_add (a * 64) 64 (kind * 4096) f)
    ∙ map_append arrow_at (listed (a * 64) (kind * 4096) f) (listed 64 (kind * 4096 + a * 64) f)
    ∙ ap₂ (λ (l m : List Arrow). l ++ m) (block_listed kind a rows f (omega arith) same)
    (ap (λ (s : ℕ). map arrow_at (listed 64 s f)) (let z : kind * 4096 + a * 64 ≡ kind * 4096 + a * 64 + 0 = omega arith in z)
    ∙ row_listed 64 kind a 0 (rows a) f (omega arith) (omega arith) (λ c i. same a c (omega arith) i))

-- steps that no arrow comes from add none
pub kind_short : (kind n d : ℕ) (rows : ℕ → ℕ) → ((a : ℕ) → n ≤ a → rows a ≡ 0) → kind_arrows kind (d + n) rows ≡ kind_arrows kind n rows
unfolding kind_arrows
kind_short kind n zero rows none = ap (λ (k : ℕ). kind_arrows kind k rows) (let z : 0 + n ≡ n = omega arith in z)
kind_short kind n (suc d) rows none =
    ap (λ (k : ℕ). kind_arrows kind k rows) (let z : suc d + n ≡ suc (d + n) = omega arith in z)
    ∙ ap₂ (λ (l m : List Arrow). l ++ m) (kind_short kind n d rows none)
    (ap (row_arrows kind (d + n)) (none (d + n) (omega arith)) ∙ ap (map (toward kind (d + n))) members_none)
    ∙ append-nil (kind_arrows kind n rows)

-- ---- the table of conditions, turned: row a holds the steps that wait for a

-- the rows taken for arrows that come from the step of the row, and put where a condition stands
unfoldable pub turned : ℕ → (ℕ → ℕ) → List ℕ
turned n rows = put_all (replicate 64 0) (kind_arrows 0 n rows)

all_append : (m : ℕ) (k l : List Arrow) → AllIn m k → AllIn m l → AllIn m (k ++ l)
all_append m [] l a b = b
all_append m (x ∷ rest) l a b = (a.0, a.1, all_append m rest l a.2 b)

all_row : (j b a x : ℕ) → a < 64 → b + j ≤ 64 → AllIn 64 (map (toward 0 a) (listed j b (has x)))
unfolding listed
all_row zero b a x h l = tt
all_row (suc j) b a x h l = go (has x b) (all_row j (suc b) a x h (omega arith))
  where
    go : (c : Bool) → AllIn 64 (map (toward 0 a) (listed j (suc b) (has x)))
        → AllIn 64 (map (toward 0 a) (kept_if c b (listed j (suc b) (has x))))
    go true e = (record { kind_in = lit< tt; from_in = h; to_in = omega arith }, let z : b < 64 = omega arith in z, e)
    go false e = e

all_kind : (n : ℕ) (rows : ℕ → ℕ) → n ≤ 64 → AllIn 64 (kind_arrows 0 n rows)
unfolding kind_arrows
all_kind zero rows h = tt
all_kind (suc a) rows h =
    all_append 64 (kind_arrows 0 a rows) (row_arrows 0 a (rows a)) (all_kind a rows (omega arith))
    (all_row 64 0 a (rows a) (omega arith) (omega arith))

pub turned_rows : (n : ℕ) (rows : ℕ → ℕ) → n ≤ 64 → (i : ℕ) → row (turned n rows) i < 2 ^ 64
unfolding turned
turned_rows n rows h = rows_filled 64 (kind_arrows 0 n rows) (all_kind n rows h)

map_place : (l : List ℕ) → map place (map arrow_at l) ≡ l
map_place [] = refl
map_place (p ∷ rest) = ap₂ (λ (a : ℕ) (b : List ℕ). a ∷ b) (place_arrow_at p) (map_place rest)

-- all 64 steps, where none comes after the n
pub kind_whole : (kind n : ℕ) (rows : ℕ → ℕ) → n ≤ 64 → ((a : ℕ) → n ≤ a → rows a ≡ 0) → kind_arrows kind n rows ≡ kind_arrows kind 64 rows
kind_whole kind n rows h none =
    sym (kind_short kind n (64 - n) rows none)
    ∙ ap (λ (k : ℕ). kind_arrows kind k rows) (let z : 64 - n + n ≡ 64 = omega arith in z)

-- b stands in row a of the turned table exactly if a stands in row b
pub turned_has : (n : ℕ) (rows : ℕ → ℕ) (a b : ℕ) → n ≤ 64 → ((i : ℕ) → n ≤ i → rows i ≡ 0) → a < 64 → b < 64
    → has (row (turned n rows) a) b ≡ has (rows b) a
unfolding turned held
turned_has n rows a b h none i j =
    let f : ℕ → Bool = λ p. has (rows (p / 64)) (p % 64) in
    let q : ℕ = place (toward 0 b a) in
    let at : (c e : ℕ) → c < 64 → e < 64 → f (0 * 4096 + c * 64 + e) ≡ has (rows c) e =
    λ c e k l. ap₂ (λ (x y : ℕ). has (rows x) y)
    (let z : (0 * 4096 + c * 64 + e) / 64 ≡ c = omega arith in z)
    (let z : (0 * 4096 + c * 64 + e) % 64 ≡ e = omega arith in z) in
    held_filled 64 (kind_arrows 0 n rows) (all_kind n rows h) (toward 0 b a) (record { kind_in = lit< tt; from_in = j; to_in = i })
    ∙ ap (λ (l : List Arrow). member (map place l) q) (kind_whole 0 n rows h none ∙ sym (block_listed 0 64 rows f (omega arith) at))
    ∙ ap (λ (l : List ℕ). member l q) (map_place (listed 4096 0 f))
    ∙ member_listed 4096 0 f q (omega arith) (omega arith)
    ∙ at b a j i

pub length_turned : (n : ℕ) (rows : ℕ → ℕ) → length (turned n rows) ≡ 64
unfolding turned
length_turned n rows = length_filled 64 (kind_arrows 0 n rows)

pub turned_end : (n : ℕ) (rows : ℕ → ℕ) (a : ℕ) → 64 ≤ a → row (turned n rows) a ≡ 0
turned_end n rows a h = get_or-eq_default (turned n rows) 0 {n = a} (subst (λ (k : ℕ). k ≤ a) (sym (length_turned n rows)) h)

-- nothing waits for a step that there is not
turned_gone : (n : ℕ) (t : List ℕ) → n ≤ 64 → keeps n n t ≡ true → (a : ℕ) → n ≤ a → row (turned n (row t)) a ≡ 0
turned_gone n t h kept a k = ext (row (turned n (row t)) a) 0 (λ b. go b (dec_lt a 64) (dec_lt b 64) ∙ sym (has_zero b))
  where
    go : (b : ℕ) → Dec (a < 64) → Dec (b < 64) → has (row (turned n (row t)) a) b ≡ false
    go b (yes l) (yes m) = turned_has n (row t) a b h (keeps_gone n n t kept) l m ∙ has_above n (row t b) a (keeps_row n n t kept b) k
    go b (yes l) (no m) = has_above 64 (row (turned n (row t)) a) b (turned_rows n (row t) h a) (omega arith)
    go b (no l) m = ap (λ (y : ℕ). has y b) (turned_end n (row t) a (omega arith)) ∙ has_zero b

-- ---- a table kind by kind

-- the rows of a kind
abbrev pub kind_rows : List ℕ → ℕ → List ℕ
kind_rows table kind = table_at (kind * 64) 64 table

-- a table that has arrows between the n steps alone
pub record Kept (n : ℕ) (table : List ℕ) : Type 0 where
  pub few : n ≤ 64
  pub kinds : (kind : ℕ) → kind < 4 → keeps n n (kind_rows table kind) ≡ true

-- its conditions turned
abbrev pub turned_in : ℕ → List ℕ → List ℕ
turned_in n table = turned n (row (kind_rows table 0))

-- the rows of a kind by the step that its arrows come from
unfoldable pub from_rows : List ℕ → List ℕ → ℕ → List ℕ
from_rows conditions table zero = conditions
from_rows conditions table (suc kind) = kind_rows table (suc kind)

-- the arrows of the first kinds, as the writer goes
unfoldable pub first_kinds : ℕ → ℕ → List ℕ → List ℕ → List Arrow
first_kinds zero n conditions table = []
first_kinds (suc kind) n conditions table =
    first_kinds kind n conditions table ++ kind_arrows kind n (row (from_rows conditions table kind))

-- how many they are
unfoldable pub count_kinds : ℕ → ℕ → List ℕ → List ℕ → ℕ
count_kinds zero n conditions table = 0
count_kinds (suc kind) n conditions table = count_kinds kind n conditions table + count_of n (row (from_rows conditions table kind))

pub count_kinds_lem : (kinds n : ℕ) (conditions table : List ℕ)
    → length (first_kinds kinds n conditions table) ≡ count_kinds kinds n conditions table
unfolding first_kinds count_kinds
count_kinds_lem zero n conditions table = refl
count_kinds_lem (suc kind) n conditions table =
    length-append (first_kinds kind n conditions table) (kind_arrows kind n (row (from_rows conditions table kind)))
    ∙ ap₂ (λ (x y : ℕ). x + y) (count_kinds_lem kind n conditions table) (count_arrows kind n (row (from_rows conditions table kind)))

module _ (n : ℕ) (table : List ℕ) (k : Kept n table) where
  -- is the arrow at this place in the table?
  abbrev here : ℕ → Bool
  here p = held (row table) (arrow_at p)

  abbrev rows_from : ℕ → List ℕ
  rows_from kind = from_rows (turned_in n table) table kind

  -- an arrow is in the table exactly if the step that it points at is in the row of the step that it comes from
  from_held : (kind : ℕ) → kind < 4 → (a b : ℕ) → a < 64 → b < 64 → here (kind * 4096 + a * 64 + b) ≡ has (row (rows_from kind) a) b
  unfolding held from_rows
  from_held zero h a b l m =
      ap (held (row table)) (at_place 0 a b l m)
      ∙ ap (λ (y : ℕ). has y a) (sym (row_at_lem 0 64 table b m ∙ ap (row table) (zero-add b)))
      ∙ sym (turned_has n (row (kind_rows table 0)) a b k.few (keeps_gone n n (kind_rows table 0) (k.kinds 0 h)) l m)
  from_held (suc kind) h a b l m =
      let some : suc kind ≡ 0 → ⊥ = λ e. let z : ⊥ = omega arith in z in
      ap (held (row table)) (at_place (suc kind) a b l m)
      ∙ ap₂ (λ (i s : ℕ). has (row table i) s) (row_other (toward (suc kind) a b) some) (column_other (toward (suc kind) a b) some)
      ∙ ap (λ (y : ℕ). has y b) (sym (row_at_lem (suc kind * 64) 64 table a l))

  from_gone : (kind : ℕ) → kind < 4 → (a : ℕ) → n ≤ a → row (rows_from kind) a ≡ 0
  unfolding from_rows
  from_gone zero h = turned_gone n (kind_rows table 0) k.few (k.kinds 0 h)
  from_gone (suc kind) h = keeps_gone n n (kind_rows table (suc kind)) (k.kinds (suc kind) h)

  kinds_listed : (kinds : ℕ) → kinds ≤ 4 → map arrow_at (listed (kinds * 4096) 0 here) ≡ first_kinds kinds n (turned_in n table) table
  unfolding listed first_kinds
  kinds_listed zero h = ap (λ (m : ℕ). map arrow_at (listed m 0 here)) (zero-mul 4096)
  kinds_listed (suc kind) h =
      ap (λ (m : ℕ). map arrow_at (listed m 0 here)) (suc-mul kind 4096)
      ∙ ap (map arrow_at) (listed_add (kind * 4096) 4096 0 here)
      ∙ map_append arrow_at (listed (kind * 4096) 0 here) (listed 4096 (0 + kind * 4096) here)
      ∙ ap₂ (λ (l m : List Arrow). l ++ m) (kinds_listed kind (omega arith))
      (ap (λ (s : ℕ). map arrow_at (listed 4096 s here)) (zero-add (kind * 4096))
      ∙ block_listed kind 64 (row (rows_from kind)) here (omega arith) (from_held kind h)
      ∙ sym (kind_whole kind n (row (rows_from kind)) k.few (from_gone kind h)))

  -- the arrows of a table, as the writer goes
  pub by_kind : arrows_of (row table) ≡ first_kinds 4 n (turned_in n table) table
  unfolding arrows_of
  by_kind = kinds_listed 4 (omega arith)
