-- Runs of arrows of one kind that come from one step. An arrow with the head of the first passes as the first did, so one law carries a
-- run of any kind an arrow further; the kinds differ only in the row where the arrow is put. Assumes nothing.
use Rattle.std.specs.Prelude.{ℕ, ◌+◌, ◌*◌, ◌%◌, ◌≤◌, ◌<◌, ◌≡◌, refl, List, Bool, true, false, ◌&&◌, ◌||◌, length, get_or, set, drop, eqb, ltb, leb}
use Rattle.std.proofs.Common.{sym, ap, ap₂, ◌∙◌, arith, get_or-set_same, set-set, leb-true, ltb-true, le-leb, lt-ltb, eqb-true}
use Rattle.std.proofs.Math.Decide.{dec_lt}
use Rattle.std.proofs.Math.Seq.{set_out}
use Rattle.sets.specs.Sets.{has, single, union}
use Rattle.sets.specs.Truth.{and_left, and_right, and_intro}
use Rattle.sets.specs.Laws.{ext, has_union}
use Rattle.tables.specs.Tables.{row}
use Rattle.numbers.specs.Numbers.{number, Bytes}
use Rattle.numbers.specs.Laws.{number_two}
use Rattle.std.specs.Prelude.{Option, MatchOption, Some}
use Rattle.arrows.specs.declared.runs.Run.{Run}
use Rattle.arrows.specs.Arrows.{Arrow, place, put}
use Rattle.arrows.specs.Table.{row_condition, row_other, column_condition, column_other}
use Rattle.arrows.specs.Loops.{passes, arrow_in, Goes, goes_start, goes_then, goes_more, Reading}

-- the arrow at i begins with the bytes of the head, and points at a step below n that is not below `least`
abbrev pub goes_on : List ℕ → ℕ → ℕ → ℕ → ℕ → Bool
goes_on s i head n least = ltb i (length s) && (eqb (number 2 (drop i s)) head && leb least (get_or s (i + 2) 0) && ltb (get_or s (i + 2) 0) n)

-- a run one arrow further, with the step that the arrow points at; or the run as it was, where it does not go on
abbrev pub Advances : Run → Option ℕ → Run → Type 0
Advances r b t = MatchOption b ((goes_on r.s.now r.at r.head r.n r.least ≡ false) × (t ≡ r)) (λ x.
    (goes_on r.s.now r.at r.head r.n r.least ≡ true)
    × (x ≡ get_or r.s.now (r.at + 2) 0)
    × (t ≡ record { s = r.s; n = r.n; head = r.head; at = r.at + 3; least = x + 1 }))

-- the row of an arrow that is no condition
abbrev pub source_row : Arrow → ℕ
source_row x = x.kind * 64 + x.from

-- the table with the steps in one row more
abbrev pub pointed : List ℕ → ℕ → ℕ → List ℕ
pointed table i steps = set table i (union (row table i) steps)

union_assoc : (a b c : ℕ) → union (union a b) c ≡ union a (union b c)
union_assoc a b c =
    ext (union (union a b) c) (union a (union b c))
    (λ s.
    has_union (union a b) c s
    ∙ ap (λ (p : Bool). p || has c s) (has_union a b s)
    ∙ or_assoc (has a s) (has b s) (has c s)
    ∙ sym (has_union a (union b c) s ∙ ap (λ (p : Bool). has a s || p) (has_union b c s)))
  where
    or_assoc : (p q r : Bool) → ((p || q) || r) ≡ (p || (q || r))
    or_assoc true q r = refl
    or_assoc false q r = refl

-- ---- a run

-- a run begins at byte `at` of a body of whole arrows: an arrow stands there, of one of the four kinds, that links two of the n steps
pub record Begins (n : ℕ) (s : List ℕ) (at : ℕ) : Type 0 where
  pub few : n ≤ 64
  pub whole : length s % 3 ≡ 0
  pub starts : at % 3 ≡ 0
  pub inside : at < length s
  pub kind_in : (arrow_in s at).kind ≤ 3
  pub from_in : (arrow_in s at).from < n
  pub to_in : (arrow_in s at).to < n

-- at byte i an arrow of the body ends, the one at `at` or one behind it
pub record Reached (s : List ℕ) (at i : ℕ) : Type 0 where
  pub further : at + 3 ≤ i
  pub within : i ≤ length s
  pub ends : i % 3 ≡ 0

-- the table as it stands at byte i has the arrow at `at` and those after it, up to i; what is left has places from `next` on
abbrev pub Puts : ℕ → List ℕ → ℕ → List ℕ → ℕ → ℕ → List ℕ → Type 0
Puts n s at old next i table = Goes n s (place (arrow_in s at) + 1) (at + 3) (put old (arrow_in s at)) next i table

-- a run that stops at byte i, put into the table
pub record Taken (n : ℕ) (s : List ℕ) (at : ℕ) (old : List ℕ) (i next : ℕ) (table : List ℕ) : Type 0 where
  pub reached : Reached s at i
  pub puts : Puts n s at old next i table

-- the same, not put yet: its arrows are the steps of one row, whatever the table
pub record Collected (n : ℕ) (s : List ℕ) (at i next steps : ℕ) : Type 0 where
  pub reached : Reached s at i
  pub puts : (old : List ℕ) → Puts n s at old next i (pointed old (source_row (arrow_in s at)) steps)

-- an arrow that passes begins a run
pub begins : (n next : ℕ) (s : List ℕ) (at : ℕ) → n ≤ 64 → length s % 3 ≡ 0 → at % 3 ≡ 0 → at < length s
    → passes n next (arrow_in s at) ≡ true → Begins n s at
begins n next s at few whole starts inside e =
    let k : Bool = leb (get_or s at 0) 3 in
    let a : Bool = ltb (get_or s (at + 1) 0) n in
    let b : Bool = ltb (get_or s (at + 2) 0) n in
    let all : (k && a && b) ≡ true = and_left (k && a && b) (leb next (place (arrow_in s at))) e in
    let two : (k && a) ≡ true = and_left (k && a) b all in
    record {
      few = few;
      whole = whole;
      starts = starts;
      inside = inside;
      kind_in = leb-true (get_or s at 0) 3 (and_left k a two);
      from_in = ltb-true (get_or s (at + 1) 0) n (and_right k a two);
      to_in = ltb-true (get_or s (at + 2) 0) n (and_right (k && a) b all);
    }

-- a run that is collected is taken once its steps stand in their row
pub collected_taken : {n : ℕ} {s : List ℕ} {at i next steps : ℕ} {table : List ℕ} (old : List ℕ) → Collected n s at i next steps
    → table ≡ pointed old (source_row (arrow_in s at)) steps → Taken n s at old i next table
collected_taken old c e = record { reached = c.reached; puts = rw e (c.puts old) }

-- an arrow that passes, taken with the run that it begins, leaves what is behind the run to read
pub reading_run : {n : ℕ} {s start : List ℕ} {next i : ℕ} {table : List ℕ} {j least : ℕ} {new : List ℕ} → Reading n s start next i table
    → Taken n s i table j least new → i + 2 < length s → passes n next (arrow_in s i) ≡ true → Reading n s start least j new
reading_run {n} {s} {start} {next} {i} {table} r t room e =
    goes_then n s _ _ _ _ _ _ _ _ _ r (goes_then n s _ _ _ _ _ _ _ _ _ (goes_more n s next i table room e) t.puts)

-- ---- one arrow more of a run

-- the run goes on at byte i: a whole arrow stands there with the head of the first, toward a step that is not below `least`
pub record On (n : ℕ) (s : List ℕ) (at i least : ℕ) : Type 0 where
  pub room : i + 2 < length s
  pub kinds : get_or s i 0 ≡ get_or s at 0
  pub froms : get_or s (i + 1) 0 ≡ get_or s (at + 1) 0
  pub low : least ≤ get_or s (i + 2) 0
  pub to_in : get_or s (i + 2) 0 < n

-- r is the run that began at `at`, read up to where it stands
pub record Under (n : ℕ) (s : List ℕ) (at : ℕ) (r : Run) : Type 0 where
  pub text : r.s.now ≡ s
  pub steps : r.n ≡ n
  pub heads : r.head ≡ number 2 (drop at s)
  pub reached : Reached s at r.at
  pub few : r.least ≤ 64

-- the least place that an arrow of the run can have
abbrev pub base : List ℕ → ℕ → ℕ
base s at = get_or s at 0 * 4096 + get_or s (at + 1) 0 * 64

module _ (n : ℕ) (s : List ℕ) (at : ℕ) (b : Begins n s at) where
  pub on : (head i least : ℕ) → Bytes s → head ≡ number 2 (drop at s) → Reached s at i → goes_on s i head n least ≡ true → On n s at i least
  on head i least bytes same r g =
      let p : Bool = ltb i (length s) in
      let q : Bool = eqb (number 2 (drop i s)) head in
      let l : Bool = leb least (get_or s (i + 2) 0) in
      let t : Bool = ltb (get_or s (i + 2) 0) n in
      let all : (q && l && t) ≡ true = and_right p (q && l && t) g in
      let two : (q && l) ≡ true = and_left (q && l) t all in
      let inside : i < length s = ltb-true i (length s) (and_left p (q && l && t) g) in
      let heads : get_or s i 0 + 256 * get_or s (i + 1) 0 ≡ get_or s at 0 + 256 * get_or s (at + 1) 0 =
      sym (number_two i s) ∙ eqb-true (number 2 (drop i s)) head (and_left q l two) ∙ same ∙ number_two at s in
      let here : get_or s i 0 < 256 = bytes i in
      let first : get_or s at 0 < 256 = bytes at in
      record {
        room = omega arith;
        kinds = omega arith;
        froms = omega arith;
        low = leb-true least (get_or s (i + 2) 0) (and_right q l two);
        to_in = ltb-true (get_or s (i + 2) 0) n (and_right (q && l) t all);
      }

  -- a run on its way goes on with the step that it gives
  pub under_on : (r t : Run) (x : ℕ) → Bytes s → Under n s at r → Advances r (Some x) t → On n s at r.at r.least
  under_on r t x bytes u a = on r.head r.at r.least bytes u.heads u.reached (rw (← u.text, ← u.steps) a.0)

  pub under_more : (r t : Run) (x : ℕ) → Bytes s → Under n s at r → Advances r (Some x) t → Under n s at t
  under_more r t x bytes u a =
      let o : On n s at r.at r.least = under_on r t x bytes u a in
      let few = b.few in
      let reached = u.reached in
      let step : x ≡ get_or s (r.at + 2) 0 = rw (← u.text) a.1 in
      rw a.2 (
      record {
        text = u.text;
        steps = u.steps;
        heads = u.heads;
        reached = record { further = omega arith; within = omega arith; ends = omega arith };
        few = omega arith;
      }
      )

  -- the first arrow of a run, put
  pub puts_first : (old table : List ℕ) → put old (arrow_in s at) ≡ table
      → Puts n s at old (base s at + (get_or s (at + 2) 0 + 1)) (at + 3) table
  puts_first old table e =
      let next : place (arrow_in s at) + 1 ≡ base s at + (get_or s (at + 2) 0 + 1) = omega arith in
      rw (← next, ← e) (goes_start n s (place (arrow_in s at) + 1) (at + 3) (put old (arrow_in s at)))

  -- one more: it passes, since its head is that of the first
  pub puts_more : (old : List ℕ) (i least : ℕ) (table new : List ℕ) → On n s at i least → put table (arrow_in s i) ≡ new
      → Puts n s at old (base s at + least) i table → Puts n s at old (base s at + (get_or s (i + 2) 0 + 1)) (i + 3) new
  puts_more old i least table new o e g =
      let next : place (arrow_in s i) + 1 ≡ base s at + (get_or s (i + 2) 0 + 1) = omega arith in
      rw (← next, ← e) (goes_then n s _ _ _ _ _ _ _ _ _ g (goes_more n s (base s at + least) i table o.room pass))
    where
      pass : passes n (base s at + least) (arrow_in s i) ≡ true
      pass =
          and_intro
          (and_intro (and_intro (le-leb (get_or s i 0) 3 (omega arith)) (lt-ltb (get_or s (i + 1) 0) n (omega arith)))
          (lt-ltb (get_or s (i + 2) 0) n o.to_in))
          (le-leb (base s at + least) (place (arrow_in s i)) (omega arith))

-- ---- conditions: each stands in the row of the step that waits

wait_put : (table : List ℕ) (x : Arrow) → x.kind ≡ 0 → put table x ≡ pointed table x.to (single x.from)
unfolding put
wait_put table x e = ap₂ (λ (i c : ℕ). pointed table i (single c)) (row_condition x e) (column_condition x e)

module _ (n : ℕ) (s : List ℕ) (at : ℕ) (b : Begins n s at) (e : (arrow_in s at).kind ≡ 0) (one : ℕ) (f : one ≡ single (get_or s (at + 1) 0))
    (old : List ℕ) where
  pub wait_first : (table : List ℕ) → table ≡ pointed old (get_or s (at + 2) 0) one
      → Puts n s at old (base s at + (get_or s (at + 2) 0 + 1)) (at + 3) table
  wait_first table g =
      puts_first n s at b old table (wait_put old (arrow_in s at) e ∙ ap (pointed old (get_or s (at + 2) 0)) (sym f) ∙ sym g)

  pub wait_more : (i least : ℕ) (table new : List ℕ) → On n s at i least → new ≡ pointed table (get_or s (i + 2) 0) one
      → Puts n s at old (base s at + least) i table → Puts n s at old (base s at + (get_or s (i + 2) 0 + 1)) (i + 3) new
  wait_more i least table new o g =
      puts_more n s at b old i least table new o
      (wait_put table (arrow_in s i) (o.kinds ∙ e) ∙ ap (pointed table (get_or s (i + 2) 0)) (ap single o.froms ∙ sym f) ∙ sym g)

  -- the same of a run on its way
  pub wait_onward : (r t : Run) (x : ℕ) (table new : List ℕ) → Bytes s → Under n s at r → Advances r (Some x) t → new ≡ pointed table x one
      → Puts n s at old (base s at + r.least) r.at table → Puts n s at old (base s at + t.least) t.at new
  wait_onward r t x table new bytes u a g =
      let o : On n s at r.at r.least = under_on n s at b r t x bytes u a in
      let step : x ≡ get_or s (r.at + 2) 0 = rw (← u.text) a.1 in
      rw (a.2, step) (wait_more r.at r.least table new o (g ∙ ap (λ (y : ℕ). pointed table y one) step))

-- ---- the other kinds: all of a run stand in one row

point_put : (table : List ℕ) (x : Arrow) → 0 < x.kind → put table x ≡ pointed table (source_row x) (single x.to)
unfolding put
point_put table x e =
    let some : x.kind ≡ 0 → ⊥ = λ z. let w : ⊥ = omega arith in w in
    ap₂ (λ (i c : ℕ). pointed table i (single c)) (row_other x some) (column_other x some)

point_twice : (table : List ℕ) (i a b : ℕ) → pointed (pointed table i a) i b ≡ pointed table i (union a b)
point_twice table i a b = go (dec_lt i (length table))
  where
    go : Dec (i < length table) → pointed (pointed table i a) i b ≡ pointed table i (union a b)
    go (yes h) =
        set-set table i (union (row table i) a) (union (row (pointed table i a) i) b)
        ∙ ap (λ (y : ℕ). set table i (union y b)) (get_or-set_same table i (union (row table i) a) 0 h)
        ∙ ap (set table i) (union_assoc (row table i) a b)
    go (no h) =
        set-set table i (union (row table i) a) (union (row (pointed table i a) i) b)
        ∙ set_out table i (union (row (pointed table i a) i) b) (omega arith)
        ∙ sym (set_out table i (union (row table i) (union a b)) (omega arith))

module _ (n : ℕ) (s : List ℕ) (at : ℕ) (b : Begins n s at) (e : 0 < (arrow_in s at).kind) (old : List ℕ) where
  abbrev gathered : ℕ → List ℕ
  gathered steps = pointed old (source_row (arrow_in s at)) steps

  pub point_first : Puts n s at old (base s at + (get_or s (at + 2) 0 + 1)) (at + 3) (gathered (single (get_or s (at + 2) 0)))
  point_first = puts_first n s at b old _ (point_put old (arrow_in s at) e)

  pub point_more : (i least steps : ℕ) → On n s at i least → Puts n s at old (base s at + least) i (gathered steps)
      → Puts n s at old (base s at + (get_or s (i + 2) 0 + 1)) (i + 3) (gathered (union steps (single (get_or s (i + 2) 0))))
  point_more i least steps o =
      let some : 0 < get_or s i 0 = omega arith in
      let one : source_row (arrow_in s i) ≡ source_row (arrow_in s at) = omega arith in
      puts_more n s at b old i least (gathered steps) _ o
      (point_put (gathered steps) (arrow_in s i) some
      ∙ ap (λ (j : ℕ). pointed (gathered steps) j (single (get_or s (i + 2) 0))) one
      ∙ point_twice old (source_row (arrow_in s at)) steps (single (get_or s (i + 2) 0)))

  -- the same of a run on its way
  pub point_onward : (r t : Run) (x steps : ℕ) → Bytes s → Under n s at r → Advances r (Some x) t
      → Puts n s at old (base s at + r.least) r.at (gathered steps)
      → Puts n s at old (base s at + t.least) t.at (gathered (union steps (single x)))
  point_onward r t x steps bytes u a =
      let o : On n s at r.at r.least = under_on n s at b r t x bytes u a in
      let step : x ≡ get_or s (r.at + 2) 0 = rw (← u.text) a.1 in
      rw (a.2, step) (point_more r.at r.least steps o)
