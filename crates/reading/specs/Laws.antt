-- What is known of a sheet once a test is passed, and the tables of the block that it is read into. Assumes nothing.
use Rattle.std.specs.Prelude.{ℕ, ◌+◌, ◌*◌, ◌%◌, ◌≤◌, ◌<◌, ◌≡◌, refl, Bool, true, false, ◌&&◌, cond, length, get_or, take, drop, eqb, leb}
use Rattle.std.proofs.Common.{sym, ap, ◌∙◌, subst, arith, take_all, drop-drop, lit<, lit≤, leb-true, eqb-true}
use mathlib.Core.List.{List, [], ◌++◌, tail}
use Rattle.std.proofs.Math.Seq.{take_at, drop_at}
use Rattle.std.proofs.lemmas.Bool.{not-false}
use Rattle.sets.specs.Truth.{and_left, and_right}
use Rattle.moves.specs.First.{first}
use Rattle.moves.specs.Given.{clear_head, clear_tail}
use Rattle.tables.specs.Tables.{table_at}
use Rattle.tables.specs.Laws.{Counted, counts_bound, table_of_table}
use Rattle.arrows.specs.Arrows.{table_of}
use Rattle.arrows.specs.Table.{length_filled}
use Rattle.arrows.specs.Rows.{kind_rows}
use Rattle.layout.specs.Layout.{contents_fit, follows, offset_at, size_at, body_at}
use Rattle.layout.specs.Laws.{body_inside}
use Rattle.layout.specs.Lists.{length_part}
use Rattle.tables.specs.declared.Counts.{Counts as CountsOf}
use Rattle.bodies.specs.Tables.{length_tabled}
use Rattle.bodies.specs.Bodies.{set_at, sets_in, label_at, labels_in}
use Rattle.reading.specs.declared.Form.{Form}
use Rattle.reading.specs.Reading.{six_bodies, five_bodies, is_six, form_of, labels_part, own_steps, labels_match}
use Rattle.reading.specs.Reading.{counts_of, arrows_on, block_read, layout_fits, counts_right, bodies_match, sets_inside, arrows_right}
use Rattle.reading.specs.Reading.{kinds_right, read_lines, read_verdict}
use Rattle.std.specs.Prelude.{Ok}

-- ---- the two forms

-- what the forms have in common
pub record Formed (f : Form) : Type 0 where
  pub some : 5 ≤ f.bodies
  pub few : f.bodies ≤ 6
  pub room : 1 + 5 * f.bodies ≤ f.least
  pub long : 29 ≤ f.least
  pub short : f.most ≤ 37147
  pub three : 3 ≤ f.counts
  pub counted : f.actions < f.counts

formed_by : (b : Bool) → Formed (cond b six_bodies five_bodies)
formed_by true =
    record { some = lit≤ tt; few = lit≤ tt; room = lit≤ tt; long = lit≤ tt; short = lit≤ tt; three = lit≤ tt; counted = lit< tt }
formed_by false =
    record { some = lit≤ tt; few = lit≤ tt; room = lit≤ tt; long = lit≤ tt; short = lit≤ tt; three = lit≤ tt; counted = lit< tt }

pub form_formed : (s : List ℕ) → Formed (form_of s)
unfolding form_of
form_formed s = formed_by (is_six s)

pub form_six : (s : List ℕ) → is_six s ≡ true → form_of s ≡ six_bodies
unfolding form_of
form_six s e = ap (λ (b : Bool). cond b six_bodies five_bodies) e

pub form_five : (s : List ℕ) → is_six s ≡ false → form_of s ≡ five_bodies
unfolding form_of
form_five s e = ap (λ (b : Bool). cond b six_bodies five_bodies) e

-- ---- the tests

-- a sheet whose layout fits: where the bodies lie, and the sizes that are fixed
pub record Placed (s : List ℕ) : Type 0 where
  pub long : (form_of s).least ≤ length s
  pub short : length s ≤ (form_of s).most
  pub fits : contents_fit (form_of s).bodies s ≡ true
  pub inside : (i : ℕ) → i < (form_of s).bodies → offset_at s i + size_at s i ≤ length s
  pub one : size_at s 0 ≡ (form_of s).counts
  pub two : size_at s 1 ≡ 24
  pub five : size_at s 4 % 3 ≡ 0

-- it has more bytes than any contents
pub placed_long : (s : List ℕ) → Placed s → 29 ≤ length s
placed_long s p =
    let long : 29 ≤ (form_of s).least = (form_formed s).long in
    let least : (form_of s).least ≤ length s = p.long in
    omega arith

pub contents_inside : (count : ℕ) (s : List ℕ) → contents_fit count s ≡ true
    → (i : ℕ) → i < count → offset_at s i + size_at s i ≤ length s
contents_inside count s e i h =
    subst (λ (k : ℕ). offset_at s k + size_at s k ≤ length s) (let z : 0 + i ≡ i = omega arith in z)
    (body_inside count 0 (1 + 5 * count) s i (and_right (eqb (get_or s 0 0) count) (follows count 0 (1 + 5 * count) s) e) h)

pub layout_placed : (s : List ℕ) → layout_fits s ≡ true → Placed s
unfolding layout_fits
layout_placed s e =
    let a = leb (form_of s).least (length s) in
    let b = leb (length s) (form_of s).most in
    let c = contents_fit (form_of s).bodies s in
    let d = eqb (size_at s 0) (form_of s).counts in
    let f = eqb (size_at s 1) 24 in
    let g = eqb (size_at s 4 % 3) 0 in
    let e5 : (a && b && c && d && f) ≡ true = and_left (a && b && c && d && f) g e in
    let e4 : (a && b && c && d) ≡ true = and_left (a && b && c && d) f e5 in
    let e3 : (a && b && c) ≡ true = and_left (a && b && c) d e4 in
    let e2 : (a && b) ≡ true = and_left (a && b) c e3 in
    let fit : c ≡ true = and_right (a && b) c e3 in
    record {
      long = leb-true (form_of s).least (length s) (and_left a b e2);
      short = leb-true (length s) (form_of s).most (and_right a b e2);
      fits = fit;
      inside = contents_inside (form_of s).bodies s fit;
      one = eqb-true (size_at s 0) (form_of s).counts (and_right (a && b && c) d e4);
      two = eqb-true (size_at s 1) 24 (and_right (a && b && c && d) f e5);
      five = eqb-true (size_at s 4 % 3) 0 (and_right (a && b && c && d && f) g e);
    }

-- a body is as long as the contents say
pub part_length : (s : List ℕ) → Placed s → (i : ℕ) → i < (form_of s).bodies → length (body_at s i) ≡ size_at s i
part_length s p i h = length_part (offset_at s i) (size_at s i) s (p.inside i h)

-- and there to be handed out
pub part_there : (s : List ℕ) → Placed s → (i : ℕ) → i < (form_of s).bodies
    → (6 + 5 * i ≤ length s) × (offset_at s i + size_at s i ≤ length s)
part_there s p i h =
    let f : Formed (form_of s) = form_formed s in
    let long : (form_of s).least ≤ length s = p.long in
    let room : 1 + 5 * (form_of s).bodies ≤ (form_of s).least = f.room in
    (omega arith, p.inside i h)

-- five bodies there are in either form
in_both : (s : List ℕ) (i : ℕ) → i < 5 → i < (form_of s).bodies
in_both s i h = let some : 5 ≤ (form_of s).bodies = (form_formed s).some in omega arith

pub body_length : (s : List ℕ) → Placed s → (i : ℕ) → i < 5 → length (body_at s i) ≡ size_at s i
body_length s p i h = part_length s p i (in_both s i h)

pub body_there : (s : List ℕ) → Placed s → (i : ℕ) → i < 5 → (6 + 5 * i ≤ length s) × (offset_at s i + size_at s i ≤ length s)
body_there s p i h = part_there s p i (in_both s i h)

-- and body 6 in one
pub sixth : (s : List ℕ) → is_six s ≡ true → 5 < (form_of s).bodies
sixth s e = subst (λ (f : Form). 5 < f.bodies) (sym (form_six s e)) (lit< tt)

-- what the last body says, where there is one and where there is none
pub labels_six : (s : List ℕ) → is_six s ≡ true → labels_part s ≡ body_at s 5
unfolding labels_part
labels_six s e = ap (λ (b : Bool). cond b (body_at s 5) []) e

pub labels_five : (s : List ℕ) → is_six s ≡ false → labels_part s ≡ []
unfolding labels_part
labels_five s e = ap (λ (b : Bool). cond b (body_at s 5) []) e

pub own_six : (s : List ℕ) → is_six s ≡ true → own_steps s ≡ 0
unfolding own_steps
own_six s e = ap (λ (b : Bool). cond b 0 (counts_of s).steps) e

pub own_five : (s : List ℕ) → is_six s ≡ false → own_steps s ≡ (counts_of s).steps
unfolding own_steps
own_five s e = ap (λ (b : Bool). cond b 0 (counts_of s).steps) e

pub match_six : (s : List ℕ) → is_six s ≡ true → labels_match s ≡ eqb (size_at s 5) (counts_of s).steps
match_six s e = ap (λ (b : Bool). cond b (eqb (size_at s 5) (counts_of s).steps) true) e

pub match_five : (s : List ℕ) → is_six s ≡ false → labels_match s ≡ true
match_five s e = ap (λ (b : Bool). cond b (eqb (size_at s 5) (counts_of s).steps) true) e

-- with its counts at hand, and these right
pub record Opened (s : List ℕ) (c : CountsOf) : Type 0 where
  pub placed : Placed s
  pub said : c ≡ counts_of s
  pub counted : Counted c.steps c.people c.roles c.actions

-- what is counted of the counts at hand is so of those of the sheet
abbrev pub CountedOf : CountsOf → Type 0
CountedOf c = Counted c.steps c.people c.roles c.actions

pub opened_counted : (s : List ℕ) (c : CountsOf) → Opened s c → CountedOf (counts_of s)
opened_counted s c o = subst CountedOf o.said o.counted

-- bodies 3, 4 and 6 are of the length that the counts ask for
pub record Matched (s : List ℕ) : Type 0 where
  pub actions_match : size_at s 2 ≡ 2 * (counts_of s).actions
  pub people_match : size_at s 3 ≡ 2 * (counts_of s).people
  pub steps_match : is_six s ≡ true → size_at s 5 ≡ (counts_of s).steps

pub bodies_matched : (s : List ℕ) → bodies_match s ≡ true → Matched s
bodies_matched s e =
    let a = eqb (size_at s 2) (2 * (counts_of s).actions) in
    let b = eqb (size_at s 3) (2 * (counts_of s).people) in
    let d = labels_match s in
    let front : (a && b) ≡ true = and_left (a && b) d e in
    record {
      actions_match = eqb-true (size_at s 2) (2 * (counts_of s).actions) (and_left a b front);
      people_match = eqb-true (size_at s 3) (2 * (counts_of s).people) (and_right a b front);
      steps_match = λ six. eqb-true (size_at s 5) (counts_of s).steps (sym (match_six s six) ∙ and_right (a && b) d e);
    }

-- a sheet that nothing is against
pub record Right (s : List ℕ) : Type 0 where
  pub opened : Opened s (counts_of s)
  pub matched : Matched s
  pub sets_in_lem : sets_inside s ≡ true
  pub arrows_in_lem : arrows_right s ≡ true
  pub kinds_in : kinds_right s ≡ true

pub clear_right : (s : List ℕ) → read_verdict s ≡ Ok tt → Right s
unfolding read_verdict
clear_right s e =
    let e2 : first (tail (read_lines s)) ≡ (Ok tt) = clear_tail _ _ e in
    let e3 : first (tail (tail (read_lines s))) ≡ (Ok tt) = clear_tail _ _ e2 in
    let e4 : first (tail (tail (tail (read_lines s)))) ≡ (Ok tt) = clear_tail _ _ e3 in
    let e5 : first (tail (tail (tail (tail (read_lines s))))) ≡ (Ok tt) = clear_tail _ _ e4 in
    let e6 : first (tail (tail (tail (tail (tail (read_lines s)))))) ≡ (Ok tt) = clear_tail _ _ e5 in
    let counts : counts_right s ≡ true = not-false (counts_right s) (clear_head _ _ e2) in
    record {
      opened =
          record {
            placed = layout_placed s (not-false (layout_fits s) (clear_head _ _ e));
            said = refl;
            counted = counts_bound (counts_of s).steps (counts_of s).people (counts_of s).roles (counts_of s).actions counts;
          };
      matched = bodies_matched s (not-false (bodies_match s) (clear_head _ _ e3));
      sets_in_lem = not-false (sets_inside s) (clear_head _ _ e4);
      arrows_in_lem = not-false (arrows_right s) (clear_head _ _ e5);
      kinds_in = not-false (kinds_right s) (clear_head _ _ e6);
    }

-- ---- the tables of the block

module _ (s : List ℕ) where
  abbrev labels : List ℕ
  labels = labels_in 64 (own_steps s) (labels_part s)

  abbrev role_sets : List ℕ
  role_sets = sets_in 64 (body_at s 2) ++ (sets_in 16 (body_at s 3) ++ labels)

  pub arrows_rows : length (table_of (arrows_on s)) ≡ 256
  arrows_rows = length_filled 256 (arrows_on s)

  -- the four tables of arrows are the one that the arrows fill
  pub read_arrows : table_at 4 256 (block_read s) ≡ table_of (arrows_on s)
  unfolding block_read
  read_arrows = take_at (table_of (arrows_on s)) role_sets 256 arrows_rows

  pub read_kind : (kind : ℕ) → kind < 4 → table_at (4 + kind * 64) 64 (block_read s) ≡ kind_rows (table_of (arrows_on s)) kind
  read_kind kind h =
      sym (table_of_table 4 256 (kind * 64) 64 (block_read s) (omega arith)) ∙ ap (λ (t : List ℕ). kind_rows t kind) read_arrows

  behind_arrows : drop 260 (block_read s) ≡ role_sets
  unfolding block_read
  behind_arrows = drop_at (table_of (arrows_on s)) role_sets 256 arrows_rows

  allows_rows : length (sets_in 64 (body_at s 2)) ≡ 64
  allows_rows = length_tabled 64 (set_at (body_at s 2))

  holds_rows : length (sets_in 16 (body_at s 3)) ≡ 16
  holds_rows = length_tabled 16 (set_at (body_at s 3))

  behind_allows : drop 324 (block_read s) ≡ sets_in 16 (body_at s 3) ++ labels
  behind_allows =
      sym (drop-drop 64 260 (block_read s)) ∙ ap (drop 64) behind_arrows
      ∙ drop_at (sets_in 64 (body_at s 2)) (sets_in 16 (body_at s 3) ++ labels) 64 allows_rows

  -- the tables of roles are those of bodies 3 and 4
  pub read_allows : table_at 260 64 (block_read s) ≡ sets_in 64 (body_at s 2)
  read_allows = ap (take 64) behind_arrows ∙ take_at (sets_in 64 (body_at s 2)) (sets_in 16 (body_at s 3) ++ labels) 64 allows_rows

  pub read_holds : table_at 324 16 (block_read s) ≡ sets_in 16 (body_at s 3)
  read_holds = ap (take 16) behind_allows ∙ take_at (sets_in 16 (body_at s 3)) labels 16 holds_rows

  -- and the actions those of body 6, or each step's own
  pub read_labels : table_at 340 64 (block_read s) ≡ labels_in 64 (own_steps s) (labels_part s)
  read_labels =
      let n : length (labels_in 64 (own_steps s) (labels_part s)) ≡ 64 = length_tabled 64 (label_at (own_steps s) (labels_part s)) in
      ap (take 64) (sym (drop-drop 16 324 (block_read s)) ∙ ap (drop 16) behind_allows ∙ drop_at (sets_in 16 (body_at s 3)) labels 16 holds_rows)
      ∙ take_all 64 labels (omega arith)
