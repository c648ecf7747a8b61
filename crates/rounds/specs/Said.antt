-- What a sheet says: the graph that is read has exactly the arrows that stand on the sheet, and number 6 is given exactly if an include
-- and an exclude of one pair stand there. The table holds just the arrows that were put into it. Assumes nothing.
use Prim.Native.Nat.{ℕ, zero, suc, ◌+◌, ◌*◌, ◌≤◌, ◌<◌}
use Rattle.std.specs.Prelude.{◌≡◌, ◌↔◌, ◌⊎◌, List, [], ◌∷◌, map, Bool, true, ◌||◌, length, eqb}
use Rattle.std.proofs.Common.{sym, ap, ◌∙◌, subst, inl, inr, true≢false, not-suc-le-zero, le_of_suc-le-suc, eq-eqb, eqb-true}
use Rattle.std.proofs.Math.Path.{ap₂}
use Rattle.std.proofs.lemmas.Bool.{false≢true}
use native.Mathlib.Omega.{arith}
use Rattle.sets.specs.Sets.{has, meet, empty}
use Rattle.sets.specs.Truth.{and_left, and_intro, or_cases, or_second, and_neither}
use Rattle.sets.specs.Laws.{has_meet, empty_members, members_empty, member_below, every_at, every_of}
use Rattle.rules.specs.Graph.{Graph}
use Rattle.tables.specs.Tables.{row, table_at, keeps, kinds_apart}
use Rattle.tables.specs.Laws.{row_at_lem, keeps_row, named_below}
use Rattle.rules.specs.Paper.{condition, response, includes, excludes}
use Rattle.arrows.specs.Arrows.{Arrow, all_link, ascending, link_in_order, table_of, held, place, arrow_at}
use Rattle.arrows.specs.Lists.{member}
use Rattle.arrows.specs.Places.{Ranged, arrow_at_place}
use Rattle.arrows.specs.Rows.{toward, kind_rows}
use Rattle.arrows.specs.Table.{row_other, column_other, links_in, held_filled}
use Rattle.reading.specs.Reading.{counts_of, arrows_on, block_read, graph_in, arrows_right}
use Rattle.reading.specs.Laws.{read_kind}
use Rattle.rounds.specs.Arrows.{filled_kept}
use Rattle.rounds.specs.Ascent.{arrow_no, Known, AllKnown, arrows_exactly}

-- the arrow is one of the list
abbrev pub Stands : List Arrow → Arrow → Type 0
Stands l y = (i : ℕ) × (i < length l) × (arrow_no l i ≡ y)

-- a and b stand in the relation of this kind: 0 condition, 1 response, 2 include, 3 exclude
unfoldable pub related : Graph → ℕ → ℕ → ℕ → Bool
related g zero a b = condition g a b
related g (suc zero) a b = response g a b
related g (suc (suc zero)) a b = includes g a b
related g (suc (suc (suc kind))) a b = excludes g a b

known_ranged : (n : ℕ) (y : Arrow) → n ≤ 64 → Known n y → Ranged y
known_ranged n y h k = record { kind_in = omega arith; from_in = omega arith; to_in = omega arith }

-- ---- members are those that stand in the list

member_stands : (n : ℕ) (l : List Arrow) (y : Arrow) → n ≤ 64 → AllKnown n l → Ranged y → member (map place l) (place y) ≡ true
    → Stands l y
unfolding member
member_stands n [] y h k r e = absurd (false≢true e)
member_stands n (x ∷ rest) y h k r e =
    go (or_cases (eqb (place x) (place y)) (member (map place rest) (place y)) e)
    (λ t. member_stands n rest y h (λ i l. k (suc i) (omega arith)) r t)
  where
    go : (eqb (place x) (place y) ≡ true) ⊎ (member (map place rest) (place y) ≡ true)
        → (member (map place rest) (place y) ≡ true → Stands rest y) → Stands (x ∷ rest) y
    go (inl t) later =
        let same : x ≡ y =
        sym (arrow_at_place x (known_ranged n x h (k 0 (omega arith)))) ∙ ap arrow_at (eqb-true (place x) (place y) t) ∙ arrow_at_place y r in
        (0, (let z : 0 < length (x ∷ rest) = omega arith in z), same)
    go (inr t) later =
        let f = later t in
        let z : f.0 < length rest = f.1 in
        (suc f.0, (let w : suc f.0 < length (x ∷ rest) = omega arith in w), f.2)

stands_member : (l : List Arrow) (y : Arrow) (i : ℕ) → i < length l → arrow_no l i ≡ y → member (map place l) (place y) ≡ true
unfolding member
stands_member [] y i h e = absurd (not-suc-le-zero h)
stands_member (x ∷ rest) y zero h e =
    ap (λ (b : Bool). b || member (map place rest) (place y)) (eq-eqb (place x) (place y) (ap place e))
stands_member (x ∷ rest) y (suc i) h e = or_second (eqb (place x) (place y)) (stands_member rest y i (le_of_suc-le-suc h) e)

-- ---- the table of arrows that fit

module _ (n : ℕ) (l : List Arrow) (h : n ≤ 64) (fit : link_in_order n l ≡ true) where
  all : AllKnown n l
  all = ((arrows_exactly n l).0 fit).0

  tests : all_link n l ≡ true
  tests = and_left (all_link n l) (ascending l) fit

  held_exactly : (y : Arrow) → Ranged y → (held (row (table_of l)) y ≡ true) ↔ Stands l y
  held_exactly y r =
      let same : held (row (table_of l)) y ≡ member (map place l) (place y) = held_filled 256 l (links_in n l h tests) y r in (
        λ e. member_stands n l y h all r (sym same ∙ e),
        λ f. same ∙ stands_member l y f.0 f.1 f.2,
      )

  stands_ranged : (y : Arrow) → Stands l y → Ranged y
  stands_ranged y f = known_ranged n y h (subst (Known n) f.2 (all f.0 f.1))

  stands_from : (y : Arrow) → Stands l y → y.from < n
  stands_from y f = (subst (Known n) f.2 (all f.0 f.1)).from_known

  -- the rows of a kind have b with a; for conditions the other way round
  abbrev in_kind : ℕ → ℕ → ℕ → Bool
  in_kind kind r c = has (row (kind_rows (table_of l) kind) r) c

  kind_held : (kind r c : ℕ) → r < 64 → in_kind kind r c ≡ has (row (table_of l) (kind * 64 + r)) c
  kind_held kind r c k = ap (λ (w : ℕ). has w c) (row_at_lem (kind * 64) 64 (table_of l) r k)

  kind_names : (kind r c : ℕ) → kind < 4 → in_kind kind r c ≡ true → (r < n) × (c < n)
  kind_names kind r c k e =
      let t : List ℕ = kind_rows (table_of l) kind in
      let kept : keeps n n (kind_rows (table_of l) kind) ≡ true = (filled_kept n l h tests).kinds kind k in
      (named_below n n t kept r c e, member_below n (row t r) c (keeps_row n n t kept r) e)

  condition_exactly : (a b : ℕ) → (in_kind 0 b a ≡ true) ↔ Stands l (toward 0 a b)
  unfolding held
  condition_exactly a b = (there, back)
    where
      at : 0 * 64 + b ≡ b
      at = omega arith

      there : in_kind 0 b a ≡ true → Stands l (toward 0 a b)
      there e =
          let names = kind_names 0 b a (omega arith) e in
          let p : b < n = names.0 in
          let q : a < n = names.1 in
          (held_exactly (toward 0 a b) (record { kind_in = omega arith; from_in = omega arith; to_in = omega arith })).0
          (ap (λ (k : ℕ). has (row (table_of l) k) a) (sym at) ∙ sym (kind_held 0 b a (omega arith)) ∙ e)

      back : Stands l (toward 0 a b) → in_kind 0 b a ≡ true
      back f =
          let r : Ranged (toward 0 a b) = stands_ranged (toward 0 a b) f in
          kind_held 0 b a r.to_in ∙ ap (λ (k : ℕ). has (row (table_of l) k) a) at ∙ (held_exactly (toward 0 a b) r).1 f

  other_held : (kind a b : ℕ) → held (row (table_of l)) (toward (suc kind) a b) ≡ has (row (table_of l) (suc kind * 64 + a)) b
  unfolding held
  other_held kind a b =
      let some : suc kind ≡ 0 → ⊥ = λ e. let z : ⊥ = omega arith in z in
      ap₂ (λ (r c : ℕ). has (row (table_of l) r) c) (row_other (toward (suc kind) a b) some) (column_other (toward (suc kind) a b) some)

  other_exactly : (kind a b : ℕ) → suc kind < 4 → (in_kind (suc kind) a b ≡ true) ↔ Stands l (toward (suc kind) a b)
  other_exactly kind a b k = (there, back)
    where
      there : in_kind (suc kind) a b ≡ true → Stands l (toward (suc kind) a b)
      there e =
          let names = kind_names (suc kind) a b k e in
          let p : a < n = names.0 in
          let q : b < n = names.1 in
          (held_exactly (toward (suc kind) a b) (record { kind_in = k; from_in = omega arith; to_in = omega arith })).0
          (other_held kind a b ∙ sym (kind_held (suc kind) a b (omega arith)) ∙ e)

      back : Stands l (toward (suc kind) a b) → in_kind (suc kind) a b ≡ true
      back f =
          let r : Ranged (toward (suc kind) a b) = stands_ranged (toward (suc kind) a b) f in
          kind_held (suc kind) a b r.from_in ∙ sym (other_held kind a b) ∙ (held_exactly (toward (suc kind) a b) r).1 f

-- ---- a sheet whose arrows fit

module _ (s : List ℕ) (h : (counts_of s).steps ≤ 64) (fit : arrows_right s ≡ true) where
  -- the rows of a kind, of the graph that is read
  in_graph : (kind r c : ℕ) → kind < 4
      → has (row (table_at (4 + kind * 64) 64 (block_read s)) r) c ≡ in_kind (counts_of s).steps (arrows_on s) h fit kind r c
  in_graph kind r c k = ap (λ (t : List ℕ). has (row t r) c) (read_kind s kind k)

  other_related : (kind a b : ℕ) → suc kind < 4
      → (has (row (table_at (4 + suc kind * 64) 64 (block_read s)) a) b ≡ true) ↔ Stands (arrows_on s) (toward (suc kind) a b)
  other_related kind a b k =
      let there = other_exactly (counts_of s).steps (arrows_on s) h fit kind a b k in
      (λ e. there.0 (sym (in_graph (suc kind) a b k) ∙ e), λ f. in_graph (suc kind) a b k ∙ there.1 f)

  pub related_exactly : (kind a b : ℕ) → kind < 4 → (related (graph_in s) kind a b ≡ true) ↔ Stands (arrows_on s) (toward kind a b)
  unfolding related
  related_exactly zero a b k =
      let there = condition_exactly (counts_of s).steps (arrows_on s) h fit a b in
      (λ e. there.0 (sym (in_graph 0 b a k) ∙ e), λ f. in_graph 0 b a k ∙ there.1 f)
  related_exactly (suc zero) a b k = other_related 0 a b k
  related_exactly (suc (suc zero)) a b k = other_related 1 a b k
  related_exactly (suc (suc (suc zero))) a b k = other_related 2 a b k
  related_exactly (suc (suc (suc (suc kind)))) a b k = absurd (let z : ⊥ = omega arith in z)

  -- no include and exclude of one pair stand on the sheet
  abbrev pub Apart : Type 0
  Apart = (a b : ℕ) → Stands (arrows_on s) (toward 2 a b) → Stands (arrows_on s) (toward 3 a b) → ⊥

  -- 6 is not given exactly if this holds
  pub apart_exactly : (kinds_apart (graph_in s).steps (graph_in s).includes (graph_in s).excludes ≡ true) ↔ Apart
  unfolding related block_read
  apart_exactly = (there, back)
    where
      shared : ℕ → ℕ
      shared a = meet (row (graph_in s).includes a) (row (graph_in s).excludes a)

      there : kinds_apart (graph_in s).steps (graph_in s).includes (graph_in s).excludes ≡ true → Apart
      there e a b p q =
          let known : a < (counts_of s).steps = stands_from (counts_of s).steps (arrows_on s) h fit (toward 2 a b) p in
          true≢false
          (sym (has_meet (row (graph_in s).includes a) (row (graph_in s).excludes a) b
          ∙ and_intro ((related_exactly 2 a b (omega arith)).1 p) ((related_exactly 3 a b (omega arith)).1 q))
          ∙ empty_members (shared a) (every_at (graph_in s).steps (λ j. empty (shared j)) e a known) b)

      back : Apart → kinds_apart (graph_in s).steps (graph_in s).includes (graph_in s).excludes ≡ true
      back none =
          every_of (graph_in s).steps (λ j. empty (shared j))
          (λ a l. members_empty (shared a)
          (λ b. has_meet (row (graph_in s).includes a) (row (graph_in s).excludes a) b
          ∙ and_neither (has (row (graph_in s).includes a) b) (has (row (graph_in s).excludes a) b)
          (λ p q. none a b ((related_exactly 2 a b (omega arith)).0 p) ((related_exactly 3 a b (omega arith)).0 q))))
