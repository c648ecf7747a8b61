-- The arrows of a table: written and read they give the table; and the table that known arrows fill has arrows between known steps alone.
-- Both follow from the arrows' own codec, since a table that keeps to n steps holds only arrows between them. Assumes nothing.
use Rattle.std.specs.Prelude.{ℕ, ◌+◌, ◌*◌, ◌/◌, ◌%◌, ◌^◌, ◌≤◌, ◌<◌, ◌≡◌, ◌⊎◌, List, [], ◌∷◌, map, Bool, ◌&&◌, cond, length, eqb, ltb}
use Rattle.std.proofs.Common.{sym, ap, ap₂, ◌∙◌, subst, inl, inr, true≢false, lt_of_lt_of_le, arith, ext_get_or, pow_mono}
use Rattle.std.proofs.Math.Bool.{true}
use Rattle.std.proofs.lemmas.Bool.{false≢true}
use Rattle.std.proofs.Math.Decide.{dec_lt, ℕ_discrete}
use Rattle.std.proofs.Math.Dec.{leb}
use borrow.Author.Tests.{lt-ltb, le-ltb, le-leb, ltb-true, eqb-true}
use Rattle.sets.specs.Sets.{has}
use Rattle.sets.specs.Truth.{and_left, and_right, and_intro, or_cases}
use Rattle.sets.specs.Laws.{has_above, member_below}
use Rattle.tables.specs.Tables.{row, keeps}
use Rattle.tables.specs.Laws.{row_at_lem, rows_at, keeps_row, named_below}
use Rattle.arrows.specs.Arrows.{Arrow, links, all_link, link_in_order, row_at, table_of, held, place, arrow_at, arrows_of}
use Rattle.arrows.specs.Lists.{member}
use Rattle.arrows.specs.Places.{Ranged, links_ranged, arrow_at_place}
use Rattle.arrows.specs.Table.{row_condition, row_other, column_condition, column_other, links_in, rows_filled, held_filled}
use Rattle.arrows.specs.Table.{length_filled, arrow_on, on_ranged, on_held}
use Rattle.arrows.specs.Codec.{arrows_fit, table_of_arrows}
use Rattle.arrows.specs.Rows.{Kept, kind_rows}
use Rattle.rounds.specs.Tests.{keeps_exactly}

-- ---- a table, written and read

module _ (n : ℕ) (table : List ℕ) (k : Kept n table) where
  -- what stands in the rows of a kind is between steps that there are
  names : (kind r c : ℕ) → kind < 4 → r < 64 → has (row table (kind * 64 + r)) c ≡ true → (r < n) × (c < n)
  names kind r c h l e =
      let t : List ℕ = kind_rows table kind in
      let kept : keeps n n (kind_rows table kind) ≡ true = k.kinds kind h in
      let f : has (row (kind_rows table kind) r) c ≡ true = ap (λ (x : ℕ). has x c) (row_at_lem (kind * 64) 64 table r l) ∙ e in
      (named_below n n t kept r c f, member_below n (row t r) c (keeps_row n n t kept r) f)

  table_known : (y : Arrow) → Ranged y → held (row table) y ≡ true → links n y ≡ true
  unfolding held
  table_known y q e = go (ℕ_discrete y.kind 0)
    where
      kind_known : leb y.kind 3 ≡ true
      kind_known = le-leb y.kind 3 (omega arith)

      go : Dec (y.kind ≡ 0) → links n y ≡ true
      go (yes z) =
          let at : 0 * 64 + y.to ≡ row_at y = sym (row_condition y z ∙ let w : y.to ≡ 0 * 64 + y.to = omega arith in w) in
          let p = names 0 y.to y.from (omega arith) q.to_in
          (ap₂ (λ (i s : ℕ). has (row table i) s) at (sym (column_condition y z)) ∙ e) in
          and_intro (and_intro kind_known (lt-ltb y.from n p.1)) (lt-ltb y.to n p.0)
      go (no z) =
          let at : y.kind * 64 + y.from ≡ row_at y = sym (row_other y z) in
          let p = names y.kind y.from y.to q.kind_in q.from_in
          (ap₂ (λ (i s : ℕ). has (row table i) s) at (sym (column_other y z)) ∙ e) in
          and_intro (and_intro kind_known (lt-ltb y.from n p.0)) (lt-ltb y.to n p.1)

  pub table_fit : link_in_order n (arrows_of (row table)) ≡ true
  table_fit = arrows_fit n (row table) k.few table_known

  row_small : (i : ℕ) → i < 256 → row table i < 2 ^ 64
  row_small i h =
      let kind : ℕ = i / 64 in
      let low : row (kind_rows table (i / 64)) (i % 64) < 2 ^ n =
      keeps_row n n (kind_rows table (i / 64)) (k.kinds (i / 64) (omega arith)) (i % 64) in
      subst (λ (w : ℕ). w < 2 ^ 64)
      (row_at_lem (i / 64 * 64) 64 table (i % 64) (omega arith) ∙ ap (row table) (let z : i / 64 * 64 + i % 64 ≡ i = omega arith in z))
      (lt_of_lt_of_le low (pow_mono k.few))

  -- it is read back
  pub table_read : length table ≡ 256 → table_of (arrows_of (row table)) ≡ table
  table_read l =
      let n256 : length (table_of (arrows_of (row table))) ≡ 256 = length_filled 256 (arrows_of (row table)) in
      ext_get_or 0 (table_of (arrows_of (row table))) table (n256 ∙ sym l)
      (λ i h. table_of_arrows n (row table) k.few table_known i (omega arith) (row_small i (omega arith)))

-- ---- the table that known arrows fill

member_known : (n : ℕ) (l : List Arrow) (y : Arrow) → n ≤ 64 → all_link n l ≡ true → Ranged y → member (map place l) (place y) ≡ true
    → links n y ≡ true
unfolding all_link member
member_known n [] y h k q e = absurd (false≢true e)
member_known n (z ∷ rest) y h k q e =
    go (and_left (links n z) (all_link n rest) k) (or_cases (eqb (place z) (place y)) (member (map place rest) (place y)) e)
    (member_known n rest y h (and_right (links n z) (all_link n rest) k) q)
  where
    go : links n z ≡ true → (eqb (place z) (place y) ≡ true) ⊎ (member (map place rest) (place y) ≡ true)
        → (member (map place rest) (place y) ≡ true → links n y ≡ true) → links n y ≡ true
    go first (inl t) later =
        subst (λ (w : Arrow). links n w ≡ true)
        (sym (arrow_at_place z (links_ranged n z h first)) ∙ ap arrow_at (eqb-true (place z) (place y) t) ∙ arrow_at_place y q) first
    go first (inr t) later = later t

on_known : (n i s : ℕ) → i < 256 → links n (arrow_on i s) ≡ true → (i % 64 < n) × (s < n)
on_known n i s h e = go (dec_lt i 64)
  where
    steps : (y : Arrow) → links n y ≡ true → (y.from < n) × (y.to < n)
    steps y k =
        let kind = leb y.kind 3 in
        let from = ltb y.from n in
        let to = ltb y.to n in
        (ltb-true y.from n (and_right kind from (and_left (kind && from) to k)), ltb-true y.to n (and_right (kind && from) to k))

    waits : Arrow
    waits = record { kind = 0; from = s; to = i }

    goes : Arrow
    goes = record { kind = i / 64; from = i % 64; to = s }

    go : Dec (i < 64) → (i % 64 < n) × (s < n)
    go (yes l) =
        let p = steps waits (subst (λ (b : Bool). links n (cond b waits goes) ≡ true) (lt-ltb i 64 l) e) in
        let a : i < n = p.1 in
        (omega arith, p.0)
    go (no l) = steps goes (subst (λ (b : Bool). links n (cond b waits goes) ≡ true) (le-ltb i 64 (omega arith)) e)

module _ (n : ℕ) (l : List Arrow) (h : n ≤ 64) (k : all_link n l ≡ true) where
  row_names : (i s : ℕ) → i < 256 → has (row (table_of l) i) s ≡ true → (i % 64 < n) × (s < n)
  row_names i s j e = go (dec_lt s 64)
    where
      go : Dec (s < 64) → (i % 64 < n) × (s < n)
      go (yes b) =
          let ranged : Ranged (arrow_on i s) = on_ranged i s j b in
          on_known n i s j
          (member_known n l (arrow_on i s) h k ranged
          (sym (held_filled 256 l (links_in n l h k) (arrow_on i s) ranged) ∙ on_held (row (table_of l)) i s ∙ e))
      go (no b) = absurd (true≢false (sym e ∙ has_above 64 (row (table_of l) i) s (rows_filled 256 l (links_in n l h k) i) (omega arith)))

  pub filled_kept : Kept n (table_of l)
  filled_kept = record { few = h; kinds = kinds }
    where
      rows : length (table_of l) ≡ 256
      rows = length_filled 256 l

      kinds : (kind : ℕ) → kind < 4 → keeps n n (kind_rows (table_of l) kind) ≡ true
      kinds kind d =
          let n64 : length (kind_rows (table_of l) kind) ≡ 64 =
          rows_at (kind * 64) 64 (table_of l) (let r : length (table_of l) ≡ 256 = rows in omega arith) in
          (keeps_exactly n n (kind_rows (table_of l) kind)).1
          (λ r s j e.
          let p = row_names (kind * 64 + r) s (omega arith)
          (sym (ap (λ (x : ℕ). has x s) (row_at_lem (kind * 64) 64 (table_of l) r (omega arith))) ∙ e) in
          let q : (kind * 64 + r) % 64 < n = p.0 in
          (omega arith, p.1))
