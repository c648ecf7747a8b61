-- The answer test by test: a test that fails gives its number, one that is passed leaves those after it. Assumes nothing.
use Rattle.std.specs.Prelude.{ℕ, zero, suc, ◌+◌, ◌≤◌, ◌<◌, ◌≡◌, refl, List, ◌∷◌, Bool, true, false, not, ◌&&◌, cond, replicate, Ok, Err}
use Rattle.std.proofs.Common.{sym, ap, ap₂, ◌∙◌, arith}
use Rattle.sets.specs.Sets.{meet, empty, every}
use Rattle.moves.specs.First.{Verdict}
use Rattle.moves.specs.declared.Refusal.{Refusal}
use Rattle.moves.specs.First.{Line, first}
use Rattle.tables.specs.Tables.{row, kinds_apart}
use Rattle.tables.specs.Laws.{row_at_lem}
use Rattle.arrows.specs.Arrows.{Arrow, link_in_order, table_of}
use Rattle.arrows.specs.Places.{fit_places}
use Rattle.arrows.specs.Loops.{filled, filled_all}
use Rattle.arrows.specs.Rows.{kind_rows}
use Rattle.reading.specs.Reading.{counts_of, arrows_on, block_read, kinds_right, read_verdict}
use Rattle.reading.specs.Laws.{read_kind}

-- what the reader finds: the first refusal that holds; and where none does, the table holds the arrows
pub record Judged (s table : List ℕ) (v : Verdict) : Type 0 where
  pub right : v ≡ read_verdict s
  pub filled : v ≡ Ok tt → table ≡ table_of (arrows_on s)

pub refused : (s table : List ℕ) (r : Refusal) → read_verdict s ≡ Err r → Judged s table (Err r)
refused s table r e = record { right = sym e; filled = λ q. absurd (let z : ◌≡◌ {A = ℕ} 0 1 = cc in let w : ⊥ = omega arith in w) }

pub passed : (r : Refusal) (test : Bool) (rest : List Line) → test ≡ true → first ((r, not test) ∷ rest) ≡ first rest
unfolding first
passed r test rest e = ap (λ (b : Bool). cond (not b) (Err r) (first rest)) e

pub failed : (r : Refusal) (test : Bool) (rest : List Line) → test ≡ false → first ((r, not test) ∷ rest) ≡ Err r
unfolding first
failed r test rest e = ap (λ (b : Bool). cond (not b) (Err r) (first rest)) e

-- ---- 5

-- the table that was filled from the start, once the arrows fit
pub arrows_filled : (n : ℕ) (l : List Arrow) → n ≤ 64 → link_in_order n l ≡ true → filled n 0 (replicate 256 0) l ≡ table_of l
arrows_filled n l h e = filled_all n 0 (replicate 256 0) l (fit_places n l h ∙ e)

-- ---- 6

-- what includes and excludes share, row by row of the one table
abbrev pub shared_at : List ℕ → ℕ → ℕ
shared_at table a = meet (row table (128 + a)) (row table (192 + a))

every_below : (k : ℕ) (p q : ℕ → Bool) → ((i : ℕ) → i < k → p i ≡ q i) → every k p ≡ every k q
unfolding every
every_below zero p q e = refl
every_below (suc k) p q e = ap₂ ◌&&◌ (every_below k p q (λ i h. e i (omega arith))) (e k (omega arith))

pub kinds_apart_lem : (s : List ℕ) → (counts_of s).steps ≤ 64
    → every (counts_of s).steps (λ a. empty (shared_at (table_of (arrows_on s)) a)) ≡ kinds_right s
unfolding block_read
kinds_apart_lem s h =
    let t : List ℕ = table_of (arrows_on s) in
    every_below (counts_of s).steps (λ a. empty (shared_at t a)) (λ a. empty (meet (row (kind_rows t 2) a) (row (kind_rows t 3) a)))
    (λ a l. ap₂ (λ (x y : ℕ). empty (meet x y)) (sym (row_at_lem 128 64 t a (omega arith))) (sym (row_at_lem 192 64 t a (omega arith))))
    ∙ ap₂ (kinds_apart (counts_of s).steps) (sym (read_kind s 2 (omega arith))) (sym (read_kind s 3 (omega arith)))
