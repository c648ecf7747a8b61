-- A fold that unites what each row gives is what the rows gather, row by row. Assumes nothing.
use Rattle.std.specs.Prelude.{◌≡◌, ℕ, zero, suc, ◌+◌, ◌≤◌, cond, Bool, List, length, take, refl}
use Rattle.std.specs.List.{fold}
use Rattle.std.proofs.Common.{sym, ap, ap₂, ◌∙◌, le_refl, add-one, arith, take_all, le-ltb}
use Rattle.std.proofs.lemmas.List.Sums.{fold_more}
use Rattle.sets.specs.Sets.{gather, union}
use Rattle.sets.specs.Laws.{gather_more}
use Rattle.tables.specs.Tables.{row}
use Rattle.tables.specs.Gathered.{beyond}

-- the first k rows
front : (g : ℕ → ℕ) (k : ℕ) (xs : List ℕ) → k ≤ length xs
    → fold (λ a x. union a (g x)) 0 (take k xs) ≡ gather k (λ i. g (row xs i))
unfolding gather
front g zero xs h = refl
front g (suc k) xs h =
    ap (λ (j : ℕ). fold (λ a x. union a (g x)) 0 (take j xs)) (sym (add-one k))
    ∙ fold_more (λ a x. union a (g x)) 0 xs k 0 (omega arith)
    ∙ ap (λ (a : ℕ). union a (g (row xs k))) (front g k xs (omega arith))

pub folded : (g : ℕ → ℕ) (xs : List ℕ) → fold (λ a x. union a (g x)) 0 xs ≡ gather (length xs) (λ i. g (row xs i))
folded g xs =
    ap (fold (λ a x. union a (g x)) 0) (sym (take_all (length xs) xs (le_refl (length xs)))) ∙ front g (length xs) xs (le_refl (length xs))

-- one row more, from some row on
pub gather_next : (from i : ℕ) (rows : ℕ → ℕ) → from ≤ i → union (gather i (beyond from rows)) (rows i) ≡ gather (i + 1) (beyond from rows)
gather_next from i rows h =
    ap (union (gather i (beyond from rows))) (sym (ap (λ (b : Bool). cond b 0 (rows i)) (le-ltb i from h)))
    ∙ sym (gather_more i (beyond from rows))

-- from the first row on
pub gather_all : (k : ℕ) (rows : ℕ → ℕ) → gather k (beyond 0 rows) ≡ gather k rows
unfolding gather
gather_all zero rows = refl
gather_all (suc k) rows =
    ap₂ union (gather_all k rows) (ap (λ (b : Bool). cond b 0 (rows k)) (le-ltb k 0 (omega arith)))
