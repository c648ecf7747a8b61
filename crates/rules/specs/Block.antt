-- A block as its parts, for those who fill one: each part ends where the next begins. Assumes nothing.
use Rattle.std.specs.Prelude.{ℕ, suc, ◌-◌, ◌<◌, ◌≡◌, List, ◌∷◌, ◌++◌, length, drop}
use Rattle.std.proofs.Common.{sym, ap, ◌∙◌, arith, length-drop, take_all, drop-cons}
use Rattle.tables.specs.Tables.{row, table_at}
use Rattle.tables.specs.Laws.{table_join}

-- the tables of the four kinds stand one after the other
pub kinds_joined : (block : List ℕ)
    → table_at 4 64 block ++ (table_at 68 64 block ++ (table_at 132 64 block ++ table_at 196 64 block)) ≡ table_at 4 256 block
kinds_joined block =
    ap (λ (t : List ℕ). table_at 4 64 block ++ (table_at 68 64 block ++ t)) (table_join 132 64 64 block)
    ∙ ap (λ (t : List ℕ). table_at 4 64 block ++ t) (table_join 68 64 128 block)
    ∙ table_join 4 64 192 block

-- the counts, the tables of arrows, the two tables of roles and the actions of the steps are all there is to it
pub block_whole : (block : List ℕ) → length block ≡ 404
    → row block 0 ∷ row block 1 ∷ row block 2 ∷ row block 3
    ∷ (table_at 4 256 block ++ (table_at 260 64 block ++ (table_at 324 16 block ++ table_at 340 64 block))) ≡ block
block_whole block e =
    ap (λ (t : List ℕ). row block 0 ∷ row block 1 ∷ row block 2 ∷ row block 3 ∷ t)
    (ap (λ (t : List ℕ). table_at 4 256 block ++ (table_at 260 64 block ++ t)) (table_join 324 16 64 block)
    ∙ ap (λ (t : List ℕ). table_at 4 256 block ++ t) (table_join 260 64 80 block)
    ∙ table_join 4 256 144 block
    ∙ take_all 400 (drop 4 block) (let n : length (drop 4 block) ≡ length block - 4 = length-drop 4 block in omega arith))
    ∙ sym (first 0 (omega arith) ∙ ap (λ (t : List ℕ). row block 0 ∷ t)
    (first 1 (omega arith) ∙ ap (λ (t : List ℕ). row block 1 ∷ t)
    (first 2 (omega arith) ∙ ap (λ (t : List ℕ). row block 2 ∷ t) (first 3 (omega arith)))))
  where
    first : (i : ℕ) → i < length block → drop i block ≡ row block i ∷ drop (suc i) block
    first i h = drop-cons block i 0 h
