-- Laws of lists that the layout needs. Assumes nothing.
use Rattle.std.specs.Prelude.{ℕ, ◌+◌, ◌-◌, ◌≤◌, ◌≡◌, List, ◌++◌, length, take, drop}
use Rattle.std.proofs.Common.{sym, ap, ◌∙◌, arith, length-drop, take-append-drop, drop-drop, length-take-le}
use Rattle.std.proofs.Math.Seq.{drop-append-add}

-- what stands behind a part of known length
pub drop_past : (p q : List ℕ) (n k : ℕ) → length p ≡ n → drop (n + k) (p ++ q) ≡ drop k q
drop_past p q n k e = ap (λ (m : ℕ). drop (m + k) (p ++ q)) (sym e) ∙ drop-append-add p q k

-- a part, and what follows it
pub part_rest : (n k : ℕ) (s : List ℕ) → drop n s ≡ take k (drop n s) ++ drop (n + k) s
part_rest n k s = sym (take-append-drop k (drop n s)) ∙ ap (λ (l : List ℕ). take k (drop n s) ++ l) (drop-drop k n s)

pub length_part : (n k : ℕ) (s : List ℕ) → n + k ≤ length s → length (take k (drop n s)) ≡ k
length_part n k s h = length-take-le k (drop n s) (let d : length (drop n s) ≡ length s - n = length-drop n s in omega arith)
