-- How the program ends.
use Rattle.std.specs.Prelude.{ℕ, ◌≤◌, cond, eqb, ℤ, pos, negsuc}

-- a status as C takes it
abbrev pub for_c : ℕ → ℤ
for_c status = cond (eqb status 0) (pos 0) (cond (eqb status 1) (pos 1) (pos 2))

-- it is 0, 1 or 2
abbrev pub Ends : ℤ → Type 0
Ends (pos k) = k ≤ 2
Ends (negsuc k) = ⊥
