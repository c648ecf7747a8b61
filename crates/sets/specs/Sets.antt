-- Sets of steps. A set is a number: step s is in x exactly if digit s of x, in base two, is 1. Nothing here has a width.
use Rattle.std.specs.Prelude.{ℕ, zero, suc, ◌-◌, ◌/◌, ◌%◌, ◌^◌, Bool, true, false, cond, ◌&&◌, ◌||◌, List, [], ◌∷◌, eqb, ltb}
use Rattle.std.specs.Int.Bits.{bit_and, bit_or, bit_xor}

-- step s is in x
unfoldable pub has : ℕ → ℕ → Bool
has x s = eqb (x / 2 ^ s % 2) 1

-- the set with s alone
abbrev pub single : ℕ → ℕ
single s = 2 ^ s

-- the steps below n
unfoldable pub full : ℕ → ℕ
full n = 2 ^ n - 1

-- in a or in b
abbrev pub union : ℕ → ℕ → ℕ
union a b = bit_or a b

-- in a and in b
abbrev pub meet : ℕ → ℕ → ℕ
meet a b = bit_and a b

-- in a and not in b
abbrev pub minus : ℕ → ℕ → ℕ
minus a b = bit_xor a (bit_and a b)

-- the steps from a up to c, without c
abbrev pub span : ℕ → ℕ → ℕ
span a c = minus (full c) (full a)

-- no step is in x
abbrev pub empty : ℕ → Bool
empty x = eqb x 0

-- every step of a is in b
abbrev pub subset : ℕ → ℕ → Bool
subset a b = empty (minus a b)

-- every step of x is below n
abbrev pub within : ℕ → ℕ → Bool
within n x = ltb x (2 ^ n)

-- the first step in x of the k steps from s on; s + k where none of them is
unfoldable pub scan : ℕ → ℕ → ℕ → ℕ
scan zero s x = s
scan (suc k) s x = cond (has x s) s (scan k (suc s) x)

-- the lowest step in x of those below n; n where there is none
unfoldable pub lowest : ℕ → ℕ → ℕ
lowest n x = scan n 0 x

-- in one of the k sets f 0, f 1, ..
unfoldable pub gather : ℕ → (ℕ → ℕ) → ℕ
gather zero f = 0
gather (suc k) f = union (gather k f) (f k)

-- p holds of each number below k
unfoldable pub every : ℕ → (ℕ → Bool) → Bool
every zero p = true
every (suc k) p = every k p && p k

-- p holds of some number below k
unfoldable pub any : ℕ → (ℕ → Bool) → Bool
any zero p = false
any (suc k) p = any k p || p k

-- the steps below n of which p holds
abbrev pub those : ℕ → (ℕ → Bool) → ℕ
those n p = gather n (λ s. cond (p s) (single s) 0)

-- ---- steps in order

abbrev pub kept_if : Bool → ℕ → List ℕ → List ℕ
kept_if true p rest = p ∷ rest
kept_if false p rest = rest

-- those of the k numbers from s on for which f holds, in order
unfoldable pub listed : ℕ → ℕ → (ℕ → Bool) → List ℕ
listed zero s f = []
listed (suc k) s f = kept_if (f s) s (listed k (suc s) f)

-- the steps of a set, in order
abbrev pub members : ℕ → List ℕ
members x = listed 64 0 (has x)
