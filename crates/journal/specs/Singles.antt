-- The sets with one step each, as a table: a run tests a step against the marking by a look into it.
-- Assumes nothing.
use Rattle.std.specs.Prelude.{ℕ, ◌<◌, ◌≡◌, refl, List, [], ◌∷◌, Bool, true, false, not, ◌&&◌, eqb}
use Rattle.std.proofs.Common.{sym, ap, ap₂, ◌∙◌, true≢false, eqb-true, eq-eqb}
use Rattle.sets.specs.Sets.{has, single, meet, empty, every}
use Rattle.sets.specs.Laws.{has_meet, has_single, empty_members, members_empty, every_at}
use Rattle.tables.specs.Tables.{row}

-- row i is the set with i alone
abbrev pub Singles : List ℕ → Type 0
Singles table = (i : ℕ) → i < 64 → row table i ≡ single i

abbrev table : List ℕ
table =
    1 ∷ 2 ∷ 4 ∷ 8 ∷
    16 ∷ 32 ∷ 64 ∷ 128 ∷
    256 ∷ 512 ∷ 1024 ∷ 2048 ∷
    4096 ∷ 8192 ∷ 16384 ∷ 32768 ∷
    65536 ∷ 131072 ∷ 262144 ∷ 524288 ∷
    1048576 ∷ 2097152 ∷ 4194304 ∷ 8388608 ∷
    16777216 ∷ 33554432 ∷ 67108864 ∷ 134217728 ∷
    268435456 ∷ 536870912 ∷ 1073741824 ∷ 2147483648 ∷
    4294967296 ∷ 8589934592 ∷ 17179869184 ∷ 34359738368 ∷
    68719476736 ∷ 137438953472 ∷ 274877906944 ∷ 549755813888 ∷
    1099511627776 ∷ 2199023255552 ∷ 4398046511104 ∷ 8796093022208 ∷
    17592186044416 ∷ 35184372088832 ∷ 70368744177664 ∷ 140737488355328 ∷
    281474976710656 ∷ 562949953421312 ∷ 1125899906842624 ∷ 2251799813685248 ∷
    4503599627370496 ∷ 9007199254740992 ∷ 18014398509481984 ∷ 36028797018963968 ∷
    72057594037927936 ∷ 144115188075855872 ∷ 288230376151711744 ∷ 576460752303423488 ∷
    1152921504606846976 ∷ 2305843009213693952 ∷ 4611686018427387904 ∷ 9223372036854775808 ∷
    []

pub singles_all : Singles table
unfolding every
singles_all i h = eqb-true (row table i) (single i) (every_at 64 (λ k. eqb (row table k) (single k)) refl i h)

-- a step is in x exactly if the set with it alone has something in common with x
pub single_asked : (x s : ℕ) → empty (meet x (single s)) ≡ not (has x s)
single_asked x s = go (has x s) refl
  where
    both : (t : ℕ) → has (meet x (single s)) t ≡ (has x t && eqb s t)
    both t = has_meet x (single s) t ∙ ap (λ (b : Bool). has x t && b) (has_single s t)

    go : (b : Bool) → has x s ≡ b → empty (meet x (single s)) ≡ not (has x s)
    go true h = here (empty (meet x (single s))) refl ∙ ap not (sym h)
      where
        here : (b : Bool) → empty (meet x (single s)) ≡ b → empty (meet x (single s)) ≡ false
        here true q = absurd (true≢false (sym (both s ∙ ap₂ ◌&&◌ h (eq-eqb s s refl)) ∙ empty_members (meet x (single s)) q s))
        here false q = q
    go false h = members_empty (meet x (single s)) (λ t. both t ∙ apart t (eqb s t) refl) ∙ ap not (sym h)
      where
        apart : (t : ℕ) (b : Bool) → eqb s t ≡ b → (has x t && eqb s t) ≡ false
        apart t true q = ap (λ (u : ℕ). has x u && eqb s t) (sym (eqb-true s t q)) ∙ ap (λ (b : Bool). b && eqb s t) h
        apart t false q = none (has x t) (eqb s t) q
          where
            none : (a b : Bool) → b ≡ false → (a && b) ≡ false
            none true b e = e
            none false b e = refl
