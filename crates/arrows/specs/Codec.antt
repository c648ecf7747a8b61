-- Arrows and tables undo each other: the arrows of a table, put into an empty one, give its rows; and arrows that fit are the arrows of
-- the table that they fill. Both go by the one law of lists, `listed_members`. Assumes nothing.
use Rattle.std.specs.Prelude.{ℕ, zero, suc, ◌+◌, ◌^◌, ◌≤◌, ◌<◌, ◌≡◌, refl, List, [], ◌∷◌, map, Bool, true, false, ◌&&◌, leb}
use Rattle.std.proofs.Common.{sym, ap, ap₂, ◌∙◌, subst, arith, lt-ltb, le-leb, leb-true}
use Rattle.sets.specs.Truth.{and_left, and_right, and_intro}
use Rattle.tables.specs.Tables.{row}
use Rattle.arrows.specs.Arrows.{Arrow, links, all_link, ascending, link_in_order, table_of, held, place, arrow_at, listed, kept_if}
use Rattle.arrows.specs.Arrows.{arrows_of}
use Rattle.arrows.specs.Lists.{member, up_from, all_below, listed_same, listed_members, member_listed}
use Rattle.arrows.specs.Places.{Ranged, links_ranged, place_arrow_at, arrow_at_place, place_lt, arrow_at_ranged, fit_from, fit_places}
use Rattle.arrows.specs.Table.{links_in, held_filled, rows_filled, rows_same}

map_place_arrow_at : (l : List ℕ) → map place (map arrow_at l) ≡ l
map_place_arrow_at [] = refl
map_place_arrow_at (p ∷ rest) = ap₂ (λ (a : ℕ) (b : List ℕ). a ∷ b) (place_arrow_at p) (map_place_arrow_at rest)

map_arrow_at_place : (n : ℕ) (l : List Arrow) → n ≤ 64 → all_link n l ≡ true → map arrow_at (map place l) ≡ l
unfolding all_link
map_arrow_at_place n [] h k = refl
map_arrow_at_place n (x ∷ rest) h k =
    ap₂ (λ (a : Arrow) (b : List Arrow). a ∷ b) (arrow_at_place x (links_ranged n x h (and_left (links n x) (all_link n rest) k)))
    (map_arrow_at_place n rest h (and_right (links n x) (all_link n rest) k))

-- ---- arrows that fit

fit_up : (n next : ℕ) (l : List Arrow) → fit_from n next l ≡ true → up_from next (map place l) ≡ true
unfolding fit_from up_from
fit_up n next [] e = refl
fit_up n next (x ∷ rest) e =
    and_intro (and_right (links n x) (leb next (place x)) (and_left (links n x && leb next (place x)) (fit_from n (place x + 1) rest) e))
    (subst (λ (k : ℕ). up_from k (map place rest) ≡ true) (let z : place x + 1 ≡ suc (place x) = omega arith in z)
    (fit_up n (place x + 1) rest (and_right (links n x && leb next (place x)) (fit_from n (place x + 1) rest) e)))

links_below : (n : ℕ) (l : List Arrow) → n ≤ 64 → all_link n l ≡ true → all_below 16384 (map place l) ≡ true
unfolding all_link all_below
links_below n [] h k = refl
links_below n (x ∷ rest) h k =
    and_intro (lt-ltb (place x) 16384 (place_lt x (links_ranged n x h (and_left (links n x) (all_link n rest) k))))
    (links_below n rest h (and_right (links n x) (all_link n rest) k))

-- arrows that fit are the arrows of the table that they fill
pub arrows_of_table : (n : ℕ) (l : List Arrow) → n ≤ 64 → link_in_order n l ≡ true → arrows_of (row (table_of l)) ≡ l
unfolding arrows_of
arrows_of_table n l h e =
    let k : all_link n l ≡ true = and_left (all_link n l) (ascending l) e in
    let up : up_from 0 (map place l) ≡ true = fit_up n 0 l (fit_places n l h ∙ e) in
    ap (map arrow_at)
    (listed_same 16384 0 (λ p. held (row (table_of l)) (arrow_at p)) (member (map place l))
    (λ p i j. held_filled 256 l (links_in n l h k) (arrow_at p) (arrow_at_ranged p (omega arith))
    ∙ ap (member (map place l)) (place_arrow_at p))
    ∙ listed_members 16384 0 (map place l) up (links_below n l h k))
    ∙ map_arrow_at_place n l h k

-- ---- the arrows of a table

fit_listed : (n k s : ℕ) (f : ℕ → Bool) → ((p : ℕ) → p < s + k → f p ≡ true → links n (arrow_at p) ≡ true)
    → fit_from n s (map arrow_at (listed k s f)) ≡ true
unfolding fit_from listed
fit_listed n zero s f all = refl
fit_listed n (suc k) s f all = go (f s) refl (fit_listed n k (suc s) f (λ p h. all p (omega arith)))
  where
    weaker : (l : List Arrow) → fit_from n (suc s) l ≡ true → fit_from n s l ≡ true
    weaker [] e = refl
    weaker (x ∷ rest) e =
        let both : (links n x && leb (suc s) (place x)) ≡ true =
        and_left (links n x && leb (suc s) (place x)) (fit_from n (place x + 1) rest) e in
        let low : suc s ≤ place x = leb-true (suc s) (place x) (and_right (links n x) (leb (suc s) (place x)) both) in
        and_intro (and_intro (and_left (links n x) (leb (suc s) (place x)) both) (le-leb s (place x) (omega arith)))
        (and_right (links n x && leb (suc s) (place x)) (fit_from n (place x + 1) rest) e)

    go : (b : Bool) → f s ≡ b → fit_from n (suc s) (map arrow_at (listed k (suc s) f)) ≡ true
        → fit_from n s (map arrow_at (kept_if b s (listed k (suc s) f))) ≡ true
    go true e rest =
        and_intro (and_intro (all s (omega arith) e)
        (le-leb s (place (arrow_at s)) (let z : place (arrow_at s) ≡ s = place_arrow_at s in omega arith)))
        (subst (λ (m : ℕ). fit_from n m (map arrow_at (listed k (suc s) f)) ≡ true)
        (let z : suc s ≡ place (arrow_at s) + 1 = (let w : place (arrow_at s) ≡ s = place_arrow_at s in omega arith) in z) rest)
    go false e rest = weaker (map arrow_at (listed k (suc s) f)) rest

-- the arrows of a table fit, where each is between steps that there are
pub arrows_fit : (n : ℕ) (rows : ℕ → ℕ) → n ≤ 64 → ((x : Arrow) → Ranged x → held rows x ≡ true → links n x ≡ true)
    → link_in_order n (arrows_of rows) ≡ true
unfolding arrows_of
arrows_fit n rows h all =
    sym (fit_places n (map arrow_at (listed 16384 0 (λ p. held rows (arrow_at p)))) h)
    ∙ fit_listed n 16384 0 (λ p. held rows (arrow_at p)) (λ p i e. all (arrow_at p) (arrow_at_ranged p (omega arith)) e)

-- the arrows of a table, put into an empty one, give its rows
pub table_of_arrows : (n : ℕ) (rows : ℕ → ℕ) → n ≤ 64 → ((x : Arrow) → Ranged x → held rows x ≡ true → links n x ≡ true)
    → (i : ℕ) → i < 256 → rows i < 2 ^ 64 → row (table_of (arrows_of rows)) i ≡ rows i
unfolding arrows_of
table_of_arrows n rows h all i l small =
    rows_same (row (table_of (arrows_of rows))) rows same i l (rows_filled 256 (arrows_of rows) (links_in n (arrows_of rows) h k) i) small
  where
    k : all_link n (arrows_of rows) ≡ true
    k = and_left (all_link n (arrows_of rows)) (ascending (arrows_of rows)) (arrows_fit n rows h all)

    same : (x : Arrow) → Ranged x → held (row (table_of (arrows_of rows))) x ≡ held rows x
    same x r =
        held_filled 256 (arrows_of rows) (links_in n (arrows_of rows) h k) x r
        ∙ ap (λ (m : List ℕ). member m (place x)) (map_place_arrow_at (listed 16384 0 (λ p. held rows (arrow_at p))))
        ∙ member_listed 16384 0 (λ p. held rows (arrow_at p)) (place x) (omega arith) (place_lt x r)
        ∙ ap (held rows) (arrow_at_place x r)
