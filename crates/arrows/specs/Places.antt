-- Places: the order of triples is the order of places, and an arrow is its place. Assumes nothing.
use Rattle.std.specs.Prelude.{ℕ, suc, ◌+◌, ◌*◌, ◌/◌, ◌%◌, ◌≤◌, ◌<◌, ◌≡◌, refl, List, [], ◌∷◌, ◌++◌, Bool, true, false, ◌&&◌, ◌||◌, length, eqb, ltb, leb}
use Rattle.std.proofs.Common.{sym, ap, ap₂, ◌∙◌, arith, lt-ltb, le-ltb, le-leb, leb-true, ltb-true, eq-eqb, ne_eqb}
use Rattle.std.proofs.Math.Decide.{dec_lt}
use Rattle.sets.specs.Truth.{and_left, and_right}
use Rattle.arrows.specs.Arrows.{Arrow, arrows_in, spelt, links, before, all_link, ascending, link_in_order, place, arrow_at}

-- an arrow of one of the four kinds between two of 64 steps
pub record Ranged (x : Arrow) : Type 0 where
  pub kind_in : x.kind < 4
  pub from_in : x.from < 64
  pub to_in : x.to < 64

pub links_ranged : (n : ℕ) (x : Arrow) → n ≤ 64 → links n x ≡ true → Ranged x
links_ranged n x h e =
    let k : x.kind ≤ 3 =
    leb-true x.kind 3 (and_left (leb x.kind 3) (ltb x.from n)
    (and_left (leb x.kind 3 && ltb x.from n) (ltb x.to n) e)) in
    let a : x.from < n =
    ltb-true x.from n (and_right (leb x.kind 3) (ltb x.from n)
    (and_left (leb x.kind 3 && ltb x.from n) (ltb x.to n) e)) in
    let b : x.to < n = ltb-true x.to n (and_right (leb x.kind 3 && ltb x.from n) (ltb x.to n) e) in
    record { kind_in = omega arith; from_in = omega arith; to_in = omega arith }

-- ---- an arrow is its place

pub place_arrow_at : (p : ℕ) → place (arrow_at p) ≡ p
place_arrow_at p = omega arith

pub arrow_at_place : (x : Arrow) → Ranged x → arrow_at (place x) ≡ x
arrow_at_place x r =
    let k : place x / 4096 ≡ x.kind = omega arith in
    let a : place x / 64 % 64 ≡ x.from = omega arith in
    let b : place x % 64 ≡ x.to = omega arith in
    λ i. record { kind = k i; from = a i; to = b i }

pub place_lt : (x : Arrow) → Ranged x → place x < 16384
place_lt x r = omega arith

pub arrow_at_ranged : (p : ℕ) → p < 16384 → Ranged (arrow_at p)
arrow_at_ranged p h = record { kind_in = omega arith; from_in = omega arith; to_in = omega arith }

-- ---- the order

pub before_place : (x y : Arrow) → Ranged x → Ranged y → before x y ≡ ltb (place x) (place y)
before_place x y r q = kinds (dec_lt x.kind y.kind) (dec_lt y.kind x.kind)
  where
    inner : Bool
    inner = ltb x.from y.from || (eqb x.from y.from && ltb x.to y.to)

    tos : x.kind ≡ y.kind → x.from ≡ y.from → Dec (x.to < y.to) → ltb x.to y.to ≡ ltb (place x) (place y)
    tos k a (yes h) = lt-ltb x.to y.to h ∙ sym (lt-ltb (place x) (place y) (omega arith))
    tos k a (no h) = le-ltb x.to y.to (omega arith) ∙ sym (le-ltb (place x) (place y) (omega arith))

    froms : x.kind ≡ y.kind → Dec (x.from < y.from) → Dec (y.from < x.from) → inner ≡ ltb (place x) (place y)
    froms k (yes h) e = ap (λ (b : Bool). b || (eqb x.from y.from && ltb x.to y.to)) (lt-ltb x.from y.from h)
        ∙ sym (lt-ltb (place x) (place y) (omega arith))
    froms k (no h) (yes i) =
        ap₂ (λ (b c : Bool). b || (c && ltb x.to y.to)) (le-ltb x.from y.from (omega arith))
        (ne_eqb x.from y.from (λ e. let z : ⊥ = omega arith in z))
        ∙ sym (le-ltb (place x) (place y) (omega arith))
    froms k (no h) (no i) =
        let e : x.from ≡ y.from = omega arith in
        ap₂ (λ (b c : Bool). b || (c && ltb x.to y.to)) (le-ltb x.from y.from (omega arith)) (eq-eqb x.from y.from e)
        ∙ tos k e (dec_lt x.to y.to)

    kinds : Dec (x.kind < y.kind) → Dec (y.kind < x.kind) → before x y ≡ ltb (place x) (place y)
    kinds (yes h) e = ap (λ (b : Bool). b || (eqb x.kind y.kind && inner)) (lt-ltb x.kind y.kind h)
        ∙ sym (lt-ltb (place x) (place y) (omega arith))
    kinds (no h) (yes i) =
        ap₂ (λ (b c : Bool). b || (c && inner)) (le-ltb x.kind y.kind (omega arith))
        (ne_eqb x.kind y.kind (λ e. let z : ⊥ = omega arith in z))
        ∙ sym (le-ltb (place x) (place y) (omega arith))
    kinds (no h) (no i) =
        let e : x.kind ≡ y.kind = omega arith in
        ap₂ (λ (b c : Bool). b || (c && inner)) (le-ltb x.kind y.kind (omega arith)) (eq-eqb x.kind y.kind e)
        ∙ froms e (dec_lt x.from y.from) (dec_lt y.from x.from)

-- the same test with places: each links two of the n steps, and its place is at least `next`, one past the place before
unfoldable pub fit_from : ℕ → ℕ → List Arrow → Bool
fit_from n next [] = true
fit_from n next (x ∷ rest) = links n x && leb next (place x) && fit_from n (place x + 1) rest

shuffle : (a b c d : Bool) → (a && b && (c && d)) ≡ (a && c && (b && d))
shuffle true true c d = refl
shuffle true false true d = refl
shuffle true false false d = refl
shuffle false b c d = refl

fit_after : (n : ℕ) (x : Arrow) (l : List Arrow) → n ≤ 64 → links n x ≡ true
    → fit_from n (place x + 1) l ≡ (all_link n l && ascending (x ∷ l))
unfolding fit_from all_link ascending
fit_after n x [] h e = refl
fit_after n x (y ∷ rest) h e = go (links n y) refl (fit_after n y rest h)
  where
    go : (b : Bool) → links n y ≡ b → (links n y ≡ true → fit_from n (place y + 1) rest ≡ (all_link n rest && ascending (y ∷ rest)))
        → (links n y && leb (place x + 1) (place y) && fit_from n (place y + 1) rest) ≡ (links n y && all_link n rest
        && (before x y && ascending (y ∷ rest)))
    go true k later =
        ap₂ (λ (a b : Bool). links n y && a && b)
        (ap (λ (m : ℕ). leb m (place y)) (let z : place x + 1 ≡ suc (place x) = omega arith in z)
        ∙ sym (before_place x y (links_ranged n x h e) (links_ranged n y h k))) (later k)
        ∙ shuffle (links n y) (before x y) (all_link n rest) (ascending (y ∷ rest))
    go false k later = ap (λ (b : Bool). b && leb (place x + 1) (place y) && fit_from n (place y + 1) rest) k
        ∙ sym (ap (λ (b : Bool). b && all_link n rest && (before x y && ascending (y ∷ rest))) k)

-- the arrows fit exactly if they pass that test from 0 on
pub fit_places : (n : ℕ) (l : List Arrow) → n ≤ 64 → fit_from n 0 l ≡ link_in_order n l
unfolding fit_from all_link ascending
fit_places n [] h = refl
fit_places n (x ∷ rest) h = go (links n x) refl
  where
    drop_true : (a : Bool) (b c : Bool) → b ≡ true → (a && b && c) ≡ (a && c)
    drop_true true b c e = ap (λ (d : Bool). d && c) e
    drop_true false b c e = refl

    assoc : (a b c : Bool) → (a && (b && c)) ≡ (a && b && c)
    assoc true b c = refl
    assoc false b c = refl

    go : (b : Bool) → links n x ≡ b
        → (links n x && leb 0 (place x) && fit_from n (place x + 1) rest) ≡ (links n x && all_link n rest && ascending (x ∷ rest))
    go true k =
        drop_true (links n x) (leb 0 (place x)) (fit_from n (place x + 1) rest) (le-leb 0 (place x) (omega arith))
        ∙ ap (λ (b : Bool). links n x && b) (fit_after n x rest h k)
        ∙ assoc (links n x) (all_link n rest) (ascending (x ∷ rest))
    go false k = ap (λ (b : Bool). b && leb 0 (place x) && fit_from n (place x + 1) rest) k
        ∙ sym (ap (λ (b : Bool). b && all_link n rest && ascending (x ∷ rest)) k)

-- ---- bytes and back

pub arrows_in_spelt : (l : List Arrow) → arrows_in (spelt l) ≡ l
unfolding arrows_in spelt
arrows_in_spelt [] = refl
arrows_in_spelt (x ∷ rest) = ap (λ (l : List Arrow). x ∷ l) (arrows_in_spelt rest)

pub spelt_arrows_in : (s : List ℕ) → length s % 3 ≡ 0 → spelt (arrows_in s) ≡ s
unfolding arrows_in spelt
spelt_arrows_in [] h = refl
spelt_arrows_in (k ∷ []) h = absurd (let z : ⊥ = omega arith in z)
spelt_arrows_in (k ∷ a ∷ []) h = absurd (let z : ⊥ = omega arith in z)
spelt_arrows_in (k ∷ a ∷ b ∷ rest) h = ap (λ (l : List ℕ). k ∷ a ∷ b ∷ l) (spelt_arrows_in rest (omega arith))

pub length_spelt : (l : List Arrow) → length (spelt l) ≡ 3 * length l
unfolding spelt
length_spelt [] = refl
length_spelt (x ∷ rest) = let r : length (spelt rest) ≡ 3 * length rest = length_spelt rest in omega arith

pub spelt_append : (l m : List Arrow) → spelt (l ++ m) ≡ spelt l ++ spelt m
unfolding spelt
spelt_append [] m = refl
spelt_append (x ∷ rest) m = ap (λ (l : List ℕ). x.kind ∷ x.from ∷ x.to ∷ l) (spelt_append rest m)
