-- The tests of numbers 1, 2 and 4 in words: lengths and counts by their bounds, each set by what it names, and each action by its byte. A
-- number is below 2 ^ n exactly if the set that it stands for names nothing at or beyond n. Assumes nothing.
use Rattle.std.specs.Prelude.{ℕ, ◌/◌, ◌%◌, ◌^◌, ◌<◌, ◌≡◌, refl, ◌↔◌, ◌⊎◌, List, Bool, true, false, cond, length, get_or, ltb}
use Rattle.std.proofs.Common.{sym, ap, ◌∙◌, subst, inl, inr, arith, lt-ltb, le-ltb, ltb-true, le-leb, eq-eqb, eqb-true}
use Rattle.std.proofs.Math.Decide.{dec_lt}
use Rattle.sets.specs.Sets.{has, within}
use Rattle.sets.specs.Truth.{and_intro, is_false}
use Rattle.sets.specs.Laws.{member_below, lt_of_members, every_at, every_of}
use Rattle.moves.specs.declared.Marking.{Marking}
use Rattle.tables.specs.Tables.{row, keeps, counts_fit}
use Rattle.moves.specs.Move.{marking_fits}
use Rattle.tables.specs.Laws.{Counted, counts_bound, keeps_row, named_below}
use Rattle.moves.specs.Inside.{Inside, fits_inside, inside_fits}
use Rattle.layout.specs.Layout.{size_at, contents_fit}
use Rattle.bodies.specs.Bodies.{row_in, set_at, role_sets_fit, actions_fit}
use Rattle.bodies.specs.Laws.{row_byte}
use Rattle.reading.specs.declared.Form.{Form}
use Rattle.reading.specs.Reading.{six_bodies, five_bodies, is_six, form_of, layout_fits}
use Rattle.reading.specs.Laws.{Placed, layout_placed, form_six, form_five}
use Rattle.rounds.specs.Contents.{contents_exactly}

-- ---- 1 and 2

pub layout_exactly : (s : List ℕ) → (layout_fits s ≡ true) ↔ Placed s
unfolding layout_fits
layout_exactly s =
    let f = form_of s in (
      layout_placed s,
      λ p. and_intro
          (and_intro
          (and_intro (and_intro (and_intro (le-leb f.least (length s) p.long) (le-leb (length s) f.most p.short)) p.fits)
          (eq-eqb (size_at s 0) f.counts p.one))
          (eq-eqb (size_at s 1) 24 p.two))
          (eq-eqb (size_at s 4 % 3) 0 p.five),
    )

-- and byte 0 is 6 or 5, as the form has it
pub layout_form : (s : List ℕ) → Placed s
    → ((form_of s ≡ six_bodies) × (get_or s 0 0 ≡ 6)) ⊎ ((form_of s ≡ five_bodies) × (get_or s 0 0 ≡ 5))
layout_form s p = go (is_six s) refl
  where
    go : (b : Bool) → is_six s ≡ b → ((form_of s ≡ six_bodies) × (get_or s 0 0 ≡ 6)) ⊎ ((form_of s ≡ five_bodies) × (get_or s 0 0 ≡ 5))
    go true e = inl (form_six s e, eqb-true (get_or s 0 0) 6 e)
    go false e =
        let fits : contents_fit 5 s ≡ true = subst (λ (f : Form). contents_fit f.bodies s ≡ true) (form_five s e) p.fits in
        inr (form_five s e, ((contents_exactly 5 s).0 fits).0)

pub counts_exactly : (steps people roles actions : ℕ) → (counts_fit steps people roles actions ≡ true) ↔ Counted steps people roles actions
counts_exactly steps people roles actions = (
  counts_bound steps people roles actions,
  λ c. and_intro
      (and_intro
      (and_intro (and_intro (le-leb 1 steps c.steps_some) (le-leb steps 64 c.steps_most))
      (and_intro (le-leb 1 people c.people_some) (le-leb people 16 c.people_most)))
      (and_intro (le-leb 1 roles c.roles_some) (le-leb roles 16 c.roles_most)))
      (and_intro (le-leb 1 actions c.actions_some) (le-leb actions 64 c.actions_most)),
)

-- ---- 4

-- the set names nothing at or beyond n
abbrev pub Names : ℕ → ℕ → Type 0
Names n x = (s : ℕ) → has x s ≡ true → s < n

small_names : (n x : ℕ) → x < 2 ^ n → Names n x
small_names n x h s e = member_below n x s h e

names_small : (n x : ℕ) → Names n x → x < 2 ^ n
names_small n x names = lt_of_members n x (λ s h. is_false (has x s) (λ e. let l : s < n = names s e in let z : ⊥ = omega arith in z))

pub within_exactly : (n x : ℕ) → (within n x ≡ true) ↔ Names n x
within_exactly n x = (λ e. small_names n x (ltb-true x (2 ^ n) e), λ names. lt-ltb x (2 ^ n) (names_small n x names))

pub marking_exactly : (n : ℕ) (m : Marking) → (marking_fits n m ≡ true) ↔ (Names n m.done × Names n m.due × Names n m.included)
marking_exactly n m = (
  λ e. let i : Inside n m = fits_inside n m e in
      (small_names n m.done i.done_in, small_names n m.due i.due_in, small_names n m.included i.included_in),
  λ p. inside_fits n m
      (record {
        done_in = names_small n m.done p.0;
        due_in = names_small n m.due p.1;
        included_in = names_small n m.included p.2;
      }),
)

-- the role sets of a body
pub role_sets_exactly : (roles : ℕ) (body : List ℕ)
    → (role_sets_fit roles body ≡ true) ↔ ((i : ℕ) → i < length body / 2 → Names roles (set_at body i))
unfolding role_sets_fit
role_sets_exactly roles body = (
  λ e i h. (within_exactly roles (set_at body i)).0 (every_at (length body / 2) (λ j. within roles (set_at body j)) e i h),
  λ all. every_of (length body / 2) (λ j. within roles (set_at body j)) (λ i h. (within_exactly roles (set_at body i)).1 (all i h)),
)

-- the actions of a body
pub actions_exactly : (actions : ℕ) (body : List ℕ)
    → (actions_fit actions body ≡ true) ↔ ((i : ℕ) → i < length body → get_or body i 0 < actions)
unfolding actions_fit
actions_exactly actions body = (
  λ e i h. subst (λ (x : ℕ). x < actions) (row_byte body i)
      (ltb-true (row_in 1 body i) actions (every_at (length body) (λ j. ltb (row_in 1 body j) actions) e i h)),
  λ all. every_of (length body) (λ j. ltb (row_in 1 body j) actions)
      (λ i h. lt-ltb (row_in 1 body i) actions (subst (λ (x : ℕ). x < actions) (sym (row_byte body i)) (all i h))),
)

-- a table: what row i names is below the limit, and i below the count
abbrev pub Keeps : ℕ → ℕ → List ℕ → Type 0
Keeps count limit t = (i s : ℕ) → i < length t → has (row t i) s ≡ true → (i < count) × (s < limit)

pub keeps_exactly : (count limit : ℕ) (t : List ℕ) → (keeps count limit t ≡ true) ↔ Keeps count limit t
unfolding keeps
keeps_exactly count limit t = (there, back)
  where
    there : keeps count limit t ≡ true → Keeps count limit t
    there e i s h f = (named_below count limit t e i s f, small_names limit (row t i) (keeps_row count limit t e i) s f)

    back : Keeps count limit t → keeps count limit t ≡ true
    back all = every_of (length t) (λ i. within (cond (ltb i count) limit 0) (row t i)) (λ i h. go i h (dec_lt i count))
      where
        go : (i : ℕ) → i < length t → Dec (i < count) → within (cond (ltb i count) limit 0) (row t i) ≡ true
        go i h (yes l) =
            ap (λ (b : Bool). within (cond b limit 0) (row t i)) (lt-ltb i count l)
            ∙ (within_exactly limit (row t i)).1 (λ s e. (all i s h e).1)
        go i h (no l) =
            ap (λ (b : Bool). within (cond b limit 0) (row t i)) (le-ltb i count (omega arith))
            ∙ (within_exactly 0 (row t i)).1 (λ s e. absurd (let k : i < count = (all i s h e).0 in let z : ⊥ = omega arith in z))
