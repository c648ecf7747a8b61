-- A finding names steps exactly where its number is given: each set that it looks at is empty exactly if its part of the rule holds.
-- Assumes nothing.
use Rattle.std.specs.Prelude.{ℕ, ◌≡◌, refl, Bool, true, false, not, ◌&&◌, cond, is_none}
use Rattle.std.specs.declared.option.Option.{Option}
use Rattle.std.specs.declared.option.Option.TheVariants.{Some, None}
use Rattle.std.specs.Option.{option_or}
use Rattle.std.proofs.Common.{sym, ap, ap₂, ◌∙◌}
use Rattle.sets.specs.Sets.{meet, minus, empty}
use Rattle.sets.specs.Laws.{subset_full}
use Rattle.moves.specs.declared.Marking.{Marking}
use Rattle.moves.specs.Move.{marking_fits}
use Rattle.records.specs.declared.Record.{Record}
use Rattle.records.specs.Records.{applies}
use Rattle.finding.specs.declared.parts.Held.{Held}
use Rattle.finding.specs.declared.markings.State.TheVariants.{Done, Due, Included}
use Rattle.finding.specs.declared.recorded.Need.TheVariants.{In, Ex, OutOrEx}
use Rattle.finding.specs.Found.{held_in, is_named, earliest_of, members_beyond, stray_of, lack_of}

first_cases : {S : Type 0} (p q r : Bool) (a b c : Held S)
    → is_none (earliest_of (cond p None (Some a)) (cond q None (Some b)) (cond r None (Some c))) ≡ (p && q && r)
first_cases true true true a b c = refl
first_cases true true false a b c = refl
first_cases true false r a b c = refl
first_cases false q r a b c = refl

-- the first of three sets has no member exactly if none of them has
pub first_empty : {S : Type 0} (x y z : S) (a b c : ℕ)
    → is_none (earliest_of (held_in x a) (held_in y b) (held_in z c)) ≡ (empty a && empty b && empty c)
first_empty x y z a b c =
    first_cases (empty a) (empty b) (empty c) (record { set = x; steps = a }) (record { set = y; steps = b }) (record { set = z; steps = c })

-- 8, and 4 of a sheet's marking: something is beyond exactly if the marking does not fit
pub stray_fits : (n : ℕ) (m : Marking) → is_none (stray_of n m) ≡ marking_fits n m
stray_fits n m =
    first_empty Done Due Included (members_beyond n m.done) (members_beyond n m.due) (members_beyond n m.included)
    ∙ ap₂ (λ (x y : Bool). x && y)
    (ap₂ (λ (x y : Bool). x && y) (subset_full n m.done) (subset_full n m.due))
    (subset_full n m.included)

and_turned : (p a b c : Bool) → (p && a && b && c) ≡ (p && (a && b && c))
and_turned true a b c = refl
and_turned false a b c = refl

-- 16: a record that is not never lacks something exactly if it does not apply
pub lack_applies : (r : Record) (m : Marking) → applies r m ≡ (not r.never && is_none (lack_of r m))
unfolding applies
lack_applies r m =
    let a = minus r.needin m.included in
    let b = minus r.needex m.done in
    let c = minus (meet r.needout m.included) m.done in
    and_turned (not r.never) (empty a) (empty b) (empty c)
    ∙ ap (λ (x : Bool). not r.never && x) (sym (first_empty In Ex OutOrEx a b c))

named_cases : {S : Type 0} (p : Bool) (x : S) (a : ℕ) → empty a ≡ p
    → is_named (cond {A = Option (Held S)} p None (Some (record { set = x; steps = a }))) ≡ true
named_cases true x a e = refl
named_cases false x a e = ap not e

either_named : {S : Type 0} (a b : Option (Held S)) → is_named a ≡ true → is_named b ≡ true → is_named (option_or a b) ≡ true
either_named None b e f = f
either_named (Some h) b e f = e

-- what is found has steps
pub first_named : {S : Type 0} (x y z : S) (a b c : ℕ) → is_named (earliest_of (held_in x a) (held_in y b) (held_in z c)) ≡ true
first_named x y z a b c =
    either_named (option_or (held_in x a) (held_in y b)) (held_in z c)
    (either_named (held_in x a) (held_in y b) (named_cases (empty a) x a refl) (named_cases (empty b) y b refl))
    (named_cases (empty c) z c refl)

pub stray_named : (n : ℕ) (m : Marking) → is_named (stray_of n m) ≡ true
stray_named n m = first_named Done Due Included (members_beyond n m.done) (members_beyond n m.due) (members_beyond n m.included)

pub lack_named : (r : Record) (m : Marking) → is_named (lack_of r m) ≡ true
lack_named r m =
    first_named In Ex OutOrEx (minus r.needin m.included) (minus r.needex m.done) (minus (meet r.needout m.included) m.done)
