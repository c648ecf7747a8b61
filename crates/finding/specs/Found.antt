-- What a finding says of several sets of steps: the first that has a member.
use Rattle.std.specs.Prelude.{ℕ, Bool, true, cond, not}
use Rattle.std.specs.declared.option.Option.{Option}
use Rattle.std.specs.declared.option.Option.TheVariants.{Some, None}
use Rattle.std.specs.Option.{option_or}
use Rattle.sets.specs.Sets.{meet, minus, full, empty}
use Rattle.moves.specs.declared.Marking.{Marking}
use Rattle.records.specs.declared.Record.{Record}
use Rattle.finding.specs.declared.parts.Held.{Held}
use Rattle.finding.specs.declared.markings.State.{State}
use Rattle.finding.specs.declared.markings.State.TheVariants.{Done, Due, Included}
use Rattle.finding.specs.declared.recorded.Need.{Need}
use Rattle.finding.specs.declared.recorded.Need.TheVariants.{In, Ex, OutOrEx}

-- steps of a set, if there are any
abbrev pub held_in : {S : Type 0} → S → ℕ → Option (Held S)
held_in {S} set steps = cond {A = Option (Held S)} (empty steps) None (Some (record { set = set; steps = steps }))

-- a set that is found is no empty one
abbrev pub is_named : {S : Type 0} → Option (Held S) → Bool
is_named None = true
is_named (Some h) = not (empty h.steps)

-- the first of three that has a member
abbrev pub earliest_of : {S : Type 0} → Option (Held S) → Option (Held S) → Option (Held S) → Option (Held S)
earliest_of a b c = option_or (option_or a b) c

-- the members of x that are not below n
abbrev pub members_beyond : ℕ → ℕ → ℕ
members_beyond n x = minus x (full n)

-- the first of done, due and included that names steps beyond n
abbrev pub stray_of : ℕ → Marking → Option (Held State)
stray_of n m =
    earliest_of (held_in Done (members_beyond n m.done)) (held_in Due (members_beyond n m.due)) (held_in Included (members_beyond n m.included))

-- the first of NeedIn, NeedEx and NeedOutOrEx that a marking does not meet, and the steps where it does not
abbrev pub lack_of : Record → Marking → Option (Held Need)
lack_of r m =
    earliest_of (held_in In (minus r.needin m.included)) (held_in Ex (minus r.needex m.done))
    (held_in OutOrEx (minus (meet r.needout m.included) m.done))
