-- `inner::step_at`: each test of the code is a case of the walk: a bad length, an entry at the place, none left. Assumes nothing.
use Prim.Native.Nat.{◌+◌, ◌*◌, ◌≤◌}
use mathlib.Core.Path.{◌≡◌, sym, ◌∙◌, ap}
use mathlib.Core.Bool.{true, false}
use native.Mathlib.Omega.{arith}
use lib.ListN.{length}
use Rattle.moves.specs.declared.Entry.{Entry}
use Rattle.journal.specs.Ran.{Walked}
use Rattle.journal.specs.Journal.{length_fits}
use Rattle.journal.specs.Laws.{fits_threes, walk_length, walk_entry, walk_end}
use Rattle.journal.proofs.inner.step_at.Goals as goal
use Rattle.journal.proofs.inner.step_at.Goals.{Else-not-length_fits}
use Rattle.std.specs.Prelude.{Ok, Some}

long : (p : Else-not-length_fits) → length_fits p.args.j.now ≡ true
long p = sym p.length_fits.ensures ∙ p.if-not-length_fits.false

pub returns-then-not-length_fits : goal.returns-then-not-length_fits
returns-then-not-length_fits c =
    let a = c.args in
    let j = a.j.now in
    let short : length_fits j ≡ false = sym c.length_fits.ensures ∙ c.if-not-length_fits.true in
    c.stay.ensures ∙ sym (walk_length j a.place short)

pub returns-then-place-j : goal.returns-then-place-j
returns-then-place-j c =
    let a = c.args in
    let j = a.j.now in
    let room : 3 * a.place + 3 ≤ length j = omega arith in
    ap (λ (e : Entry). record { said = Ok (Some e); place = a.place + 1 }) c.entry_at.ensures
    ∙ sym (walk_entry j a.place (long (goal.at.returns-then-place-j c).Else-not-length_fits) room)

pub returns : goal.returns
returns c =
    let a = c.args in
    let j = a.j.now in
    let past : length j ≤ 3 * a.place = omega (arith, fits_threes j (long (goal.at.returns c).Else-not-length_fits)) in
    c.stay-2.ensures ∙ sym (walk_end j a.place (long (goal.at.returns c).Else-not-length_fits) past)
