-- Markings that name only the steps there are. Assumes nothing.
use Rattle.std.specs.Prelude.{ℕ, ◌^◌, ◌<◌, ◌≡◌, true, ◌&&◌}
use Rattle.std.proofs.Common.{ltb-true, lt-ltb}
use Rattle.sets.specs.Sets.{within}
use Rattle.sets.specs.Truth.{and_left, and_right, and_intro}
use Rattle.moves.specs.declared.Marking.{Marking}
use Rattle.moves.specs.Move.{marking_fits}

pub record Inside (n : ℕ) (m : Marking) : Type 0 where
  pub done_in : m.done < 2 ^ n
  pub due_in : m.due < 2 ^ n
  pub included_in : m.included < 2 ^ n

pub fits_inside : (n : ℕ) (m : Marking) → marking_fits n m ≡ true → Inside n m
fits_inside n m e =
    let d = within n m.done in
    let u = within n m.due in
    let i = within n m.included in
    let both : (d && u) ≡ true = and_left (d && u) i e in
    record {
      done_in = ltb-true m.done (2 ^ n) (and_left d u both);
      due_in = ltb-true m.due (2 ^ n) (and_right d u both);
      included_in = ltb-true m.included (2 ^ n) (and_right (d && u) i e);
    }

pub inside_fits : (n : ℕ) (m : Marking) → Inside n m → marking_fits n m ≡ true
inside_fits n m i = and_intro (and_intro (lt-ltb m.done (2 ^ n) i.done_in) (lt-ltb m.due (2 ^ n) i.due_in))
    (lt-ltb m.included (2 ^ n) i.included_in)
