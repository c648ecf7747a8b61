-- Each number is given exactly when the table says. The numbers of both tables go up, so that the first line that holds has the lowest
-- number that holds: it is given exactly if its line holds and none before it. Assumes nothing.
use Rattle.std.specs.Prelude.{ℕ, ◌<◌, ◌≡◌, refl, ◌↔◌, List, true, false, not, ◌&&◌, length, ltb, Ok, Err}
use Rattle.std.proofs.Math.Path.{ap}
use Rattle.moves.specs.declared.Marking.{Marking}
use Rattle.moves.specs.First.{Verdict}
use Rattle.moves.specs.First.{number_of_verdict, number_of}
use Rattle.rules.specs.Graph.{Graph, sets_fit}
use Rattle.tables.specs.Tables.{counts_fit, kinds_apart}
use Rattle.moves.specs.Move.{marking_fits}
use Rattle.moves.specs.Given.{holds, ascends, Lowest, given_exactly, nothing_exactly}
use Rattle.reading.specs.Reading.{graph_in, layout_fits, counts_right, bodies_match, sets_inside, arrows_right, read_lines, read_verdict}
use Rattle.writing.specs.Writing.{sheet_bytes}
use Rattle.sheet.specs.Sheet.{write_lines, write_verdict, answer_of, the_written, number_of_written, length_of_written}
use Rattle.sets.specs.Truth.{or_false}

-- ---- reading

read_up : (s : List ℕ) → ascends 0 (read_lines s) ≡ true
unfolding ascends number_of
read_up s = refl

module _ (s : List ℕ) where
  pub read_exactly : (k : ℕ) → 0 < k → (number_of_verdict (read_verdict s) ≡ k) ↔ Lowest k (read_lines s)
  unfolding read_verdict
  read_exactly = given_exactly (read_lines s) (read_up s)

  pub read_nothing : (number_of_verdict (read_verdict s) ≡ 0) ↔ ((j : ℕ) → holds j (read_lines s) ≡ false)
  unfolding read_verdict
  read_nothing = nothing_exactly (read_lines s) (read_up s)

  -- and each number holds as the table of document 01 has it
  pub read_1 : holds 1 (read_lines s) ≡ not (layout_fits s)
  unfolding holds number_of
  read_1 = or_false (not (layout_fits s))

  pub read_2 : holds 2 (read_lines s) ≡ not (counts_right s)
  unfolding holds number_of
  read_2 = or_false (not (counts_right s))

  pub read_3 : holds 3 (read_lines s) ≡ not (bodies_match s)
  unfolding holds number_of
  read_3 = or_false (not (bodies_match s))

  pub read_4 : holds 4 (read_lines s) ≡ not (sets_inside s)
  unfolding holds number_of
  read_4 = or_false (not (sets_inside s))

  pub read_5 : holds 5 (read_lines s) ≡ not (arrows_right s)
  unfolding holds number_of
  read_5 = or_false (not (arrows_right s))

  pub read_6 : holds 6 (read_lines s) ≡ not (kinds_apart (graph_in s).steps (graph_in s).includes (graph_in s).excludes)
  unfolding holds number_of
  read_6 = or_false (not (kinds_apart (graph_in s).steps (graph_in s).includes (graph_in s).excludes))

-- ---- writing

write_up : (g : Graph) (m : Marking) (room : ℕ) → ascends 0 (write_lines g m room) ≡ true
unfolding ascends number_of
write_up g m room = refl

written_of_lem : (v : Verdict) (size : ℕ) → number_of_written (answer_of v size) ≡ number_of_verdict v
unfolding number_of_written answer_of number_of_verdict
written_of_lem (Ok _) size = refl
written_of_lem (Err r) size = refl

module _ (g : Graph) (m : Marking) (room : ℕ) where
  pub write_exactly : (k : ℕ) → 0 < k → (number_of_verdict (write_verdict g m room) ≡ k) ↔ Lowest k (write_lines g m room)
  unfolding write_verdict
  write_exactly = given_exactly (write_lines g m room) (write_up g m room)

  pub write_nothing : (number_of_verdict (write_verdict g m room) ≡ 0) ↔ ((j : ℕ) → holds j (write_lines g m room) ≡ false)
  unfolding write_verdict
  write_nothing = nothing_exactly (write_lines g m room) (write_up g m room)

  pub write_2 : holds 2 (write_lines g m room) ≡ not (counts_fit g.steps g.people g.roles g.actions)
  unfolding holds number_of
  write_2 = or_false (not (counts_fit g.steps g.people g.roles g.actions))

  pub write_4 : holds 4 (write_lines g m room) ≡ not (sets_fit g && marking_fits g.steps m)
  unfolding holds number_of
  write_4 = or_false (not (sets_fit g && marking_fits g.steps m))

  pub write_6 : holds 6 (write_lines g m room) ≡ not (kinds_apart g.steps g.includes g.excludes)
  unfolding holds number_of
  write_6 = or_false (not (kinds_apart g.steps g.includes g.excludes))

  pub write_18 : holds 18 (write_lines g m room) ≡ ltb room (length (sheet_bytes g m))
  unfolding holds number_of
  write_18 = or_false (ltb room (length (sheet_bytes g m)))

  -- the number of the answer is the table's, and the length where nothing is against it is that of the sheet
  pub written_number : number_of_written (the_written g m room) ≡ number_of_verdict (write_verdict g m room)
  written_number = written_of_lem (write_verdict g m room) (length (sheet_bytes g m))

  pub written_length : write_verdict g m room ≡ Ok tt → length_of_written (the_written g m room) ≡ length (sheet_bytes g m)
  unfolding length_of_written answer_of
  written_length e = ap (λ (v : Verdict). length_of_written (answer_of v (length (sheet_bytes g m)))) e
