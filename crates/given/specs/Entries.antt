-- Where entries come after a table: a number below 11, and 17, is the table's and is given exactly if it is the lowest that holds there;
-- 11 to 15 are given only where nothing of the table holds, for the earliest entry that is not allowed, which `stopped_first` and the
-- relation `LapAnswer` say. So the order of laps is 2, 4, 6, 7, 8, 17, then 11 to 15, and that of restoring 2, 4, 6, 7, 8, 10, then 16,
-- then 11 to 15: these two do not go up. Assumes nothing.
use Rattle.std.specs.Prelude.{ℕ, ◌<◌, ◌≡◌, List, true, cond}
use Rattle.std.proofs.Math.Path.{refl}
use Rattle.std.proofs.Common.{sym, ap, arith}
use Rattle.moves.specs.declared.Marking.{Marking}
use Rattle.moves.specs.First.{Verdict}
use Rattle.moves.specs.First.{Line, first, number_of_verdict, number_of}
use Rattle.moves.specs.Given.{ascends}
use Rattle.rules.specs.Graph.{Graph}
use Rattle.journal.specs.Ran.{Ran}
use Rattle.journal.specs.Journal.{entries}
use Rattle.journal.specs.Run.{run_from, ran_of, run_lines, the_run, number_of_run}
use Rattle.moves.specs.declared.Refusal.TheVariants.{NotApplied}
use Rattle.records.specs.declared.Record.{Record}
use Rattle.records.specs.Records.{applies, gives}
use Rattle.folding.specs.Answers.{restore_lines, the_restoring}
use Rattle.laps.specs.Lapped.{Lapped}
use Rattle.given.specs.Tables.{Exactly, exactly}
use Rattle.laps.specs.Laps.{lap_lines, LapAnswer, number_of_lap}
use Rattle.std.specs.Prelude.{Ok, Err}
use Rattle.journal.specs.Ran.{stopped}
use Rattle.laps.specs.declared.Endless.{Endless}
use Rattle.laps.specs.declared.Broken.{Broken}

-- what a table refuses is told by its number, whatever would be run
told_number : (v : Verdict) (o : Ran) → 0 < number_of_verdict v → number_of_run (ran_of v o) ≡ number_of_verdict v
unfolding ran_of number_of_run number_of_verdict
told_number (Ok _) o h = absurd (let z : ⊥ = omega arith in z)
told_number (Err r) o h = refl

-- the answer is the table's where one of its numbers holds, and else what comes of the entries
pub record TableFirst (lines : List Line) (answer entries-give : Ran) : Type 0 where
  pub refused : 0 < number_of_verdict (first lines) → Exactly (number_of_run answer) lines
  pub looked : first lines ≡ Ok tt → answer ≡ entries-give

table_first : (lines : List Line) (o : Ran) → ascends 0 lines ≡ true → TableFirst lines (ran_of (first lines) o) o
unfolding ran_of
table_first lines o up =
    record {
      refused = λ h. exactly lines (number_of_run (ran_of (first lines) o)) up (told_number (first lines) o h);
      looked = λ e. ap (λ (v : Verdict). ran_of v o) e;
    }

module _ (g : Graph) (m : Marking) (j : List ℕ) where
  -- run: 2, 4, 6, 7, 8, then the entries
  pub run_given : TableFirst (run_lines g m j) (the_run g m j) (run_from g m 0 (entries j))
  unfolding ascends number_of the_run
  run_given = table_first (run_lines g m j) (run_from g m 0 (entries j)) refl

  -- restore: 2, 4, 6, 7, 8, 10, then 16, then the entries
  pub restore_given : (r : Record)
      → TableFirst (restore_lines g r j m) (the_restoring g r j m)
      (cond (applies r m) (run_from g (gives r m) 0 (entries j)) (Err (stopped 0 m NotApplied)))
  unfolding ascends number_of the_restoring
  restore_given r = table_first (restore_lines g r j m) _ refl

-- lap: 2, 4, 6, 7, 8, 17, then the entries. An answer that satisfies the relation has the table's number where one of them holds
pub lap_given : (g : Graph) (m : Marking) (stem lap : List ℕ) (o : Lapped) → LapAnswer g m stem lap o
    → 0 < number_of_verdict (first (lap_lines g m stem lap))
    → Exactly (number_of_lap o) (lap_lines g m stem lap)
unfolding ascends number_of number_of_lap LapAnswer number_of_verdict
lap_given g m stem lap o a h = exactly (lap_lines g m stem lap) (number_of_lap o) refl (same o a)
  where
    never : {A : Type 0} → first (lap_lines g m stem lap) ≡ Ok tt → A
    never e = absurd (let z : number_of_verdict (first (lap_lines g m stem lap)) ≡ 0 = ap number_of_verdict e in let w : ⊥ = omega arith in w)

    same : (q : Lapped) → LapAnswer g m stem lap q → number_of_lap q ≡ number_of_verdict (first (lap_lines g m stem lap))
    same (Err (Broken.Refused r)) e = sym (ap number_of_verdict e)
    same (Err (Broken.Stopped k p r)) e = never e.0
    same (Ok Endless.Accepted) e = never e.0
    same (Ok (Endless.Starved s)) e = never e.0
