-- Folding entries: what one entry folds to, and a list of them.
use Rattle.std.specs.Prelude.{ℕ, List, [], ◌∷◌, Bool, false, ◌&&◌, cond}
use Rattle.sets.specs.Sets.{single, minus}
use Rattle.rules.specs.Graph.{Graph}
use Rattle.moves.specs.declared.inner.Row.{Row}
use Rattle.moves.specs.declared.Entry.{Entry}
use Rattle.rules.specs.Answers.{row_of, entry_known}
use Rattle.moves.specs.Move.{person_holds, step_has}
use Rattle.records.specs.declared.Record.{Record}
use Rattle.records.specs.Records.{identity, impossible, tidy, join}

-- what an entry meets of the graph
abbrev pub row_met : Graph → Entry → Row
row_met g e = row_of g e.person e.step.0

-- step s needs to be included, and each of its conditions excluded or done. It becomes done and no longer due; then its responses
-- are due, the steps it includes are included, and those it excludes are not
abbrev pub step_record : Row → ℕ → Record
step_record w s =
    record {
      never = false;
      needin = single s;
      needex = 0;
      needout = w.conditions;
      done = single s;
      dueset = w.responses;
      dueclear = single s;
      inset = minus w.includes w.excludes;
      inclear = w.excludes;
    }

-- some marking allows the entry: its numbers are known, its person has the role and so does its step
abbrev pub possible : Graph → Entry → Bool
possible g e = entry_known g e && person_holds (row_met g e) e && step_has (row_met g e) e

-- what an entry needs and does
unfoldable pub entry_record : Graph → Entry → Record
entry_record g e = cond (possible g e) (step_record (row_met g e) e.step.0) impossible

-- the fold of a list of entries is the join over them; of none it is the identity
unfoldable pub fold_of : Graph → List Entry → Record
fold_of g [] = identity
fold_of g (e ∷ rest) = join (tidy (entry_record g e)) (fold_of g rest)
