-- What a list of entries does, allowed one by one or not. No promise speaks of it: folds and laps are proved through it.
use Rattle.std.specs.Prelude.{List, [], ◌∷◌}
use Rattle.std.proofs.Math.Option.{Option, none, some, bind}
use Rattle.moves.specs.Move.{Move}
use Rattle.rules.specs.Answers.{entry_move}
use Rattle.rules.specs.Graph.{Graph}
use Rattle.moves.specs.declared.Marking.{Marking}
use Rattle.moves.specs.declared.Entry.{Entry}
use Rattle.moves.specs.Move.{after}
use Rattle.records.specs.declared.Record.{Record}
use Rattle.records.specs.Records.{identity, compose}
use Rattle.folding.specs.Fold.{row_met, step_record}
use Rattle.std.specs.Prelude.{Ok, Err}

-- the marking after the steps of all the entries, allowed or not
unfoldable pub after_all : Graph → Marking → List Entry → Marking
after_all g m [] = m
after_all g m (e ∷ rest) = after_all g (after (row_met g e) m e.step.0) rest

-- and what they do together, as a record
unfoldable pub effect : Graph → List Entry → Record
effect g [] = identity
effect g (e ∷ rest) = compose (step_record (row_met g e) e.step.0) (effect g rest)

-- ---- the entries, one by one

-- the marking after an allowed entry
unfoldable pub moved_to : Move → Option Marking
moved_to (Ok next) = some next
moved_to (Err d) = none

-- the end marking, if every entry is allowed
unfoldable pub end_of_all : Graph → Marking → List Entry → Option Marking
end_of_all g m [] = some m
end_of_all g m (e ∷ rest) = bind (moved_to (entry_move g m e)) (λ next. end_of_all g next rest)
