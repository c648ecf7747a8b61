-- The kept marking: one marking, which an allowed entry alters where it lies.
use Rattle.rules.specs.Graph.{Graph}
use Rattle.moves.specs.declared.Marking.{Marking}
use Rattle.moves.specs.declared.Entry.{Entry}
use Rattle.moves.specs.Move.{Move}
use Rattle.rules.specs.Answers.{the_move}
use Rattle.kept.specs.declared.Kept.{Kept}
use Rattle.std.specs.Prelude.{Ok, Err}

-- an allowed entry alters it; a refused entry leaves its three sets untouched
unfoldable pub kept_by : Marking → Move → Marking
kept_by m (Ok next) = next
kept_by m (Err d) = m

-- the same answers as the move, and the marking that lies there then
unfoldable pub the_kept : Graph → Marking → Entry → Kept
the_kept g m e = record { answer = the_move g m e; marking = kept_by m (the_move g m e) }
