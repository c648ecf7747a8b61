-- The laws of the kept marking.
-- Assumes nothing.
use Rattle.std.specs.Prelude.{◌≡◌, refl}
use Rattle.std.proofs.Common.{ap}
use Rattle.rules.specs.Graph.{Graph}
use Rattle.moves.specs.declared.Marking.{Marking}
use Rattle.moves.specs.declared.Entry.{Entry}
use Rattle.moves.specs.declared.Refusal.{Refusal}
use Rattle.moves.specs.Move.{Move}
use Rattle.rules.specs.Answers.{the_move}
use Rattle.kept.specs.Keep.{kept_by, the_kept}
use Rattle.std.specs.Prelude.{Ok, Err}
use Rattle.moves.specs.Move.{denied}

-- the same answers as the move
pub kept_answer : (g : Graph) (m : Marking) (e : Entry) → (the_kept g m e).answer ≡ the_move g m e
unfolding the_kept
kept_answer g m e = refl

-- an allowed entry alters it
pub kept_moved : (g : Graph) (m next : Marking) (e : Entry) → the_move g m e ≡ Ok next
    → the_kept g m e ≡ record { answer = Ok next; marking = next }
unfolding the_kept kept_by
kept_moved g m next e q = ap (λ (o : Move). record { answer = o; marking = kept_by m o }) q

-- a refused one leaves it untouched
pub kept_refused : (g : Graph) (m back : Marking) (r : Refusal) (e : Entry) → the_move g m e ≡ Err (denied back r)
    → the_kept g m e ≡ record { answer = Err (denied back r); marking = m }
unfolding the_kept kept_by
kept_refused g m back r e q = ap (λ (o : Move). record { answer = o; marking = kept_by m o }) q
