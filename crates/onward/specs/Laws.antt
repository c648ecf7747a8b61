-- The law of a lap's answer, which a relation promises. The tracker's answer, and whether a job can still end, are
-- promised word by word and need none. Assumes nothing.
use Rattle.std.specs.Prelude.{ℕ, ◌≡◌, List}
use Rattle.std.proofs.Common.{sym, ap, ◌∙◌}
use Rattle.moves.specs.declared.Marking.{Marking}
use Rattle.rules.specs.Graph.{Graph}
use Rattle.laps.proofs.Laws.{one_answer}
use Rattle.onward.specs.declared.Lapped.{Lapped}
use Rattle.onward.specs.Endless.{LapTold, lapped_of}

-- any two structs that tell a right answer to a lap are the same
pub one_told : (g : Graph) (m : Marking) (stem lap : List ℕ) (r q : Lapped) → LapTold g m stem lap r → LapTold g m stem lap q → r ≡ q
one_told g m stem lap r q a b =
    a.told ∙ ap lapped_of (one_answer g m stem lap a.answer b.answer a.right b.right) ∙ sym b.told
