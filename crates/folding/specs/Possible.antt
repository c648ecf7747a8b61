-- Laws of the rules: in a graph with nothing against it, only a known person holds a role, and only known roles are held.
-- Assumes nothing.
use Rattle.std.specs.Prelude.{◌<◌, ◌≡◌, Bool, true, ◌&&◌}
use Rattle.std.proofs.Common.{lt-ltb}
use Rattle.sets.specs.Truth.{and_left, and_right, and_intro, same_truth}
use Rattle.sets.specs.Laws.{member_below}
use Rattle.rules.specs.Graph.{Graph, graph_verdict, roles_held}
use Rattle.moves.specs.declared.Entry.{Entry}
use Rattle.moves.specs.First.{Verdict}
use Rattle.rules.specs.Answers.{entry_known}
use Rattle.moves.specs.Move.{person_holds, step_has}
use Rattle.rules.specs.Sound.{clear_sound}
use Rattle.folding.specs.Fold.{row_met, possible}
use Rattle.std.specs.Prelude.{Ok}

-- an entry of a known step is possible exactly if its person holds the role and the step has it
pub possible_serves : (g : Graph) (e : Entry) → graph_verdict g ≡ Ok tt → e.step.0 < g.steps
    → possible g e ≡ (person_holds (row_met g e) e && step_has (row_met g e) e)
possible_serves g e clear known =
    same_truth (possible g e) (held && has_it)
    (λ t. and_intro (and_right (entry_known g e) held (and_left (entry_known g e && held) has_it t))
    (and_right (entry_known g e && held) has_it t))
    (λ t. and_intro (and_intro (is (and_left held has_it t)) (and_left held has_it t)) (and_right held has_it t))
  where
    held : Bool
    held = person_holds (row_met g e) e

    has_it : Bool
    has_it = step_has (row_met g e) e

    is : held ≡ true → entry_known g e ≡ true
    is p =
        and_intro
        (and_intro (lt-ltb e.person g.people ((clear_sound g clear).holder_known e.person e.role p))
        (lt-ltb e.step.0 g.steps known))
        (lt-ltb e.role g.roles
        (member_below g.roles (roles_held g e.person) e.role ((clear_sound g clear).roles_held_in e.person) p))
