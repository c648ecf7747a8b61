-- What is against a state of the tracker is against an idle move and a step too, before all that is asked of the step. Assumes nothing.
use Rattle.std.specs.Prelude.{◌<◌, ◌≡◌, List, [], ◌++◌, Bool, true, cond, refl, Ok, Err}
use Rattle.std.proofs.Common.{ap, ◌∙◌, arith}
use Rattle.std.proofs.lemmas.Bool.{lt-leb, not-false}
use Rattle.rules.specs.Graph.{Graph}
use Rattle.rules.specs.Answers.{entry_lines}
use Rattle.moves.specs.declared.Entry.{Entry}
use Rattle.moves.specs.declared.Refusal.{Refusal}
use Rattle.moves.specs.First.{Verdict, Line, first, number_of}
use Rattle.moves.specs.Given.{first_refused, first_below, numbers_below, clear_head, clear_front, clear_back}
use Rattle.tracker.specs.declared.Track.{Track}
use Rattle.tracker.specs.declared.Unmoved.{Unmoved}
use Rattle.tracker.specs.Tracker.{is_rank, start_lines, rank_lines, idle_lines, tracked_of, the_idle, the_step}

-- 2, 4, 6, 8 and 9 come before 11: no state is given back with them
refused_state : (g : Graph) (t : Track) (more : List Line) (before next : Track) (r : Refusal) → first (idle_lines g t) ≡ Err r
    → tracked_of (first (idle_lines g t ++ more)) before next ≡ Err (Unmoved.Refused r)
unfolding tracked_of numbers_below number_of
refused_state g t more before next r e =
    let low : number_of r < 10 = first_below 10 (idle_lines g t) r refl e in
    ap (λ (v : Verdict). tracked_of v before next) (first_refused (idle_lines g t) more r e)
    ∙ ap (λ (b : Bool). cond b (Err (Unmoved.Stays before r)) (Err (Unmoved.Refused r))) (lt-leb 11 (number_of r) (omega arith))

pub idle_refused_state : (g : Graph) (t : Track) (r : Refusal) → first (idle_lines g t) ≡ Err r → the_idle g t ≡ Err (Unmoved.Refused r)
unfolding the_idle
idle_refused_state g t r e = refused_state g t [] t _ r e

pub step_refused_state : (g : Graph) (t : Track) (e : Entry) (r : Refusal) → first (idle_lines g t) ≡ Err r
    → the_step g t e ≡ Err (Unmoved.Refused r)
unfolding the_step
step_refused_state g t e r q = refused_state g t (entry_lines g t.marking e) t _ r q

-- where nothing is against the state, nothing is against graph and marking
pub state_sound : (g : Graph) (t : Track) → first (idle_lines g t) ≡ Ok tt → first (start_lines g t.marking) ≡ Ok tt
state_sound g t e = clear_front (start_lines g t.marking) (rank_lines g t.rank) e

-- and its rank is one
pub state_ranked : (g : Graph) (t : Track) → first (idle_lines g t) ≡ Ok tt → is_rank g.steps t.rank.0 ≡ true
state_ranked g t e = not-false (is_rank g.steps t.rank.0) (clear_head _ _ (clear_back (start_lines g t.marking) (rank_lines g t.rank) e))
