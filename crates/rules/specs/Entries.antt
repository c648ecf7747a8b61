-- What the answer to an entry says of the entry and of the marking. Assumes nothing.
use Rattle.std.specs.Prelude.{◌≤◌, ◌<◌, ◌≡◌, refl, Bool, true, ◌&&◌, cond, ltb}
use Rattle.std.proofs.Common.{sym, ap, ◌∙◌, subst, arith, ltb-true, le-leb}
use Rattle.sets.specs.Truth.{and_left, and_right}
use Rattle.rules.specs.Graph.{Graph}
use Rattle.moves.specs.declared.Marking.{Marking}
use Rattle.moves.specs.declared.Entry.{Entry}
use Rattle.moves.specs.declared.Refusal.{Refusal}
use Rattle.moves.specs.First.{Verdict}
use Rattle.moves.specs.Move.{Move}
use Rattle.moves.specs.First.{first, number_of}
use Rattle.moves.specs.Move.{move_of, no_marking}
use Rattle.rules.specs.Answers.{entry_known, entry_lines, move_lines, after_entry, the_asked, the_move, entry_asked, entry_move}
use Rattle.moves.specs.Given.{ascends, first_above}
use Rattle.rules.specs.Asking.{moved_by, refused_by, entry_allowed}
use Rattle.rules.specs.Sound.{Sound, after_inside}
use Rattle.moves.specs.Inside.{Inside}
use Rattle.std.specs.Prelude.{Ok, Err}
use Rattle.moves.specs.Move.{denied}

-- a step that is taken has nothing against it, and leads to the marking after it
pub moved_clear : (g : Graph) (m m'' : Marking) (e : Entry) → the_move g m e ≡ Ok m'' → first (move_lines g m e) ≡ Ok tt
unfolding the_move the_asked
moved_clear g m m'' e q = (moved_by (the_asked g m e) m (after_entry g m e) m'' q).0

pub moved_after : (g : Graph) (m m'' : Marking) (e : Entry) → the_move g m e ≡ Ok m'' → after_entry g m e ≡ m''
unfolding the_move
moved_after g m m'' e q = (moved_by (the_asked g m e) m (after_entry g m e) m'' q).1

pub clear_moved : (g : Graph) (m : Marking) (e : Entry) → first (move_lines g m e) ≡ Ok tt
    → the_move g m e ≡ Ok (after_entry g m e)
unfolding the_move the_asked move_of
clear_moved g m e p = ap (λ (v : Verdict). move_of v m (after_entry g m e)) p

-- a refused step is refused by the table
pub refused_first : (g : Graph) (m back : Marking) (e : Entry) (r : Refusal) → the_move g m e ≡ Err (denied back r)
    → first (move_lines g m e) ≡ Err r
unfolding the_move the_asked
refused_first g m back e r q = (refused_by (the_asked g m e) m (after_entry g m e) back r q).0

-- an entry that is known names what there is
pub record Named (g : Graph) (e : Entry) : Type 0 where
  pub person_in : e.person < g.people
  pub step_in : e.step.0 < g.steps
  pub role_in : e.role < g.roles

pub known_named : (g : Graph) (e : Entry) → entry_known g e ≡ true → Named g e
known_named g e k =
    let p = ltb e.person g.people in
    let s = ltb e.step.0 g.steps in
    let r = ltb e.role g.roles in
    record {
      person_in = ltb-true e.person g.people (and_left p s (and_left (p && s) r k));
      step_in = ltb-true e.step.0 g.steps (and_right p s (and_left (p && s) r k));
      role_in = ltb-true e.role g.roles (and_right (p && s) r k);
    }

-- the marking after an entry that is allowed
pub entry_after : (g : Graph) (m next : Marking) (e : Entry) → entry_move g m e ≡ Ok next
    → (entry_known g e ≡ true) × (after_entry g m e ≡ next)
unfolding entry_move
entry_after g m next e q =
    let taken = moved_by (entry_asked g m e) m (after_entry g m e) next q in
    (entry_allowed g m e taken.0, taken.1)

-- an entry that is not gives back the marking handed in
pub entry_back : (g : Graph) (m back : Marking) (e : Entry) (r : Refusal) → entry_move g m e ≡ Err (denied back r) → (11 ≤ number_of r)
    × (m ≡ back)
unfolding entry_move entry_asked ascends number_of
entry_back g m back e r q =
    let against = refused_by (entry_asked g m e) m (after_entry g m e) back r q in
    let above : 10 < number_of r = first_above 10 (entry_lines g m e) r refl (against.0) in
    let high : 11 ≤ number_of r = omega arith in
    (high, ap (λ (b : Bool). cond b m no_marking) (sym (le-leb 11 (number_of r) high)) ∙ against.1)

-- an allowed entry keeps the marking within the graph
pub entry_inside : (g : Graph) (m next : Marking) (e : Entry) → Sound g → Inside g.steps m → entry_move g m e ≡ Ok next
    → Inside g.steps next
entry_inside g m next e sound i q =
    let taken = entry_after g m next e q in
    subst (Inside g.steps) taken.1 (after_inside g m e.person e.step.0 sound (known_named g e taken.0).step_in i)
