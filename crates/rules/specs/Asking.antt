-- Asking and taking: an entry is taken exactly if it is allowed, and the one refuses it exactly as the other does, with the same number and
-- the same set. That asking changes nothing is promised by the call itself: the lent graph is as it was. Assumes nothing.
use Rattle.std.specs.Prelude.{ℕ, ◌≡◌, ◌↔◌, ◌++◌, true}
use Rattle.std.proofs.Math.Path.{refl, ap}
use Rattle.std.proofs.Common.{subst, arith}
use borrow.Author.Tests.{not-false}
use Rattle.rules.specs.Graph.{Graph, graph_lines, graph_verdict}
use Rattle.moves.specs.declared.Marking.{Marking}
use Rattle.moves.specs.declared.Entry.{Entry}
use Rattle.moves.specs.declared.Refusal.{Refusal}
use Rattle.moves.specs.First.{Verdict}
use Rattle.moves.specs.Move.{Move}
use Rattle.moves.specs.First.{first, number_of_verdict}
use Rattle.moves.specs.Move.{move_of, given_back, number_of_asked, waiting_of_asked, number_of_move, waiting_of_move}
use Rattle.moves.specs.Given.{clear_head, clear_tail, clear_front, clear_back}
use Rattle.rules.specs.Answers.{the_asked, the_move, after_entry, move_lines, marking_lines, entry_lines, entry_known, entry_asked}
use Rattle.std.specs.Prelude.{Ok, Err}
use Rattle.moves.specs.declared.Denied.{Denied}
use Rattle.moves.specs.Move.{denied}

-- ---- what an answer says of the table, and a move of what was asked

pub moved_by : (o : Verdict) (m a next : Marking) → move_of o m a ≡ Ok next → (o ≡ Ok tt) × (a ≡ next)
unfolding move_of
moved_by (Ok _) m a next e = (refl, cc)
moved_by (Err r) m a next e = absurd (let z : ◌≡◌ {A = ℕ} 0 1 = cc in let w : ⊥ = omega arith in w)

pub refused_by : (o : Verdict) (m a back : Marking) (r : Refusal) → move_of o m a ≡ Err (denied back r)
    → (o ≡ Err r) × (given_back m r ≡ back)
unfolding move_of
refused_by (Ok _) m a back r e = absurd (let z : ◌≡◌ {A = ℕ} 0 1 = cc in let w : ⊥ = omega arith in w)
refused_by (Err q) m a back r e =
    let same : denied (given_back m q) q ≡ denied back r = cc in
    let told : q ≡ r = ap (λ (d : Denied). d.refusal) same in
    (ap Err told, subst (λ (p : Refusal). given_back m p ≡ back) told (ap (λ (d : Denied). d.marking) same))

-- ---- the laws

module _ (g : Graph) (m : Marking) (e : Entry) where
  -- an entry is allowed exactly if it is taken
  pub asked_taken : (the_asked g m e ≡ Ok tt) ↔ ((next : Marking) × (the_move g m e ≡ Ok next))
  unfolding the_move move_of
  asked_taken = (
    λ q. (after_entry g m e, ap (λ (o : Verdict). move_of o m (after_entry g m e)) q),
    λ t. (moved_by (the_asked g m e) m (after_entry g m e) t.0 t.1).0,
  )

  -- and refused by the one exactly as by the other
  pub asked_refuses : (r : Refusal) → (the_asked g m e ≡ Err r) ↔ ((back : Marking) × (the_move g m e ≡ Err (denied back r)))
  unfolding the_move move_of
  asked_refuses r = (
    λ q. (given_back m r, ap (λ (o : Verdict). move_of o m (after_entry g m e)) q),
    λ t. (refused_by (the_asked g m e) m (after_entry g m e) t.0 r t.1).0,
  )

  -- so with the same number
  pub asked_number : number_of_asked (the_asked g m e) ≡ number_of_move (the_move g m e)
  unfolding the_move move_of number_of_asked number_of_move
  asked_number = go (the_asked g m e)
    where
      go : (o : Verdict) → number_of_asked o ≡ number_of_move (move_of o m (after_entry g m e))
      go (Ok _) = refl
      go (Err r) = refl

  -- and the same set
  pub asked_waiting : waiting_of_asked (the_asked g m e) ≡ waiting_of_move (the_move g m e)
  unfolding the_move move_of waiting_of_asked waiting_of_move
  asked_waiting = go (the_asked g m e)
    where
      go : (o : Verdict) → waiting_of_asked o ≡ waiting_of_move (move_of o m (after_entry g m e))
      go (Ok _) = refl
      go (Err r) = refl

  -- the number is that of the table
  pub asked_lines : number_of_asked (the_asked g m e) ≡ number_of_verdict (first (move_lines g m e))
  unfolding the_asked number_of_asked number_of_verdict
  asked_lines = go (first (move_lines g m e))
    where
      go : (v : Verdict) → number_of_asked v ≡ number_of_verdict v
      go (Ok _) = refl
      go (Err r) = refl

  -- what is allowed is an entry of what there is, on a graph with nothing against it
  pub allowed_known : the_asked g m e ≡ Ok tt → (graph_verdict g ≡ Ok tt) × (entry_known g e ≡ true)
  unfolding the_asked
  allowed_known q =
      let c : first (move_lines g m e) ≡ (Ok tt) = q in
      let rest = clear_back (graph_lines g) (marking_lines g m ++ entry_lines g m e) c in
      let front : graph_verdict g ≡ (Ok tt) = clear_front (graph_lines g) (marking_lines g m ++ entry_lines g m e) c in
      (front, not-false (entry_known g e) (clear_head _ _ (clear_tail _ _ rest)))

  pub entry_allowed : entry_asked g m e ≡ Ok tt → entry_known g e ≡ true
  unfolding entry_asked
  entry_allowed q = not-false (entry_known g e) (clear_head _ _ (q))
