-- What a graph with nothing against it is like, fact by fact, for the floors above; and that a step keeps a marking within the graph.
-- Assumes nothing.
use Rattle.std.specs.Prelude.{ℕ, ◌^◌, ◌<◌, ◌≤◌, ◌≡◌, true, ◌&&◌}
use Rattle.std.proofs.lemmas.Bool.{not-false}
use Rattle.sets.specs.Sets.{has, single, union, meet, minus, empty}
use Rattle.sets.specs.Truth.{and_left, and_right}
use Rattle.sets.specs.Laws.{every_at, union_lt, minus_lt, single_lt}
use Rattle.rules.specs.Graph.{Graph, sets_fit, graph_verdict, conditions_of, responses_of, includes_of, excludes_of, action_of, roles_of}
use Rattle.rules.specs.Graph.{roles_held}
use Rattle.moves.specs.declared.Marking.{Marking}
use Rattle.moves.specs.First.{Verdict}
use Rattle.tables.specs.Tables.{keeps, labels_fit, kinds_apart}
use Rattle.moves.specs.Move.{after}
use Rattle.rules.specs.Answers.{row_of}
use Rattle.tables.specs.Laws.{Counted, keeps_row, keeps_gone, named_below, label_few, label_below}
use Rattle.rules.specs.Laws.{clear_counts}
use Rattle.moves.specs.Given.{clear_head, clear_tail}
use Rattle.moves.specs.Inside.{Inside}
use Rattle.std.specs.Prelude.{Ok}

-- what is so of a graph with nothing against it
pub record Sound (g : Graph) : Type 0 where
  pub counted : Counted g.steps g.people g.roles g.actions
  pub action_in : (s : ℕ) → s < g.steps → action_of g s < g.actions
  pub action_few : (s : ℕ) → action_of g s < 64
  pub roles_of_in : (s : ℕ) → roles_of g s < 2 ^ g.roles
  pub roles_held_in : (p : ℕ) → roles_held g p < 2 ^ g.roles
  pub nobody_holds : (p : ℕ) → g.people ≤ p → roles_held g p ≡ 0
  pub holder_known : (p r : ℕ) → has (roles_held g p) r ≡ true → p < g.people
  pub conditions_in : (s : ℕ) → conditions_of g s < 2 ^ g.steps
  pub responses_in : (s : ℕ) → responses_of g s < 2 ^ g.steps
  pub includes_in : (s : ℕ) → includes_of g s < 2 ^ g.steps
  pub excludes_in : (s : ℕ) → excludes_of g s < 2 ^ g.steps
  pub apart : (a : ℕ) → a < g.steps → empty (meet (includes_of g a) (excludes_of g a)) ≡ true

pub clear_sound : (g : Graph) → graph_verdict g ≡ Ok tt → Sound g
unfolding sets_fit
clear_sound g e =
    let fit : sets_fit g ≡ true = not-false (sets_fit g) (clear_head _ _ (clear_tail _ _ e)) in
    let alone : kinds_apart g.steps g.includes g.excludes ≡ true =
    not-false (kinds_apart g.steps g.includes g.excludes) (clear_head _ _ (clear_tail _ _ (clear_tail _ _ e))) in
    let n : Counted g.steps g.people g.roles g.actions = clear_counts g e in
    let a = keeps g.actions g.roles g.allows in
    let h = keeps g.people g.roles g.holds in
    let l = labels_fit g.steps g.actions g.labels in
    let c = keeps g.steps g.steps g.conditions in
    let r = keeps g.steps g.steps g.responses in
    let i = keeps g.steps g.steps g.includes in
    let x = keeps g.steps g.steps g.excludes in
    let rows : ((a && h) && l) ≡ true = and_left ((a && h) && l) ((c && r) && (i && x)) fit in
    let roles : (a && h) ≡ true = and_left (a && h) l rows in
    let labels : l ≡ true = and_right (a && h) l rows in
    let arrows : ((c && r) && (i && x)) ≡ true = and_right ((a && h) && l) ((c && r) && (i && x)) fit in
    let firsts : (c && r) ≡ true = and_left (c && r) (i && x) arrows in
    let lasts : (i && x) ≡ true = and_right (c && r) (i && x) arrows in
    record {
      counted = n;
      action_in = label_below g.steps g.actions g.labels n.actions_some labels;
      action_few = label_few g.steps g.actions g.labels n.actions_some n.actions_most labels;
      roles_of_in = λ s. keeps_row g.actions g.roles g.allows (and_left a h roles) (action_of g s);
      roles_held_in = keeps_row g.people g.roles g.holds (and_right a h roles);
      nobody_holds = keeps_gone g.people g.roles g.holds (and_right a h roles);
      holder_known = named_below g.people g.roles g.holds (and_right a h roles);
      conditions_in = keeps_row g.steps g.steps g.conditions (and_left c r firsts);
      responses_in = keeps_row g.steps g.steps g.responses (and_right c r firsts);
      includes_in = keeps_row g.steps g.steps g.includes (and_left i x lasts);
      excludes_in = keeps_row g.steps g.steps g.excludes (and_right i x lasts);
      apart = every_at g.steps (λ k. empty (meet (includes_of g k) (excludes_of g k))) alone;
    }

-- ---- markings within the graph

-- a step keeps the marking within the graph
pub after_inside : (g : Graph) (m : Marking) (p s : ℕ) → Sound g → s < g.steps → Inside g.steps m
    → Inside g.steps (after (row_of g p s) m s)
after_inside g m p s sound known i =
    let n = g.steps in
    record {
      done_in = union_lt n m.done (single s) i.done_in (single_lt n s known);
      due_in = union_lt n (minus m.due (single s)) (responses_of g s) (minus_lt n m.due (single s) i.due_in)
          (sound.responses_in s);
      included_in = minus_lt n (union m.included (includes_of g s)) (excludes_of g s)
          (union_lt n m.included (includes_of g s) i.included_in (sound.includes_in s));
    }
