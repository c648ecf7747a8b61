-- Worked examples of the dead-end report, computed by the rule. Assumes nothing.
use Rattle.std.specs.Prelude.{ℕ, ◌*◌, ◌≡◌, refl, List, [], ◌∷◌, ◌++◌, replicate}
use Rattle.sets.specs.Sets.{has, full, scan, lowest, gather, every, any}
use Rattle.moves.specs.declared.Marking.{Marking}
use Rattle.moves.specs.declared.Refusal.TheVariants.{Store}
use Rattle.moves.specs.First.{first}
use Rattle.moves.specs.Move.{move_of}
use Rattle.tables.specs.Tables.{keeps, labels_fit}
use Rattle.rules.specs.Graph.{Graph, sets_fit}
use Rattle.rules.specs.Answers.{the_asked, the_move}
use Rattle.greying.specs.Greying.{granted, allowed_to}
use Rattle.store.specs.Store.{stands, laid}
use Rattle.numbers.specs.Numbers.{bytes}
use Rattle.deadend.specs.declared.Ends.{Ends}
use Rattle.deadend.specs.Taker.{person_of, role_of, taker, next}
use Rattle.deadend.specs.DeadEnd.{noted, tried, look_at, found, nearer, depth_from, search_from, search, expanded, ends_of, the_ends, store_of, store_after}
use Rattle.std.specs.Prelude.{Ok, Err}

-- two steps without arrows; the first may be taken in these roles
abbrev job : ℕ → Graph
job roles =
    record {
      steps = 2;
      people = 1;
      roles = 1;
      actions = 2;
      conditions = 0 ∷ 0 ∷ [];
      responses = 0 ∷ 0 ∷ [];
      includes = 0 ∷ 0 ∷ [];
      excludes = 0 ∷ 0 ∷ [];
      allows = roles ∷ 1 ∷ [];
      holds = 1 ∷ [];
      labels = 0 ∷ 1 ∷ [];
    }

-- step 0 is due, both are included
abbrev half : Marking
half = record { done = 0; due = 1; included = 3 }

-- one step is done, and this is due
abbrev after : ℕ → ℕ → Marking
after done due = record { done = done; due = due; included = 3 }

-- a store for so many markings
abbrev store_for : ℕ → List ℕ
store_for k = replicate (24 * k) 7

-- in a store for 2 the finished marking is found, but the other new one has no room before it has its turn; with room for 3 it is reached by
-- one entry, as the second that is looked at; where nobody may take the step that is due, the job cannot end; and a store that is no whole
-- number of markings is refused. The start stands in the store first, then what its steps lead to, and the rest is as it was
pub samples : (the_ends (job 1) half (store_for 2) ≡ Ok (Ends.Undecided 1))
    × (the_ends (job 1) half (store_for 3) ≡ Ok (Ends.Reachable 1 2))
    × (the_ends (job 0) half (store_for 3) ≡ Ok (Ends.None 2))
    × (the_ends (job 1) half (7 ∷ store_for 3) ≡ Err Store)
    × (store_after (job 1) half (store_for 4) ≡ laid (half ∷ after 1 0 ∷ after 2 1 ∷ []) ++ store_for 1)
unfolding the_ends ends_of store_after store_of expanded search search_from found look_at tried noted stands laid next taker person_of role_of nearer
    depth_from the_move the_asked move_of first granted allowed_to has full scan lowest gather every any keeps labels_fit sets_fit bytes
samples = (refl, refl, refl, refl, refl)
