-- Neither sentence is empty: from wherever the job stands a whole round can be run, it publishes, and the job is finished after it, while at
-- the start it is not. And the desk may publish exactly when all checks have occurred. Assumes nothing.
use Prim.Native.Nat.{ℕ, zero, suc, ◌+◌, ◌*◌, ◌%◌, ◌≤◌, ◌<◌}
use Rattle.std.specs.Prelude.{◌≡◌, ◌↔◌, Bool, true, cond, Ok}
use Rattle.std.proofs.Math.Path.{refl, ap, subst}
use Rattle.std.proofs.Common.{sym, ◌∙◌, true≢false, length-append, lit<, lt-ltb, eq-eqb, le-leb}
use mathlib.Core.List.{List, [], ◌∷◌, ◌++◌}
use native.Mathlib.Omega.{arith}
use Rattle.std.proofs.Math.ListN.{length}
use Rattle.sets.specs.Sets.{has, single, union}
use Rattle.sets.specs.Truth.{and_intro, or_first, or_second, is_false}
use Rattle.sets.specs.Laws.{has_union, has_single, has_zero}
use Rattle.numbers.specs.Numbers.{Bytes}
use Rattle.numbers.specs.Laws.{none_bytes, more_bytes, append_bytes}
use Rattle.moves.specs.declared.Marking.{Marking}
use Rattle.moves.specs.declared.Entry.{Entry}
use Rattle.moves.specs.Move.{entry_of, after, is_finished}
use Rattle.moves.specs.Inside.{Inside, inside_fits}
use Rattle.rules.specs.declared.Ending.{Ending}
use Rattle.rules.specs.Answers.{the_asked, the_move, the_ending, row_of}
use Rattle.rules.specs.Paper.{Ready, Allowed}
use Rattle.rules.proofs.Taken.{allowed_asked, allowed_taken}
use Rattle.tables.specs.Tables.{row}
use Rattle.journal.specs.Ran.{ended}
use Rattle.journal.specs.Journal.{entries, length_fits}
use Rattle.journal.specs.Run.{run_from, the_run}
use Rattle.journal.specs.Laws.{entries_length, entries_append, run_clear}
use Rattle.runs.specs.Runs.{Passes, passes_both, passes_within, passes_run, ended_passes}
use Rattle.bodies.specs.Tables.{tabled, row_tabled}
use Rattle.cabinet.specs.Cabinet.{reboot, publish, label_at, allows_at, holds_at, climber, desk, cabinet, at_first, arms_fit}
use Rattle.cabinet.specs.Laws.{by_kind, by_reboot, by_check, by_publish, arms_low, arms_high, first_fits}
use Rattle.checked.specs.Words.{steps_of, checks_in, one_to, since_reboot, checking_from, whole_round}
use Rattle.checked.specs.Standing.{Stands, stands_first, on_reboot, on_check, on_publish, stands_finished, finished_stands}
use Rattle.checked.specs.Checked.{Seen, passes_seen, finished_counted}
use Rattle.checked.specs.Journals.{clear, inside_first, ending_reached, publish_held}

module _ (b : ℕ) (arms : arms_fit b ≡ true) where
  some : 1 ≤ b
  some = let h : 2 ≤ b = arms_low b arms in omega arith

  few : b ≤ 16
  few = arms_high b arms

  -- ---- who has which role

  climber_holds : has (holds_at climber) climber ≡ true
  unfolding has
  climber_holds = refl

  desk_holds : has (holds_at desk) desk ≡ true
  unfolding has
  desk_holds = refl

  reboot_role : has (allows_at b reboot) climber ≡ true
  unfolding has
  reboot_role =
      ap (λ (x : ℕ). has x climber) (by_reboot b reboot (union (single climber) (single desk)) (single climber) (single desk) refl)

  check_role : (k : ℕ) → 1 ≤ k → k ≤ b → has (allows_at b k) climber ≡ true
  unfolding has
  check_role k h l =
      ap (λ (x : ℕ). has x climber) (by_check b k (union (single climber) (single desk)) (single climber) (single desk) h l)

  publish_role : has (allows_at b (publish b)) desk ≡ true
  unfolding has
  publish_role =
      ap (λ (x : ℕ). has x desk) (by_publish b (publish b) (union (single climber) (single desk)) (single climber) (single desk) refl)

  -- ---- what may be done where the job stands

  module _ (m : Marking) (person step role : ℕ) (i : Inside (b + 2) m) (let_in : has m.included step ≡ true) (known : person < 2)
      (there : step < b + 2) (one : role < 2) (holder : has (holds_at person) role ≡ true) (has_it : has (allows_at b step) role ≡ true) where
    abbrev e : Entry
    e = entry_of person step role

    ready : Ready (cabinet b) m (entry_of person step role)
    ready =
        record {
          graph = clear b arms;
          marking = inside_fits (b + 2) m i;
          names = and_intro (and_intro (lt-ltb person 2 known) (lt-ltb step (b + 2) there)) (lt-ltb role 2 one);
        }

    small : step < 64
    small = omega (arith, few)

    own : label_at b step ≡ step
    own = by_kind b step step step step (λ x. x ≡ step) (λ h. refl) (λ h l. refl) (λ h. refl) (λ h. absurd (let w : ⊥ = omega arith in w))

    allowed : Allowed (cabinet b) m (entry_of person step role)
    allowed =
        record {
          person_as = ap (λ (x : ℕ). has x role) (row_tabled 16 holds_at person (omega arith)) ∙ holder;
          action_as =
              ap (λ (x : ℕ). has x role)
              (ap (row (tabled 64 (allows_at b))) (row_tabled 64 (label_at b) step small ∙ own)
              ∙ row_tabled 64 (allows_at b) step small)
              ∙ has_it;
          included = let_in;
          conditions = λ a h c.
              absurd (true≢false (sym c ∙ ap (λ (x : ℕ). has x a) (row_tabled 64 (λ s. 0) step small) ∙ has_zero a));
        }

    pub may : the_asked (cabinet b) m (entry_of person step role) ≡ Ok tt
    may = allowed_asked (cabinet b) m (entry_of person step role) ready allowed

    does : the_move (cabinet b) m (entry_of person step role) ≡ Ok (after (row_of (cabinet b) person step) m step)
    does = allowed_taken (cabinet b) m (entry_of person step role) ready allowed

    within_after : Inside (b + 2) (after (row_of (cabinet b) person step) m step)
    unfolding Passes
    within_after =
        passes_within (cabinet b) m (after (row_of (cabinet b) person step) m step) (entry_of person step role ∷ []) (clear b arms) i
        (after (row_of (cabinet b) person step) m step, does, refl)

  -- the two steps that are let in
  in_reboot : (k : ℕ) (m : Marking) → Stands b k m → has m.included reboot ≡ true
  in_reboot k m here =
      ap (λ (x : ℕ). has x 0) here.let_in ∙ has_union (single 0) (single (k + 1)) 0
      ∙ or_first (has (single (k + 1)) 0) (has_single 0 0 ∙ eq-eqb 0 0 refl)

  in_next : (k : ℕ) (m : Marking) → Stands b k m → has m.included (k + 1) ≡ true
  in_next k m here =
      ap (λ (x : ℕ). has x (k + 1)) here.let_in ∙ has_union (single 0) (single (k + 1)) (k + 1)
      ∙ or_second (has (single 0) (k + 1)) (has_single (k + 1) (k + 1) ∙ eq-eqb (k + 1) (k + 1) refl)

  -- ---- the checks that are left

  record Through (es : List Entry) (m : Marking) : Type 0 where
    last : Marking
    passes : Passes (cabinet b) m es last
    stands : Stands b b last
    inside : Inside (b + 2) last

  checks_through : (d k : ℕ) (m : Marking) → k + d ≡ b → Stands b k m → Inside (b + 2) m → Through (entries (checking_from k d)) m
  unfolding Passes checking_from entries
  checks_through zero k m e here i =
      record { last = m; passes = refl; stands = subst (λ (x : ℕ). Stands b x m) (let z : k ≡ b = omega arith in z) here; inside = i }
  checks_through (suc d) k m e here i =
      let low : k < b = omega arith in
      let next : Marking = after (row_of (cabinet b) climber (k + 1)) m (k + 1) in
      let role = check_role (k + 1) (omega arith) (omega arith) in
      let moved = does m climber (k + 1) climber i (in_next k m here) (lit< tt) (omega arith) (lit< tt) climber_holds role in
      let rest = checks_through d (k + 1) next (let z : k + 1 + d ≡ b = omega arith in z) (on_check b k m here climber few low)
      (within_after m climber (k + 1) climber i (in_next k m here) (lit< tt) (omega arith) (lit< tt) climber_holds role) in
      record { last = rest.last; passes = (next, moved, rest.passes); stands = rest.stands; inside = rest.inside }

  checking_length : (k d : ℕ) → length (checking_from k d) ≡ 3 * d
  unfolding checking_from
  checking_length k zero = refl
  checking_length k (suc d) = let h : length (checking_from (k + 1) d) ≡ 3 * d = checking_length (k + 1) d in omega arith

  -- ---- a whole round, from wherever the job stands

  round_through : (k : ℕ) (m : Marking) → Stands b k m → Inside (b + 2) m → Through (entries (whole_round b)) m
  unfolding Passes entries
  round_through k m here i =
      let m0 : Marking = after (row_of (cabinet b) climber reboot) m reboot in
      let began = does m climber reboot climber i (in_reboot k m here) (lit< tt) (omega arith) (lit< tt) climber_holds reboot_role in
      let checked = checks_through b 0 m0 (let z : 0 + b ≡ b = omega arith in z) (on_reboot b k m here climber some)
      (within_after m climber reboot climber i (in_reboot k m here) (lit< tt) (omega arith) (lit< tt) climber_holds reboot_role) in
      let x : Marking = checked.last in
      let final : Marking = after (row_of (cabinet b) desk (publish b)) x (publish b) in
      let told = does x desk (publish b) desk checked.inside (in_next b x checked.stands) (lit< tt) (omega arith) (lit< tt) desk_holds publish_role in
      let split : entries (checking_from 0 b ++ (desk ∷ publish b ∷ desk ∷ [])) ≡ entries (checking_from 0 b) ++ (entry_of desk (publish b) desk ∷ []) =
      entries_append (checking_from 0 b) (desk ∷ publish b ∷ desk ∷ [])
      (let h : length (checking_from 0 b) ≡ 3 * b = checking_length 0 b in omega arith) in
      record {
        last = final;
        passes = (
          m0,
          began,
          subst (λ (es : List Entry). Passes (cabinet b) m0 es final) (sym split)
              (passes_both (cabinet b) m0 x final (entries (checking_from 0 b)) (entry_of desk (publish b) desk ∷ []) checked.passes
              (final, told, refl)),
        );
        stands = on_publish b b x checked.stands desk few refl;
        inside =
            within_after x desk (publish b) desk checked.inside (in_next b x checked.stands) (lit< tt) (omega arith) (lit< tt) desk_holds publish_role;
      }

  round_length : length (whole_round b) ≡ 3 * (b + 2)
  round_length =
      let c : length (checking_from 0 b) ≡ 3 * b = checking_length 0 b in
      let a : length (checking_from 0 b ++ (desk ∷ publish b ∷ desk ∷ [])) ≡ length (checking_from 0 b) + 3 =
      length-append (checking_from 0 b) (desk ∷ publish b ∷ desk ∷ []) in
      omega arith

  -- A whole round runs through after any journal that does
  pub round_again : (j : List ℕ) (m : Marking) (n : ℕ) → the_run (cabinet b) (at_first b) j ≡ Ok (ended m n)
      → (x : Marking) × (the_run (cabinet b) m (whole_round b) ≡ Ok (ended x (b + 2)))
      × (the_ending (cabinet b) x ≡ Ok Ending.Finished)
  round_again j m n ran =
      let passed = (ended_passes (cabinet b) (at_first b) m n j ran).2 in
      let seen : Seen b m (since_reboot (steps_of j)) = passes_seen b arms (entries j) m passed in
      let i : Inside (b + 2) m = passes_within (cabinet b) (at_first b) m (entries j) (clear b arms) (inside_first b) passed in
      let all = round_through seen.count m seen.stands i in
      let l : length (whole_round b) ≡ 3 * (b + 2) = round_length in
      let fits : length_fits (whole_round b) ≡ true =
      and_intro (eq-eqb (length (whole_round b) % 3) 0 (omega arith)) (le-leb (length (whole_round b)) 65535 (omega (arith, few))) in
      let c : length (entries (whole_round b)) * 3 ≡ length (whole_round b) =
      entries_length (whole_round b) (let z : length (whole_round b) % 3 ≡ 0 = omega arith in z) in (
        all.last,
        run_clear (cabinet b) m (whole_round b) (clear b arms) fits (inside_fits (b + 2) m i)
            ∙ passes_run (cabinet b) m all.last 0 (entries (whole_round b)) all.passes
            ∙ ap (λ (k : ℕ). Ok (ended all.last k))
            (let z : 0 + length (entries (whole_round b)) ≡ b + 2 = omega arith in z),
        ending_reached b arms all.last all.inside
            ∙ ap (λ (f : Bool). cond f (Ok Ending.Finished) (Ok Ending.Open)) (stands_finished b b all.last all.stands refl),
      )

  -- so does one from the start, and its entries are bytes: it can be lent
  pub round_runs : (x : Marking) × (the_run (cabinet b) (at_first b) (whole_round b) ≡ Ok (ended x (b + 2)))
      × (the_ending (cabinet b) x ≡ Ok Ending.Finished)
  unfolding run_from entries
  round_runs = round_again [] (at_first b) 0 (run_clear (cabinet b) (at_first b) [] (clear b arms) refl (first_fits b))

  checking_bytes : (d k : ℕ) → k + d ≤ 255 → Bytes (checking_from k d)
  unfolding checking_from
  checking_bytes zero k h = none_bytes
  checking_bytes (suc d) k h =
      more_bytes climber ((k + 1) ∷ climber ∷ checking_from (k + 1) d) (lit< tt)
      (more_bytes (k + 1) (climber ∷ checking_from (k + 1) d) (omega arith)
      (more_bytes climber (checking_from (k + 1) d) (lit< tt) (checking_bytes d (k + 1) (omega arith))))

  pub round_lent : Bytes (whole_round b)
  round_lent =
      let end : List ℕ = desk ∷ publish b ∷ desk ∷ [] in
      let last : Bytes (desk ∷ publish b ∷ desk ∷ []) =
      more_bytes desk (publish b ∷ desk ∷ []) (lit< tt)
      (more_bytes (publish b) (desk ∷ []) (omega (arith, few)) (more_bytes desk [] (lit< tt) none_bytes)) in
      more_bytes climber (reboot ∷ climber ∷ (checking_from 0 b ++ end)) (lit< tt)
      (more_bytes reboot (climber ∷ (checking_from 0 b ++ end)) (lit< tt)
      (more_bytes climber (checking_from 0 b ++ end) (lit< tt)
      (append_bytes (checking_from 0 b) end (checking_bytes b 0 (omega (arith, few))) last)))

  -- and at the start nothing is finished
  pub first_open : the_ending (cabinet b) (at_first b) ≡ Ok Ending.Open
  first_open =
      ending_reached b arms (at_first b) (inside_first b)
      ∙ ap (λ (f : Bool). cond f (Ok Ending.Finished) (Ok Ending.Open))
      (is_false (is_finished (at_first b))
      (λ f. let z : 0 ≡ b = finished_stands b 0 (at_first b) (stands_first b) f in let w : ⊥ = omega (arith, some) in w))

  -- ---- the desk may publish exactly when all checks have occurred since the last reboot, or the start

  pub publish_exactly : (j : List ℕ) (m : Marking) (n : ℕ) → the_run (cabinet b) (at_first b) j ≡ Ok (ended m n)
      → (the_asked (cabinet b) m (entry_of desk (publish b) desk) ≡ Ok tt) ↔ (checks_in b (since_reboot (steps_of j)) ≡ one_to b)
  publish_exactly j m n ran =
      let passed = (ended_passes (cabinet b) (at_first b) m n j ran).2 in
      let seen : Seen b m (since_reboot (steps_of j)) = passes_seen b arms (entries j) m passed in
      let i : Inside (b + 2) m = passes_within (cabinet b) (at_first b) m (entries j) (clear b arms) (inside_first b) passed in (
        publish_held b arms j m n ran desk desk,
        λ all.
            let full : seen.count ≡ b =
            finished_stands b seen.count m seen.stands ((finished_counted b arms (entries j) m passed).1 all) in
            let let_in : has m.included (publish b) ≡ true =
            ap (λ (k : ℕ). has m.included (k + 1)) (sym full) ∙ in_next seen.count m seen.stands in
            may m desk (publish b) desk i let_in (lit< tt) (omega arith) (lit< tt) desk_holds publish_role,
      )
