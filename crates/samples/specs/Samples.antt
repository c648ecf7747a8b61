-- The samples S1 to S13, as one statement over a list of them. Each is about the definitions that the calls promise. Assumes nothing.
use Rattle.std.specs.Prelude.{ℕ, ◌≡◌, refl, List, [], ◌∷◌, true, false}
use Rattle.std.proofs.Common.{subst}
use Rattle.sets.specs.Sets.{has, full, scan, lowest, every}
use Rattle.moves.specs.First.{first, number_of, waiting_of}
use Rattle.moves.specs.Move.{entry_of, move_of, is_finished, number_of_asked, waiting_of_asked, number_of_move, waiting_of_move, marking_of_move}
use Rattle.tables.specs.Tables.{keeps, labels_fit}
use Rattle.rules.specs.Graph.{sets_fit}
use Rattle.rules.specs.Answers.{the_asked, the_move, entry_asked, entry_move}
use Rattle.journal.specs.Journal.{entries}
use Rattle.records.specs.Answers.{Recorded}
use Rattle.records.specs.Records.{impossible, tidy, join}
use Rattle.records.specs.Answers.{recorded_of}
use Rattle.folding.specs.Fold.{fold_of, entry_record}
use Rattle.folding.specs.Answers.{the_fold}
use Rattle.laps.specs.Lapped.{Lapped}
use Rattle.laps.specs.Laps.{LapAnswer}
use Rattle.laps.specs.Decision.{go_through, leg_on, upon, second_lap, first_lap, decision, lap_of, the_lap}
use Rattle.laps.proofs.Laws.{the_lap_right}
use Rattle.tracker.specs.Tracker.{the_start, the_step, track_after, tracked_of}
use Rattle.samples.specs.Job.{set, rows, targets, sources, table, given, answered, job, first_marking}
use Rattle.samples.specs.Job.{reboot, check, publish, rebooted, checked, at, tracking, journal, folded}
use Rattle.std.specs.Prelude.{Ok}
use Rattle.laps.specs.declared.Endless.{Endless}

-- a sample: its number, and what it says
abbrev pub Sample : Type 1
Sample = ℕ × Type 0

-- each sample of a list holds
abbrev pub Hold : List Sample → Type 0
Hold [] = Unit {0}
Hold (s ∷ rest) = s.1 × Hold rest

infixr 5 ◌also◌
abbrev ◌also◌ : {A B : Type 0} → A → B → A × B
a also b = (a, b)

unfoldable pub samples : List Sample
samples =
    -- S1: (1,2,1) at start: 15, waits for {1}; asked, the same
    (
      1,
      (given (the_move job first_marking publish) ≡ (15, set (1 ∷ []), first_marking))
          × (answered (the_asked job first_marking publish) ≡ (15, set (1 ∷ []))),
    )
    -- S2: (0,0,0): Ex {0}, Re {1}, In {0,1}; not finished; asked, it is allowed
    ∷ (
      2,
      (given (the_move job first_marking reboot) ≡ (0, 0, rebooted)) × (is_finished rebooted ≡ false)
          × (answered (the_asked job first_marking reboot) ≡ (0, 0)),
    )
    -- S3: (1,2,1) after S2: 14
    ∷ (3, given (the_move job rebooted publish) ≡ (14, 0, rebooted))
    -- S4: (0,1,0) after S2: Ex {0,1}, Re empty, In {0,1,2}; finished
    ∷ (4, (given (the_move job rebooted check) ≡ (0, 0, checked)) × (is_finished checked ≡ true))
    -- S5: (1,1,1): 13
    ∷ (5, given (the_move job first_marking (entry_of 1 1 1)) ≡ (13, 0, first_marking))
    -- S6: (1,1,0): 12
    ∷ (6, given (the_move job first_marking (entry_of 1 1 0)) ≡ (12, 0, first_marking))
    -- S7: (2,0,0): 11
    ∷ (7, given (the_move job first_marking (entry_of 2 0 0)) ≡ (11, 0, first_marking))
    -- S8: fold of reboot: NeedIn {0}, Done {0}, DueSet {1}, DueClear {0}, InClear {2}
    ∷ (8, the_fold job (journal (reboot ∷ [])) ≡ folded (0 ∷ []) [] [] (0 ∷ []) (1 ∷ []) (0 ∷ []) [] (2 ∷ []))
    -- S9: reboot and check fold to NeedIn, Done and DueClear {0,1}, and InSet {2}
    ∷ (9, the_fold job (journal (reboot ∷ check ∷ [])) ≡ folded (0 ∷ 1 ∷ []) [] [] (0 ∷ 1 ∷ []) [] (0 ∷ 1 ∷ []) (2 ∷ []) [])
    -- S10: fold of publish: NeedIn {2}, NeedOutOrEx {1}, Done {2}, DueClear {2}
    ∷ (10, the_fold job (journal (publish ∷ [])) ≡ folded (2 ∷ []) [] (1 ∷ []) (2 ∷ []) [] (2 ∷ []) [] [])
    -- S11: fold of reboot, publish: never
    ∷ (11, the_fold job (journal (reboot ∷ publish ∷ [])) ≡ Ok impossible)
    -- S12: without a stem, reboot for ever starves step 1; reboot and check for ever are accepted
    ∷ (
      12,
      LapAnswer job first_marking [] (journal (reboot ∷ [])) (Ok (Endless.Starved (record { 0 = 1 })))
          × LapAnswer job first_marking [] (journal (reboot ∷ check ∷ [])) (Ok Endless.Accepted),
    )
    -- S13: after reboot the tracker has rank 1 and its flag down, after check rank 2 and its flag up
    ∷ (
      13,
      (tracking job (the_start job first_marking) reboot ≡ at rebooted 1 false)
          × (tracking job (tracking job (the_start job first_marking) reboot) check ≡ at checked 2 true),
    )
    ∷ []

-- the laps of S12 are decided by computing, and the decision is right for the run without end
starved : the_lap job first_marking [] (journal (reboot ∷ [])) ≡ Ok (Endless.Starved (record { 0 = 1 }))
unfolding journal set rows targets sources table job first number_of keeps labels_fit sets_fit has full scan lowest every go_through leg_on upon
    second_lap first_lap decision lap_of the_lap entry_move entry_asked move_of entries
starved = refl

accepted : the_lap job first_marking [] (journal (reboot ∷ check ∷ [])) ≡ Ok Endless.Accepted
unfolding journal set rows targets sources table job first number_of keeps labels_fit sets_fit has full scan lowest every go_through leg_on upon
    second_lap first_lap decision lap_of the_lap entry_move entry_asked move_of entries
accepted = refl

twelve : LapAnswer job first_marking [] (journal (reboot ∷ [])) (Ok (Endless.Starved (record { 0 = 1 })))
    × LapAnswer job first_marking [] (journal (reboot ∷ check ∷ [])) (Ok Endless.Accepted)
twelve = (
  subst (LapAnswer job first_marking [] (journal (reboot ∷ []))) starved (the_lap_right job first_marking [] (journal (reboot ∷ []))),
  subst (LapAnswer job first_marking [] (journal (reboot ∷ check ∷ []))) accepted
      (the_lap_right job first_marking [] (journal (reboot ∷ check ∷ []))),
)

pub samples_hold : Hold samples
unfolding samples set rows targets sources table job tracking first number_of waiting_of keeps labels_fit sets_fit the_move the_asked
    move_of number_of_asked waiting_of_asked number_of_move waiting_of_move marking_of_move the_start the_step track_after tracked_of has full scan lowest
    every journal the_fold recorded_of fold_of entry_record tidy join entries
samples_hold = (refl, refl) also (refl, refl, refl) also refl also
    (refl, refl) also refl also refl also refl also refl also refl also refl also refl also twelve also (refl, refl) also tt
