-- The job of a cabinet with b arms, counted from the ground, and the answer to asking for its sheet.
use Rattle.std.specs.Prelude.{ℕ, ◌+◌, List, [], ◌∷◌, ◌++◌, Bool, not, ◌&&◌, cond, length, drop, eqb, ltb, leb}
use Rattle.sets.specs.Sets.{single, union, span}
use Rattle.moves.specs.declared.Marking.{Marking}
use Rattle.moves.specs.First.{Verdict}
use Rattle.moves.specs.declared.Refusal.TheVariants.{Arms, Room}
use Rattle.moves.specs.First.{Line, first}
use Rattle.rules.specs.Graph.{Graph}
use Rattle.bodies.specs.Tables.{tabled}
use Rattle.sheet.specs.Sheet.{Written}
use Rattle.sheet.specs.Sheet.{sheet_bytes, if_clear, answer_of}

-- ---- the steps: 0 is the reboot, 1 to b check an arm each, and the last publishes

abbrev pub reboot : ℕ
reboot = 0

abbrev pub publish : ℕ → ℕ
publish b = b + 1

-- all checks
abbrev pub checks : ℕ → ℕ
checks b = span 1 (publish b)

-- what a table has in the row of step s: one thing for the reboot, one for a check, one for publishing, and 0 where no step is
unfoldable pub by_step : ℕ → ℕ → ℕ → ℕ → ℕ → ℕ
by_step b s rebooting checking publishing = cond (eqb s reboot) rebooting (cond (leb s b) checking (cond (eqb s (publish b)) publishing 0))

-- ---- what they do to one another. None waits for another

-- a reboot makes every check due
abbrev pub responses_at : ℕ → ℕ → ℕ
responses_at b s = by_step b s (checks b) 0 0

-- the step that check k lets in: the next check, and publishing after check b
abbrev pub following : ℕ → ℕ → ℕ
following b k = cond (ltb k b) (k + 1) (publish b)

-- a reboot lets in check 1
abbrev pub includes_at : ℕ → ℕ → ℕ
includes_at b s = by_step b s (single 1) (single (following b s)) 0

-- a reboot shuts out the other checks and publishing, a check itself
abbrev pub excludes_at : ℕ → ℕ → ℕ
excludes_at b s = by_step b s (union (span 2 (publish b)) (single (publish b))) (single s) 0

-- ---- who does them

abbrev pub climber : ℕ
climber = 0

abbrev pub desk : ℕ
desk = 1

-- each step is an action of its own
abbrev pub label_at : ℕ → ℕ → ℕ
label_at b s = by_step b s s s s

-- climber and desk reboot, the climber checks, the desk publishes
abbrev pub allows_at : ℕ → ℕ → ℕ
allows_at b a = by_step b a (union (single climber) (single desk)) (single climber) (single desk)

-- person 0 is the climber, person 1 sits at the desk
abbrev pub holds_at : ℕ → ℕ
holds_at p = cond (eqb p 0) (single climber) (cond (eqb p 1) (single desk) 0)

-- ---- the job

abbrev pub cabinet : ℕ → Graph
cabinet b =
    record {
      steps = b + 2;
      people = 2;
      roles = 2;
      actions = b + 2;
      conditions = tabled 64 (λ s. 0);
      responses = tabled 64 (responses_at b);
      includes = tabled 64 (includes_at b);
      excludes = tabled 64 (excludes_at b);
      allows = tabled 64 (allows_at b);
      holds = tabled 16 holds_at;
      labels = tabled 64 (label_at b);
    }

-- at first nothing is done, every check is due, and only the reboot and check 1 are let in
abbrev pub at_first : ℕ → Marking
at_first b = record { done = 0; due = checks b; included = union (single reboot) (single 1) }

-- ---- its sheet, which is asked for with room for so many bytes

abbrev pub cabinet_bytes : ℕ → List ℕ
cabinet_bytes b = sheet_bytes (cabinet b) (at_first b)

-- a mast has 2 to 16 arms
abbrev pub arms_fit : ℕ → Bool
arms_fit b = leb 2 b && leb b 16

-- 30, then 18: the room is shorter than the sheet
abbrev pub cabinet_lines : ℕ → ℕ → List Line
cabinet_lines b room = (Arms, not (arms_fit b)) ∷ (Room, ltb room (length (cabinet_bytes b))) ∷ []

unfoldable pub cabinet_verdict : ℕ → ℕ → Verdict
cabinet_verdict b room = first (cabinet_lines b room)

-- what is answered
abbrev pub the_cabinet : ℕ → ℕ → Written
the_cabinet b room = answer_of (cabinet_verdict b room) (length (cabinet_bytes b))

-- the room afterwards: the sheet, and what stood beyond it; on a refusal as it was
abbrev pub cabinet_after : ℕ → List ℕ → List ℕ
cabinet_after b old = if_clear (cabinet_verdict b (length old)) (cabinet_bytes b ++ drop (length (cabinet_bytes b)) old) old
