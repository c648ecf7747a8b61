-- The small sample job: its graph and its start, and answers as the samples have them.
use Rattle.std.specs.Prelude.{ℕ, zero, suc, List, [], ◌∷◌, Bool, false, ◌&&◌, cond, eqb, ltb}
use Rattle.sets.specs.Sets.{single, union}
use Rattle.moves.specs.declared.Marking.{Marking}
use Rattle.moves.specs.declared.Entry.{Entry}
use Rattle.moves.specs.First.{Verdict}
use Rattle.moves.specs.Move.{Move}
use Rattle.moves.specs.Move.{entry_of, number_of_asked, waiting_of_asked, number_of_move, waiting_of_move, marking_of_move}
use Rattle.rules.specs.Graph.{Graph}
use Rattle.records.specs.Answers.{Recorded}
use Rattle.tracker.specs.Tracker.{Tracked}
use Rattle.tracker.specs.Tracker.{the_step}
use Rattle.std.specs.Prelude.{Ok, Err}
use Rattle.tracker.specs.declared.Unmoved.{Unmoved}

-- ---- what the document writes down, as values

-- {a, b, ..}
unfoldable pub set : List ℕ → ℕ
set [] = 0
set (s ∷ rest) = union (single s) (set rest)

-- Ex, Re, In
abbrev pub marking : List ℕ → List ℕ → List ℕ → Marking
marking Ex Re In = record { done = set Ex; due = set Re; included = set In }

-- the sets given, one to a row, then empty rows, k in all
unfoldable pub rows : ℕ → List (List ℕ) → List ℕ
rows zero given = []
rows (suc k) [] = 0 ∷ rows k []
rows (suc k) (x ∷ given) = set x ∷ rows k given

-- an arrow: kind, from, to
abbrev pub Triple : Type 0
Triple = ℕ × ℕ × ℕ

-- {b | there is an arrow of this kind from a to b}
unfoldable pub targets : ℕ → List Triple → ℕ → ℕ
targets kind [] a = 0
targets kind (x ∷ rest) a = union (cond (eqb x.0 kind && eqb x.1 a) (single x.2) 0) (targets kind rest a)

-- {a | there is an arrow of this kind from a to b}
unfoldable pub sources : ℕ → List Triple → ℕ → ℕ
sources kind [] b = 0
sources kind (x ∷ rest) b = union (cond (eqb x.0 kind && eqb x.2 b) (single x.1) 0) (sources kind rest b)

-- f 0, f 1, .., k of them from s on
unfoldable pub table : ℕ → ℕ → (ℕ → ℕ) → List ℕ
table zero s f = []
table (suc k) s f = f s ∷ table k (suc s) f

-- kinds: 0 condition, 1 response, 2 include, 3 exclude. A condition stands with the step that waits, each other arrow with its first step.
-- Each step is its own action
abbrev pub graph : ℕ → ℕ → ℕ → List (List ℕ) → List (List ℕ) → List Triple → Graph
graph steps people roles step_roles held arrows =
    record {
      steps = steps;
      people = people;
      roles = roles;
      actions = steps;
      conditions = table 64 0 (sources 0 arrows);
      responses = table 64 0 (targets 1 arrows);
      includes = table 64 0 (targets 2 arrows);
      excludes = table 64 0 (targets 3 arrows);
      allows = rows 64 step_roles;
      holds = rows 16 held;
      labels = table 64 0 (λ s. cond (ltb s steps) s 0);
    }

-- an answer to who asks: the number, and the set that goes with it
abbrev pub answered : Verdict → ℕ × ℕ
answered o = (number_of_asked o, waiting_of_asked o)

-- an answer to a step: the number, the set that goes with it, the marking
abbrev pub given : Move → ℕ × ℕ × Marking
given o = (number_of_move o, waiting_of_move o, marking_of_move o)

-- ---- the job

-- "Steps 0 reboot, 1 order check, 2 publish; roles 0 climber, 1 desk; person 0 holds {0}, person 1 holds {1}.
-- Step roles {0,1}, {0}, {1}. Arrows (0,1,2), (1,0,1), (2,1,2), (3,0,2)."
unfoldable pub job : Graph
job =
    graph 3 2 2 ((0 ∷ 1 ∷ []) ∷ (0 ∷ []) ∷ (1 ∷ []) ∷ []) ((0 ∷ []) ∷ (1 ∷ []) ∷ []) ((0, 1, 2) ∷ (1, 0, 1) ∷ (2, 1, 2) ∷ (3, 0, 2) ∷ [])

-- "Start: Ex and Re empty, In {0,1,2}."
abbrev pub first_marking : Marking
first_marking = marking [] [] (0 ∷ 1 ∷ 2 ∷ [])

-- (0,0,0), and (0,1,0): the climber reboots, and does the order check
abbrev pub reboot : Entry
reboot = entry_of 0 0 0

abbrev pub check : Entry
check = entry_of 0 1 0

-- (1,2,1): the desk publishes
abbrev pub publish : Entry
publish = entry_of 1 2 1

-- the marking of S2, and that of S4
abbrev pub rebooted : Marking
rebooted = marking (0 ∷ []) (1 ∷ []) (0 ∷ 1 ∷ [])

abbrev pub checked : Marking
checked = marking (0 ∷ 1 ∷ []) [] (0 ∷ 1 ∷ 2 ∷ [])

-- a tracker's state: marking, rank i, flag
abbrev pub at : Marking → ℕ → Bool → Tracked
at m i up = Ok (record { marking = m; rank = record { 0 = i }; flag = up })

-- one step more of the tracker
unfoldable pub tracking : Graph → Tracked → Entry → Tracked
tracking g (Ok t) e = the_step g t e
tracking g (Err (Unmoved.Refused r)) e = Err (Unmoved.Refused r)
tracking g (Err (Unmoved.Stays t r)) e = Err (Unmoved.Stays t r)

-- the bytes of a journal: person, step, role
unfoldable pub journal : List Entry → List ℕ
journal [] = []
journal (e ∷ rest) = e.person ∷ e.step.0 ∷ e.role ∷ journal rest

-- a record: NeedIn, NeedEx, NeedOutOrEx, Done, DueSet, DueClear, InSet, InClear
abbrev pub folded : List ℕ → List ℕ → List ℕ → List ℕ → List ℕ → List ℕ → List ℕ → List ℕ → Recorded
folded need_in need_ex need_out_or_ex done due_set due_clear in_set in_clear =
    Ok
    (record {
      never = false;
      needin = set need_in;
      needex = set need_ex;
      needout = set need_out_or_ex;
      done = set done;
      dueset = set due_set;
      dueclear = set due_clear;
      inset = set in_set;
      inclear = set in_clear;
    })
