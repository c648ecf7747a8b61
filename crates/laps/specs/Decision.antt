-- What the code decides by: the stem and the lap twice, and the steps that stay due and included, and are not done, through the second lap.
-- Nothing here has to be believed: proofs/Laws.antt shows that it is the answer.
use Rattle.std.specs.Prelude.{ℕ, ◌+◌, List, [], ◌∷◌, cond, Result, Ok, Err}
use Rattle.sets.specs.Sets.{single, meet, minus, empty, full, lowest}
use Rattle.rules.specs.Graph.{Graph}
use Rattle.moves.specs.declared.Marking.{Marking}
use Rattle.moves.specs.declared.Entry.{Entry}
use Rattle.moves.specs.declared.Refusal.{Refusal}
use Rattle.moves.specs.First.{Verdict, first}
use Rattle.moves.specs.Move.{Move}
use Rattle.rules.specs.Answers.{entry_move}
use Rattle.journal.specs.Journal.{entries}
use Rattle.laps.specs.Lapped.{Lapped}
use Rattle.laps.specs.declared.Pass.{Pass}
use Rattle.laps.specs.Laps.{lap_lines}
use Rattle.laps.specs.declared.inner.Leg.{Leg}
use Rattle.laps.specs.declared.inner.Halt.{Halt}
use Rattle.laps.specs.declared.Endless.{Endless}
use Rattle.laps.specs.declared.Broken.{Broken}

-- through a journal to its end: the marking there, and the steps left; or to the first entry that is not allowed
abbrev pub Went : Type 0
Went = Result Leg Halt

abbrev pub leg : Marking → ℕ → Leg
leg m x = record { marking = m; left = x }

abbrev pub halt : ℕ → Refusal → Halt
halt k r = record { index = k; refusal = r }

-- the steps of x that are due and included in m, less s
abbrev pub still : ℕ → Marking → ℕ → ℕ
still x m s = minus (meet (meet m.due m.included) x) (single s)

-- entry k in marking m: where it is allowed the leg goes on with the marking after, else it stops there
unfoldable pub go_through : ℕ → Move → (Marking → Went) → Went
go_through k (Ok next) rest = rest next
go_through k (Err d) rest = Err (halt k d.refusal)

-- through the entries from entry k on, in marking m, with x left so far
unfoldable pub leg_on : Graph → Marking → ℕ → ℕ → List Entry → Went
leg_on g m x k [] = Ok (leg m x)
leg_on g m x k (e ∷ rest) = go_through k (entry_move g m e) (λ next. leg_on g next (still x m e.step.0) (k + 1) rest)

abbrev pub leg_of : Graph → Marking → List Entry → Went
leg_of g m es = leg_on g m (full 64) 0 es

-- a leg in pass p that ends: what follows. One that stops: the answer
unfoldable pub upon : Went → Pass → (Marking → ℕ → Lapped) → Lapped
upon (Ok e) p rest = rest e.marking e.left
upon (Err d) p rest = Err (Broken.Stopped d.index p d.refusal)

-- x stay due and included and are not done
abbrev pub judged : ℕ → Lapped
judged x = cond (empty x) (Ok Endless.Accepted) (Ok (Endless.Starved (record { 0 = lowest 64 x })))

unfoldable pub second_lap : Graph → Marking → List Entry → Lapped
second_lap g m lap = upon (leg_of g m lap) Pass.Second (λ end x. judged x)

unfoldable pub first_lap : Graph → Marking → List Entry → Lapped
first_lap g m lap = upon (leg_of g m lap) Pass.First (λ end x. second_lap g end lap)

unfoldable pub decision : Graph → Marking → List Entry → List Entry → Lapped
decision g m stem lap = upon (leg_of g m stem) Pass.Stem (λ end x. first_lap g end lap)

-- before any entry is looked at, the table
unfoldable pub lap_of : Verdict → Lapped → Lapped
lap_of (Ok _) o = o
lap_of (Err r) o = Err (Broken.Refused r)

-- any stem and lap on anything
unfoldable pub the_lap : Graph → Marking → List ℕ → List ℕ → Lapped
the_lap g m stem lap = lap_of (first (lap_lines g m stem lap)) (decision g m (entries stem) (entries lap))
