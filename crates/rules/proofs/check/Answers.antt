-- `check`: the three tests are the table's three lines, in its order. Assumes nothing.
use Prim.Native.Nat.{ℕ, ◌<◌}
use mathlib.Core.Path.{◌≡◌, sym, ◌∙◌, ap, ap₂}
use mathlib.Core.List.{List}
use mathlib.Core.Bool.{false, not, ◌&&◌}
use native.Mathlib.Omega.{arith}
use lib.ListN.{length}
use lib.Dec.{lit<}
use Rattle.moves.specs.First.{first}
use Rattle.rules.specs.Graph.{Graph, graph_of, sets_fit}
use Rattle.tables.specs.declared.Counts.{Counts}
use Rattle.tables.specs.Tables.{table_at, counts_fit, roles_fit, labels_fit, arrow_rows_fit, kinds_apart}
use Rattle.tables.specs.Laws.{Counted, counts_bound, rows_at}
use Rattle.rules.proofs.check.Goals as goal
use Rattle.rules.proofs.check.Goals.{After-fit, After-labels_fit, After-w-1, Else-not-fit}

-- the counts are those of the graph
said : (c : After-fit) → let g = graph_of c.args.g.now in c.fit.result ≡ counts_fit g.steps g.people g.roles g.actions
said c = c.fit.ensures ∙ ap (λ (k : Counts). counts_fit k.steps k.people k.roles k.actions) c.counts-c.ensures

pub returns-then-not-fit : goal.returns-then-not-fit
unfolding first
returns-then-not-fit c = simp (ap not (sym (said (goal.at.returns-then-not-fit c).After-fit)) ∙ ap not c.if-not-fit.true)

-- where the counts fit: the block, and how many rows its tables have
abbrev block : Else-not-fit → List ℕ
block c = c.args.g.now

counts : (c : Else-not-fit) → let k = c.counts-c.result in Counted k.steps k.people k.roles k.actions
counts c = counts_bound _ _ _ _ (sym c.fit.ensures ∙ c.if-not-fit.false)

rows : (c : After-w-1) (at : ℕ) → at < 341 → length (table_at at 64 (block (goal.at.After-w-1 c).Else-not-fit)) ≡ 64
rows c at h =
    let l : length (block (goal.at.After-w-1 c).Else-not-fit) ≡ 404 = c.w-1.given in
    rows_at at 64 (block (goal.at.After-w-1 c).Else-not-fit) (omega arith)

pub checked-arrows-requires : goal.checked-arrows-requires
checked-arrows-requires c = (
  (counts (goal.at.checked-arrows-requires c).Else-not-fit).steps_most,
  record { first = rows (goal.at.checked-arrows-requires c).After-w-1 4 (lit< tt); second = rows (goal.at.checked-arrows-requires c).After-w-1 68 (lit< tt); third = rows (goal.at.checked-arrows-requires c).After-w-1 132 (lit< tt); fourth = rows (goal.at.checked-arrows-requires c).After-w-1 196 (lit< tt) },
)

pub roles_fit-named-requires : goal.roles_fit-named-requires
roles_fit-named-requires c =
    let k = counts (goal.at.roles_fit-named-requires c).Else-not-fit in
    let l : length (block (goal.at.roles_fit-named-requires c).Else-not-fit) ≡ 404 = c.w-1.given in (
      omega (arith, k.actions_most, k.people_most),
      k.people_most,
      k.roles_most,
      rows (goal.at.roles_fit-named-requires c).After-w-1 260 (lit< tt),
      rows_at 324 16 (block (goal.at.roles_fit-named-requires c).Else-not-fit) (omega arith),
    )

pub labels_fit-requires : goal.labels_fit-requires
labels_fit-requires c =
    let k = counts (goal.at.labels_fit-requires c).Else-not-fit in
    (k.steps_most, k.actions_some, k.actions_most, rows (goal.at.labels_fit-requires c).After-w-1 340 (lit< tt))

abbrev graph : After-labels_fit → Graph
graph done = graph_of (block (goal.at.After-labels_fit done).Else-not-fit)

counted : (done : After-labels_fit)
    → not (counts_fit (graph done).steps (graph done).people (graph done).roles (graph done).actions) ≡ false
counted done = ap not (sym (said (goal.at.After-labels_fit done).After-fit)) ∙ ap not done.if-not-fit.false

fit : (done : After-labels_fit)
    → sets_fit (graph done)
    ≡ ((done.roles_fit-named.result && done.labels_fit.result) && done.checked-arrows.result.fit)
unfolding sets_fit
fit done =
    let g = graph done in
    let is = done.counts-c.ensures in
    sym (ap₂ ◌&&◌
    (ap₂ ◌&&◌ (done.roles_fit-named.ensures ∙ ap (λ (k : Counts). roles_fit k.actions k.people k.roles g.allows g.holds) is)
    (done.labels_fit.ensures ∙ ap (λ (k : Counts). labels_fit k.steps k.actions g.labels) is))
    (done.checked-arrows.ensures.fit_value
    ∙ ap (λ (k : Counts). arrow_rows_fit k.steps g.conditions g.responses g.includes g.excludes) is))

apart : (done : After-labels_fit)
    → kinds_apart (graph done).steps (graph done).includes (graph done).excludes ≡ done.checked-arrows.result.apart
apart done =
    let g = graph done in
    sym (done.checked-arrows.ensures.apart_value ∙ ap (λ (k : Counts). kinds_apart k.steps g.includes g.excludes) done.counts-c.ensures)

pub returns-then-not-named-labels_fit : goal.returns-then-not-named-labels_fit
unfolding first
returns-then-not-named-labels_fit c = simp (counted (goal.at.returns-then-not-named-labels_fit c).After-labels_fit, ap not (fit (goal.at.returns-then-not-named-labels_fit c).After-labels_fit) ∙ ap not c.if-not-named-labels_fit.true)

pub returns-then-not-arrows : goal.returns-then-not-arrows
unfolding first
returns-then-not-arrows c =
    simp (counted (goal.at.returns-then-not-arrows c).After-labels_fit, ap not (fit (goal.at.returns-then-not-arrows c).After-labels_fit) ∙ ap not c.if-not-named-labels_fit.false, ap not (apart (goal.at.returns-then-not-arrows c).After-labels_fit) ∙ c.if-not-arrows.true)

pub returns : goal.returns
unfolding first
returns c =
    simp (counted (goal.at.returns c).After-labels_fit, ap not (fit (goal.at.returns c).After-labels_fit) ∙ ap not c.if-not-named-labels_fit.false, ap not (apart (goal.at.returns c).After-labels_fit) ∙ c.if-not-arrows.false)
