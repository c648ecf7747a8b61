-- Graphs (Definitions 3 and 5), and when one handed over as a value is refused.
use Rattle.std.specs.Prelude.{ℕ, List, [], ◌∷◌, Bool, not, ◌&&◌}
use Rattle.moves.specs.declared.Refusal.TheVariants.{Counts, Beyond, Both}
use Rattle.moves.specs.First.{Verdict}
use Rattle.moves.specs.First.{Line, first}
use Rattle.tables.specs.declared.Counts.{Counts as CountsOf}
use Rattle.tables.specs.Tables.{row, counts_fit, roles_fit, labels_fit, arrow_rows_fit, kinds_apart, table_at}

-- a job: four counts, tables of sets, and the action of each step. Row b of `conditions` is what b waits for; row a of the next three is
-- what a points at
pub record Graph : Type 0 where
  pub steps : ℕ
  pub people : ℕ
  pub roles : ℕ
  pub actions : ℕ
  pub conditions : List ℕ
  pub responses : List ℕ
  pub includes : List ℕ
  pub excludes : List ℕ
  pub allows : List ℕ
  pub holds : List ℕ
  pub labels : List ℕ

abbrev pub counts_of : Graph → CountsOf
counts_of g = record { steps = g.steps; people = g.people; roles = g.roles; actions = g.actions }

-- ---- a job as it is lent: one block of 404 words. No other place knows where a table stands

abbrev pub graph_of : List ℕ → Graph
graph_of block =
    record {
      steps = row block 0;
      people = row block 1;
      roles = row block 2;
      actions = row block 3;
      conditions = table_at 4 64 block;
      responses = table_at 68 64 block;
      includes = table_at 132 64 block;
      excludes = table_at 196 64 block;
      allows = table_at 260 64 block;
      holds = table_at 324 16 block;
      labels = table_at 340 64 block;
    }

-- ---- the relations of Definition 3

-- (iv) {a | a →• s}: what s waits for
abbrev pub conditions_of : Graph → ℕ → ℕ
conditions_of g s = row g.conditions s

-- (v) {b | s •→ b}: what becomes due
abbrev pub responses_of : Graph → ℕ → ℕ
responses_of g s = row g.responses s

-- (vi) {b | s →+ b}
abbrev pub includes_of : Graph → ℕ → ℕ
includes_of g s = row g.includes s

-- (vi) {b | s →% b}
abbrev pub excludes_of : Graph → ℕ → ℕ
excludes_of g s = row g.excludes s

-- (vii) l(s): the action of s
abbrev pub action_of : Graph → ℕ → ℕ
action_of g s = row g.labels s

-- ---- the role assignment of Definition 5

-- {r | a as r}
abbrev pub roles_of_action : Graph → ℕ → ℕ
roles_of_action g a = row g.allows a

-- {r | l(s) as r}: a step has the roles of its action
abbrev pub roles_of : Graph → ℕ → ℕ
roles_of g s = roles_of_action g (action_of g s)

-- {r | p as r}
abbrev pub roles_held : Graph → ℕ → ℕ
roles_held g p = row g.holds p

-- ---- a graph handed over as a value

-- 4 is given unless each set names only what there is, each step has an action that there is, and nothing is stored beyond the counts
unfoldable pub sets_fit : Graph → Bool
sets_fit g =
    (roles_fit g.actions g.people g.roles g.allows g.holds && labels_fit g.steps g.actions g.labels)
    && arrow_rows_fit g.steps g.conditions g.responses g.includes g.excludes

-- the table for a graph
abbrev pub graph_lines : Graph → List Line
graph_lines g =
    (Counts, not (counts_fit g.steps g.people g.roles g.actions))
    ∷ (Beyond, not (sets_fit g))
    ∷ (Both, not (kinds_apart g.steps g.includes g.excludes))
    ∷ []

abbrev pub graph_verdict : Graph → Verdict
graph_verdict g = first (graph_lines g)
