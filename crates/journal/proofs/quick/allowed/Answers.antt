-- `quick::allowed`: on a graph with nothing against it an entry of a known step names what there is wherever its role is held and had, so
-- the other counts are not asked; the other tests are those of its table. Assumes nothing.
use Prim.Native.Nat.{ℕ, ◌<◌}
use mathlib.Core.Path.{◌≡◌, sym, ap, ◌∙◌}
use mathlib.Core.Bool.{true, false}
use native.Mathlib.Omega.{arith}
use lib.Bits.{or_add_and, and_le_l, and_le_r}
use lib.Dec.{eqb}
use borrow.Author.Rules.{rules}
use borrow.Author.Tests.{not-true, not-false, eq-eqb, ne_eqb}
use Rattle.sets.specs.Sets.{has, single, meet}
use Rattle.moves.specs.declared.inner.Row.{Row}
use Rattle.rules.specs.Graph.{Graph, graph_of, roles_held, roles_of}
use Rattle.tables.specs.Tables.{row}
use Rattle.rules.specs.Laws.{clear_counts}
use Rattle.moves.specs.Move.{is_included, waits_for}
use Rattle.journal.specs.Allowed.{unknown_person_role, unknown_step, without_role, not_included, role_left}
use Rattle.journal.specs.Singles.{single_asked}
use Rattle.journal.proofs.quick.allowed.Goals as goal
use Rattle.journal.proofs.quick.allowed.Goals.{After-has, Else-g-s}

abbrev graph : Else-g-s → Graph
graph p = graph_of p.args.g.now

few : (p : Else-g-s) → p.args.e.step.0 < 64
few p = let k = clear_counts (graph p) p.requires.0 in omega (arith, k.steps_most)

-- the step's row in the table of singles is the step alone
alone : (p : Else-g-s) → let a = p.args in row a.singles.now a.e.step.0 ≡ single a.e.step.0
alone p = p.requires.1 p.args.e.step.0 (few p)

asked : (h : After-has)
    → let e = h.args.e in
    has (meet (roles_held (graph (goal.at.After-has h).Else-g-s) e.person) (roles_of (graph (goal.at.After-has h).Else-g-s) e.step.0)) e.role ≡ h.has.result
asked h =
    ap (λ (w : Row). has (meet w.held w.allows) h.args.e.role) (sym h.row_at-w.ensures)
    ∙ sym h.has.ensures

-- ---- the needs
pub returns-then-p-r-ge16 : goal.returns-then-p-r-ge16
returns-then-p-r-ge16 c =
    let a = c.args in
    let g : Graph = graph_of a.g.now in
    let e = a.e in
    sym (unknown_person_role g a.m e c.requires.0 c.if-p-r-ge16.true)

pub returns-then-g-s : goal.returns-then-g-s
returns-then-g-s c =
    let a = c.args in
    sym (unknown_step (graph_of a.g.now) a.m a.e c.if-g-s.true)

pub row_at-w-requires : goal.row_at-w-requires
row_at-w-requires c =
    let e = c.args.e in
    (c.requires.0, omega (arith, or_add_and e.person e.role, and_le_r e.person e.role), few c)

pub has-requires : goal.has-requires
has-requires c =
    let e = c.args.e in
    omega (arith, or_add_and e.person e.role, and_le_l e.person e.role)

pub returns-then-not-has : goal.returns-then-not-has
returns-then-not-has c =
    sym (without_role (graph (goal.at.returns-then-not-has c).Else-g-s) c.args.m c.args.e (asked (goal.at.returns-then-not-has c).After-has ∙ c.if-not-has.true))

pub bounds-singles-i : goal.bounds-singles-i
bounds-singles-i c = search (rules, few (goal.at.bounds-singles-i c).Else-g-s)

pub returns-then-m-singles-eq0 : goal.returns-then-m-singles-eq0
returns-then-m-singles-eq0 c =
    let a = c.args in
    let out : is_included a.m a.e ≡ false =
    not-true _ (sym (single_asked a.m.included a.e.step.0)
    ∙ eq-eqb _ 0 (ap (meet a.m.included) (sym (alone (goal.at.returns-then-m-singles-eq0 c).Else-g-s)) ∙ c.if-m-singles-eq0.true)) in
    sym (not_included (graph (goal.at.returns-then-m-singles-eq0 c).Else-g-s) a.m a.e out)

pub returns : goal.returns
returns c =
    let a = c.args in
    let included : is_included a.m a.e ≡ true =
    not-false _ (sym (single_asked a.m.included a.e.step.0)
    ∙ ne_eqb _ 0 (λ q. c.if-m-singles-eq0.false (ap (meet a.m.included) (alone (goal.at.returns c).Else-g-s) ∙ q))) in
    ap (λ (x : ℕ). eqb x 0)
    (c.waits.ensures ∙ ap (λ (w : Row). waits_for w.conditions a.m) c.row_at-w.ensures)
    ∙ sym (role_left (graph (goal.at.returns c).Else-g-s) a.m a.e c.requires.0 c.if-g-s.false (asked (goal.at.returns c).After-has ∙ c.if-not-has.false) included)
