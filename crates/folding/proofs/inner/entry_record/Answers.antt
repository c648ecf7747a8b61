-- `inner::entry_record`: an entry of a known step whose role serves is the step's record, and any other is never; a person or role beyond
-- any graph's is unknown to this one. Assumes nothing.
use Prim.Native.Nat.{◌<◌, ◌≤◌}
use mathlib.Core.Path.{◌≡◌, sym, ◌∙◌, ap}
use mathlib.Core.Bool.{true, false, ◌&&◌}
use native.Mathlib.Omega.{arith}
use borrow.Author.Rules.{rules}
use borrow.Author.Tests.{le-ltb}
use Rattle.sets.specs.Sets.{has}
use Rattle.moves.specs.declared.inner.Row.{Row}
use Rattle.rules.specs.Graph.{Graph, graph_of}
use Rattle.rules.specs.Answers.{entry_known}
use Rattle.moves.specs.Move.{person_holds, step_has}
use Rattle.tables.specs.Laws.{Counted}
use Rattle.rules.specs.Laws.{clear_counts}
use Rattle.folding.specs.Fold.{row_met, step_record}
use Rattle.folding.specs.Laws.{and_none, record_unknown, record_serves}
use Rattle.folding.proofs.inner.entry_record.Goals as goal
use Rattle.folding.proofs.inner.entry_record.Goals.{After-admits, Else-g-s}

abbrev graph : Else-g-s → Graph
graph p = graph_of p.args.g.now

few : (p : Else-g-s) → p.args.e.step.0 < 64
few p = let k = clear_counts (graph p) p.requires in omega (arith, k.steps_most)

-- the test of the role asks the sets of the entry's person and step
serves : (h : After-admits)
    → let e = h.args.e in
    let w : Row = row_met (graph (goal.at.After-admits h).Else-g-s) e in
    (person_holds w e && step_has w e) ≡ h.admits.result
serves h =
    let e = h.args.e in
    ap (λ (w : Row). has w.held e.role && has w.allows e.role) (sym h.row_at-w.ensures) ∙ sym h.admits.ensures

-- ---- the needs
pub returns-then-p-ge16 : goal.returns-then-p-ge16
returns-then-p-ge16 c =
    let a = c.args in
    let g : Graph = graph_of a.g.now in
    let b : Counted g.steps g.people g.roles g.actions = clear_counts g c.requires in
    let past : g.people ≤ a.e.person = omega arith in
    let unknown : entry_known g a.e ≡ false = simp (le-ltb a.e.person g.people past) in
    sym (record_unknown g a.e unknown)

pub returns-then-g-s : goal.returns-then-g-s
returns-then-g-s c =
    let a = c.args in
    let g : Graph = graph_of a.g.now in
    let unknown : entry_known g a.e ≡ false = simp (le-ltb a.e.step.0 g.steps c.if-g-s.true, and_none) in
    sym (record_unknown g a.e unknown)

pub returns-then-role-ge16 : goal.returns-then-role-ge16
returns-then-role-ge16 c =
    let a = c.args in
    let g : Graph = graph (goal.at.returns-then-role-ge16 c).Else-g-s in
    let b : Counted g.steps g.people g.roles g.actions = clear_counts g c.requires in
    let past : g.roles ≤ a.e.role = omega arith in
    let unknown : entry_known g a.e ≡ false = simp (le-ltb a.e.role g.roles past, and_none) in
    sym (record_unknown g a.e unknown)

pub row_at-w-requires : goal.row_at-w-requires
row_at-w-requires c = (c.requires, search rules, few (goal.at.row_at-w-requires c).Else-g-s)

pub returns-then-not-admits : goal.returns-then-not-admits
returns-then-not-admits c =
    sym (record_serves (graph (goal.at.returns-then-not-admits c).Else-g-s) c.args.e false c.requires c.if-g-s.false (serves (goal.at.returns-then-not-admits c).After-admits ∙ c.if-not-admits.true))

pub step_record-requires : goal.step_record-requires
step_record-requires c = few (goal.at.step_record-requires c).Else-g-s

pub returns : goal.returns
returns c =
    let e = c.args.e in
    c.step_record.ensures ∙ ap (λ (w : Row). step_record w e.step.0) c.row_at-w.ensures
    ∙ sym (record_serves (graph (goal.at.returns c).Else-g-s) e true c.requires c.if-g-s.false (serves (goal.at.returns c).After-admits ∙ c.if-not-admits.false))
