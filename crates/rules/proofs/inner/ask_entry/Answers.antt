-- `inner::ask_entry`: an entry whose numbers are known goes by its row. Assumes nothing.
use mathlib.Core.Path.{◌≡◌, sym, ◌∙◌, ap}
use mathlib.Core.Bool.{true, false}
use borrow.Author.Tests.{lt-ltb, le-ltb}
use Rattle.moves.specs.declared.inner.Row.{Row}
use Rattle.moves.specs.First.{first}
use Rattle.rules.specs.Graph.{Graph, graph_of}
use Rattle.rules.specs.Answers.{entry_known}
use Rattle.moves.specs.Move.{row_lines}
use Rattle.rules.specs.Laws.{clear_counts, entry_unknown, entry_known_lem}
use native.Mathlib.Omega.{arith}
use Rattle.rules.proofs.inner.ask_entry.Goals as goal

pub returns-then-g-p : goal.returns-then-g-p
returns-then-g-p c =
    let a = c.args in
    let g : Graph = graph_of a.g.now in
    let unknown : entry_known g a.e ≡ false = simp (le-ltb _ _ c.if-g-p.true) in
    sym (entry_unknown g a.m a.e unknown)

pub returns-then-g-s : goal.returns-then-g-s
returns-then-g-s c =
    let a = c.args in
    let g : Graph = graph_of a.g.now in
    let unknown : entry_known g a.e ≡ false = simp (lt-ltb _ _ c.if-g-p.false, le-ltb _ _ c.if-g-s.true) in
    sym (entry_unknown g a.m a.e unknown)

pub returns-then-g-r : goal.returns-then-g-r
returns-then-g-r c =
    let a = c.args in
    let g : Graph = graph_of a.g.now in
    let unknown : entry_known g a.e ≡ false =
    simp (
      lt-ltb _ _ c.if-g-p.false,
      lt-ltb _ _ c.if-g-s.false,
      le-ltb _ _ c.if-g-r.true,
    ) in
    sym (entry_unknown g a.m a.e unknown)

pub row_at-requires : goal.row_at-requires
row_at-requires c =
    let k = clear_counts (graph_of c.args.g.now) c.requires in
    (c.requires, omega (arith, k.people_most), omega (arith, k.steps_most))

pub ask_row-requires : goal.ask_row-requires
ask_row-requires c =
    let k = clear_counts (graph_of c.args.g.now) c.requires in
    (omega (arith, k.steps_most), omega (arith, k.roles_most))

pub returns : goal.returns
returns c =
    let a = c.args in
    let g : Graph = graph_of a.g.now in
    let is : entry_known g a.e ≡ true =
    simp (
      lt-ltb _ _ c.if-g-p.false,
      lt-ltb _ _ c.if-g-s.false,
      lt-ltb _ _ c.if-g-r.false,
    ) in
    c.ask_row.ensures ∙ ap (λ (w : Row). (first (row_lines w a.m a.e))) c.row_at.ensures
    ∙ sym (entry_known_lem g a.m a.e is)
