-- `inner::take_asked`: what `ask` allows has a row and a marking after it; what it refuses is handed on. Assumes nothing.
use mathlib.Core.Path.{◌≡◌, sym, ap, ◌∙◌}
use native.Mathlib.Omega.{arith}
use Rattle.moves.specs.First.{Verdict}
use Rattle.moves.specs.declared.Marking.{Marking}
use Rattle.moves.specs.Move.{Move}
use Rattle.moves.specs.Move.{move_of}
use Rattle.rules.specs.Graph.{Graph, graph_of}
use Rattle.rules.specs.Answers.{the_asked, the_move, after_entry}
use Rattle.rules.specs.Laws.{clear_counts}
use Rattle.rules.specs.Asking.{allowed_known}
use Rattle.rules.specs.Entries.{Named, known_named}
use Rattle.rules.proofs.inner.take_asked.Goals as goal
use Rattle.std.specs.Prelude.{Ok, Err}
use Rattle.moves.specs.Move.{denied}

pub taken-requires : goal.taken-requires
taken-requires c =
    let a = c.args in
    let g : Graph = graph_of a.g.now in
    let found = allowed_known g a.m a.e (sym c.requires ∙ c.in-Ok.is) in
    let k = clear_counts g found.0 in
    let n : Named g a.e = known_named g a.e found.1 in
    (found.0, omega (arith, n.person_in, k.people_most), omega (arith, n.step_in, k.steps_most))

pub returns-in-Ok : goal.returns-in-Ok
unfolding the_move move_of
returns-in-Ok c =
    let a = c.args in
    let g : Graph = graph_of a.g.now in
    let allowed : the_asked g a.m a.e ≡ (Ok tt) = sym c.requires ∙ c.in-Ok.is in
    ap Ok c.taken.ensures ∙ sym (ap (λ (o : Verdict). move_of o a.m (after_entry g a.m a.e)) allowed)

pub returns-in-Err : goal.returns-in-Err
unfolding the_move move_of
returns-in-Err c =
    let a = c.args in
    let g : Graph = graph_of a.g.now in
    let r = c.in-Err.r in
    let refused : the_asked g a.m a.e ≡ Err r =
    sym c.requires ∙ c.in-Err.is in
    ap Err c.denied.ensures
    ∙ sym (ap (λ (o : Verdict). move_of o a.m (after_entry g a.m a.e)) refused)
