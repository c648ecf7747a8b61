-- `read`: on a refusal nothing is written; else the block is what the sheet says. Assumes nothing.
use mathlib.Core.Path.{◌≡◌, sym, ◌∙◌}
use borrow.Author.Rules.{rules}
use Rattle.moves.specs.Handed.{handed}
use Rattle.reading.specs.Reading.{read_verdict}
use Rattle.reading.specs.Laws.{clear_right}
use Rattle.sheet.specs.Laws.{read_refused, read_clear}
use Rattle.sheet.proofs.read.Goals as goal
use Rattle.sheet.proofs.read.Goals.{In_ok-judge}
use Rattle.std.specs.Prelude.{Ok}

pub returns-in_err-judge : goal.returns-in_err-judge
returns-in_err-judge c =
    let a = c.args in
    let r = read_refused a.s.now a.g.now _ (sym c.judge.ensures.right ∙ c.in_err-judge.was) in
    record { value = handed c.from_residual.result _ c.from_residual.ensures.1 ∙ r.answer; g_after = r.block }

-- past the `?` nothing is against the sheet
clear : (c : In_ok-judge) → read_verdict c.args.s.now ≡ Ok tt
clear c = sym c.judge.ensures.right ∙ c.in_ok-judge.was

pub fill-requires : goal.fill-requires
fill-requires c = (clear (goal.at.fill-requires c).In_ok-judge, search rules, c.judge.ensures.filled c.in_ok-judge.was)

pub first_marking-requires : goal.first_marking-requires
first_marking-requires c = (clear_right c.args.s.now (clear (goal.at.first_marking-requires c).In_ok-judge)).opened.placed

pub returns : goal.returns
returns c =
    let r = read_clear c.args.s.now c.args.g.now _ _ (clear (goal.at.returns c).In_ok-judge) c.first_marking.ensures c.fill.ensures in
    record { value = r.answer; g_after = r.block }
