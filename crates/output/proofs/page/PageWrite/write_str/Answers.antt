-- Each byte goes onto the page in its turn, so that what is left of the text is to go behind what is there.
use Rattle.std.proofs.Common.{◌+◌, ◌≤◌, ℕ, arith, sym, ap, ◌∙◌, List, length, drop}
use Rattle.std.proofs.lemmas.List.{at_drop_more}
use Rattle.std.proofs.Math.ListN.{drop_of_length-le}
use Rattle.output.specs.Text.{with_bytes}
use Rattle.output.proofs.page.PageWrite.write_str.Goals as goal

pub loop-b-preserved : goal.loop-b-preserved
unfolding with_bytes
loop-b-preserved c =
    let bytes = c.as_bytes-b-items.result.now in
    let i = c.loop-b.b-index in
    let next = at_drop_more (with_bytes c.loop-b.self.text.items) bytes i 0 c.loop-b-test.true in
    let put = ap (λ (text : List ℕ). with_bytes text (drop (i + 1) bytes)) c.put.ensures.text in
    (put ∙ sym next ∙ c.loop-b.invariant.0, λ torn. c.put.ensures.torn (c.loop-b.invariant.1 torn))

pub returns : goal.returns
unfolding with_bytes
returns c =
    let bytes = c.as_bytes-b-items.result.now in
    let end : length bytes ≤ c.loop-b.b-index = omega arith in
    let none = ap (with_bytes c.loop-b.self.text.items) (drop_of_length-le bytes end) in
    let whole = ap (with_bytes c.args.self.now.text.items) c.as_bytes-b-items.ensures.value in
    record { ok = λ e. (sym none ∙ c.loop-b.invariant.0 ∙ whole, c.loop-b.invariant.1) }
