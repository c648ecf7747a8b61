-- `Sheet::arrows_right`: body 5 is there, and is handed to the reader of arrows. Assumes nothing.
use Prim.Native.Nat.{ℕ, ◌%◌}
use mathlib.Core.Path.{◌≡◌, sym, ap, ap₂, ◌∙◌}
use mathlib.Core.List.{List}
use mathlib.Core.Bool.{true}
use lib.ListN.{length}
use lib.Dec.{lit<}
use Rattle.arrows.specs.Arrows.{arrows_in, link_in_order}
use Rattle.arrows.specs.Loops.{filled}
use Rattle.tables.specs.declared.Counts.{Counts}
use Rattle.reading.specs.Reading.{counts_of, arrows_on, arrows_right}
use Rattle.reading.specs.Laws.{body_there, body_length, opened_counted}
use Rattle.reading.specs.Judged.{arrows_filled}
use Rattle.reading.proofs.opened.Sheet.arrows_right.Goals as goal

pub body-requires : goal.body-requires
body-requires c = body_there _ c.args.self.now.opened.placed 4 (lit< tt)

pub read-requires : goal.read-requires
read-requires c =
    let s = c.args.self.now.bytes.now in
    let o = c.args.self.now.opened in
    let whole = ap (λ (b : List ℕ). length b % 3) c.body.ensures in
    (o.counted.steps_most, whole ∙ ap (λ (k : ℕ). k % 3) (body_length s o.placed 4 (lit< tt)) ∙ o.placed.five)

pub returns : goal.returns
returns c =
    let s = c.args.self.now.bytes.now in
    let o = c.args.self.now.opened in
    let body = c.body.ensures in
    let fit : c.read.result ≡ arrows_right s =
    c.read.ensures.value ∙ ap₂ (λ (k : Counts) (b : List ℕ). link_in_order k.steps (arrows_in b)) o.said body in
    let full : c.read.result ≡ true → filled (counts_of s).steps 0 _ (arrows_on s) ≡ _ =
    λ e. arrows_filled (counts_of s).steps (arrows_on s) (opened_counted s _ o).steps_most (sym fit ∙ e) in
    record { value = fit; table_after = λ e. c.read.ensures.table_after ∙ (λ i. filled (o.said i).steps 0 (c.requires i) (arrows_in (body i))) ∙ full e }
