-- `size`: what each body takes, and the front. Assumes nothing.
use Prim.Native.Nat.{ℕ}
use mathlib.Core.Path.{◌≡◌, sym, ap, ◌∙◌}
use mathlib.Core.List.{List}
use native.Mathlib.Omega.{arith}
use lib.ListN.{length}
use Rattle.tables.specs.Tables.{row}
use Rattle.tables.specs.Laws.{rows_at}
use Rattle.rules.specs.Graph.{graph_of}
use Rattle.rules.specs.Block.{kinds_joined}
use Rattle.arrows.specs.Arrows.{arrows_body}
use Rattle.arrows.specs.Rows.{turned_in}
use Rattle.writing.specs.Laws.{part_kept}
use Rattle.writing.specs.Parts.{arrows_out}
use Rattle.writing.proofs.size.Goals as goal
use Rattle.writing.proofs.size.Goals.{After-size-arrows, Start}

pub size-arrows-requires : goal.size-arrows-requires
size-arrows-requires c =
    let block = c.args.g.now in
    let whole : length block ≡ 404 = omega arith in
    (part_kept block c.requires.0, rows_at 4 256 block (omega arith), c.requires.1 ∙ ap (turned_in (row block 0)) (kinds_joined block))

arrows-said : (c : After-size-arrows) → c.size-arrows.result ≡ length (arrows_out (graph_of c.args.g.now))
arrows-said c = c.size-arrows.ensures ∙ ap (λ (t : List ℕ). length (arrows_body t)) (sym (kinds_joined c.args.g.now))

pub returns : goal.returns
returns c = omega (arith, arrows-said c)
