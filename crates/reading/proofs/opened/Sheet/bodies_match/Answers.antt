-- `Sheet::bodies_match`: the code is the definition, with the counts at hand for those of the sheet. Assumes nothing.
use Prim.Native.Nat.{◌*◌}
use mathlib.Core.Path.{ap}
use mathlib.Core.Bool.{◌&&◌}
use lib.Dec.{eqb}
use Rattle.layout.specs.Layout.{size_at}
use Rattle.tables.specs.declared.Counts.{Counts}
use Rattle.reading.specs.Reading.{labels_match}
use Rattle.reading.proofs.opened.Sheet.bodies_match.Goals as goal
use Rattle.reading.proofs.opened.Sheet.bodies_match.Goals.{Start}

pub returns : goal.returns
returns c =
    let s = c.args.self.now.bytes.now in
    simp (c.size.ensures.0, c.size-2.ensures.0, c.labels_match.ensures)
    (ap (λ (k : Counts). eqb (size_at s 2) (2 * k.actions) && eqb (size_at s 3) (2 * k.people) && labels_match s) c.args.self.now.opened.said)
