-- `first_marking`: body 2 is there, and has 24 bytes. Assumes nothing.
use mathlib.Core.Path.{◌≡◌, ap, ◌∙◌}
use native.Mathlib.Omega.{arith}
use lib.ListN.{length}
use lib.Dec.{lit<}
use Rattle.layout.specs.Layout.{body_at}
use Rattle.bodies.specs.Bodies.{marking_in}
use Rattle.reading.specs.Laws.{body_there, body_length}
use Rattle.reading.proofs.first_marking.Goals as goal

pub body-requires : goal.body-requires
body-requires c = body_there _ c.requires 1 (lit< tt)

pub read_marking-requires : goal.read_marking-requires
read_marking-requires c =
    let s = c.args.s.now in
    let n : length (body_at s 1) ≡ 24 = body_length s c.requires 1 (lit< tt) ∙ c.requires.two in
    omega (arith, ap length c.body.ensures)

pub returns : goal.returns
returns c = c.read_marking.ensures ∙ ap marking_in c.body.ensures
