-- `counts`: body 1 is there, and has the bytes of its form. Assumes nothing.
use Prim.Native.Nat.{◌<◌, ◌≤◌}
use mathlib.Core.Path.{◌≡◌, ap, ap₂, ◌∙◌}
use native.Mathlib.Omega.{arith}
use lib.ListN.{length}
use lib.Dec.{lit<}
use Rattle.layout.specs.Layout.{body_at}
use Rattle.bodies.specs.Bodies.{counts_in}
use Rattle.reading.specs.declared.Form.{Form}
use Rattle.reading.specs.Reading.{form_of}
use Rattle.reading.specs.Laws.{Formed, form_formed, body_there, body_length}
use Rattle.reading.proofs.counts.Goals as goal
use Rattle.reading.proofs.counts.Goals.{After-form_of-f}

-- the byte that counts the actions
counting : (c : After-form_of-f) → c.form_of-f.result.actions ≡ (form_of c.args.s.now).actions
counting c = ap (λ (f : Form). f.actions) c.form_of-f.ensures

pub body-requires : goal.body-requires
body-requires c = body_there _ c.requires 0 (lit< tt)

pub read_counts-requires : goal.read_counts-requires
read_counts-requires c =
    let s = c.args.s.now in
    let f : Formed (form_of c.args.s.now) = form_formed s in
    let n : length (body_at s 0) ≡ (form_of c.args.s.now).counts = body_length s c.requires 0 (lit< tt) ∙ c.requires.one in
    let three : 3 ≤ (form_of c.args.s.now).counts = f.three in
    let at : (form_of c.args.s.now).actions < (form_of c.args.s.now).counts = f.counted in
    (omega (arith, ap length c.body.ensures), omega (arith, ap length c.body.ensures, counting (goal.at.read_counts-requires c).After-form_of-f))

pub returns : goal.returns
returns c = c.read_counts.ensures ∙ ap₂ counts_in (counting (goal.at.returns c).After-form_of-f) c.body.ensures
