-- `Sheet::sets_inside`: each body is handed to its reader, and the answers are the definition. Assumes nothing.
use Prim.Native.Nat.{◌*◌, ◌≤◌}
use mathlib.Core.Path.{◌≡◌, ap, ◌∙◌}
use mathlib.Core.Bool.{◌&&◌}
use native.Mathlib.Omega.{arith}
use lib.ListN.{length}
use lib.Dec.{lit<}
use Rattle.moves.specs.Move.{marking_fits}
use Rattle.layout.specs.Layout.{body_at}
use Rattle.tables.specs.declared.Counts.{Counts}
use Rattle.bodies.specs.Bodies.{role_sets_fit, actions_fit}
use Rattle.reading.specs.Reading.{counts_of, first_of, labels_part}
use Rattle.reading.specs.Laws.{CountedOf, body_there, body_length, opened_counted}
use Rattle.reading.proofs.opened.Sheet.sets_inside.Goals as goal

pub body-requires : goal.body-requires
body-requires c = body_there _ c.args.self.now.opened.placed 2 (lit< tt)

pub role_sets_fit-requires : goal.role_sets_fit-requires
role_sets_fit-requires c =
    let s = c.args.self.now.bytes.now in
    let o = c.args.self.now.opened in
    let right : CountedOf (counts_of c.args.self.now.bytes.now) = opened_counted s _ o in
    let few : c.args.self.now.counts.roles ≤ 16 = o.counted.roles_most in
    let n : length (body_at s 2) ≡ 2 * (counts_of c.args.self.now.bytes.now).actions =
    body_length s o.placed 2 (lit< tt) ∙ c.requires.actions_match in
    omega (arith, ap length c.body.ensures, right.actions_most)

pub body-requires-2 : goal.body-requires-2
body-requires-2 c = body_there _ c.args.self.now.opened.placed 3 (lit< tt)

pub role_sets_fit-requires-2 : goal.role_sets_fit-requires-2
role_sets_fit-requires-2 c =
    let s = c.args.self.now.bytes.now in
    let o = c.args.self.now.opened in
    let right : CountedOf (counts_of c.args.self.now.bytes.now) = opened_counted s _ o in
    let few : c.args.self.now.counts.roles ≤ 16 = o.counted.roles_most in
    let n : length (body_at s 3) ≡ 2 * (counts_of c.args.self.now.bytes.now).people =
    body_length s o.placed 3 (lit< tt) ∙ c.requires.people_match in
    omega (arith, ap length c.body-2.ensures, right.people_most)

pub returns : goal.returns
returns c =
    let s = c.args.self.now.bytes.now in
    simp (
      c.fits.ensures,
      c.first_marking.ensures,
      c.role_sets_fit.ensures,
      c.body.ensures,
      c.role_sets_fit-2.ensures,
      c.body-2.ensures,
      c.actions_fit.ensures,
      c.labels_part.ensures,
    )
    (ap (λ (k : Counts). marking_fits k.steps (first_of s) && role_sets_fit k.roles (body_at s 2) && role_sets_fit k.roles (body_at s 3)
    && actions_fit k.actions (labels_part s)) c.args.self.now.opened.said)
