-- `layout_fits`: each test of the code is one of the list, by the sizes of the form that byte 0 says. Assumes nothing.
use Prim.Native.Nat.{ℕ, ◌+◌, ◌*◌, ◌<◌, ◌≤◌}
use mathlib.Core.Path.{◌≡◌, sym, ap, ◌∙◌, subst}
use native.Mathlib.Omega.{arith}
use lib.ListN.{length}
use mathlib.Core.List.{List}
use borrow.Author.Tests.{lt-leb, le-leb}
use Rattle.layout.specs.Layout.{contents_fit}
use Rattle.reading.specs.declared.Form.{Form}
use Rattle.reading.specs.Reading.{form_of, layout_fits}
use Rattle.reading.specs.Laws.{Formed, form_formed}
use Rattle.reading.proofs.layout_fits.Goals as goal
use Rattle.reading.proofs.layout_fits.Goals.{After-fits, After-form_of-f, Else-f-s, Else-s-f}

-- the sheet, and what each test that is passed says of it
abbrev sheet : After-form_of-f → List ℕ
sheet c = c.args.s.now

long : (c : Else-s-f) → (form_of (sheet (goal.at.Else-s-f c).After-form_of-f)).least ≤ length (sheet (goal.at.Else-s-f c).After-form_of-f)
long c = subst (λ (f : Form). f.least ≤ length (sheet (goal.at.Else-s-f c).After-form_of-f)) c.form_of-f.ensures c.if-s-f.false

short : (c : Else-f-s) → let s = sheet (goal.at.Else-f-s c).After-form_of-f in length s ≤ (form_of s).most
short c =
    subst (λ (f : Form). length (sheet (goal.at.Else-f-s c).After-form_of-f) ≤ f.most) c.form_of-f.ensures c.if-f-s.false

-- the contents are asked for as many bodies as the form has
asked : (c : After-fits) → let s = sheet (goal.at.After-fits c).After-form_of-f in c.fits.result ≡ contents_fit (form_of s).bodies s
asked c =
    c.fits.ensures ∙ ap (λ (f : Form). contents_fit f.bodies (sheet (goal.at.After-fits c).After-form_of-f)) c.form_of-f.ensures

pub returns-then-s-lt29 : goal.returns-then-s-lt29
unfolding layout_fits
returns-then-s-lt29 c =
    let s = c.args.s.now in
    let low : 29 ≤ (form_of c.args.s.now).least = (form_formed s).long in
    let under : length c.args.s.now < (form_of c.args.s.now).least = omega (arith, c.if-s-lt29.true) in
    simp (lt-leb (form_of s).least (length s) under)

pub returns-then-s-f : goal.returns-then-s-f
unfolding layout_fits
returns-then-s-f c =
    let k = (goal.at.returns-then-s-f c).After-form_of-f in
    let s = sheet k in
    simp (lt-leb (form_of s).least (length s) (subst (λ (f : Form). length (sheet k) < f.least) c.form_of-f.ensures c.if-s-f.true))

pub returns-then-f-s : goal.returns-then-f-s
unfolding layout_fits
returns-then-f-s c =
    let k = goal.at.returns-then-f-s c in
    let s = sheet k.After-form_of-f in
    simp (
      le-leb (form_of s).least (length s) (long k.Else-s-f),
      lt-leb (length s) (form_of s).most (subst (λ (f : Form). f.most < length (sheet k.After-form_of-f)) c.form_of-f.ensures c.if-f-s.true),
    )

pub fits-requires : goal.fits-requires
fits-requires c =
    let k = goal.at.fits-requires c in
    let s = sheet k.After-form_of-f in
    let f : Formed (form_of (sheet k.After-form_of-f)) = form_formed s in
    let few : (form_of (sheet k.After-form_of-f)).bodies ≤ 6 = f.few in
    let room : 1 + 5 * (form_of (sheet k.After-form_of-f)).bodies ≤ (form_of (sheet k.After-form_of-f)).least = f.room in
    let least : (form_of (sheet k.After-form_of-f)).least ≤ length (sheet k.After-form_of-f) = long k.Else-s-f in
    subst (λ (g : Form). (g.bodies < 256) × (1 + 5 * g.bodies ≤ length (sheet k.After-form_of-f))) (sym c.form_of-f.ensures)
    (omega arith, omega arith)

pub returns-then-not-fits : goal.returns-then-not-fits
unfolding layout_fits
returns-then-not-fits c =
    let k = goal.at.returns-then-not-fits c in
    let s = sheet k.After-form_of-f in
    simp (
      le-leb (form_of s).least (length s) (long k.Else-s-f),
      le-leb (length s) (form_of s).most (short k.Else-f-s),
      sym (asked k.After-fits) ∙ c.if-not-fits.true,
    )

pub returns : goal.returns
unfolding layout_fits
returns c =
    let k = goal.at.returns c in
    let s = sheet k.After-form_of-f in
    simp (
      le-leb (form_of s).least (length s) (long k.Else-s-f),
      le-leb (length s) (form_of s).most (short k.Else-f-s),
      sym (asked k.After-fits) ∙ c.if-not-fits.false,
      c.size.ensures.0,
      ap (λ (f : Form). f.counts) c.form_of-f.ensures,
      c.size-2.ensures.0,
      c.size-3.ensures.0,
    )
