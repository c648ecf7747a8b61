-- Byte 0 tells the form; it and the length are asked by it, and then the contents decide.
use Rattle.std.proofs.Common.{arith, Bool, true, ◌+◌, ◌*◌, ◌≤◌, ◌<◌, ◌≡◌, ◌&&◌, sym, ap, ap₂, ◌∙◌, subst, length, is_ok, get_or, eqb, leb, eq-eqb, ne_eqb, le-leb}
use Rattle.std.proofs.lemmas.Bool.{eqb-true, lt-leb}
use Rattle.reading.specs.declared.Form.{Form}
use Rattle.reading.specs.Reading.{form_of}
use Rattle.reading.specs.Laws.{Formed, form_formed}
use Rattle.flaws.specs.Laid.{parts_fit, laid_out, none_laid}
use Rattle.flaws.proofs.layouts.first_fault.Goals as goal

pub returns-then-is_empty : goal.returns-then-is_empty
returns-then-is_empty c = sym (none_laid c.args.s.now (eqb-true (length c.args.s.now) 0 (sym (c.if-is_empty.ensures))))

pub returns-then-first-f : goal.returns-then-first-f
returns-then-first-f c =
    let s = c.args.s.now in
    let f = form_of s in
    let wrong = ap (λ (f : Form). eqb (get_or s 0 0) f.bodies) (sym c.form_of-f.ensures) ∙ ne_eqb (get_or s 0 0) _ c.if-first-f.true in
    sym (laid_out s ∙ ap (λ (x : Bool). x && leb f.least (length s) && leb (length s) f.most && parts_fit f s) wrong)

pub returns-then-s-f : goal.returns-then-s-f
returns-then-s-f c =
    let s = c.args.s.now in
    let f = form_of s in
    let first : eqb (get_or s 0 0) f.bodies ≡ true =
    ap (λ (f : Form). eqb (get_or s 0 0) f.bodies) (sym c.form_of-f.ensures) ∙ eq-eqb (get_or s 0 0) _ c.if-first-f.false in
    let under : length s < f.least = subst (λ (f : Form). length s < f.least) c.form_of-f.ensures c.if-s-f.true in
    sym (laid_out s ∙ ap₂ (λ (x y : Bool). x && y && leb (length s) f.most && parts_fit f s) first (lt-leb f.least (length s) under))

pub returns-then-f-s : goal.returns-then-f-s
returns-then-f-s c =
    let s = c.args.s.now in
    let f = form_of s in
    let first : eqb (get_or s 0 0) f.bodies ≡ true =
    ap (λ (f : Form). eqb (get_or s 0 0) f.bodies) (sym c.form_of-f.ensures) ∙ eq-eqb (get_or s 0 0) _ c.if-first-f.false in
    let long : f.least ≤ length s = subst (λ (f : Form). f.least ≤ length s) c.form_of-f.ensures c.if-s-f.false in
    let over : f.most < length s = subst (λ (f : Form). f.most < length s) c.form_of-f.ensures c.if-f-s.true in
    sym (laid_out s ∙ simp (first, le-leb f.least (length s) long, lt-leb (length s) f.most over))

pub contents_fault-requires : goal.contents_fault-requires
contents_fault-requires c =
    let s = c.args.s.now in
    let f : Formed (form_of s) = form_formed s in
    let some : 5 ≤ (form_of s).bodies = f.some in
    let few : (form_of s).bodies ≤ 6 = f.few in
    let room : 1 + 5 * (form_of s).bodies ≤ (form_of s).least = f.room in
    let least : (form_of s).least ≤ length s = subst (λ (g : Form). g.least ≤ length s) c.form_of-f.ensures c.if-s-f.false in
    subst (λ (g : Form). (5 ≤ g.bodies) × (g.bodies ≤ 6) × (1 + 5 * g.bodies ≤ length s)) (sym c.form_of-f.ensures)
    (some, few, omega arith)

pub returns : goal.returns
returns c =
    let s = c.args.s.now in
    let f = form_of s in
    let asked : is_ok c.contents_fault.result ≡ parts_fit f s =
    c.contents_fault.ensures ∙ ap (λ (f : Form). parts_fit f s) c.form_of-f.ensures in
    let first : eqb (get_or s 0 0) f.bodies ≡ true =
    ap (λ (f : Form). eqb (get_or s 0 0) f.bodies) (sym c.form_of-f.ensures) ∙ eq-eqb (get_or s 0 0) _ c.if-first-f.false in
    let long : f.least ≤ length s = subst (λ (f : Form). f.least ≤ length s) c.form_of-f.ensures c.if-s-f.false in
    let short : length s ≤ f.most = subst (λ (f : Form). length s ≤ f.most) c.form_of-f.ensures c.if-f-s.false in
    asked ∙ sym (laid_out s ∙ simp (first, le-leb f.least (length s) long, le-leb (length s) f.most short))
