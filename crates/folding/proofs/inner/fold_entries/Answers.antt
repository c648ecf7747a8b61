-- `inner::fold_entries`: at each turn the whole journal's record is the one at hand composed with the entries left; it is tidied once, at
-- the end, and that gives the fold. Assumes nothing.
use Prim.Native.Nat.{◌+◌, ◌*◌, ◌≤◌}
use mathlib.Core.Path.{◌≡◌, refl, sym, ◌∙◌, ap}
use mathlib.Core.Bool.{true}
use native.Mathlib.Omega.{arith}
use lib.ListN.{length, drop}
use borrow.Author.Rules.{rules}
use Rattle.rules.specs.Graph.{Graph, graph_of}
use Rattle.rules.specs.Sound.{Sound, clear_sound}
use Rattle.journal.specs.Journal.{entries, entry_at}
use Rattle.records.specs.declared.Record.{Record}
use Rattle.records.specs.Records.{compose}
use Rattle.folding.specs.Fold.{entry_record}
use Rattle.folding.specs.Laws.{compound, compound_more, compose_clears, fold_barred, fold_stuck, fold_ended}
use Rattle.folding.proofs.inner.fold_entries.Goals as goal

pub loop-k-init : goal.loop-k-init
loop-k-init c = (search rules, search rules, refl, refl)

pub entry_record-e-requires : goal.entry_record-e-requires
entry_record-e-requires c = c.requires.0

pub returns-then-e : goal.returns-then-e
returns-then-e c =
    let a = c.args in
    let g : Graph = graph_of a.g.now in
    let l = c.loop-k in
    let j = a.j.now in
    let sound : Sound g = clear_sound g c.requires.0 in
    let room : 3 * l.k + 3 ≤ length j = omega arith in
    let on : (entry_record g (entry_at j l.k)).never ≡ true =
    ap (λ (q : Record). q.never) (sym (c.entry_record-e.ensures ∙ ap (entry_record g) c.entry_at.ensures))
    ∙ c.if-e.true in
    sym (fold_barred g j l.k l.r sound l.invariant.3 room on)

pub cleared-r-requires : goal.cleared-r-requires
cleared-r-requires c =
    let a = c.args in
    let g : Graph = graph_of a.g.now in
    let l = c.loop-k in
    let next : c.composed.result ≡ compose l.r (entry_record g c.entry_at.result) = c.composed.ensures
    ∙ ap (compose l.r) c.entry_record-e.ensures in
    ap (λ (q : Record). q.dueclear) next ∙ compose_clears g l.r c.entry_at.result l.invariant.2
    ∙ ap (λ (q : Record). q.done) (sym next)

pub returns-then-r : goal.returns-then-r
returns-then-r c =
    let a = c.args in
    let g : Graph = graph_of a.g.now in
    let l = c.loop-k in
    let j = a.j.now in
    let sound : Sound g = clear_sound g c.requires.0 in
    let room : 3 * l.k + 3 ≤ length j = omega arith in
    let on : (compose l.r (entry_record g (entry_at j l.k))).never ≡ true =
    ap (λ (q : Record). q.never)
    (sym (c.cleared-r.ensures ∙ c.composed.ensures
    ∙ ap (compose l.r)
    (c.entry_record-e.ensures
    ∙ ap (entry_record g) c.entry_at.ensures))) ∙ c.if-r.true in
    sym (fold_stuck g j l.k l.r sound l.invariant.3 room on)

pub loop-k-preserved : goal.loop-k-preserved
loop-k-preserved c =
    let a = c.args in
    let g : Graph = graph_of a.g.now in
    let l = c.loop-k in
    let j = a.j.now in
    let sound : Sound g = clear_sound g c.requires.0 in
    let room : 3 * l.k + 3 ≤ length j = omega arith in
    let next : c.cleared-r.result ≡ compose l.r (entry_record g (entry_at j l.k)) = c.cleared-r.ensures
    ∙ c.composed.ensures
    ∙ ap (compose l.r)
    (c.entry_record-e.ensures
    ∙ ap (entry_record g) c.entry_at.ensures) in
    let clears : c.cleared-r.result.dueclear ≡ c.cleared-r.result.done = ap (λ (q : Record). q.dueclear) next
    ∙ compose_clears g l.r (entry_at j l.k) l.invariant.2 ∙ ap (λ (q : Record). q.done) (sym next) in (
      search rules,
      search rules,
      clears,
      l.invariant.3 ∙ compound_more g l.r j l.k room
          ∙ ap (λ (q : Record). compound g q (entries (drop (3 * (l.k + 1)) j))) (sym next),
    )

pub returns : goal.returns
returns c =
    let a = c.args in
    let g : Graph = graph_of a.g.now in
    let l = c.loop-k in
    let j = a.j.now in
    let sound : Sound g = clear_sound g c.requires.0 in
    let past : length j ≤ 3 * l.k = omega arith in
    c.tidied.ensures ∙ sym (fold_ended g j l.k l.r sound l.invariant.3 past)
