-- `inner::go_through`: the leg over the whole journal is at each turn of the loop the leg from entry k on, in the marking at hand and with
-- what is left so far. Assumes nothing.
use Prim.Native.Nat.{◌+◌, ◌*◌, ◌≤◌}
use mathlib.Core.Path.{◌≡◌, refl, sym, ap, ◌∙◌}
use mathlib.Core.Bool.{true, false}
use native.Mathlib.Omega.{arith}
use lib.ListN.{length}
use borrow.Author.Rules.{rules}
use Rattle.sets.specs.Sets.{full}
use Rattle.moves.specs.declared.Entry.{Entry}
use Rattle.moves.specs.Move.{Move}
use Rattle.rules.specs.Graph.{Graph, graph_of}
use Rattle.rules.specs.Answers.{entry_asked, refusal_in, entry_move}
use Rattle.tables.specs.Laws.{Counted}
use Rattle.rules.specs.Laws.{clear_counts}
use Rattle.rules.specs.Entries.{Named}
use Rattle.journal.specs.Journal.{entry_at}
use Rattle.journal.specs.Allowed.{is_allowed, allowed_named, allowed_moved}
use Rattle.journal.specs.Singles.{singles_all}
use Rattle.laps.specs.Decision.{Went}
use Rattle.laps.specs.Decision.{still}
use Rattle.laps.specs.Ways.{leg_moved, leg_stopped, leg_ended}
use Rattle.laps.proofs.inner.go_through.Goals as goal
use Rattle.std.specs.Prelude.{Ok, Err}
use Rattle.laps.specs.Decision.{halt}

pub loop-k-init : goal.loop-k-init
loop-k-init c = (search rules, search rules, refl)

pub allowed-requires : goal.allowed-requires
allowed-requires c = (c.requires.0, singles_all)

pub against-requires : goal.against-requires
against-requires c = c.requires.0

pub returns-then-not-allowed : goal.returns-then-not-allowed
unfolding full
returns-then-not-allowed c =
    let a = c.args in
    let l = c.loop-k in
    let g : Graph = graph_of a.g.now in
    let j = a.j.now in
    let room : 3 * l.k + 3 ≤ length j = omega arith in
    let out : is_allowed g l.at (entry_at j l.k) ≡ false =
    ap (is_allowed g l.at) (sym c.entry_at-e.ensures) ∙ sym c.allowed.ensures
    ∙ c.if-not-allowed.true in
    ap Err (c.halted.ensures ∙ ap (halt l.k) (c.against.ensures
    ∙ ap (λ (e : Entry). refusal_in (entry_asked g l.at e)) c.entry_at-e.ensures))
    ∙ sym (l.invariant.2 ∙ leg_stopped g l.at l.left j l.k room out)

pub taken-next-requires : goal.taken-next-requires
taken-next-requires c =
    let g : Graph = graph_of c.args.g.now in
    let b : Counted g.steps g.people g.roles g.actions = clear_counts g c.requires.0 in
    let n : Named g c.entry_at-e.result =
    allowed_named g c.loop-k.at c.entry_at-e.result
    (sym c.allowed.ensures ∙ c.if-not-allowed.false) in
    (c.requires.0, omega arith, omega arith)

pub remain-left-requires : goal.remain-left-requires
remain-left-requires c =
    let g : Graph = graph_of c.args.g.now in
    let b : Counted g.steps g.people g.roles g.actions = clear_counts g c.requires.0 in
    let n : Named g c.entry_at-e.result =
    allowed_named g c.loop-k.at c.entry_at-e.result
    (sym c.allowed.ensures ∙ c.if-not-allowed.false) in
    omega arith

pub loop-k-preserved : goal.loop-k-preserved
loop-k-preserved c =
    let a = c.args in
    let l = c.loop-k in
    let g : Graph = graph_of a.g.now in
    let j = a.j.now in
    let room : 3 * l.k + 3 ≤ length j = omega arith in
    let ok : is_allowed g l.at _ ≡ true = sym c.allowed.ensures
    ∙ c.if-not-allowed.false in
    let told : entry_move g l.at (entry_at j l.k) ≡ Ok c.taken-next.result =
    ap (entry_move g l.at) (sym c.entry_at-e.ensures) ∙ allowed_moved g l.at _ ok
    ∙ ap Ok (sym c.taken-next.ensures) in
    let kept : c.remain-left.result ≡ still l.left l.at (entry_at j l.k).step.0 = c.remain-left.ensures
    ∙ ap (λ (e : Entry). still l.left l.at e.step.0) c.entry_at-e.ensures in
    (search rules, search rules, l.invariant.2 ∙ leg_moved g l.at l.left j l.k _ _ room told kept)

pub returns : goal.returns
unfolding full
returns c =
    let a = c.args in
    let l = c.loop-k in
    let g : Graph = graph_of a.g.now in
    let j = a.j.now in
    let past : length j ≤ 3 * l.k = omega arith in
    sym (l.invariant.2 ∙ leg_ended g l.at l.left j l.k past)
