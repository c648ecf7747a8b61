-- `quick::run_entries`: at each turn of the loop the run of the whole journal is the run from entry k on, in the marking at hand. The turn
-- takes that entry, or stops at it. Assumes nothing.
use Prim.Native.Nat.{ℕ, ◌+◌, ◌*◌, ◌/◌, ◌≤◌}
use mathlib.Core.Path.{◌≡◌, sym, ◌∙◌, refl, ap}
use mathlib.Core.List.{List}
use mathlib.Core.Bool.{true, false}
use native.Mathlib.Omega.{arith}
use lib.ListN.{length, drop}
use borrow.Author.Rules.{rules}
use Rattle.moves.specs.declared.Marking.{Marking}
use Rattle.moves.specs.declared.Entry.{Entry}
use Rattle.moves.specs.Move.{Move}
use Rattle.rules.specs.Graph.{Graph, graph_of}
use Rattle.rules.specs.Answers.{entry_asked, refusal_in, entry_move}
use Rattle.tables.specs.Laws.{Counted}
use Rattle.rules.specs.Laws.{clear_counts}
use Rattle.rules.specs.Entries.{Named}
use Rattle.journal.specs.Ran.{Ran}
use Rattle.journal.specs.Journal.{entries, entry_at}
use Rattle.journal.specs.Inner.{run_on}
use Rattle.journal.specs.Allowed.{is_allowed, allowed_named, allowed_moved}
use Rattle.journal.specs.Singles.{singles_all}
use Rattle.journal.specs.Laws.{run_moved, run_ended}
use Rattle.journal.proofs.Stopping.{run_stopped}
use Rattle.journal.proofs.quick.run_entries.Goals as goal
use Rattle.journal.proofs.quick.run_entries.Goals.{After-allowed, At-loop-k}
use Rattle.std.specs.Prelude.{Ok, Err}
use Rattle.journal.specs.Ran.{ended}
use Rattle.journal.specs.Ran.{stopped}

abbrev graph : At-loop-k → Graph
graph l = graph_of l.args.g.now

abbrev journal : At-loop-k → List ℕ
journal l = l.args.j.now

-- entry k is a whole one
room : (p : After-allowed) → 3 * p.loop-k.k + 3 ≤ length (journal (goal.at.After-allowed p).At-loop-k)
room p =
    let below = p.loop-k-test.true in
    omega arith

-- ---- the needs
pub loop-k-init : goal.loop-k-init
loop-k-init c = (search rules, search rules, refl)

pub allowed-requires : goal.allowed-requires
allowed-requires c = (c.requires.0, singles_all)

pub against-requires : goal.against-requires
against-requires c = c.requires.0

pub returns-then-not-allowed : goal.returns-then-not-allowed
returns-then-not-allowed c =
    let l = c.loop-k in
    let g : Graph = graph (goal.at.returns-then-not-allowed c).At-loop-k in
    let j : List ℕ = journal (goal.at.returns-then-not-allowed c).At-loop-k in
    let e = c.entry_at-e.ensures in
    let out : is_allowed g l.at (entry_at j l.k) ≡ false =
    ap (is_allowed g l.at) (sym e) ∙ sym c.allowed.ensures ∙ c.if-not-allowed.true in
    ap Err (c.stopped.ensures ∙ ap (stopped l.k l.at) (c.against.ensures ∙ ap (λ (x : Entry). refusal_in (entry_asked g l.at x)) e))
    ∙ sym (l.invariant.2 ∙ run_stopped g l.at j l.k (room (goal.at.returns-then-not-allowed c).After-allowed) out)

pub taken-at-requires : goal.taken-at-requires
taken-at-requires c =
    let g : Graph = graph (goal.at.taken-at-requires c).At-loop-k in
    let e = c.entry_at-e.result in
    let b : Counted g.steps g.people g.roles g.actions = clear_counts g c.requires.0 in
    let n : Named g e = allowed_named g c.loop-k.at e (sym c.allowed.ensures ∙ c.if-not-allowed.false) in
    (c.requires.0, omega arith, omega arith)

pub loop-k-preserved : goal.loop-k-preserved
loop-k-preserved c =
    let l = c.loop-k in
    let g : Graph = graph (goal.at.loop-k-preserved c).At-loop-k in
    let j : List ℕ = journal (goal.at.loop-k-preserved c).At-loop-k in
    let ok : is_allowed g l.at _ ≡ true = sym c.allowed.ensures ∙ c.if-not-allowed.false in
    let told : entry_move g l.at (entry_at j l.k) ≡ Ok _ =
    ap (entry_move g l.at) (sym c.entry_at-e.ensures) ∙ allowed_moved g l.at _ ok in (
      search rules,
      search rules,
      l.invariant.2 ∙ run_moved g l.at _ j l.k (room (goal.at.loop-k-preserved c).After-allowed) told
          ∙ ap (λ (n : Marking). run_on g n (l.k + 1) (entries (drop (3 * (l.k + 1)) j))) (sym c.taken-at.ensures),
    )

pub returns : goal.returns
returns c =
    let l = c.loop-k in
    let j : List ℕ = journal (goal.at.returns c).At-loop-k in
    let past : length j ≤ 3 * l.k = omega arith in
    let all : l.k ≡ length j / 3 = omega arith in
    sym (l.invariant.2 ∙ run_ended (graph (goal.at.returns c).At-loop-k) l.at j l.k past ∙ ap ((λ (x : ℕ). Ok (ended l.at x))) all)
