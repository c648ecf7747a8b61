-- `write`: what is against the content, then the room, then the sheet as it was filled in. Assumes nothing.
use mathlib.Core.Path.{◌≡◌, sym, ◌∙◌}
use native.Mathlib.Omega.{arith}
use lib.ListN.{length}
use borrow.Author.Rules.{rules}
use Rattle.moves.specs.First.{first}
use Rattle.moves.specs.Handed.{handed}
use Rattle.rules.specs.Graph.{Graph, graph_of}
use Rattle.writing.specs.Writing.{sheet_bytes, content_lines}
use Rattle.writing.specs.Laws.{graph_clear}
use Rattle.writing.specs.Parts.{sheet_length}
use Rattle.sheet.specs.Laws.{write_refused, write_short, write_done}
use Rattle.sheet.proofs.write.Goals as goal
use Rattle.sheet.proofs.write.Goals.{After-size-size, In_ok-content}
use Rattle.std.specs.Prelude.{Ok}

pub returns-in_err-content : goal.returns-in_err-content
returns-in_err-content c =
    let a = c.args in
    let w = write_refused (graph_of a.g.now) a.m a.room.now _ (sym c.content.ensures ∙ c.in_err-content.was) in
    record { value = handed c.from_residual.result _ c.from_residual.ensures.1 ∙ w.answer; room_after = w.room }

-- past the `?` nothing is against the content
abbrev graph : In_ok-content → Graph
graph c = graph_of c.args.g.now

clear : (c : In_ok-content) → first (content_lines (graph c) c.args.m) ≡ Ok tt
clear c = sym c.content.ensures ∙ c.in_ok-content.was

pub turned-turned-requires : goal.turned-turned-requires
turned-turned-requires c = graph_clear (graph c) c.args.m (clear c)

pub size-size-requires : goal.size-size-requires
size-size-requires c =
    let k = (goal.at.size-size-requires c).In_ok-content in
    (graph_clear (graph k) c.args.m (clear k), c.turned-turned.ensures)

size-said : (c : After-size-size) → c.size-size.result ≡ length (sheet_bytes (graph_of c.args.g.now) c.args.m)
size-said c = c.size-size.ensures ∙ sym (sheet_length (graph_of c.args.g.now) c.args.m)

pub returns-then-room-size : goal.returns-then-room-size
returns-then-room-size c =
    let k = goal.at.returns-then-room-size c in
    let w = write_short (graph k.In_ok-content) c.args.m c.args.room.now (clear k.In_ok-content) (omega (arith, size-said k.After-size-size)) in
    record { value = w.answer; room_after = w.room }

pub fill-requires : goal.fill-requires
fill-requires c =
    let k = (goal.at.fill-requires c).In_ok-content in
    record {
      g_value = (graph_clear (graph k) c.args.m (clear k), c.turned-turned.ensures);
      size_value = (c.size-size.ensures, search rules);
    }

pub returns : goal.returns
returns c =
    let k = goal.at.returns c in
    let w = write_done (graph k.In_ok-content) c.args.m c.args.room.now (clear k.In_ok-content) _ _
    (omega (arith, size-said k.After-size-size)) c.fill.ensures in
    record { value = w.answer; room_after = w.room }
