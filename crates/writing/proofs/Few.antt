-- What is written of a graph with nothing against it is short: its counts are small, and its arrows fill no more than their body may. Assumes
-- nothing.
use Rattle.std.specs.Prelude.{ℕ, ◌≤◌, ◌≡◌, List, length, Ok}
use Rattle.std.proofs.Common.{subst}
use Rattle.tables.specs.Tables.{row, table_at}
use Rattle.rules.specs.Graph.{graph_of, graph_verdict}
use Rattle.rules.specs.Block.{kinds_joined}
use Rattle.rules.specs.Laws.{clear_counts}
use Rattle.arrows.specs.Arrows.{arrows_body}
use Rattle.writing.specs.Laws.{arrows_most}

pub few : (block : List ℕ) → graph_verdict (graph_of block) ≡ Ok tt
    → (row block 0 ≤ 64) × (row block 1 ≤ 16) × (row block 3 ≤ 64) × (length (arrows_body (table_at 4 256 block)) ≤ 49152)
few block e =
    let k = clear_counts (graph_of block) e in (
      k.steps_most,
      k.people_most,
      k.actions_most,
      subst (λ (t : List ℕ). length (arrows_body t) ≤ 49152) (kinds_joined block) (arrows_most block e),
    )
