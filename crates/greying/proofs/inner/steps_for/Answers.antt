-- `inner::steps_for`: the tables are parts of the block, as long as there are steps at the most; and on a graph with nothing against it
-- each action that is named is one of 64, so that it has a row of roles. Assumes nothing.
use Prim.Native.Nat.{ℕ, ◌<◌, ◌≤◌}
use native.Mathlib.Omega.{arith}
use mathlib.Core.Path.{◌≡◌, ap, ◌∙◌}
use lib.ListN.{length}
use Rattle.sets.specs.Sets.{meet, those}
use Rattle.tables.specs.Tables.{row, table_at}
use Rattle.tables.specs.Laws.{rows_at}
use Rattle.rules.specs.Graph.{Graph, graph_of, action_of}
use Rattle.rules.specs.Sound.{clear_sound}
use Rattle.greying.specs.Rows.{step_passes, steps_for}
use Rattle.greying.proofs.inner.steps_for.Goals as goal

pub passing-found-requires : goal.passing-found-requires
passing-found-requires c =
    let block = c.args.g.now in
    let sound = clear_sound (graph_of block) c.requires in
    let whole : length block ≡ 404 = omega arith in
    let most : row block 0 ≤ 64 = sound.counted.steps_most in
    let labels : length (table_at 340 64 block) ≡ 64 = rows_at 340 64 block (omega arith) in
    let allows : length (table_at 260 64 block) ≡ 64 = rows_at 260 64 block (omega arith) in
    let conditions : length (table_at 4 64 block) ≡ 64 = rows_at 4 64 block (omega arith) in
    record {
      few = most;
      labels_reach = omega arith;
      allows_reach = omega arith;
      conditions_reach = omega arith;
      action_row = λ s. let few : action_of (graph_of block) s < 64 = sound.action_few s in omega arith;
    }

pub returns : goal.returns
unfolding steps_for
returns c =
    let a = c.args in
    let g : Graph = graph_of a.g.now in
    c.not_excluded.ensures
    ∙ ap (λ (x : ℕ). meet x a.m.included) {y = those g.steps (step_passes g a.m a.held)} c.passing-found.ensures
