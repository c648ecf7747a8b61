-- The sheet of a graph and its first marking, and what may be against them.
use Rattle.std.specs.Prelude.{ℕ, List, [], ◌∷◌, ◌++◌, not, ◌&&◌}
use Rattle.moves.specs.declared.Marking.{Marking}
use Rattle.moves.specs.declared.Refusal.TheVariants.{Counts, Beyond, Both}
use Rattle.moves.specs.First.{Line}
use Rattle.moves.specs.Move.{marking_fits}
use Rattle.tables.specs.Tables.{counts_fit, kinds_apart}
use Rattle.rules.specs.Graph.{Graph, sets_fit}
use Rattle.arrows.specs.Arrows.{arrows_body}
use Rattle.layout.specs.Layout.{laid}
use Rattle.bodies.specs.Bodies.{counts_body, marking_body, roles_body, labels_body}

-- the tables of the four kinds, one after the other
abbrev pub arrow_table : Graph → List ℕ
arrow_table g = g.conditions ++ (g.responses ++ (g.includes ++ g.excludes))

abbrev pub bodies_of : Graph → Marking → List (List ℕ)
bodies_of g m =
    counts_body g.steps g.people g.roles g.actions
    ∷ marking_body m
    ∷ roles_body g.actions g.allows
    ∷ roles_body g.people g.holds
    ∷ arrows_body (arrow_table g)
    ∷ labels_body g.steps g.labels
    ∷ []

unfoldable pub sheet_bytes : Graph → Marking → List ℕ
sheet_bytes g m = laid (bodies_of g m)

-- 2, 4 and 6 as for any graph, and 4 also where the marking has something beyond the counts
abbrev pub content_lines : Graph → Marking → List Line
content_lines g m =
    (Counts, not (counts_fit g.steps g.people g.roles g.actions))
    ∷ (Beyond, not (sets_fit g && marking_fits g.steps m))
    ∷ (Both, not (kinds_apart g.steps g.includes g.excludes))
    ∷ []
