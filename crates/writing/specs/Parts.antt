-- The sheet as the writer goes: the front, then the bodies one after the other. Assumes nothing.
use Rattle.std.specs.Prelude.{ℕ, zero, suc, ◌+◌, ◌*◌, ◌<◌, ◌≡◌, length, get_or}
use Rattle.std.proofs.Common.{ap, ◌∙◌, arith, length-append, lit<}
use Rattle.std.proofs.Math.Path.{ap₂}
use mathlib.Core.List.{List, [], ◌∷◌, ◌++◌, map, append-nil}
use Rattle.moves.specs.declared.Marking.{Marking}
use Rattle.rules.specs.Graph.{Graph}
use Rattle.arrows.specs.Arrows.{arrows_body}
use Rattle.layout.specs.Layout.{front, joined}
use Rattle.layout.specs.Laws.{length_front}
use Rattle.bodies.specs.Bodies.{counts_body, marking_body, roles_body, labels_body}
use Rattle.bodies.specs.Laws.{length_counts, length_marking, length_rows}
use Rattle.writing.specs.Writing.{arrow_table, bodies_of, sheet_bytes}

abbrev pub sizes_of : ℕ → ℕ → ℕ → ℕ → List ℕ
sizes_of n p a arrows = 4 ∷ 24 ∷ 2 * a ∷ 2 * p ∷ arrows ∷ n ∷ []

length_six : (a b c d e f : List ℕ)
    → length (a ++ (b ++ (c ++ (d ++ (e ++ f))))) ≡ length a + (length b + (length c + (length d + (length e + length f))))
length_six a b c d e f = simp length-append

-- each of six numbers is small
pub six_small : (a b c d e f : ℕ) → a < 65536 → b < 65536 → c < 65536 → d < 65536 → e < 65536 → f < 65536
    → (i : ℕ) → get_or (a ∷ b ∷ c ∷ d ∷ e ∷ f ∷ []) i 0 < 65536
six_small a b c d e f p q r s t u zero = p
six_small a b c d e f p q r s t u (suc zero) = q
six_small a b c d e f p q r s t u (suc (suc zero)) = r
six_small a b c d e f p q r s t u (suc (suc (suc zero))) = s
six_small a b c d e f p q r s t u (suc (suc (suc (suc zero)))) = t
six_small a b c d e f p q r s t u (suc (suc (suc (suc (suc zero))))) = u
six_small a b c d e f p q r s t u (suc (suc (suc (suc (suc (suc i)))))) = lit< tt

module _ (g : Graph) where
  abbrev pub counts_out : List ℕ
  counts_out = counts_body g.steps g.people g.roles g.actions

  abbrev pub allows_out : List ℕ
  allows_out = roles_body g.actions g.allows

  abbrev pub holds_out : List ℕ
  holds_out = roles_body g.people g.holds

  abbrev pub arrows_out : List ℕ
  arrows_out = arrows_body (arrow_table g)

  abbrev pub labels_out : List ℕ
  labels_out = labels_body g.steps g.labels

  abbrev pub front_out : List ℕ
  front_out = front (sizes_of g.steps g.people g.actions (length arrows_out))

  -- bodies 3 to 6
  abbrev pub tables_out : List ℕ
  tables_out = allows_out ++ (holds_out ++ (arrows_out ++ labels_out))

  -- the length of the sheet
  abbrev pub length_out : ℕ
  length_out = 59 + 2 * g.actions + 2 * g.people + g.steps + length arrows_out

module _ (g : Graph) (m : Marking) where
  abbrev pub bodies_out : List ℕ
  bodies_out = counts_out g ++ (marking_body m ++ tables_out g)

  counts_long : length (counts_out g) ≡ 4
  counts_long = length_counts g.steps g.people g.roles g.actions

  allows_long : length (allows_out g) ≡ 2 * g.actions
  allows_long = length_rows 2 g.actions g.allows

  holds_long : length (holds_out g) ≡ 2 * g.people
  holds_long = length_rows 2 g.people g.holds

  labels_long : length (labels_out g) ≡ g.steps
  labels_long = length_rows 1 g.steps g.labels ∙ let z : 1 * g.steps ≡ g.steps = omega arith in z

  sizes_same : map length (bodies_of g m) ≡ sizes_of g.steps g.people g.actions (length (arrows_out g))
  sizes_same =
      let a = counts_long in
      let b : length (marking_body m) ≡ 24 = length_marking m in
      let c = allows_long in
      let d = holds_long in
      let f = labels_long in
      λ j. a j ∷ b j ∷ c j ∷ d j ∷ length (arrows_out g) ∷ f j ∷ []

  pub sheet_parts : sheet_bytes g m ≡ front_out g ++ bodies_out
  unfolding sheet_bytes joined
  sheet_parts =
      ap₂ (λ (sizes labels : List ℕ). front sizes ++ (counts_out g
      ++ (marking_body m ++ (allows_out g ++ (holds_out g ++ (arrows_out g ++ labels))))))
      sizes_same (append-nil (labels_out g))

  bodies_length : length bodies_out ≡ 28 + 2 * g.actions + 2 * g.people + g.steps + length (arrows_out g)
  bodies_length =
      let a : length (counts_out g) ≡ 4 = counts_long in
      let b : length (marking_body m) ≡ 24 = length_marking m in
      let c : length (allows_out g) ≡ 2 * g.actions = allows_long in
      let d : length (holds_out g) ≡ 2 * g.people = holds_long in
      let f : length (labels_out g) ≡ g.steps = labels_long in
      length_six (counts_out g) (marking_body m) (allows_out g) (holds_out g) (arrows_out g) (labels_out g)
      ∙ (let z : length (counts_out g) + (length (marking_body m) + (length (allows_out g)
      + (length (holds_out g) + (length (arrows_out g) + length (labels_out g)))))
      ≡ 28 + 2 * g.actions + 2 * g.people + g.steps + length (arrows_out g) = omega arith in z)

  pub sheet_length : length (sheet_bytes g m) ≡ length_out g
  sheet_length =
      let f : length (front_out g) ≡ 31 = length_front (sizes_of g.steps g.people g.actions (length (arrows_out g))) in
      let b : length bodies_out ≡ 28 + 2 * g.actions + 2 * g.people + g.steps + length (arrows_out g) = bodies_length in
      ap length sheet_parts ∙ length-append (front_out g) bodies_out
      ∙ (let z : length (front_out g) + length bodies_out ≡ length_out g = omega arith in z)
