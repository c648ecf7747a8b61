-- The block that the reader fills, part after part. Assumes nothing.
use Rattle.std.specs.Prelude.{ℕ, ◌+◌, ◌≤◌, ◌≡◌, refl, List, [], ◌∷◌, ◌++◌, length, set}
use Rattle.std.proofs.Common.{ap, ◌∙◌, append-nil, arith, length-append, drop_of_length-le}
use Rattle.std.proofs.lemmas.List.Edits.{sets, sets-eq}
use Rattle.numbers.specs.Numbers.{Spliced}
use Rattle.arrows.specs.Arrows.{table_of}
use Rattle.layout.specs.Layout.{body_at}
use Rattle.tables.specs.declared.Counts.{Counts as CountsOf}
use Rattle.bodies.specs.Tables.{tabled, length_tabled}
use Rattle.bodies.specs.Bodies.{set_at, sets_in, label_at, labels_in}
use Rattle.reading.specs.Reading.{counts_of, arrows_on, labels_part, own_steps, block_read}
use Rattle.reading.specs.Laws.{arrows_rows}

-- four words stored
abbrev pub count_words : CountsOf → List ℕ
count_words c = c.steps ∷ c.people ∷ c.roles ∷ c.actions ∷ []

pub counts_stored : (old : List ℕ) (c : CountsOf)
    → Spliced (count_words c) 0 old (set (set (set (set old 0 c.steps) 1 c.people) 2 c.roles) 3 c.actions) 4
counts_stored old c = record { next = refl; stored = refl }

-- the place after a table
pub rows_next : (k : ℕ) (f : ℕ → ℕ) (at : ℕ) (old new : List ℕ) (r : ℕ) → Spliced (tabled k f) at old new r → r ≡ at + k
rows_next k f at old new r p = p.next ∙ ap (λ (n : ℕ). at + n) (length_tabled k f)

-- what the reader puts one after the other
abbrev pub parts : CountsOf → List ℕ → List ℕ → List ℕ → List ℕ → List ℕ
parts c table allows holds labels = count_words c ++ (table ++ (sets_in 64 allows ++ (sets_in 16 holds ++ labels)))

-- what is read is a whole block
pub length_read : (s : List ℕ) → length (block_read s) ≡ 404
unfolding block_read
length_read s =
    let t : length (table_of (arrows_on s)) ≡ 256 = arrows_rows s in
    let a : length (sets_in 64 (body_at s 2)) ≡ 64 = length_tabled 64 (set_at (body_at s 2)) in
    let h : length (sets_in 16 (body_at s 3)) ≡ 16 = length_tabled 16 (set_at (body_at s 3)) in
    let l : length (labels_in 64 (own_steps s) (labels_part s)) ≡ 64 = length_tabled 64 (label_at (own_steps s) (labels_part s)) in
    simp length-append (omega arith)

-- a block written in full is what was written
pub block_full : (s : List ℕ) (c : CountsOf) (table allows holds labels old new : List ℕ) (r : ℕ) → length old ≡ 404
    → c ≡ counts_of s → table ≡ table_of (arrows_on s) → allows ≡ body_at s 2 → holds ≡ body_at s 3
    → labels ≡ labels_in 64 (own_steps s) (labels_part s)
    → Spliced (parts c table allows holds labels) 0 old new r → new ≡ block_read s
unfolding block_read
block_full s c table allows holds labels old new r l ec et ea eh el p =
    let n : length (block_read s) ≡ 404 = length_read s in
    p.stored
    ∙ (λ i. sets old 0 (parts (ec i) (et i) (ea i) (eh i) (el i)))
    ∙ sets-eq (block_read s) old 0 (let z : 0 + length (block_read s) ≤ length old = omega arith in z)
    ∙ ap (λ (t : List ℕ). block_read s ++ t) (drop_of_length-le old (let z : length old ≤ 0 + length (block_read s) = omega arith in z))
    ∙ append-nil (block_read s)
