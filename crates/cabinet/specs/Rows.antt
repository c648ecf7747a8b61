-- The job word by word, as the code fills its block. Nothing here has to be believed: `words_graph` says that these are the words of the
-- job. Assumes nothing.
use Rattle.std.specs.Prelude.{ℕ, ◌+◌, ◌-◌, ◌≤◌, ◌<◌, ◌≡◌, List, ◌++◌, cond, length, eqb, ltb}
use Rattle.std.proofs.Common.{ap, ◌∙◌, append-nil, arith, drop_of_length-le, lit<, lit≤}
use Rattle.std.proofs.lemmas.List.Edits.{sets, sets-eq}
use borrow.Author.Tests.{lt-ltb, le-ltb}
use Rattle.tables.specs.Tables.{table_at}
use Rattle.rules.specs.Graph.{graph_of}
use Rattle.bodies.specs.Tables.{tabled, length_tabled, row_tabled, tabled_same, table_tabled}
use Rattle.cabinet.specs.Cabinet.{responses_at, includes_at, excludes_at, allows_at, holds_at, label_at, cabinet}

-- steps, people, roles and actions
unfoldable pub count_at : ℕ → ℕ → ℕ
count_at b at = cond (eqb at 1) 2 (cond (eqb at 2) 2 (b + 2))

unfoldable pub word_at : ℕ → ℕ → ℕ
word_at b at =
    cond (ltb at 4) (count_at b at)
    (cond (ltb at 68) 0
    (cond (ltb at 132) (responses_at b (at - 68))
    (cond (ltb at 196) (includes_at b (at - 132))
    (cond (ltb at 260) (excludes_at b (at - 196))
    (cond (ltb at 324) (allows_at b (at - 260))
    (cond (ltb at 340) (holds_at (at - 324)) (label_at b (at - 340))))))))

-- by the part of the block that the word is in
module _ (b at : ℕ) where
  pub at_counts : at < 4 → word_at b at ≡ count_at b at
  unfolding word_at
  at_counts h = simp (lt-ltb at 4 h)

  pub at_conditions : 4 ≤ at → at < 68 → word_at b at ≡ 0
  unfolding word_at
  at_conditions l h = simp (le-ltb at 4 l, lt-ltb at 68 h)

  pub at_responses : 68 ≤ at → at < 132 → word_at b at ≡ responses_at b (at - 68)
  unfolding word_at
  at_responses l h = simp (le-ltb at 4 (omega arith), le-ltb at 68 l, lt-ltb at 132 h)

  pub at_includes : 132 ≤ at → at < 196 → word_at b at ≡ includes_at b (at - 132)
  unfolding word_at
  at_includes l h = simp (le-ltb at 4 (omega arith), le-ltb at 68 (omega arith), le-ltb at 132 l, lt-ltb at 196 h)

  pub at_excludes : 196 ≤ at → at < 260 → word_at b at ≡ excludes_at b (at - 196)
  unfolding word_at
  at_excludes l h = simp (le-ltb at 4 (omega arith), le-ltb at 68 (omega arith), le-ltb at 132 (omega arith), le-ltb at 196 l, lt-ltb at 260 h)

  pub at_allows : 260 ≤ at → at < 324 → word_at b at ≡ allows_at b (at - 260)
  unfolding word_at
  at_allows l h = simp (le-ltb at 4 (omega arith), le-ltb at 68 (omega arith), le-ltb at 132 (omega arith), le-ltb at 196 (omega arith), le-ltb at 260 l, lt-ltb at 324 h)

  pub at_holds : 324 ≤ at → at < 340 → word_at b at ≡ holds_at (at - 324)
  unfolding word_at
  at_holds l h = simp (le-ltb at 4 (omega arith), le-ltb at 68 (omega arith), le-ltb at 132 (omega arith), le-ltb at 196 (omega arith), le-ltb at 260 (omega arith), le-ltb at 324 l, lt-ltb at 340 h)

  pub at_labels : 340 ≤ at → word_at b at ≡ label_at b (at - 340)
  unfolding word_at
  at_labels l = simp (le-ltb at 4 (omega arith), le-ltb at 68 (omega arith), le-ltb at 132 (omega arith), le-ltb at 196 (omega arith), le-ltb at 260 (omega arith), le-ltb at 324 (omega arith), le-ltb at 340 l)

-- a table of the job, from word `at` on
part : (b at n : ℕ) (f : ℕ → ℕ) → at + n ≤ 404 → ((s : ℕ) → s < n → word_at b (at + s) ≡ f (at + s - at))
    → table_at at n (tabled 404 (word_at b)) ≡ tabled n f
part b at n f h same =
    table_tabled at n 404 (word_at b) h
    ∙ tabled_same n (λ s. word_at b (at + s)) f (λ s l. same s l ∙ ap f (let z : at + s - at ≡ s = omega arith in z))

pub words_graph : (b : ℕ) → graph_of (tabled 404 (word_at b)) ≡ cabinet b
unfolding word_at count_at
words_graph b = λ i.
    record {
      steps = row_tabled 404 (word_at b) 0 (lit< tt) i;
      people = row_tabled 404 (word_at b) 1 (lit< tt) i;
      roles = row_tabled 404 (word_at b) 2 (lit< tt) i;
      actions = row_tabled 404 (word_at b) 3 (lit< tt) i;
      conditions = part b 4 64 (λ s. 0) (lit≤ tt) (λ s l. at_conditions b (4 + s) (omega arith) (omega arith)) i;
      responses = part b 68 64 (responses_at b) (lit≤ tt) (λ s l. at_responses b (68 + s) (omega arith) (omega arith)) i;
      includes = part b 132 64 (includes_at b) (lit≤ tt) (λ s l. at_includes b (132 + s) (omega arith) (omega arith)) i;
      excludes = part b 196 64 (excludes_at b) (lit≤ tt) (λ s l. at_excludes b (196 + s) (omega arith) (omega arith)) i;
      allows = part b 260 64 (allows_at b) (lit≤ tt) (λ s l. at_allows b (260 + s) (omega arith) (omega arith)) i;
      holds = part b 324 16 holds_at (lit≤ tt) (λ s l. at_holds b (324 + s) (omega arith) (omega arith)) i;
      labels = part b 340 64 (label_at b) (lit≤ tt) (λ s l. at_labels b (340 + s) (omega arith)) i;
    }

-- a block that was filled from its first word to its last
pub filled_graph : (b : ℕ) (old new : List ℕ) → length old ≡ 404 → new ≡ sets old 0 (tabled 404 (word_at b)) → graph_of new ≡ cabinet b
filled_graph b old new n e =
    let all : length (tabled 404 (word_at b)) ≡ 404 = length_tabled 404 (word_at b) in
    let whole : new ≡ tabled 404 (word_at b) =
    e ∙ sets-eq (tabled 404 (word_at b)) old 0 (omega arith)
    ∙ ap (λ (l : List ℕ). tabled 404 (word_at b) ++ l)
    (drop_of_length-le old (let z : length old ≤ 0 + length (tabled 404 (word_at b)) = omega arith in z))
    ∙ append-nil (tabled 404 (word_at b)) in
    ap graph_of whole ∙ words_graph b
