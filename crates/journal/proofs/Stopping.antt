-- An entry that is not allowed stops the run with the refusal that `ask` gives. Assumes nothing.
use Rattle.std.specs.Prelude.{ℕ, ◌+◌, ◌*◌, ◌≤◌, ◌≡◌, List, false, length, drop}
use Rattle.rules.specs.Graph.{Graph}
use Rattle.moves.specs.declared.Marking.{Marking}
use Rattle.rules.specs.Answers.{entry_asked, refusal_in}
use Rattle.journal.specs.Ran.{Ran}
use Rattle.journal.specs.Journal.{entries, entry_at}
use Rattle.journal.specs.Allowed.{is_allowed, refused_moved}
use Rattle.journal.specs.Inner.{run_on}
use Rattle.journal.specs.Laws.{run_refused}
use Rattle.std.specs.Prelude.{Err}
use Rattle.journal.specs.Ran.{stopped}

pub run_stopped : (g : Graph) (m : Marking) (j : List ℕ) (k : ℕ) → 3 * k + 3 ≤ length j → is_allowed g m (entry_at j k) ≡ false
    → run_on g m k (entries (drop (3 * k) j)) ≡ Err (stopped k m (refusal_in (entry_asked g m (entry_at j k))))
run_stopped g m j k h out =
    let f = refused_moved g m (entry_at j k) out in
    run_refused g m f.0 (refusal_in (entry_asked g m (entry_at j k))) j k h f.1
