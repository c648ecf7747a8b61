-- `tables::labels_named`: the fold unites the rows, as they are and moved up. Assumes nothing.
use Rattle.std.proofs.Common.{◌≡◌, ◌+◌, ◌%◌, ◌^◌, ◌∙◌, rules}
use Rattle.std.specs.List.{fold}
use Rattle.sets.specs.Sets.{union}
use Rattle.tables.proofs.Folded.{folded}
use Rattle.tables.proofs.labels_named.Goals as goal

pub returns : goal.returns
returns c =
    let a = c.args in
    let united : c.fold.result ≡ fold (λ f x. union f (union x ((x + a.up) % 2 ^ 64))) 0 a.labels.now = search rules in
    united ∙ folded (λ x. union x ((x + a.up) % 2 ^ 64)) a.labels.now
