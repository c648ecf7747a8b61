-- `tables::roles_named`: the fold unites the rows. Assumes nothing.
use Rattle.std.proofs.Common.{◌≡◌, ◌∙◌, rules}
use Rattle.std.specs.List.{fold}
use Rattle.sets.specs.Sets.{union}
use Rattle.tables.proofs.Folded.{folded}
use Rattle.tables.proofs.roles_named.Goals as goal

pub returns : goal.returns
returns c =
    let table = c.args.table.now in
    let united : c.fold.result ≡ fold (λ a x. union a x) 0 table = search rules in
    united ∙ folded (λ x. x) table
