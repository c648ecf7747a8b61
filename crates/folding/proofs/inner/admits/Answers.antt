-- `inner::admits`: a role is in both sets exactly if it is in what they have in common. Assumes nothing.
use mathlib.Core.Path.{◌∙◌}
use Rattle.sets.specs.Laws.{has_meet}
use Rattle.folding.proofs.inner.admits.Goals as goal

pub returns : goal.returns
returns c = c.has.ensures
    ∙ has_meet c.args.w.held c.args.w.allows c.args.role
