-- A walk over the steps of a set.
use Rattle.std.specs.Prelude.{ℕ, List}
use Rattle.sets.specs.declared.Walk.{Walk}
use Rattle.sets.specs.Sets.{members}

-- the steps that the walk has not come to, in order
abbrev pub left : Walk → List ℕ
left w = members w.rest
