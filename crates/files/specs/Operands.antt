-- The operands of a call.
use Rattle.std.specs.Prelude.{ℕ, List, take}
use Rattle.files.specs.declared.arguments.Operands.{Operands}

-- their places, the first of the room
abbrev pub operands_of : Operands → List ℕ
operands_of o = take o.count o.at
