-- What is answered of a stem and a lap.
use Rattle.std.specs.Prelude.{Result}
use Rattle.laps.specs.declared.Endless.{Endless}
use Rattle.laps.specs.declared.Broken.{Broken}

abbrev pub Lapped : Type 0
Lapped = Result Endless Broken
