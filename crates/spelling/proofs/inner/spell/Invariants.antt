use Rattle.std.proofs.Common.{take}
use Rattle.numbers.specs.Numbers.{Spliced}
use Rattle.spelling.specs.Bytes.{sets_spelt}
use Rattle.spelling.proofs.inner.spell.Given as goal

abbrev pub invariant-loop-word : goal.invariant-loop-word
invariant-loop-word l = Spliced (sets_spelt (take l.word-index l.word-items)) l.initial.at l.initial.room l.room l.at
