-- The word that names each command.
use Rattle.std.specs.Prelude.{ℕ, List, codes}
use Rattle.commands.specs.declared.Command.{Command}
use Rattle.commands.specs.declared.Command.TheVariants.{Check, Show, Write, Cabinet, May, Ask, Take, Run, Finished, Ends}
use Rattle.commands.specs.declared.Command.TheVariants.{Fold, Join, Apply, Restore, Record, Marking, Entries, Lap, Track, Sample, Help}

abbrev pub word_of : Command → List ℕ
word_of Check = codes "check"
word_of Show = codes "show"
word_of Write = codes "write"
word_of Cabinet = codes "cabinet"
word_of May = codes "may"
word_of Ask = codes "ask"
word_of Take = codes "take"
word_of Run = codes "run"
word_of Finished = codes "finished"
word_of Ends = codes "ends"
word_of Fold = codes "fold"
word_of Join = codes "join"
word_of Apply = codes "apply"
word_of Restore = codes "restore"
word_of Record = codes "record"
word_of Marking = codes "marking"
word_of Entries = codes "entries"
word_of Lap = codes "lap"
word_of Track = codes "track"
word_of Sample = codes "sample"
word_of Help = codes "help"
