-- A word that no command has is none of those that were tried, and these are all commands.
use Rattle.std.proofs.Common.{rules, arith, ◌≡◌, ◌≢◌, ℕ, ◌<◌, List, [], ◌∷◌, refl, get_or}
use Rattle.std.proofs.iter.runs.Made.{chains}
use Rattle.commands.specs.declared.Command.{Command as Named}
use Rattle.commands.specs.declared.Command.TheVariants.{Check, Show, Write, Cabinet, May, Ask, Take, Run, Finished, Ends}
use Rattle.commands.specs.declared.Command.TheVariants.{Fold, Join, Apply, Restore, Record, Marking, Entries, Lap, Track, Sample, Help}
use Rattle.std.specs.Slice.Iter.{iter_rest}
use Rattle.commands.specs.Words.{word_of}
use Rattle.commands.proofs.Command.named.Goals as goal

abbrev all : List Named
all = Check ∷ Show ∷ Write ∷ Cabinet ∷ May ∷ Ask ∷ Take ∷ Run ∷ Finished ∷ Ends ∷
    Fold ∷ Join ∷ Apply ∷ Restore ∷ Record ∷ Marking ∷ Entries ∷ Lap ∷ Track ∷ Sample ∷ Help ∷ []

place : (c : Named) → (k : ℕ) × (k < 21) × (get_or all k Check ≡ c)
place Check = (0, omega arith, refl)
place Show = (1, omega arith, refl)
place Write = (2, omega arith, refl)
place Cabinet = (3, omega arith, refl)
place May = (4, omega arith, refl)
place Ask = (5, omega arith, refl)
place Take = (6, omega arith, refl)
place Run = (7, omega arith, refl)
place Finished = (8, omega arith, refl)
place Ends = (9, omega arith, refl)
place Fold = (10, omega arith, refl)
place Join = (11, omega arith, refl)
place Apply = (12, omega arith, refl)
place Restore = (13, omega arith, refl)
place Record = (14, omega arith, refl)
place Marking = (15, omega arith, refl)
place Entries = (16, omega arith, refl)
place Lap = (17, omega arith, refl)
place Track = (18, omega arith, refl)
place Sample = (19, omega arith, refl)
place Help = (20, omega arith, refl)

pub returns-clause-none : goal.returns-clause-none
returns-clause-none c none c' same =
    let tried : (k : ℕ) → k < 21 → word_of (get_or (iter_rest c.iter.result) k Check) ≢ c.args.word.now = search (rules, chains) in
    let rest : iter_rest c.iter.result ≡ all = c.iter.ensures.rest in
    let p = place c' in
    tried p.0 p.1 (rw rest rw p.2 same)
