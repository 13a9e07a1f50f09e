-- What reading the bytes of a journal answers.
use Rattle.std.specs.Prelude.{List, ℕ, Result, Ok, Err, ⊤}
use Rattle.dl_journal.specs.declared.load_fault.LoadFault.{LoadFault}
use Rattle.dl_journal.specs.declared.load_fault.LoadFault.TheVariants.{Damaged, TooLarge, Device, NoMemory}
use Rattle.dl_journal.specs.declared.parse.Contents.{Contents}
use Rattle.dl_journal.specs.Reading.{Breaks, Holds}

-- the batches in force, or the place of the first broken part, or no memory
abbrev pub Parses : List ℕ → Result Contents LoadFault → Type 0
Parses bytes (Ok c) = Holds bytes c.batches.items c.gate c.next
Parses bytes (Err (Damaged at)) = Breaks bytes at
Parses bytes (Err (TooLarge n)) = ⊥
Parses bytes (Err Device) = ⊥
Parses bytes (Err NoMemory) = ⊤
