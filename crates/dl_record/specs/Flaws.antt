-- What an error of reading an entry tells of its bytes.
use Rattle.std.specs.Prelude.{Option, Some, None}
use Rattle.dl_record.specs.declared.entry_fault.EntryFault.{EntryFault}
use Rattle.dl_record.specs.declared.entry_fault.EntryFault.TheVariants as faults
use Rattle.dl_record.specs.declared.entry_flaw.EntryFlaw.{EntryFlaw}
use Rattle.dl_record.specs.declared.entry_flaw.EntryFlaw.TheVariants.{BadFlags, Compressed, Short, TooLong, BadCount, TxidBack, Long}

-- the flaw of the bytes that an error names; want of memory names none
abbrev pub flaw_of : EntryFault → Option EntryFlaw
flaw_of faults.NoMemory = None
flaw_of (faults.BadFlags at) = Some (BadFlags at)
flaw_of (faults.Compressed at) = Some (Compressed at)
flaw_of (faults.Short at) = Some (Short at)
flaw_of (faults.TooLong at) = Some (TooLong at)
flaw_of (faults.BadCount at) = Some (BadCount at)
flaw_of (faults.TxidBack at) = Some (TxidBack at)
flaw_of (faults.Long at) = Some (Long at)
