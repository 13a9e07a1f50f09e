-- Why a storage node is not loaded, by the fault of its journal or of its items.
use Rattle.dl_journal.specs.declared.load_fault.LoadFault.{LoadFault as JournalFault}
use Rattle.dl_journal.specs.declared.load_fault.LoadFault.TheVariants as journal
use Rattle.dl_restore.specs.declared.fault.RestoreFault.{RestoreFault}
use Rattle.dl_restore.specs.declared.fault.RestoreFault.TheVariants as items
use Rattle.dl_bookie.specs.declared.load_fault.LoadFault.{LoadFault}
use Rattle.dl_bookie.specs.declared.load_fault.LoadFault.TheVariants.{Damaged, TooLarge, Crowded, Device, NoMemory}

-- the fault of a node whose journal was not loaded
abbrev pub fault_of_journal : JournalFault → LoadFault
fault_of_journal (journal.Damaged at) = Damaged at
fault_of_journal (journal.TooLarge size) = TooLarge size
fault_of_journal journal.Device = Device
fault_of_journal journal.NoMemory = NoMemory

-- the fault of a node whose journal gives no tables
abbrev pub fault_of_items : RestoreFault → LoadFault
fault_of_items (items.Damaged at) = Damaged at
fault_of_items (items.Crowded what) = Crowded what
