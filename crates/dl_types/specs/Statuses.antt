-- The numbers of statuses, the statuses of faults, and the names of limits.
use Rattle.std.specs.Prelude.{ℕ, List, codes}
use Rattle.dl_types.specs.declared.limit.LimitName.{LimitName}
use Rattle.dl_types.specs.declared.limit.LimitName.TheVariants.{Lines, Schedule, Messages, MessageBytes, Transcript, Journal}
use Rattle.dl_types.specs.declared.limit.LimitName.TheVariants.{Pool, Index, Ledgers, Queue, Txid, Sessions, Calls}
use Rattle.dl_types.specs.declared.status.Status.{Status}
use Rattle.dl_types.specs.declared.status.Status.TheVariants as status
use Rattle.dl_types.specs.declared.dir_fault.DirFault.{DirFault}
use Rattle.dl_types.specs.declared.dir_fault.DirFault.TheVariants as fault

-- the exit status of the process
abbrev pub status_number : Status → ℕ
status_number status.Ok = 0
status_number (status.Usage place) = 1
status_number (status.BadSchedule line column) = 2
status_number status.ReadFault = 3
status_number status.WriteFault = 4
status_number (status.DeviceFault file) = 5
status_number status.NotInitialised = 6
status_number (status.Damaged file at) = 7
status_number status.NoStream = 8
status_number status.StreamExists = 9
status_number (status.Refused refusal) = 10
status_number (status.Unavailable need have) = 11
status_number (status.Limit name number) = 12
status_number status.NoMemory = 13
status_number status.AlreadyInitialised = 14
status_number (status.Lacking ledger entry) = 15

-- the status with which the program ends after a fault
abbrev pub fault_status : DirFault → Status
fault_status fault.ReadFault = status.ReadFault
fault_status fault.WriteFault = status.WriteFault
fault_status (fault.DeviceFault file) = status.DeviceFault file
fault_status fault.NotInitialised = status.NotInitialised
fault_status (fault.Damaged file at) = status.Damaged file at
fault_status fault.NoStream = status.NoStream
fault_status fault.StreamExists = status.StreamExists
fault_status (fault.Refused refusal) = status.Refused refusal
fault_status (fault.Unavailable need have) = status.Unavailable need have
fault_status (fault.Limit name number) = status.Limit name number
fault_status fault.NoMemory = status.NoMemory
fault_status fault.AlreadyInitialised = status.AlreadyInitialised
fault_status (fault.Lacking ledger entry) = status.Lacking ledger entry

-- a limit's name as notes print it
abbrev pub limit_text : LimitName → List ℕ
limit_text Lines = codes "lines"
limit_text Schedule = codes "schedule"
limit_text Messages = codes "messages"
limit_text MessageBytes = codes "message-bytes"
limit_text Transcript = codes "transcript"
limit_text Journal = codes "journal"
limit_text Pool = codes "pool"
limit_text Index = codes "index"
limit_text Ledgers = codes "ledgers"
limit_text Queue = codes "queue"
limit_text Txid = codes "txid"
limit_text Sessions = codes "sessions"
limit_text Calls = codes "calls"
