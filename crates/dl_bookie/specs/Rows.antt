-- The rows of the table by the marks of an entry and a ledger.
use Rattle.std.specs.Prelude.{ℕ, Bool, true, false, if◌then◌else◌, Option, Some, None, is_some}
use Rattle.dl_msg.specs.declared.msg.Msg.TheVariants.{AddOk, AddFenced, CopyOk, LacIs}
use Rattle.dl_marks.specs.declared.marks.EntryMarks.{EntryMarks}
use Rattle.dl_marks.specs.declared.marks.LedgerMarks.{LedgerMarks}
use Rattle.dl_marks.specs.declared.marks.Place.{Place}
use Rattle.dl_msg.specs.declared.msg.Msg.{Msg}
use Rattle.dl_bookie.specs.declared.row.Row.{Row}
use Rattle.dl_bookie.specs.declared.row.Row.TheVariants.{Answers, Queues, Stores}

-- whether an Add of the entry is durable
abbrev pub is_added : Option EntryMarks → Bool
is_added None = false
is_added (Some m) = m.added

-- where the entry of its first durable item stands
abbrev pub place_by : Option EntryMarks → Option Place
place_by None = None
place_by (Some m) = m.place

-- whether an item of the entry is durable
abbrev pub is_there : Option EntryMarks → Bool
is_there None = false
is_there (Some m) = is_some m.place

-- whether an Add of it waits
abbrev pub is_adding : Option EntryMarks → Bool
is_adding None = false
is_adding (Some m) = m.adding

-- whether an item of it waits
abbrev pub is_coming : Option EntryMarks → Bool
is_coming None = false
is_coming (Some m) = m.coming

-- whether a fence of the ledger is durable
abbrev pub is_fenced : Option LedgerMarks → Bool
is_fenced None = false
is_fenced (Some m) = m.fenced

-- whether a fence of it waits
abbrev pub is_fencing : Option LedgerMarks → Bool
is_fencing None = false
is_fencing (Some m) = m.fencing

-- the greatest count that a durable item of it carries
abbrev pub greatest_of : Option LedgerMarks → ℕ
greatest_of None = 0
greatest_of (Some m) = m.greatest

-- the greatest count that is known of a ledger, and whether it is fenced
abbrev pub marked_lac : Option LedgerMarks → ℕ → ℕ → Msg
marked_lac known t l = LacIs t l (is_fenced known) (greatest_of known)

-- what an Add does
abbrev pub marked_add_row : Option EntryMarks → Option LedgerMarks → ℕ → ℕ → Row
marked_add_row marks known l e =
    if is_added marks then Answers (AddOk l e)
    else (if is_fenced known then Answers (AddFenced l e)
    else (if is_adding marks then Queues (AddOk l e)
    else (if is_fencing known then Queues (AddFenced l e)
    else Stores (AddOk l e))))

-- what a Copy does
abbrev pub marked_copy_row : Option EntryMarks → ℕ → ℕ → ℕ → Row
marked_copy_row marks t l e =
    if is_there marks then Answers (CopyOk t l e)
    else (if is_coming marks then Queues (CopyOk t l e)
    else Stores (CopyOk t l e))

-- what an AskLac with a fence does
abbrev pub marked_fence_row : Option LedgerMarks → ℕ → ℕ → Row
marked_fence_row known t l =
    if is_fenced known then Answers (LacIs t l true (greatest_of known))
    else (if is_fencing known then Queues (LacIs t l true 0)
    else Stores (LacIs t l true 0))
