-- A user row without where it lies in memory.
use Rattle.dl_record.specs.declared.shared_row.SharedRow.{SharedRow}
use Rattle.dl_record.specs.declared.user_row.UserRow.{UserRow}
use Rattle.dl_record.specs.UserRows.{RowOf, row_of}

-- its slot, its transaction id, and the bytes of its payload
abbrev pub row_view : UserRow → RowOf
row_view r = row_of r.slot r.txid r.payload.now

-- the same of a row that shares the bytes of its entry
abbrev pub shared_view : SharedRow → RowOf
shared_view r = row_of r.slot r.txid r.payload
