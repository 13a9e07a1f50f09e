-- Reading an entry in the order of its bytes, up to the first flaw.
use Rattle.std.specs.Prelude.{◌≡◌, ℕ, zero, suc, ◌+◌, Bool, true, ◌==◌, nat_le, nat_lt, ◌&&◌, not, Option, Some, None}
use Rattle.std.specs.Prelude.{Result, Ok, Err, List, [], ◌∷◌, length, take, slice_range, if◌then◌else◌, IfSome}
use Rattle.std.specs.Int.{Width, w8, w16, w32, w64}
pub use Rattle.dl_reading.specs.Readings.{◌>>=◌, FaultBy, GivesBy}
use Rattle.dl_types.specs.declared.txid.TheConstants.{MAX_TXID}
use Rattle.dl_codec.specs.declared.short.Short as codec
use Rattle.dl_codec.specs.Fields.{number_at}
use Rattle.dl_record.specs.declared.limits.TheConstants.{ENTRY_MAX, PAYLOAD_MAX, MEMBERS_MAX}
use Rattle.dl_record.specs.declared.entry_fault.EntryFault.{EntryFault}
use Rattle.dl_record.specs.declared.entry_flaw.EntryFlaw.{EntryFlaw}
use Rattle.dl_record.specs.declared.entry_flaw.EntryFlaw.TheVariants.{BadFlags, Compressed, Short, TooLong, BadCount, TxidBack, Long}
use Rattle.dl_record.specs.declared.stored.Stored.{Stored}
use Rattle.dl_record.specs.declared.stored.Stored.TheVariants.{Plain, Control, Set}
use Rattle.dl_record.specs.declared.kind.Kind.{Kind}
use Rattle.dl_record.specs.declared.kind.Kind.TheVariants as kinds
use Rattle.dl_record.specs.declared.kind.Head.{Head}
use Rattle.dl_record.specs.declared.kind.Behind.{Behind}
use Rattle.dl_record.specs.Stored.{position_of, txid_of, rows_in}
use Rattle.dl_record.specs.Flaws.{flaw_of}
use Rattle.dl_record.specs.Grammar.{IsEntryBytes}

-- what a function returned, seen by view, is what reading gives, unless memory ran out
abbrev pub Gives : {X Y : Type 0} → (X → Y) → Result X EntryFault → Result Y EntryFlaw → Type 0
Gives = GivesBy flaw_of

-- a field of a codec as a field of an entry
abbrev pub or_short : Result ℕ codec.Short → Result ℕ EntryFlaw
or_short (Ok n) = Ok n
or_short (Err short) = Err (Short short.at)

-- the number in the field at a place, or that it is cut short
unfoldable pub field_at : Width → List ℕ → ℕ → Result ℕ EntryFlaw
field_at w bytes at = or_short (number_at w bytes at)

-- a value that passes a test, or this flaw
abbrev pub value_if : Bool → EntryFlaw → ℕ → Result ℕ EntryFlaw
value_if passes flaw n = if passes then Ok n else Err flaw

-- the end of a run of bytes within the list
unfoldable pub end_at : List ℕ → ℕ → ℕ → Result ℕ EntryFlaw
end_at bytes at size = value_if (nat_le (at + size) (length bytes)) (Short at) (at + size)

-- ---- the header

-- the version is 1
unfoldable pub version_at : List ℕ → ℕ → Result ℕ EntryFlaw
version_at bytes at = do
  n ← field_at w8 bytes at
  value_if (n == 1) (BadFlags at) n

-- the codec is 0
unfoldable pub codec_at : List ℕ → ℕ → Result ℕ EntryFlaw
codec_at bytes at = do
  n ← field_at w8 bytes at
  value_if (n == 0) (Compressed at) n

-- the number of stored records is not 0
unfoldable pub count_at : List ℕ → ℕ → Result ℕ EntryFlaw
count_at bytes at = do
  n ← field_at w16 bytes at
  value_if (not (n == 0)) (BadCount at) n

-- as many bytes follow as the header says
unfoldable pub size_at : List ℕ → ℕ → Result ℕ EntryFlaw
size_at bytes at = do
  n ← field_at w32 bytes at
  if nat_lt (length bytes) (at + 4 + n) then Err (Short at)
      else value_if (nat_le (length bytes) (at + 4 + n)) (Long (at + 4 + n)) n

-- the number of stored records
unfoldable pub header_at : List ℕ → Result ℕ EntryFlaw
header_at bytes = do
  version ← version_at bytes 0
  codec ← codec_at bytes 1
  count ← count_at bytes 2
  size ← size_at bytes 4
  Ok count

-- ---- the fields of a stored record

-- what a stored record asks of the one behind it
abbrev pub behind_of : Stored → Behind
behind_of r = record { position = position_of r + rows_in r; txid = txid_of r }

-- whether a record may have this position behind that one
abbrev pub may_stand : Option Behind → ℕ → Bool
may_stand None n = true
may_stand (Some before) n = n == before.position

-- whether a record may have this transaction id behind that one
abbrev pub may_bear : Option Behind → ℕ → Bool
may_bear None n = true
may_bear (Some before) n = nat_le before.txid n

-- the position of a record behind that one
unfoldable pub position_at : Option Behind → List ℕ → ℕ → Result ℕ EntryFlaw
position_at before bytes at = do
  n ← field_at w32 bytes at
  value_if (may_stand before n) (BadCount at) n

-- the kind of record that flags name
abbrev pub kind_of : Bool → ℕ → ℕ → Result Kind EntryFlaw
kind_of alone at n =
    if n == 0 then Ok kinds.Plain
    else if n == 4 then Ok kinds.Set
    else if n == 1 && alone then Ok kinds.Control
    else Err (BadFlags at)

-- the kind of a record
unfoldable pub kind_at : Bool → List ℕ → ℕ → Result Kind EntryFlaw
kind_at alone bytes at = do
  n ← field_at w32 bytes at
  kind_of alone at n

-- the transaction id of a record behind that one
unfoldable pub txid_at : Option Behind → List ℕ → ℕ → Result ℕ EntryFlaw
txid_at before bytes at = do
  n ← field_at w64 bytes at
  if nat_lt MAX_TXID n then Err (BadFlags at) else value_if (may_bear before n) (TxidBack at) n

-- whether a record of this kind may have a payload of so many bytes
abbrev pub may_hold : Kind → ℕ → Bool
may_hold kinds.Plain n = true
may_hold kinds.Set n = true
may_hold kinds.Control n = n == 0

-- the length of the payload of a record of this kind
unfoldable pub length_at : Kind → List ℕ → ℕ → Result ℕ EntryFlaw
length_at kind bytes at = do
  n ← field_at w32 bytes at
  if nat_lt PAYLOAD_MAX n then Err (TooLong at) else value_if (may_hold kind n) (BadCount at) n

-- the fields of a stored record, and where its payload ends
unfoldable pub head_at : Bool → Option Behind → List ℕ → ℕ → Result Head EntryFlaw
head_at alone before bytes at = do
  position ← position_at before bytes at
  kind ← kind_at alone bytes (at + 4)
  txid ← txid_at before bytes (at + 8)
  size ← length_at kind bytes (at + 16)
  end ← end_at bytes (at + 20) size
  Ok (record { position = position; kind = kind; txid = txid; end = end })

-- ---- record sets

-- the zero behind the codec
unfoldable pub zero_at : List ℕ → ℕ → Result ℕ EntryFlaw
zero_at bytes at = do
  n ← field_at w8 bytes at
  value_if (n == 0) (BadFlags at) n

-- how many members there are
unfoldable pub members_count_at : List ℕ → ℕ → Result ℕ EntryFlaw
members_count_at bytes at = do
  n ← field_at w16 bytes at
  value_if (nat_le 1 n && nat_le n MEMBERS_MAX) (BadCount at) n

-- how many members a record set has that begins at a place
unfoldable pub set_count_at : List ℕ → ℕ → Result ℕ EntryFlaw
set_count_at bytes at = do
  codec ← codec_at bytes at
  filler ← zero_at bytes (at + 1)
  members_count_at bytes (at + 2)

-- the end of a member
unfoldable pub member_end_at : List ℕ → ℕ → Result ℕ EntryFlaw
member_end_at bytes at = do
  size ← field_at w32 bytes at
  end_at bytes (at + 4) size

-- so many members, up to the end of the bytes
unfoldable pub members_at : ℕ → List ℕ → ℕ → Result (List (List ℕ)) EntryFlaw
members_at zero bytes at = if at == length bytes then Ok [] else Err (Long at)
members_at (suc n) bytes at = do
  end ← member_end_at bytes at
  others ← members_at n bytes end
  Ok (slice_range bytes (at + 4) end ∷ others)

-- the members of a record set, which ends with the bytes
unfoldable pub set_at : List ℕ → ℕ → Result (List (List ℕ)) EntryFlaw
set_at bytes at = do
  count ← set_count_at bytes at
  members_at count bytes (at + 4)

-- ---- stored records

-- the stored record of a kind, with the payload that stands between two places
abbrev pub stored_at : Kind → (position txid : ℕ) → List ℕ → (at end : ℕ) → Result Stored EntryFlaw
stored_at kinds.Plain position txid bytes at end = Ok (Plain position txid (slice_range bytes at end))
stored_at kinds.Control position txid bytes at end = Ok (Control position txid)
stored_at kinds.Set position txid bytes at end = do
  payloads ← set_at (take end bytes) at
  Ok (Set position txid payloads)

-- the stored record of these fields, whose payload begins at a place
abbrev pub content_at : Head → List ℕ → ℕ → Result Stored EntryFlaw
content_at head bytes at = stored_at head.kind head.position head.txid bytes at head.end

-- a stored record, and where it ends
unfoldable pub record_at : Bool → Option Behind → List ℕ → ℕ → Result (Stored × ℕ) EntryFlaw
record_at alone before bytes at = do
  head ← head_at alone before bytes at
  stored ← content_at head bytes (at + 20)
  Ok (stored, head.end)

-- so many stored records, up to the end of the bytes
unfoldable pub records_at : ℕ → Bool → Option Behind → List ℕ → ℕ → Result (List Stored) EntryFlaw
records_at zero alone before bytes at = if at == length bytes then Ok [] else Err (Long at)
records_at (suc n) alone before bytes at = do
  first ← record_at alone before bytes at
  others ← records_at n alone (Some (behind_of first.0)) bytes first.1
  Ok (first.0 ∷ others)

-- the stored records of an entry, or its first flaw
unfoldable pub entry_at : List ℕ → Result (List Stored) EntryFlaw
entry_at bytes =
    if nat_lt ENTRY_MAX (length bytes) then Err (TooLong 0)
    else (header_at bytes >>= λ count. records_at count (count == 1) None bytes 8)

-- the flaw is the first in the order of the bytes, and they spell no entry
abbrev pub IsFlaw : List ℕ → EntryFlaw → Type 0
IsFlaw bytes flaw = (entry_at bytes ≡ Err flaw) × (IsEntryBytes bytes → ⊥)

-- an error names the flaw of the bytes; want of memory says nothing of them
abbrev pub Refuses : List ℕ → EntryFault → Type 0
Refuses bytes fault = IfSome (flaw_of fault) (IsFlaw bytes)

-- ---- what a check keeps of a reading

-- that it found no flaw
abbrev pub verdict : {A : Type 0} → Result A EntryFlaw → Result (Unit {0}) EntryFlaw
verdict read = read >>= λ _. Ok tt

-- how many members a record set has
abbrev pub set_rows_at : List ℕ → ℕ → Result ℕ EntryFlaw
set_rows_at bytes at = do
  payloads ← set_at bytes at
  Ok (length payloads)

-- how many rows a stored record holds
abbrev pub content_rows_at : Head → List ℕ → ℕ → Result ℕ EntryFlaw
content_rows_at head bytes at = do
  stored ← content_at head bytes at
  Ok (rows_in stored)

-- what a stored record asks of the one behind it, and where it ends
abbrev pub behind_at : Bool → Option Behind → List ℕ → ℕ → Result (Behind × ℕ) EntryFlaw
behind_at alone before bytes at = do
  first ← record_at alone before bytes at
  Ok (behind_of first.0, first.1)
