-- The grammar of entries: the one spelling of stored records, and which of them an entry has.
use Rattle.std.specs.Prelude.{◌≡◌, ℕ, ◌+◌, ◌≤◌, ◌<◌, ◌^◌, Bool, IsTrue, ◌==◌, Option, Some, None, List, [], ◌∷◌, ◌++◌, length}
use Rattle.std.specs.List.{flat_map}
use Rattle.std.specs.Int.{w8, w16, w32, w64}
use Rattle.dl_codec.specs.Fields.{field}
use Rattle.dl_types.specs.declared.txid.TheConstants.{MAX_TXID}
use Rattle.dl_record.specs.declared.limits.TheConstants.{ENTRY_MAX, PAYLOAD_MAX, MEMBERS_MAX}
use Rattle.dl_record.specs.declared.stored.Stored.{Stored}
use Rattle.dl_record.specs.declared.stored.Stored.TheVariants.{Plain, Control, Set}
use Rattle.dl_record.specs.Stored.{position_of, txid_of, rows_in}

-- a member of a record set: how many bytes it has, and these bytes
abbrev pub member_bytes : List ℕ → List ℕ
member_bytes payload = field w32 (length payload) ++ payload

-- a record set: no codec, a zero, how many members it has, and these members
unfoldable pub set_bytes : List (List ℕ) → List ℕ
set_bytes payloads = field w8 0 ++ (field w8 0 ++ (field w16 (length payloads) ++ flat_map member_bytes payloads))

-- what stands behind the fields of a stored record
abbrev pub payload_bytes : Stored → List ℕ
payload_bytes (Plain position txid payload) = payload
payload_bytes (Control position txid) = []
payload_bytes (Set position txid payloads) = set_bytes payloads

-- the flags of a stored record: bit 0 for a control record, bit 2 for a record set
abbrev pub flags_of : Stored → ℕ
flags_of (Plain position txid payload) = 0
flags_of (Control position txid) = 1
flags_of (Set position txid payloads) = 4

-- the fields of a stored record, and what stands behind them
unfoldable pub fields_and_payload : (position flags txid : ℕ) → List ℕ → List ℕ
fields_and_payload position flags txid payload =
    field w32 position ++ (field w32 flags ++ (field w64 txid ++ (field w32 (length payload) ++ payload)))

-- a stored record
abbrev pub record_bytes : Stored → List ℕ
record_bytes r = fields_and_payload (position_of r) (flags_of r) (txid_of r) (payload_bytes r)

-- the header of an entry: version 1, no codec, how many stored records there are, and how many bytes follow
unfoldable pub header_bytes : (count size : ℕ) → List ℕ
header_bytes count size = field w8 1 ++ (field w8 0 ++ (field w16 count ++ field w32 size))

-- an entry
abbrev pub entry_bytes : List Stored → List ℕ
entry_bytes parts = header_bytes (length parts) (length (flat_map record_bytes parts)) ++ flat_map record_bytes parts

-- how many members a record set has
abbrev pub IsMembers : Stored → Type 0
IsMembers (Plain position txid payload) = Unit {0}
IsMembers (Control position txid) = Unit {0}
IsMembers (Set position txid payloads) = (1 ≤ length payloads) × (length payloads ≤ MEMBERS_MAX)

-- A stored record by itself: its numbers fit their fields, and its payload is not too long.
pub record IsRecord (r : Stored) : Type 0 where
  pub position : position_of r < 2 ^ 32
  pub txid : txid_of r ≤ MAX_TXID
  pub payload : length (payload_bytes r) ≤ PAYLOAD_MAX
  pub members : IsMembers r

-- only a record that is alone in its entry may be a control record
abbrev pub IsAllowed : Bool → Stored → Type 0
IsAllowed alone (Plain position txid payload) = Unit {0}
IsAllowed alone (Control position txid) = IsTrue alone
IsAllowed alone (Set position txid payloads) = Unit {0}

-- A record that stands behind another: its position counts on by the rows of that one, and its id is not below.
pub record IsNext (before next : Stored) : Type 0 where
  pub position : position_of next ≡ position_of before + rows_in before
  pub txid : txid_of before ≤ txid_of next

-- what the record before asks of the next one; the first may stand at any position
abbrev pub Follows : Option Stored → Stored → Type 0
Follows None next = Unit {0}
Follows (Some before) next = IsNext before next

-- the rest of an entry's records, behind this one
abbrev pub AreRecords : Bool → Option Stored → List Stored → Type 0
AreRecords alone before [] = Unit {0}
AreRecords alone before (r ∷ rs) = IsRecord r × (IsAllowed alone r × (Follows before r × AreRecords alone (Some r) rs))

-- The stored records of an entry: at least one, in order, and not too long in all.
pub record IsEntry (parts : List Stored) : Type 0 where
  pub some : 0 < length parts
  pub records : AreRecords (length parts == 1) None parts
  pub size : length (entry_bytes parts) ≤ ENTRY_MAX

-- bytes that spell an entry
abbrev pub IsEntryBytes : List ℕ → Type 0
IsEntryBytes bytes = (parts : List Stored) × IsEntry parts × (bytes ≡ entry_bytes parts)
