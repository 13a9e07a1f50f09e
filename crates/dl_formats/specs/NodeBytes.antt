-- The layouts of the bytes of nodes: the one spelling of each value, and which values have one. Each number is a field of
-- the width named beside it, the high byte first.
use Rattle.std.specs.Prelude.{ℕ, ◌≤◌, List, ◌++◌, Option, Some, None}
use Rattle.std.specs.Int.{w8, w32, w64}
use Rattle.dl_types.specs.declared.txid.TheConstants.{MAX_TXID}
use Rattle.dl_codec.specs.Fields.{field}
use Rattle.dl_fields.specs.Fields.{Fits}
use Rattle.dl_formats.specs.declared.allocation.Alloc.{Alloc}
use Rattle.dl_formats.specs.declared.conf.Conf.{Conf}
use Rattle.dl_formats.specs.declared.cut.Cut.{Cut}
use Rattle.dl_formats.specs.declared.ledger.LedgerMeta.{LedgerMeta}
use Rattle.dl_formats.specs.declared.ledger.LedgerFields.{LedgerFields}
use Rattle.dl_formats.specs.declared.ledger.LedgerState.{LedgerState}
use Rattle.dl_formats.specs.declared.ledger.LedgerState.TheVariants.{Writing, Recovering, Closed}
use Rattle.dl_formats.specs.declared.maxseq.MaxSeq.{MaxSeq}
use Rattle.dl_formats.specs.declared.segment.SegmentMeta.{SegmentMeta}
use Rattle.dl_formats.specs.declared.segment.SegmentMeta.TheVariants.{InProgress, Completed}

-- a number that is at least the one and at most the other
pub record IsBetween (low high n : ℕ) : Type 0 where
  pub least : low ≤ n
  pub most : n ≤ high

-- the greatest number that ten digits spell
abbrev pub ten_nines : ℕ
ten_nines = 9999999999

-- the greatest number of 64 bits
abbrev pub max_u64 : ℕ
max_u64 = 18446744073709551615

-- the bytes of a node: its version, which is 1, and its fields
abbrev pub with_version : List ℕ → List ℕ
with_version fields = field w8 1 ++ fields

-- the fields of a configuration
abbrev pub conf_fields : Conf → List ℕ
conf_fields c = field w8 c.b ++ (field w8 c.e ++ (field w8 c.qw ++ field w8 c.qa))

-- the spelling of a configuration
abbrev pub conf_bytes : Conf → List ℕ
conf_bytes c = with_version (conf_fields c)

-- the configurations that have a spelling: each of the four numbers is 1 to 16, and none is above the one before it
abbrev pub IsConf : Conf → Type 0
IsConf c = IsBetween 1 16 c.b × (IsBetween 1 c.b c.e × (IsBetween 1 c.e c.qw × IsBetween 1 c.qw c.qa))

-- the byte of a ledger's state
abbrev pub state_code : LedgerState → ℕ
state_code Writing = 1
state_code Recovering = 2
state_code Closed = 3

-- the count of a ledger's entries is told once it is closed; before, it is 0
abbrev pub most_count : LedgerState → ℕ
most_count Writing = 0
most_count Recovering = 0
most_count Closed = max_u64

-- the fields of a ledger in their order
abbrev pub ledger_fields : LedgerFields → List ℕ
ledger_fields l = field w8 (state_code l.state) ++ (field w8 l.e ++ (field w8 l.qw ++ (field w8 l.qa ++ field w64 l.count)))

-- the fields of a ledger that have a spelling
abbrev pub IsLedgerFields : LedgerFields → Type 0
IsLedgerFields l = IsBetween 1 16 l.e × (IsBetween 1 l.e l.qw × (IsBetween 1 l.qw l.qa × IsBetween 0 (most_count l.state) l.count))

-- the fields of a ledger
abbrev pub fields_of : LedgerMeta → LedgerFields
fields_of m = record { state = m.state; e = m.q.e; qw = m.q.qw; qa = m.q.qa; count = m.count }

-- the spelling of a ledger
abbrev pub ledger_bytes : LedgerMeta → List ℕ
ledger_bytes m = with_version (ledger_fields (fields_of m))

-- a ledger that has a spelling: its quorum keeps its own rule
abbrev pub IsLedgerMeta : LedgerMeta → Type 0
IsLedgerMeta m = IsBetween 0 (most_count m.state) m.count

-- the byte of a segment's kind: in progress, or completed
abbrev pub segment_kind : SegmentMeta → ℕ
segment_kind (InProgress segment ledger) = 1
segment_kind (Completed segment ledger entries rows last) = 2

-- a segment behind its kind
abbrev pub segment_rest : SegmentMeta → List ℕ
segment_rest (InProgress segment ledger) = field w64 segment ++ field w64 ledger
segment_rest (Completed segment ledger entries rows last) =
    field w64 segment ++ (field w64 ledger ++ (field w64 entries ++ (field w64 rows ++ field w64 last)))

-- the fields of a segment
abbrev pub segment_fields : SegmentMeta → List ℕ
segment_fields m = field w8 (segment_kind m) ++ segment_rest m

-- the spelling of a segment
abbrev pub segment_bytes : SegmentMeta → List ℕ
segment_bytes m = with_version (segment_fields m)

-- the segments that have a spelling: the number is not 0, and has ten digits like that of the ledger
abbrev pub IsSegmentMeta : SegmentMeta → Type 0
IsSegmentMeta (InProgress segment ledger) = IsBetween 1 ten_nines segment × IsBetween 0 ten_nines ledger
IsSegmentMeta (Completed segment ledger entries rows last) =
    IsBetween 1 ten_nines segment × (IsBetween 0 ten_nines ledger × (Fits w64 entries × (Fits w64 rows × IsBetween 0 MAX_TXID last)))

-- the fields of a greatest segment: its number, and the stream's greatest transaction id; both are 0 at first
abbrev pub maxseq_fields : MaxSeq → List ℕ
maxseq_fields m = field w64 m.segment ++ field w64 m.last

-- the spelling of a greatest segment
abbrev pub maxseq_bytes : MaxSeq → List ℕ
maxseq_bytes m = with_version (maxseq_fields m)

-- the greatest segments that have a spelling
abbrev pub IsMaxSeq : MaxSeq → Type 0
IsMaxSeq m = IsBetween 0 ten_nines m.segment × IsBetween 0 MAX_TXID m.last

-- the fields of a cut: the place before which a stream is cut off
abbrev pub cut_fields : Cut → List ℕ
cut_fields c = field w64 c.point.segment ++ (field w64 c.point.entry ++ field w32 c.point.slot)

-- the spelling of a cut
abbrev pub cut_bytes : Cut → List ℕ
cut_bytes c = with_version (cut_fields c)

-- the cuts that have a spelling: the segment is not 0
abbrev pub IsCut : Cut → Type 0
IsCut c = IsBetween 1 max_u64 c.point.segment × (Fits w64 c.point.entry × Fits w32 c.point.slot)

-- a ledger that is allocated for the next segment, where one is: a flag, and its number, or 0
abbrev pub alloc_fields_of : Option ℕ → List ℕ
alloc_fields_of None = field w8 0 ++ field w64 0
alloc_fields_of (Some ledger) = field w8 1 ++ field w64 ledger

-- the fields of an allocation
abbrev pub alloc_fields : Alloc → List ℕ
alloc_fields a = alloc_fields_of a.ledger

-- the spelling of an allocation
abbrev pub alloc_bytes : Alloc → List ℕ
alloc_bytes a = with_version (alloc_fields a)

-- the ledgers that an allocation may name
abbrev pub IsAllocated : Option ℕ → Type 0
IsAllocated None = Unit {0}
IsAllocated (Some ledger) = IsBetween 0 ten_nines ledger

-- the allocations that have a spelling
abbrev pub IsAlloc : Alloc → Type 0
IsAlloc a = IsAllocated a.ledger
