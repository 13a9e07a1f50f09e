-- Reading the bytes of a node: the first fault in the order of the bytes comes, with its place.
use Rattle.std.specs.Prelude.{◌≡◌, ℕ, ◌-◌, ◌==◌, ◌&&◌, nat_le, if◌then◌else◌, List, Some, None, Result, Ok, Err, IfOk, IfErr, length}
use Rattle.std.specs.Int.{Width, w8, w32, w64}
use Rattle.dl_types.specs.Places.{place}
use Rattle.dl_fields.specs.declared.fault.Fault.{Fault}
use Rattle.dl_fields.specs.declared.fault.Fault.TheVariants as fields
pub use Rattle.dl_fields.specs.Readers.{Reads}
use Rattle.dl_fields.specs.Readers.{then_at, map_at, with_test, whole_from}
use Rattle.dl_fields.specs.Fields.{number_from}
use Rattle.dl_formats.specs.declared.allocation.Alloc.{Alloc}
use Rattle.dl_formats.specs.declared.conf.Conf.{Conf}
use Rattle.dl_formats.specs.declared.cut.Cut.{Cut}
use Rattle.dl_formats.specs.declared.fault.MetaBytesFault.{MetaBytesFault}
use Rattle.dl_formats.specs.declared.fault.MetaBytesFault.TheVariants.{BadVersion, BadKind, Short, Long}
use Rattle.dl_formats.specs.declared.ledger.LedgerFields.{LedgerFields}
use Rattle.dl_formats.specs.declared.ledger.LedgerState.{LedgerState}
use Rattle.dl_formats.specs.declared.ledger.LedgerState.TheVariants.{Writing, Recovering, Closed}
use Rattle.dl_formats.specs.declared.maxseq.MaxSeq.{MaxSeq}
use Rattle.dl_formats.specs.declared.segment.SegmentMeta.{SegmentMeta}
use Rattle.dl_formats.specs.declared.segment.SegmentMeta.TheVariants.{InProgress, Completed}
use Rattle.dl_formats.specs.NodeBytes.{ten_nines, max_u64, most_count}
use Rattle.dl_types.specs.declared.txid.TheConstants.{MAX_TXID}

-- a number of a width within bounds; another one is bad at its first byte
abbrev pub between_from : Width → ℕ → ℕ → List ℕ → Result (ℕ × List ℕ) Fault
between_from w low high = with_test (λ n. nat_le low n && nat_le n high) (number_from w)

-- fields behind the version, which is 1
abbrev pub node_fields_from : {A : Type 0} → (List ℕ → Result (A × List ℕ) Fault) → List ℕ → Result (A × List ℕ) Fault
node_fields_from read = map_at (λ (version, fields). fields) (then_at (between_from w8 1 1) (λ version. read))

-- a node: a version, fields, and nothing behind them
abbrev pub node_from : {A : Type 0} → (List ℕ → Result (A × List ℕ) Fault) → List ℕ → Result A Fault
node_from read = whole_from (node_fields_from read)

-- A fault with its place among so many bytes, from the first one on. The first byte is the version.
abbrev pub fault_at : ℕ → Fault → MetaBytesFault
fault_at size (fields.Short left) = Short (size - left)
fault_at size (fields.Bad left) = if left == size then BadVersion 0 else BadKind (size - left)
fault_at size (fields.Long left) = Long (size - left)

-- what was read, or the fault with its place among so many bytes
abbrev pub with_place : {A : Type 0} → ℕ → Result A Fault → Result A MetaBytesFault
with_place size (Ok a) = Ok a
with_place size (Err fault) = Err (fault_at size fault)

-- the node that the bytes spell, or the first fault with its place
abbrev pub node_at : {A : Type 0} → (List ℕ → Result (A × List ℕ) Fault) → List ℕ → Result A MetaBytesFault
node_at read bytes = with_place (length bytes) (node_from read bytes)

-- the bytes spell no value that has a spelling
abbrev pub SpellsNone : {A : Type 0} → (A → Type 0) → (A → List ℕ) → List ℕ → Type 0
SpellsNone {A} Valid print bytes = (a : A) → Valid a → bytes ≡ print a → ⊥

-- What a decoder answers: what is found is valid, and the bytes are its one spelling; what the bytes spell is the answer;
-- and a fault is the first in the order of the bytes, and then they spell nothing valid.
pub record Decodes {A B : Type 0} (Valid : A → Type 0) (print : A → List ℕ) (read : List ℕ → Result B MetaBytesFault)
    (bytes : List ℕ) (result : Result A MetaBytesFault) : Type 0 where
  pub found : IfOk result (λ a. Valid a × (bytes ≡ print a))
  pub only : (a : A) → Valid a → bytes ≡ print a → result ≡ Ok a
  pub refused : IfErr result (λ fault. (read bytes ≡ Err fault) × SpellsNone Valid print bytes)

-- the fields of each kind of node

-- the configuration of four numbers
abbrev pub conf_of : ℕ × (ℕ × (ℕ × ℕ)) → Conf
conf_of = λ (b, (e, (qw, qa))). record { b = b; e = e; qw = qw; qa = qa }

-- the fields of a configuration
abbrev pub conf_from : List ℕ → Result (Conf × List ℕ) Fault
conf_from = map_at conf_of
    (then_at (between_from w8 1 16) (λ b. then_at (between_from w8 1 b) (λ e. then_at (between_from w8 1 e) (λ qw. between_from w8 1 qw))))

-- the state of a code
abbrev pub state_of : ℕ → LedgerState
state_of code = if code == 1 then Writing else if code == 2 then Recovering else Closed

-- the state of a ledger
abbrev pub state_from : List ℕ → Result (LedgerState × List ℕ) Fault
state_from = map_at state_of (between_from w8 1 3)

-- the fields of a ledger, one by one
abbrev pub ledger_of : LedgerState × (ℕ × (ℕ × (ℕ × ℕ))) → LedgerFields
ledger_of = λ (state, (e, (qw, (qa, count)))). record { state = state; e = e; qw = qw; qa = qa; count = count }

-- the fields of a ledger
abbrev pub ledger_from : List ℕ → Result (LedgerFields × List ℕ) Fault
ledger_from = map_at ledger_of
    (then_at state_from (λ state. then_at (between_from w8 1 16) (λ e. then_at (between_from w8 1 e) (λ qw. then_at (between_from w8 1 qw)
    (λ qa. between_from w64 0 (most_count state))))))

-- a segment in progress
abbrev pub in_progress_from : List ℕ → Result (SegmentMeta × List ℕ) Fault
in_progress_from = map_at (λ (segment, ledger). InProgress segment ledger)
    (then_at (between_from w64 1 ten_nines) (λ segment. between_from w64 0 ten_nines))

-- a complete segment
abbrev pub completed_from : List ℕ → Result (SegmentMeta × List ℕ) Fault
completed_from = map_at (λ (segment, (ledger, (entries, (rows, last)))). Completed segment ledger entries rows last)
    (then_at (between_from w64 1 ten_nines) (λ segment. then_at (between_from w64 0 ten_nines) (λ ledger. then_at (number_from w64)
    (λ entries. then_at (number_from w64) (λ rows. between_from w64 0 MAX_TXID)))))

-- a segment behind its kind, which is 1 while it is in progress, and 2 when it is complete
abbrev pub kind_from : ℕ → List ℕ → Result (SegmentMeta × List ℕ) Fault
kind_from kind bytes = if kind == 1 then in_progress_from bytes else completed_from bytes

-- a segment
abbrev pub segment_from : List ℕ → Result (SegmentMeta × List ℕ) Fault
segment_from = map_at (λ (kind, segment). segment) (then_at (between_from w8 1 2) kind_from)

-- the greatest segment of two numbers
abbrev pub maxseq_of : ℕ × ℕ → MaxSeq
maxseq_of = λ (segment, last). record { segment = segment; last = last }

-- the fields of a greatest segment
abbrev pub maxseq_from : List ℕ → Result (MaxSeq × List ℕ) Fault
maxseq_from = map_at maxseq_of (then_at (between_from w64 0 ten_nines) (λ segment. between_from w64 0 MAX_TXID))

-- the cut of three numbers
abbrev pub cut_of : ℕ × (ℕ × ℕ) → Cut
cut_of = λ (segment, (entry, slot)). record { point = place segment entry slot }

-- the fields of a cut
abbrev pub cut_from : List ℕ → Result (Cut × List ℕ) Fault
cut_from = map_at cut_of
    (then_at (between_from w64 1 max_u64) (λ segment. then_at (number_from w64) (λ entry. number_from w32)))

-- the greatest number of a ledger behind a flag: without the flag there is no ledger, and the number is 0
abbrev pub most_ledger : ℕ → ℕ
most_ledger flag = if flag == 0 then 0 else ten_nines

-- the allocation of a flag and a number
abbrev pub alloc_of : ℕ × ℕ → Alloc
alloc_of = λ (flag, ledger). record { ledger = if flag == 0 then None else Some ledger }

-- the fields of an allocation
abbrev pub alloc_from : List ℕ → Result (Alloc × List ℕ) Fault
alloc_from = map_at alloc_of (then_at (between_from w8 0 1) (λ flag. between_from w64 0 (most_ledger flag)))

-- the value that all bytes of a node spell, or the first fault with its place

-- a configuration
abbrev pub conf_at : List ℕ → Result Conf MetaBytesFault
conf_at = node_at conf_from

-- the fields of a ledger
abbrev pub ledger_at : List ℕ → Result LedgerFields MetaBytesFault
ledger_at = node_at ledger_from

-- a segment
abbrev pub segment_at : List ℕ → Result SegmentMeta MetaBytesFault
segment_at = node_at segment_from

-- a greatest segment
abbrev pub maxseq_at : List ℕ → Result MaxSeq MetaBytesFault
maxseq_at = node_at maxseq_from

-- a cut
abbrev pub cut_at : List ℕ → Result Cut MetaBytesFault
cut_at = node_at cut_from

-- an allocation
abbrev pub alloc_at : List ℕ → Result Alloc MetaBytesFault
alloc_at = node_at alloc_from
