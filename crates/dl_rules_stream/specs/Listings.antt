-- The names of the children of a stream's nodes `segs` and `lock`, and the values of the nodes that are read.
use Rattle.std.specs.Prelude.{ℕ, ◌+◌, ◌-◌, ◌*◌, Bool, false, ◌&&◌, ◌==◌, nat_le, nat_lt, if◌then◌else◌, List, [], ◌∷◌, length, drop, fold, Option}
use Rattle.std.specs.Prelude.{Some, None, option_to_list, Result, Ok, Err, flat_map}
use Rattle.std.specs.List.{list_all}
use Rattle.dl_types.specs.declared.dlsn.Dlsn.{Dlsn}
use Rattle.dl_types.specs.declared.refusal.Refusal.{Refusal}
use Rattle.dl_types.specs.declared.refusal.Refusal.TheVariants as refused
use Rattle.dl_quorum.specs.Pieces.{Pieces, ring}
use Rattle.dl_formats.specs.declared.conf.Conf.{Conf}
use Rattle.dl_formats.specs.declared.cut.Cut.{Cut}
use Rattle.dl_formats.specs.declared.allocation.Alloc.{Alloc}
use Rattle.dl_formats.specs.declared.maxseq.MaxSeq.{MaxSeq}
use Rattle.dl_formats.specs.declared.segment.SegmentMeta.{SegmentMeta}
use Rattle.dl_formats.specs.declared.segment.SegmentMeta.TheVariants as meta
use Rattle.dl_formats.specs.declared.segment_name.SegmentName.{SegmentName}
use Rattle.dl_formats.specs.declared.segment_name.SegmentName.TheVariants.{Progress, Completed}
use Rattle.dl_formats.specs.Keys as key
use Rattle.dl_formats.specs.Reading.{ledger_at, segment_at, maxseq_at, cut_at, alloc_at}
use Rattle.dl_rules_stream.specs.Nodes.{LedgerNode, node_with}
use Rattle.dl_rules_stream.specs.Requests.{segment_key}
use Rattle.dl_rules_stream.specs.Orders.{◌>>=◌, or_gave_up}

-- ---- names

-- a decimal digit
abbrev pub is_digit : ℕ → Bool
is_digit c = nat_le 48 c && nat_le c 57

-- the number that digits spell
abbrev pub digits_number : List ℕ → ℕ
digits_number digits = fold (λ n c. 10 * n + (c - 48)) 0 digits

-- the number that exactly ten digits spell
abbrev pub ten_digits_in : List ℕ → Option ℕ
ten_digits_in digits = if length digits == 10 && list_all is_digit digits then Some (digits_number digits) else None

-- the segment of a letter and a number; none has the number 0
abbrev pub segment_by : ℕ → Option ℕ → Option SegmentName
segment_by letter None = None
segment_by letter (Some k) =
    if k == 0 then None
    else (if letter == 112 then Some (Progress k) else (if letter == 99 then Some (Completed k) else None))

-- what the name of a child of `segs` says of a segment: `p` or `c`, and ten digits
unfoldable pub segment_in : List ℕ → Option SegmentName
segment_in [] = None
segment_in (letter ∷ digits) = segment_by letter (ten_digits_in digits)

-- the number of a member, whose name is `m-` and ten digits
unfoldable pub member_in : List ℕ → Option ℕ
member_in [] = None
member_in (letter ∷ []) = None
member_in (letter ∷ dash ∷ digits) = if letter == 109 && dash == 45 then ten_digits_in digits else None

-- the number that the last ten bytes of a path spell
abbrev pub number_behind : List ℕ → ℕ
number_behind path = digits_number (drop (length path - 10) path)

-- the number of a segment
abbrev pub number_of : SegmentName → ℕ
number_of (Progress k) = k
number_of (Completed k) = k

-- a segment behind those whose numbers are not above its own
abbrev pub with_segment : SegmentName → List SegmentName → List SegmentName
with_segment x [] = x ∷ []
with_segment x (y ∷ ys) = if nat_lt (number_of x) (number_of y) then x ∷ y ∷ ys else y ∷ with_segment x ys

-- segments by their numbers, behind others that stand so
abbrev pub sorted_into : List SegmentName → List SegmentName → List SegmentName
sorted_into ys [] = ys
sorted_into ys (x ∷ xs) = sorted_into (with_segment x ys) xs

-- the segments that are listed, by their numbers
unfoldable pub segments_of : List (List ℕ) → List SegmentName
segments_of names = sorted_into [] (flat_map (λ name. option_to_list (segment_in name)) names)

-- the last of the segments, where there is one
abbrev pub last_segment : List SegmentName → Option SegmentName
last_segment [] = None
last_segment (x ∷ []) = Some x
last_segment (x ∷ y ∷ ys) = last_segment (y ∷ ys)

-- ---- nodes

-- the node `maxseq` of a stream
abbrev pub maxseq_of : List ℕ → List ℕ → Result MaxSeq Refusal
maxseq_of s bytes = or_gave_up (key.path_of (key.MaxSeq s)) (maxseq_at bytes)

-- the ledger that the node `alloc` of a stream names
abbrev pub alloc_of : List ℕ → List ℕ → Result (Option ℕ) Refusal
alloc_of s bytes = or_gave_up (key.path_of (key.Alloc s)) (alloc_at bytes) >>= λ (a : Alloc). Ok a.ledger

-- the point that the node `cut` of a stream names
abbrev pub point_of : List ℕ → List ℕ → Result Dlsn Refusal
point_of s bytes = or_gave_up (key.path_of (key.Cut s)) (cut_at bytes) >>= λ (c : Cut). Ok c.point

-- whether a segment is that of a name: of its number, and in progress or completed as its letter says
abbrev pub is_named : SegmentName → SegmentMeta → Bool
is_named (Progress k) (meta.InProgress segment ledger) = segment == k
is_named (Completed k) (meta.Completed segment ledger entries rows last) = segment == k
is_named name m = false

-- the node of a segment
abbrev pub segment_of : List ℕ → SegmentName → List ℕ → Result SegmentMeta Refusal
segment_of s name bytes =
    or_gave_up (key.path_of (segment_key s name)) (segment_at bytes) >>= λ m.
    if is_named name m then Ok m else Err (refused.GaveUp (key.path_of (segment_key s name)))

-- the ledger that stores a segment
abbrev pub ledger_of : SegmentMeta → ℕ
ledger_of (meta.InProgress segment ledger) = ledger
ledger_of (meta.Completed segment ledger entries rows last) = ledger

-- the node of a ledger; its ensemble is at most that of all bookies
abbrev pub ledger_node_of : Conf → ℕ → List ℕ → Result LedgerNode Refusal
ledger_node_of conf ledger bytes =
    or_gave_up (key.path_of (key.Ledger ledger)) (ledger_at bytes) >>= λ f.
    if nat_le f.e conf.b then Ok (node_with f.state (record { e = f.e; qw = f.qw; qa = f.qa }) f.count)
    else Err (refused.GaveUp (key.path_of (key.Ledger ledger)))

-- the pieces of a ledger: one, its ring
abbrev pub pieces_of : Conf → ℕ → LedgerNode → Pieces
pieces_of conf ledger m = ring ledger conf.b m.q
