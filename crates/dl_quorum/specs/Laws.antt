-- What recovery rests on, of the placement of entries.
use Rattle.std.specs.Prelude.{◌≡◌, ◌≢◌, ◌↔◌, ℕ, ◌+◌, ◌-◌, ◌<◌, ◌≤◌, Bool, ◌&&◌, [], ◌∷◌, ◌++◌, length, count_by, slice_index, AllPairs, IsTrue}
use Rattle.std.specs.List.{list_any}
use Rattle.dl_quorum.specs.Sizes.{Sizes, AreSizes}
use Rattle.dl_quorum.specs.WriteSets.{write_set, confirms, denies, covers_places}
use Rattle.dl_quorum.specs.Pieces.{Piece, Pieces, members, piece_of, last_piece, acks, blocks, covers, Rise}

-- a write set has qw places
abbrev pub HasWriteQuorum : Type 0
HasWriteQuorum = (q : Sizes) (entry : ℕ) → length (write_set q entry) ≡ q.qw

-- the places of a write set differ
abbrev pub PlacesDiffer : Type 0
PlacesDiffer = (q : Sizes) (entry : ℕ) → AreSizes q → AllPairs (λ a b. a ≢ b) (write_set q entry)

-- an ack quorum and a denial of one write set share a place of it
abbrev pub AcksMeetDenials : Type 0
AcksMeetDenials =
    (q : Sizes) (entry : ℕ) (acked denied : ℕ → Bool) → AreSizes q → IsTrue (confirms q entry acked) → IsTrue (denies q entry denied)
    → IsTrue (list_any (λ place. acked place && denied place) (write_set q entry))

-- a set covers exactly where it has at least qw - qa + 1 members of every write set
abbrev pub CoversDenyAll : Type 0
CoversDenyAll =
    (q : Sizes) (has : ℕ → Bool) → AreSizes q → IsTrue (covers_places q has) ↔ ((entry : ℕ) → q.qw - q.qa + 1 ≤ count_by has (write_set q entry))

-- an ack quorum of bookies is one of places, and so is a denial: each place stands for the bookie of the entry's piece
abbrev pub CountsOnlyMembers : Type 0
CountsOnlyMembers =
    (w : Pieces) (entry : ℕ) (has : ℕ → Bool)
    → (acks w entry has ≡ confirms w.q entry (λ place. has (slice_index (piece_of w entry).members place)))
    × (blocks w entry has ≡ denies w.q entry (λ place. has (slice_index (piece_of w entry).members place)))

-- an ack quorum and a denial of one write set share a bookie of it
abbrev pub BookiesMeet : Type 0
BookiesMeet =
    (w : Pieces) (entry : ℕ) (acked denied : ℕ → Bool) → AreSizes w.q → IsTrue (acks w entry acked) → IsTrue (blocks w entry denied)
    → IsTrue (list_any (λ b. acked b && denied b) (members w entry))

-- a further piece leaves the write sets of the entries before it
abbrev pub LaterPiecesKeep : Type 0
LaterPiecesKeep =
    (w : Pieces) (x : Piece) (entry : ℕ) → entry < x.from → members (record w { later = w.later ++ x ∷ [] }) entry ≡ members w entry

-- a cover of the last piece blocks the write set of each entry from its first on
abbrev pub CoversBlockAll : Type 0
CoversBlockAll =
    (w : Pieces) (has : ℕ → Bool) → AreSizes w.q → Rise w.first w.later → IsTrue (covers w has)
    → (entry : ℕ) → (last_piece w).from ≤ entry → IsTrue (blocks w entry has)

-- a cover by bookies is a cover by places: each place of the last piece stands for its bookie
abbrev pub CoversArePlaces : Type 0
CoversArePlaces =
    (w : Pieces) (has : ℕ → Bool) → covers w has ≡ covers_places w.q (λ place. has (slice_index (last_piece w).members place))
