-- The shape of a ledger as a list of pieces (BookKeeper ledger metadata: ensembles by the first entry that each is used
-- for). A ledger whose bookies were never replaced has one piece, its ring. A set of bookies is a test.
use Rattle.std.specs.Prelude.{ℕ, ◌+◌, ◌%◌, ◌<◌, Bool, if◌then◌else◌, nat_le, List, [], ◌∷◌, map, slice_index}
use Rattle.std.specs.List.{list_all}
use Rattle.dl_types.specs.declared.ensemble.Ensemble.{Ensemble}
use Rattle.dl_quorum.specs.Sizes.{Sizes}
use Rattle.dl_types.specs.Upto.{upto}
use Rattle.dl_quorum.specs.WriteSets.{write_set, is_acked, is_blocked}

-- the ensemble for the entries from the first on: the bookie of each place
pub record Piece : Type 0 where
  pub from : ℕ
  pub members : List ℕ

-- a first piece, and later ones, by rising first entries
pub record Pieces : Type 0 where
  pub q : Sizes
  pub first : Piece
  pub later : List Piece

-- the same bookies for all entries
abbrev pub one_piece : Sizes → List ℕ → Pieces
one_piece q members = record { q = q; first = record { from = 0; members = members }; later = [] }

-- e neighbours among the bookies in a ring, from the first on
abbrev pub ring_members : ℕ → ℕ → ℕ → List ℕ
ring_members first bookies e = map (λ place. (first + place) % bookies) (upto e)

-- the bookie of each place of an ensemble
abbrev pub ensemble_members : Ensemble → List ℕ
ensemble_members x = ring_members x.first x.bookies x.e

-- the pieces of a ledger whose bookies were never replaced: neighbours from the bookie on that the ledger's number says
abbrev pub ring : ℕ → ℕ → Sizes → Pieces
ring ledger bookies q = one_piece q (ring_members (ledger % bookies) bookies q.e)

-- the last of the pieces whose first entry isn't above the entry
abbrev pub piece_from : Piece → List Piece → ℕ → Piece
piece_from p [] entry = p
piece_from p (r ∷ rs) entry = if nat_le r.from entry then piece_from r rs entry else p

-- the last of the pieces
abbrev pub last_from : Piece → List Piece → Piece
last_from p [] = p
last_from p (r ∷ rs) = last_from r rs

-- the piece of an entry
abbrev pub piece_of : Pieces → ℕ → Piece
piece_of w entry = piece_from w.first w.later entry

-- the piece of all entries to come
abbrev pub last_piece : Pieces → Piece
last_piece w = last_from w.first w.later

-- the bookies of an entry's write set in one piece
abbrev pub members_in : Sizes → Piece → ℕ → List ℕ
members_in q p entry = map (λ place. slice_index p.members place) (write_set q entry)

-- the bookies of an entry's write set
unfoldable pub members : Pieces → ℕ → List ℕ
members w entry = members_in w.q (piece_of w entry) entry

-- an ack quorum of the entry's write set is in the set of bookies
abbrev pub acks : Pieces → ℕ → (ℕ → Bool) → Bool
acks w entry has = is_acked w.q has (members w entry)

-- so much of the entry's write set is in the set of bookies that the others are no ack quorum
abbrev pub blocks : Pieces → ℕ → (ℕ → Bool) → Bool
blocks w entry has = is_blocked w.q has (members w entry)

-- the set of bookies blocks each write set of the last piece
abbrev pub covers : Pieces → (ℕ → Bool) → Bool
covers w has = list_all (λ entry. is_blocked w.q has (members_in w.q (last_piece w) entry)) (upto w.q.e)

-- the pieces go by rising first entries
abbrev pub Rise : Piece → List Piece → Type 0
Rise p [] = Unit {0}
Rise p (r ∷ rs) = (p.from < r.from) × Rise r rs
