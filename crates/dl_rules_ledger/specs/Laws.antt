-- The laws of a ledger's writer.
use Rattle.std.specs.Prelude.{◌≡◌, ◌≢◌, ℕ, ◌%◌, ◌<◌, ◌≤◌, true, List, length, Some, AllPairs, count_by}
use Rattle.std.specs.List.{AllByRecursion}
use Rattle.dl_types.specs.declared.ensemble.Ensemble.{Ensemble}
use Rattle.dl_quorum.specs.Sizes.{Sizes, AreSizes}
use Rattle.dl_quorum.specs.Pieces.{Pieces, members, piece_of, ensemble_members, one_piece, ring}
use Rattle.dl_record.specs.Grammar.{IsEntryBytes}
use Rattle.dl_msg.specs.Whole.{IsWhole}
use Rattle.dl_rules_ledger.specs.Writers.{WriterCall, WriterView, with_call, sent_count, has_acked, has_ack_quorum, confirmed_count, fence_bookie, add_letters}

-- the confirmed count is at most that of the entries sent, each entry below it has an ack quorum, and it is the greatest
-- such number
pub record IsGreatest (v : WriterView) : Type 0 where
  pub within : confirmed_count v ≤ sent_count v.calls
  pub below : (entry : ℕ) → entry < confirmed_count v → has_ack_quorum v entry ≡ true
  pub greatest : (n : ℕ) → n ≤ sent_count v.calls
      → ((entry : ℕ) → entry < n → has_ack_quorum v entry ≡ true) → n ≤ confirmed_count v

-- of each writer
abbrev pub ConfirmedIsGreatest : Type 0
ConfirmedIsGreatest = (v : WriterView) → IsGreatest v

-- no call takes a confirmation back
abbrev pub ConfirmedNeverFalls : Type 0
ConfirmedNeverFalls = (v : WriterView) (call : WriterCall) → confirmed_count v ≤ confirmed_count (with_call v call)

-- an ack quorum of the write set of each confirmed entry has acknowledged it
abbrev pub AcksAreOfAQuorum : Type 0
AcksAreOfAQuorum =
    (v : WriterView) (entry : ℕ) → entry < confirmed_count v
    → v.pieces.q.qa ≤ count_by (has_acked v.ledger v.calls entry) (members v.pieces entry)

-- where the bookies of an entry's piece differ, and are as many as the sizes say, those of its write set differ
abbrev pub MembersDiffer : Type 0
MembersDiffer =
    (w : Pieces) (entry : ℕ) → AreSizes w.q → length (piece_of w entry).members ≡ w.q.e
    → AllPairs (λ a b. a ≢ b) (piece_of w entry).members → AllPairs (λ a b. a ≢ b) (members w entry)

-- an ensemble has as many bookies as it says, and they differ
pub record HasBookies (x : Ensemble) : Type 0 where
  pub size : length (ensemble_members x) ≡ x.e
  pub differ : AllPairs (λ a b. a ≢ b) (ensemble_members x)

-- so of each ensemble
abbrev pub EnsemblesDiffer : Type 0
EnsemblesDiffer = (x : Ensemble) → HasBookies x

-- an ensemble that begins as the ledger's number says is the ledger's ring
abbrev pub RingsAreEnsembles : Type 0
RingsAreEnsembles =
    (q : Sizes) (x : Ensemble) (ledger : ℕ) → x.e ≡ q.e → x.first ≡ ledger % x.bookies
    → one_piece q (ensemble_members x) ≡ ring ledger x.bookies q

-- the bookie that fenced a writer stays the one that is named
abbrev pub FencesStay : Type 0
FencesStay =
    (v : WriterView) (call : WriterCall) (b : ℕ) → fence_bookie v ≡ Some b → fence_bookie (with_call v call) ≡ Some b

-- where an entry's bytes are sent, each message that carries them is whole
abbrev pub AddsAreWhole : Type 0
AddsAreWhole =
    (v : WriterView) (bytes : List ℕ) → IsEntryBytes bytes
    → AllByRecursion (λ told. IsWhole told.msg) (add_letters v bytes)
