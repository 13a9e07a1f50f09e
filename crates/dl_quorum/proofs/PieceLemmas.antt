-- Write sets of a ledger's pieces: further pieces leave those before them, and what holds of places holds of bookies.
use Rattle.std.proofs.Common.{◌≡◌, ℕ, ◌+◌, ◌-◌, ◌%◌, ◌<◌, ◌≤◌, Bool, true, cond, ◌&&◌, nat_le, leb, List, [], ◌∷◌}
use Rattle.std.proofs.Common.{◌++◌, map, length, slice_index, refl, sym, ap, ◌∙◌, subst, arith, le-leb, mod-lt}
use Rattle.std.proofs.lemmas.List.{length-map}
use Rattle.std.proofs.lemmas.Bool.{cond-true, cond-false, lt-leb}
use Rattle.std.specs.List.{list_any, list_all}
use Rattle.dl_quorum.specs.Sizes.{Sizes, AreSizes}
use Rattle.dl_types.specs.Upto.{upto}
use Rattle.dl_quorum.specs.WriteSets.{write_set, is_blocked, confirms, denies, covers_places}
use Rattle.dl_quorum.specs.Pieces.{Piece, Pieces, piece_from, last_from, piece_of, last_piece, members_in, members, acks, blocks, covers, Rise}
use Rattle.dl_types.proofs.UptoLemmas.{list_all-upto}
use Rattle.dl_quorum.proofs.CountLemmas.{count_by-map}
use Rattle.dl_quorum.proofs.WriteSetLemmas.{length-write_set, write_set-mod, acked_meets_blocked}

-- the members of an entry in a piece are qw
pub length-members_in : (q : Sizes) (p : Piece) (entry : ℕ) → length (members_in q p entry) ≡ q.qw
length-members_in q p entry = length-map (write_set q entry) _ ∙ length-write_set q entry

-- a write set has qw members
pub length-members : (w : Pieces) (entry : ℕ) → length (members w entry) ≡ w.q.qw
unfolding members
length-members w entry = length-members_in w.q (piece_of w entry) entry

-- an ack quorum of bookies is one of places, each place standing for its bookie
pub acks-places : (w : Pieces) (entry : ℕ) (has : ℕ → Bool)
    → acks w entry has ≡ confirms w.q entry (λ place. has (slice_index (piece_of w entry).members place))
unfolding members
acks-places w entry has = ap (leb w.q.qa) (count_by-map has (λ place. slice_index (piece_of w entry).members place) (write_set w.q entry))

-- the same of so many that the others are no ack quorum
pub blocks-places : (w : Pieces) (entry : ℕ) (has : ℕ → Bool)
    → blocks w entry has ≡ denies w.q entry (λ place. has (slice_index (piece_of w entry).members place))
unfolding members
blocks-places w entry has = ap (leb (w.q.qw - w.q.qa + 1)) (count_by-map has (λ place. slice_index (piece_of w entry).members place) (write_set w.q entry))

-- an ack quorum and a denial of one write set share a bookie
pub acks-meets-blocks : (w : Pieces) (entry : ℕ) (acked denied : ℕ → Bool) → AreSizes w.q → acks w entry acked ≡ true → blocks w entry denied ≡ true
    → list_any (λ b. acked b && denied b) (members w entry) ≡ true
acks-meets-blocks w entry acked denied rule a b = acked_meets_blocked w.q acked denied (members w entry) rule (length-members w entry) a b

-- a further piece leaves the piece of each entry before it
piece_more : (p : Piece) (rs : List Piece) (x : Piece) (entry : ℕ) → entry < x.from → piece_from p (rs ++ x ∷ []) entry ≡ piece_from p rs entry
piece_more p [] x entry h = cond-false (nat_le x.from entry) x p (lt-leb x.from entry h)
piece_more p (r ∷ rs) x entry h = ap (λ y. cond (nat_le r.from entry) y p) (piece_more r rs x entry h)

-- a further piece leaves the write sets of the entries before it
pub members_more : (w : Pieces) (x : Piece) (entry : ℕ) → entry < x.from → members (record w { later = w.later ++ x ∷ [] }) entry ≡ members w entry
unfolding members
members_more w x entry h = ap (λ p. members_in w.q p entry) (piece_more w.first w.later x entry h)

-- the first of rising pieces begins no later than the last
from_le_last : (p : Piece) (rs : List Piece) → Rise p rs → p.from ≤ (last_from p rs).from
from_le_last p [] h = omega arith
from_le_last p (r ∷ rs) h = omega (arith, h.0, from_le_last r rs h.1)

-- the piece of an entry from the last piece's first entry on is the last one
last_from-is : (p : Piece) (rs : List Piece) (entry : ℕ) → Rise p rs → (last_from p rs).from ≤ entry → piece_from p rs entry ≡ last_from p rs
last_from-is p [] entry h le = refl
last_from-is p (r ∷ rs) entry h le =
    cond-true (nat_le r.from entry) (piece_from r rs entry) p (le-leb r.from entry (omega (arith, from_le_last r rs h.1)))
    ∙ last_from-is r rs entry h.1 le

-- a cover blocks each write set from the last piece on
pub covers-blocks : (w : Pieces) (has : ℕ → Bool) → AreSizes w.q → Rise w.first w.later → covers w has ≡ true → (entry : ℕ)
    → (last_piece w).from ≤ entry → blocks w entry has ≡ true
unfolding members
covers-blocks w has rule rise all entry from =
    let some : 0 < w.q.e = omega (arith, rule.writes_within, rule.acks_within, rule.some) in
    let last : is_blocked w.q has (members_in w.q (last_piece w) (entry % w.q.e)) ≡ true =
    list_all-upto (λ e. is_blocked w.q has (members_in w.q (last_piece w) e)) w.q.e (entry % w.q.e) all (mod-lt entry some) in
    subst (λ p. is_blocked w.q has (members_in w.q p entry) ≡ true) (sym (last_from-is w.first w.later entry rise from))
    (subst (λ ws. is_blocked w.q has (map (λ place. slice_index (last_piece w).members place) ws) ≡ true) (write_set-mod w.q entry) last)

-- two tests that agree on each number agree on whether a whole list passes
all_agree : (p r : ℕ → Bool) → ((x : ℕ) → p x ≡ r x) → (xs : List ℕ) → list_all p xs ≡ list_all r xs
all_agree p r same [] = refl
all_agree p r same (x ∷ xs) = ap (λ t. t && list_all p xs) (same x) ∙ ap (λ t. r x && t) (all_agree p r same xs)

-- a cover by bookies is a cover by places
pub covers-places : (w : Pieces) (has : ℕ → Bool) → covers w has ≡ covers_places w.q (λ place. has (slice_index (last_piece w).members place))
covers-places w has =
    all_agree (λ entry. is_blocked w.q has (members_in w.q (last_piece w) entry))
    (λ entry. denies w.q entry (λ place. has (slice_index (last_piece w).members place)))
    (λ entry. ap (leb (w.q.qw - w.q.qa + 1)) (count_by-map has (λ place. slice_index (last_piece w).members place) (write_set w.q entry)))
    (upto w.q.e)
