-- The three facts on the placement of entries on which all else rests: the members of a write set differ, a further piece leaves the
-- write sets of the entries before it, and a cover blocks each write set from the first entry of the last piece on. And that larger
-- sets of bookies do what smaller ones do.
use Rattle.std.proofs.Common.{◌≡◌, ◌≢◌, ℕ, ◌<◌, ◌≤◌, Bool, true, List, [], ◌∷◌, ◌++◌}
use Rattle.std.specs.List.{list_all, AllPairs}
use Rattle.std.proofs.lemmas.Bool.{and_parts, and_from}
use Rattle.dl_types.specs.Upto.{upto}
use Rattle.dl_quorum.specs.WriteSets.{is_blocked}
use Rattle.dl_quorum.specs.Pieces.{Piece, Pieces, members_in, members, last_piece, acks, blocks, covers}
use Rattle.dl_quorum.proofs.WriteSetLemmas.{is_acked-mono, is_blocked-mono}
use Rattle.dl_quorum.proofs.PieceLemmas.{members_more, covers-blocks}
use Rattle.dl_rules_ledger.proofs.WriterLaws.{members_differ}
use Rattle.dl_law_nodes.specs.Promises.{IsPlaced}

-- the bookies of a write set differ
pub write_sets_differ : (w : Pieces) → IsPlaced w → (entry : ℕ) → AllPairs (λ a b. a ≢ b) (members w entry)
write_sets_differ w h entry = members_differ w entry h.sizes (h.full entry) (h.differ entry)

-- the write set of an entry stays as a further piece begins behind it
pub write_sets_stay : (w : Pieces) (x : Piece) (entry : ℕ) → entry < x.from → members (record w { later = w.later ++ x ∷ [] }) entry ≡ members w entry
write_sets_stay = members_more

-- a cover blocks each write set of the last piece
pub covers_block : (w : Pieces) (has : ℕ → Bool) → IsPlaced w → covers w has ≡ true → (entry : ℕ) → (last_piece w).from ≤ entry
    → blocks w entry has ≡ true
covers_block w has h all entry from = covers-blocks w has h.sizes h.rise all entry from

-- ---- larger sets

-- more bookies are an ack quorum too
pub acks_more : (w : Pieces) (entry : ℕ) (p r : ℕ → Bool) → ((b : ℕ) → p b ≡ true → r b ≡ true) → acks w entry p ≡ true → acks w entry r ≡ true
acks_more w entry p r h a = is_acked-mono w.q p r (members w entry) h a

-- and block what fewer block
pub blocks_more : (w : Pieces) (entry : ℕ) (p r : ℕ → Bool) → ((b : ℕ) → p b ≡ true → r b ≡ true) → blocks w entry p ≡ true → blocks w entry r ≡ true
blocks_more w entry p r h a = is_blocked-mono w.q p r (members w entry) h a

-- a test that each number passes which passes another is passed by lists that pass that
all_pass_more : (p r : ℕ → Bool) → ((x : ℕ) → p x ≡ true → r x ≡ true) → (xs : List ℕ) → list_all p xs ≡ true → list_all r xs ≡ true
all_pass_more p r h [] a = a
all_pass_more p r h (x ∷ xs) a = let parts = and_parts (p x) (list_all p xs) a in and_from _ _ (h x parts.0) (all_pass_more p r h xs parts.1)

-- and cover what fewer cover
pub covers_more : (w : Pieces) (p r : ℕ → Bool) → ((b : ℕ) → p b ≡ true → r b ≡ true) → covers w p ≡ true → covers w r ≡ true
covers_more w p r h a =
    all_pass_more (λ entry. is_blocked w.q p (members_in w.q (last_piece w) entry)) (λ entry. is_blocked w.q r (members_in w.q (last_piece w) entry))
    (λ entry. is_blocked-mono w.q p r (members_in w.q (last_piece w) entry) h) (upto w.q.e) a
