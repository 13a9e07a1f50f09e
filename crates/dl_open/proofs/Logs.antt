-- The writer of a new ledger.
use Rattle.std.proofs.Common.{◌≡◌, ℕ, ◌%◌, Result, Ok, Err, IfOk, ap, ◌∙◌}
use Rattle.dl_types.specs.declared.ensemble.Ensemble.{Ensemble}
use Rattle.dl_quorum.specs.Pieces.{Pieces, one_piece, ring, ring_members, ensemble_members}
use Rattle.dl_quorum.specs.Sizes.{Sizes}
use Rattle.dl_lwrite.specs.Facts.{WriterFacts}
use Rattle.dl_lwrite.specs.Standing.{StandsFor}
use Rattle.dl_rules_ledger.specs.Writers.{confirmed_count, new_view}
use Rattle.dl_writer.specs.Facts.{IsFresh}

-- a writer that was given no call yet has sent and heard nothing
pub is_fresh : (ledger : ℕ) (pieces : Pieces) (w : WriterFacts) → StandsFor (new_view ledger pieces) w → IsFresh w
unfolding confirmed_count
is_fresh ledger pieces w s = record { sent = s.sent; confirmed = s.confirmed; fenced = s.fenced }

-- the ensemble of a ledger is its ring
pub ring_is : (ledger bookies : ℕ) (q : Sizes) (x : Ensemble) → x.first ≡ ledger % bookies → x.bookies ≡ bookies → x.e ≡ q.e
    → one_piece q (ensemble_members x) ≡ ring ledger bookies q
ring_is ledger bookies q x first all e =
    ap (λ f. one_piece q (ring_members f x.bookies x.e)) first ∙ ap (λ b. one_piece q (ring_members (ledger % bookies) b x.e)) all
    ∙ ap (λ n. one_piece q (ring_members (ledger % bookies) bookies n)) e

-- what follows from what holds of a result
pub if_ok : {A E : Type 0} {P Q : A → Type 0} (r : Result A E) → IfOk r P → ((x : A) → P x → Q x) → IfOk r Q
if_ok (Ok x) h f = f x h
if_ok (Err e) h f = h
