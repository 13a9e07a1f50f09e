-- A writer that sends an entry stands for the view with it.
use Rattle.std.proofs.Common.{◌≡◌, ℕ, suc, ◌+◌, ◌<◌, ◌≤◌, Bool, true, false, cond, ◌&&◌, ◌==◌, nat_lt, nat_le, List, [], ◌∷◌, ◌++◌, map}
use Rattle.std.proofs.Common.{length, get_or, slice_index, count_by, Some, None, refl, sym, ap, ◌∙◌, arith, inl, inr, ◌⊎◌, add-one, le-leb}
use Rattle.std.proofs.lemmas.Bool.{cases_lt, or_cases, and_parts, and_right, cond-false, ltb-true, lt-leb, false_from_ne_true, true≢false}
use Rattle.std.proofs.lemmas.List.{get_or_append_left, get_or_at}
use Rattle.dl_quorum.specs.Sizes.{sizes_of}
use Rattle.dl_quorum.specs.Places.{holds}
use Rattle.dl_quorum.specs.Pieces.{Pieces, members, one_piece, ensemble_members}
use Rattle.dl_quorum.proofs.CountLemmas.{count_by-cons}
use Rattle.dl_rules_ledger.specs.declared.window.TheConstants.{WINDOW}
use Rattle.dl_rules_ledger.specs.Writers.{WriterCall, Sends, Hears, WriterView, with_call, sent_count, has_acked, has_ack_quorum}
use Rattle.dl_rules_ledger.specs.Writers.{is_add_ok, confirmed_count, Fence, FullWindow, stop_by, send_stop, add_to, add_letters}
use Rattle.dl_lwrite.specs.Facts.{WriterFacts}
use Rattle.dl_lwrite.specs.Standing.{StandsFor}

-- a test that none passes counts none
count_by-none : (p : ℕ → Bool) (xs : List ℕ) → ((b : ℕ) → p b ≡ false) → count_by p xs ≡ 0
count_by-none p [] none = refl
count_by-none p (x ∷ xs) none =
    count_by-cons p x xs ∙ ap (λ (b : Bool). cond b 1 0 + count_by p xs) (none x) ∙ omega (arith, count_by-none p xs none)

-- only an entry that was sent is acknowledged
pub acked-below : (l : ℕ) (calls : List WriterCall) (e b : ℕ) → has_acked l calls e b ≡ true → e < sent_count calls
acked-below l [] e b h = absurd (true≢false (sym h))
acked-below l (Sends bytes ∷ calls) e b h = omega (arith, acked-below l calls e b h)
acked-below l (Hears c m ∷ calls) e b h = go (or_cases _ _ h) (acked-below l calls e b)
  where
    go : ((c == b && is_add_ok l e m && nat_lt e (sent_count calls)) ≡ true) ⊎ (has_acked l calls e b ≡ true)
        → (has_acked l calls e b ≡ true → e < sent_count calls) → e < sent_count calls
    go (inl k) ih = ltb-true e (sent_count calls) (and_parts (c == b && is_add_ok l e m) (nat_lt e (sent_count calls)) k).1
    go (inr k) ih = ih k

-- nobody has acknowledged what was not sent
pub acked-none : (l : ℕ) (calls : List WriterCall) (e b : ℕ) → sent_count calls ≤ e → has_acked l calls e b ≡ false
acked-none l calls e b past = false_from_ne_true _ (λ a. let low = acked-below l calls e b a in absurd (omega (arith, low, past)))

-- no ack quorum answers where nobody does
acks_none : (v : WriterView) (e : ℕ) → 1 ≤ v.pieces.q.qa → sent_count v.calls ≤ e → has_ack_quorum v e ≡ false
acks_none v e some past =
    let none = count_by-none (has_acked v.ledger v.calls e) (members v.pieces e) (λ b. acked-none v.ledger v.calls e b past) in
    lt-leb v.pieces.q.qa _ (omega (arith, some, none))

-- an entry that was just sent isn't confirmed
pub confirmed-sends : (v : WriterView) (bytes : List ℕ) → 1 ≤ v.pieces.q.qa → confirmed_count (with_call v (Sends bytes)) ≡ confirmed_count v
unfolding confirmed_count
confirmed-sends v bytes some = cond-false _ _ _ (and_right _ _ (acks_none v (sent_count v.calls) some (omega arith)))

-- the writer that has sent an entry more
pub stands_sent : (v : WriterView) (w : WriterFacts) → StandsFor v w → w.confirmed + length w.answers ≡ w.sent → (bytes : List ℕ) (none : ℕ)
    → ((place : ℕ) → holds none place ≡ false) → StandsFor (with_call v (Sends bytes)) (record w { sent = w.sent + 1; answers = w.answers ++ none ∷ [] })
stands_sent v w h long bytes none empty = record {
  ledger = h.ledger;
  pieces = h.pieces;
  sent = add-one w.sent ∙ ap suc h.sent;
  confirmed = h.confirmed ∙ sym (confirmed-sends v bytes some);
  fenced = h.fenced;
  answers = λ i place within few. at i place (cases_lt i (length w.answers)) within few;
}
  where
    some : 1 ≤ v.pieces.q.qa
    some = let same : w.q.qa ≡ v.pieces.q.qa = ap (λ (p : Pieces). p.q.qa) h.pieces in omega (arith, same, w.q.rule.some)

    at : (i place : ℕ) → (i < length w.answers) ⊎ (length w.answers ≤ i) → w.confirmed + i < w.sent + 1 → place < w.q.e
        → holds (get_or (w.answers ++ none ∷ []) i 0) place ≡ has_acked v.ledger v.calls (w.confirmed + i) (slice_index (ensemble_members w.ensemble) place)
    at i place (inl k) within few = ap (λ n. holds n place) (get_or_append_left w.answers (none ∷ []) 0 i k) ∙ h.answers i place (omega arith) few
    at i place (inr k) within few =
        ap (λ n. holds n place) (get_or_at w.answers none [] 0 i (omega arith)) ∙ empty place
        ∙ sym (acked-none v.ledger v.calls (w.confirmed + i) _ (omega (arith, h.sent)))

-- ---- what a writer answers to a sending

-- a fenced writer
pub stop_fenced : (v : WriterView) (w : WriterFacts) → StandsFor v w → (b : ℕ) → w.fenced ≡ Some b → send_stop v ≡ Some (Fence b)
unfolding send_stop
stop_fenced v w h b e = ap (λ o. stop_by o (nat_le (confirmed_count v + WINDOW) (sent_count v.calls))) (sym h.fenced ∙ e)

-- a writer whose window is full
pub stop_full : (v : WriterView) (w : WriterFacts) → StandsFor v w → w.confirmed + length w.answers ≡ w.sent → w.fenced ≡ None
    → WINDOW ≤ length w.answers → send_stop v ≡ Some FullWindow
unfolding send_stop
stop_full v w h long e full =
    ap (λ o. stop_by o (nat_le (confirmed_count v + WINDOW) (sent_count v.calls))) (sym h.fenced ∙ e)
    ∙ ap (λ t. stop_by None t) (le-leb (confirmed_count v + WINDOW) (sent_count v.calls) (omega (arith, h.confirmed, h.sent, long, full)))

-- a writer that may send
pub stop_none : (v : WriterView) (w : WriterFacts) → StandsFor v w → w.confirmed + length w.answers ≡ w.sent → w.fenced ≡ None
    → length w.answers < WINDOW → send_stop v ≡ None
unfolding send_stop
stop_none v w h long e free =
    ap (λ o. stop_by o (nat_le (confirmed_count v + WINDOW) (sent_count v.calls))) (sym h.fenced ∙ e)
    ∙ ap (λ t. stop_by None t) (lt-leb (confirmed_count v + WINDOW) (sent_count v.calls) (omega (arith, h.confirmed, h.sent, long, free)))

-- the letters by the writer's facts are those by the view
pub letters_are : (v : WriterView) (w : WriterFacts) → StandsFor v w → (bytes : List ℕ)
    → map (add_to w.ledger w.sent w.confirmed bytes) (members (one_piece (sizes_of w.q) (ensemble_members w.ensemble)) w.sent) ≡ add_letters v bytes
unfolding add_letters
letters_are v w h bytes =
    ap (λ (p : Pieces). map (add_to w.ledger w.sent w.confirmed bytes) (members p w.sent)) h.pieces
    ∙ ap (λ (l : ℕ). map (add_to l w.sent w.confirmed bytes) (members v.pieces w.sent)) h.ledger
    ∙ ap (λ (n : ℕ). map (add_to v.ledger n w.confirmed bytes) (members v.pieces n)) h.sent
    ∙ ap (λ (n : ℕ). map (add_to v.ledger (sent_count v.calls) n bytes) (members v.pieces (sent_count v.calls))) h.confirmed
