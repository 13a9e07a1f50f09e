-- The laws of a ledger's writer.
use Rattle.std.proofs.Common.{◌≡◌, ◌≢◌, ℕ, ◌+◌, ◌%◌, ◌<◌, ◌≤◌, true, List, [], ◌∷◌, map, length, get_or, slice_index, refl, sym, ap, ◌∙◌, subst}
use Rattle.std.proofs.Common.{arith, inl, inr, ◌⊎◌, leb-true, mod-lt}
use Rattle.std.proofs.lemmas.Bool.{cases_lt, or_right}
use Rattle.std.proofs.lemmas.List.{length-map, get_or-map}
use Rattle.std.specs.List.{AllByRecursion, AllPairs}
use Rattle.dl_types.specs.declared.ensemble.Ensemble.{Ensemble}
use Rattle.dl_types.proofs.UptoLemmas.{length-upto, get_or-map-upto}
use Rattle.dl_types.specs.Upto.{upto}
use Rattle.dl_quorum.specs.Sizes.{Sizes, AreSizes}
use Rattle.dl_quorum.specs.WriteSets.{write_place, write_set}
use Rattle.dl_quorum.specs.Pieces.{members, piece_of, ring_members, ensemble_members, one_piece}
use Rattle.dl_quorum.proofs.WriteSetLemmas.{places_differ, write_set-is, length-write_set, write_set-distinct, is_acked-mono}
use Rattle.dl_record.specs.Grammar.{IsEntryBytes}
use Rattle.dl_msg.specs.declared.letters.Told.{Told}
use Rattle.dl_msg.specs.Whole.{IsWhole}
use Rattle.dl_rules_ledger.specs.Writers.{WriterCall, Sends, Hears, WriterView, with_call, sent_count, has_acked, has_ack_quorum, confirmed_count}
use Rattle.dl_rules_ledger.specs.Writers.{add_to, add_letters}
use Rattle.dl_rules_ledger.specs.Laws.{ConfirmedIsGreatest, ConfirmedNeverFalls, AcksAreOfAQuorum, MembersDiffer, EnsemblesDiffer, RingsAreEnsembles}
use Rattle.dl_rules_ledger.specs.Laws.{FencesStay, AddsAreWhole}
use Rattle.dl_rules_ledger.proofs.LeadingLemmas.{leading_count-le, leading_count-below, leading_count-greatest}

-- the count of the first entries that have an ack quorum is the greatest
pub confirmed_is_greatest : ConfirmedIsGreatest
unfolding confirmed_count
confirmed_is_greatest v = record {
  within = leading_count-le (has_ack_quorum v) (sent_count v.calls);
  below = leading_count-below (has_ack_quorum v) (sent_count v.calls);
  greatest = leading_count-greatest (has_ack_quorum v) (sent_count v.calls);
}

-- what has an ack quorum keeps it
pub acks-more : (v : WriterView) (call : WriterCall) (entry : ℕ) → has_ack_quorum v entry ≡ true → has_ack_quorum (with_call v call) entry ≡ true
acks-more v (Sends bytes) entry h = h
acks-more v (Hears b msg) entry h =
    is_acked-mono v.pieces.q (has_acked v.ledger v.calls entry) (has_acked v.ledger (Hears b msg ∷ v.calls) entry) (members v.pieces entry)
    (λ c k. or_right _ _ k) h

-- no call takes a sending back
pub sent-more : (v : WriterView) (call : WriterCall) → sent_count v.calls ≤ sent_count (with_call v call).calls
sent-more v (Sends bytes) = omega arith
sent-more v (Hears b msg) = omega arith

-- all that was confirmed is a number that may be confirmed after the call
pub confirmed_never_falls : ConfirmedNeverFalls
confirmed_never_falls v call =
    let g = confirmed_is_greatest v in
    (confirmed_is_greatest (with_call v call)).greatest (confirmed_count v) (omega (arith, g.within, sent-more v call))
    (λ entry below. acks-more v call entry (g.below entry below))

-- a confirmed entry has an ack quorum
pub acks_are_of_a_quorum : AcksAreOfAQuorum
acks_are_of_a_quorum v entry below = leb-true _ _ ((confirmed_is_greatest v).below entry below)

-- the place of a copy is one of the ensemble
pub place_within : (q : Sizes) (entry i : ℕ) → AreSizes q → i < q.qw → get_or (write_set q entry) i 0 < q.e
place_within q entry i rule below =
    let some : 0 < q.e = omega (arith, rule.some, rule.acks_within, rule.writes_within) in
    subst (λ n. n < q.e) (sym (ap (λ ws. get_or ws i 0) (write_set-is q entry) ∙ get_or-map-upto (λ n. write_place q entry n) q.qw i 0 below))
    (mod-lt (entry + i) some)

-- two places of a list of different numbers have different ones
differ_at : (xs : List ℕ) → AllPairs (λ a b. a ≢ b) xs → (i j : ℕ) → i < length xs → j < length xs → i ≢ j → slice_index xs i ≢ slice_index xs j
differ_at xs apart i j a b other same = go (cases_lt i j)
  where
    go : (i < j) ⊎ (j ≤ i) → ⊥
    go (inl less) = apart i j 0 less b same
    go (inr more) = apart j i 0 (omega (arith, more, λ (e : i ≡ j). other e)) a (sym same)

-- different places of the write set have different bookies
pub members_differ : MembersDiffer
unfolding members
members_differ w entry rule size apart i j d before within =
    let inside : j < w.q.qw = omega (arith, within, length-map (write_set w.q entry) bookie_at, length-write_set w.q entry) in
    let first : i < w.q.qw = omega (arith, before, inside) in
    let other = write_set-distinct w.q entry rule i j 0 before (omega (arith, inside, length-write_set w.q entry)) in
    λ e. differ_at (piece_of w entry).members apart (place_at i) (place_at j)
    (subst (λ n. place_at i < n) (sym size) (place_within w.q entry i rule first))
    (subst (λ n. place_at j < n) (sym size) (place_within w.q entry j rule inside)) other
    (sym (at i first) ∙ e ∙ at j inside)
  where
    place_at : ℕ → ℕ
    place_at k = get_or (write_set w.q entry) k 0

    bookie_at : ℕ → ℕ
    bookie_at place = slice_index (piece_of w entry).members place

    at : (k : ℕ) → k < w.q.qw → get_or (map bookie_at (write_set w.q entry)) k d ≡ bookie_at (place_at k)
    at k below = get_or-map bookie_at (write_set w.q entry) k 0 d (omega (arith, below, length-write_set w.q entry))

-- an ensemble has e bookies
pub length-ensemble_members : (x : Ensemble) → length (ensemble_members x) ≡ x.e
length-ensemble_members x = length-map (upto x.e) (λ place. (x.first + place) % x.bookies) ∙ length-upto x.e

-- the bookies of an ensemble are no more than one round
pub ensembles_differ : EnsemblesDiffer
ensembles_differ x = record {
  size = length-ensemble_members x;
  differ = λ i j d before within.
      let inside : j < x.e = omega (arith, within, length-ensemble_members x) in
      let at : (k : ℕ) → k < x.e → get_or (ensemble_members x) k d ≡ (x.first + k) % x.bookies =
      λ k below. get_or-map-upto (λ place. (x.first + place) % x.bookies) x.e k d below in
      λ same. places_differ x.first x.bookies i j before (omega (arith, inside, x.rule.within))
      (sym (at i (omega (arith, before, inside))) ∙ same ∙ at j inside);
}

-- both begin at the same bookie and are as long
pub rings_are_ensembles : RingsAreEnsembles
rings_are_ensembles q x ledger size first =
    ap (λ (n : ℕ). one_piece q (ring_members n x.bookies x.e)) first ∙ ap (λ (n : ℕ). one_piece q (ring_members (ledger % x.bookies) x.bookies n)) size

-- the first one is asked before the message
pub fences_stay : FencesStay
fences_stay v (Sends bytes) b h = h
fences_stay v (Hears c msg) b h = rw h refl

-- whoever they go to
whole_to : (ledger entry count : ℕ) (bytes bookies : List ℕ) → IsEntryBytes bytes
    → AllByRecursion (λ (told : Told). IsWhole told.msg) (map (add_to ledger entry count bytes) bookies)
whole_to ledger entry count bytes [] spelt = tt
whole_to ledger entry count bytes (b ∷ bookies) spelt = (spelt, whole_to ledger entry count bytes bookies spelt)

-- each of them carries the same bytes
pub adds_are_whole : AddsAreWhole
unfolding add_letters
adds_are_whole v bytes spelt = whole_to v.ledger (sent_count v.calls) (confirmed_count v) bytes (members v.pieces (sent_count v.calls)) spelt
