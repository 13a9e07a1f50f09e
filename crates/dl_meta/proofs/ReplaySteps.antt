-- One step of a replay, and its room.
use Rattle.std.proofs.Common.{◌≡◌, ℕ, ◌+◌, ◌≤◌, ◌<◌, ◌==◌, List, [], length, drop, get_or, Result, Ok, Err, sym, ap, ◌∙◌, subst, refl, arith}
use Rattle.dl_journal.specs.Limits.{journal_limit}
use Rattle.dl_journal.specs.declared.batch.Batch.{Batch}
use Rattle.dl_journal.specs.Batches.{InRow, spell}
use Rattle.dl_rules_nodes.specs.Metadata.{Meta}
use Rattle.dl_rules_nodes.specs.Reading.{with_place}
use Rattle.dl_rules_nodes.specs.MetaReading.{meta_item_in}
use Rattle.dl_meta.specs.declared.meta_fault.MetaFault.{MetaFault}
use Rattle.dl_meta.specs.declared.meta_fault.MetaFault.TheVariants as fault
use Rattle.dl_meta.specs.Loading.{bodies_in, span, DoesItem, DoesBody, DoesBodies}
use Rattle.std.proofs.lemmas.List.{get_or-map, drop_all}
use Rattle.dl_meta.proofs.Replays.{Reached, goes_on, stops, length-spelt, length-bodies_in}

-- the place behind a body, however it is summed up
ends_at : (at end : ℕ) (body : List ℕ) → end ≡ at + (13 + length body) → end ≡ at + 13 + length body
ends_at at end body e = omega (arith, e)

-- one body more, whose end is known
pub goes_on_to : (bodies : List (List ℕ)) (i at end : ℕ) (m n : Meta) (body : List ℕ) → Reached bodies i at m → i < length bodies → body ≡ get_or bodies i body
    → end ≡ at + (13 + length body) → DoesItem end (i == 0) body m n → Reached bodies (i + 1) end n
goes_on_to bodies i at end m n body r within is e d =
    subst (λ (k : ℕ). Reached bodies (i + 1) k n) (sym (ends_at at end body e))
    (goes_on bodies i at m n body r within is (subst (λ (k : ℕ). DoesItem k (i == 0) body m n) (ends_at at end body e) d))

-- a body at which reading ends
pub ends_by : (bodies : List (List ℕ)) (i at end : ℕ) (m n : Meta) (body : List ℕ) (f : MetaFault) → Reached bodies i at m → i < length bodies
    → body ≡ get_or bodies i body
    → end ≡ at + (13 + length body) → DoesBody end (i == 0) body m n (Err f) → DoesBodies bodies (Err f)
ends_by bodies i at end m n body (fault.Damaged place) r within is e refused =
    stops bodies i at m body place r within is
    (subst (λ (k : ℕ). with_place k (meta_item_in (i == 0) m.sessions body) ≡ Err place) (ends_at at end body e) refused)
ends_by bodies i at end m n body fault.NoMemory r within is e u = tt
ends_by bodies i at end m n body fault.Device r within is e wrong = absurd wrong
ends_by bodies i at end m n body fault.Failed r within is e wrong = absurd wrong
ends_by bodies i at end m n body fault.Full r within is e wrong = absurd wrong
ends_by bodies i at end m n body (fault.TooLarge size) r within is e wrong = absurd wrong

-- the bodies of a journal fit a file
pub span_fits : (gate next : ℕ) (batches : List Batch) → InRow gate next batches → 8 + span (bodies_in batches) ≤ journal_limit
span_fits gate next batches r =
    let place : gate ≡ 8 + length (spell batches) = r.place in
    omega (arith, place, r.below, length-spelt batches)

-- ---- the batches

-- a batch within the list has its body within the bodies
pub within_bodies : (i : ℕ) (batches : List Batch) → i < length batches → i < length (bodies_in batches)
within_bodies i batches within = omega (arith, within, length-bodies_in batches)

-- the body of the batch at a place
pub body_at : (i : ℕ) (batches : List Batch) (b : Batch) (body : List ℕ) → i < length batches → b ≡ get_or batches i b → body ≡ b.body
    → body ≡ get_or (bodies_in batches) i body
body_at i batches b body within is same =
    same ∙ ap (λ (x : Batch). x.body) is ∙ sym (get_or-map (λ (x : Batch). x.body) batches i b body within)

-- behind the last batch no body is left
pub none_left : (i : ℕ) (batches : List Batch) → length batches ≤ i → drop i (bodies_in batches) ≡ []
none_left i batches past = drop_all i (bodies_in batches) (omega (arith, past, length-bodies_in batches))
