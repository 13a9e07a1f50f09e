-- Records and sets that are taken, as the rule says of them.
use Rattle.std.proofs.Common.{◌≡◌, ℕ, ◌+◌, ◌≤◌, ◌<◌, ◌^◌, false, Some, None, List, [], ◌∷◌, length, Err, refl, sym, ap, ap₂, ◌∙◌, subst, arith}
use Rattle.dl_types.specs.declared.refusal.Refusal.{Refusal}
use Rattle.dl_types.specs.declared.row.Origin.{Origin}
use Rattle.dl_types.specs.declared.txid.TheConstants.{MAX_TXID}
use Rattle.dl_record.specs.declared.limits.TheConstants.{PAYLOAD_MAX, MEMBERS_MAX}
use Rattle.dl_record.specs.declared.stored.Stored.{Stored}
use Rattle.dl_record.specs.declared.stored.Stored.TheVariants.{Plain, Set}
use Rattle.dl_record.specs.Grammar.{set_bytes, payload_bytes}
use Rattle.dl_msg.specs.declared.letters.Told.{Told}
use Rattle.dl_rules_stream.specs.LogWriters as rule
use Rattle.dl_rules_stream.specs.LogWriters.{LogNow, LogMove, Pending, pending_from, set_size, take_fault, takes_behind, makes_room}
use Rattle.dl_writer.specs.declared.mode.Mode.{Mode}
use Rattle.dl_writer.specs.Modes.{past_notice}
use Rattle.dl_writer.specs.Facts.{LogFacts}
use Rattle.dl_writer.specs.Drafts.{fits_parts, MayTake}
use Rattle.dl_writer.specs.Refusals.{take_fault_in, MayCome}
use Rattle.dl_writer.specs.Sending.{MaySend}
use Rattle.dl_writer.specs.Moves.{TakesBy, part_fits}
use Rattle.dl_writer.specs.Views.{NowStands, Takes}
use Rattle.dl_writer.proofs.DraftLemmas.{length-set, set_may}
use Rattle.dl_writer.proofs.Lifting.{takes_is, take_fault_is}
use Rattle.dl_writer.proofs.Ending.{takes_unless, refuses_unless}

-- a set may be taken as the stored record that is made of it
pub set_may_at : (f : LogFacts) (o : Origin) (txid n size : ℕ) (ps shared : List (List ℕ)) (rows : List Pending) → n ≡ f.draft.next → shared ≡ ps
    → rows ≡ pending_from o txid ps → size ≡ set_size ps → MayCome f size txid → 1 ≤ length ps → length ps ≤ MEMBERS_MAX
    → f.draft.next + length ps < 2 ^ 32 → MayTake f.draft.next f.draft.last (Set n txid shared) rows
set_may_at f o txid n size ps shared rows en es er ez may some most few =
    let short : length (set_bytes ps) ≤ PAYLOAD_MAX = omega (arith, length-set ps, ez, may.short) in
    subst (λ (m : ℕ). MayTake f.draft.next f.draft.last (Set m txid shared) rows) (sym en)
    (subst (λ (l : List (List ℕ)). MayTake f.draft.next f.draft.last (Set f.draft.next txid l) rows) (sym es)
    (subst (λ (l : List Pending). MayTake f.draft.next f.draft.last (Set f.draft.next txid ps) l) (sym er)
    (set_may f.draft.next f.draft.last o txid ps may.order may.bound short some most few)))

-- the length of a set is that of the stored record that is made of it
pub set_size_at : (size : ℕ) (ps shared : List (List ℕ)) → size ≡ set_size ps → shared ≡ ps → size ≡ length (set_bytes shared)
set_size_at size ps shared ez es = ez ∙ sym (length-set ps) ∙ ap (λ (l : List (List ℕ)). length (set_bytes l)) (sym es)

-- a record that doesn't fit may have the entry under way sent first
pub room_at : (f : LogFacts) (part : Stored) (size txid : ℕ) → size ≡ length (payload_bytes part) → MayCome f size txid → f.ledger.sent + 1 < 2 ^ 64
    → part_fits f part ≡ false → MaySend f.ledger
room_at f part size txid ez may few stuck =
    record { free = may.free; room = may.room (ap (fits_parts f.draft.parts) ez ∙ stuck); few = few }

module _ (w : LogNow) (f : LogFacts) (h : NowStands w f) where
  -- a record that is refused
  pub append_refused : (o : Origin) (txid : ℕ) (payload : List ℕ) (r : Refusal) → Some r ≡ take_fault_in f (length payload) txid
      → rule.appends w o txid payload ≡ Err r
  unfolding rule.appends
  append_refused o txid payload r e =
      refuses_unless (take_fault w (length payload) txid)
      (takes_behind (makes_room w (length payload)) txid (λ position. Plain position txid payload) (pending_from o txid (payload ∷ []))) r
      (sym (take_fault_is w f h (length payload) txid) ∙ sym e)

  -- a set that is refused
  pub set_refused : (o : Origin) (txid size : ℕ) (ps : List (List ℕ)) (r : Refusal) → size ≡ set_size ps → Some r ≡ take_fault_in f size txid
      → rule.appends_set w o txid ps ≡ Err r
  unfolding rule.appends_set
  set_refused o txid size ps r ez e =
      refuses_unless (take_fault w (set_size ps) txid)
      (takes_behind (makes_room w (set_size ps)) txid (λ position. Set position txid ps) (pending_from o txid ps)) r
      (sym (take_fault_is w f h (set_size ps) txid) ∙ ap (λ (n : ℕ). take_fault_in f n txid) (sym ez) ∙ sym e)

  module _ (even : f.draft.next ≡ f.rows_sent + length f.draft.pending) (o : Origin) (txid n : ℕ) (rows : List Pending) (told : List Told) (new : LogFacts)
      (position : n ≡ f.draft.next) where
    -- a record that is taken
    pub append_taken : (payload bytes : List ℕ) → bytes ≡ payload → rows ≡ pending_from o txid (payload ∷ []) → take_fault_in f (length payload) txid ≡ None
        → TakesBy (part_fits f (Plain n txid bytes)) f (Plain n txid bytes) rows (past_notice f.mode) told new
        → Takes (rule.appends w o txid payload) told new
    unfolding rule.appends
    append_taken payload bytes eb er free t =
        takes_unless (take_fault w (length payload) txid)
        (takes_behind (makes_room w (length payload)) txid (λ position. Plain position txid payload) (pending_from o txid (payload ∷ []))) told new
        (sym (take_fault_is w f h (length payload) txid) ∙ free)
        (takes_is w f h even txid (λ position. Plain position txid payload) (pending_from o txid (payload ∷ [])) told new refl (length payload)
        (subst (λ (part : Stored). TakesBy (part_fits f part) f part (pending_from o txid (payload ∷ [])) (past_notice f.mode) told new)
        (ap₂ (λ m b. Plain m txid b) position eb)
        (subst (λ (l : List Pending). TakesBy (part_fits f (Plain n txid bytes)) f (Plain n txid bytes) l (past_notice f.mode) told new) er t)))

    -- a set that is taken
    pub set_taken : (size : ℕ) (ps shared : List (List ℕ)) → shared ≡ ps → rows ≡ pending_from o txid ps → size ≡ set_size ps
        → take_fault_in f size txid ≡ None → TakesBy (part_fits f (Set n txid shared)) f (Set n txid shared) rows (past_notice f.mode) told new
        → Takes (rule.appends_set w o txid ps) told new
    unfolding rule.appends_set
    set_taken size ps shared es er ez free t =
        takes_unless (take_fault w (set_size ps) txid)
        (takes_behind (makes_room w (set_size ps)) txid (λ position. Set position txid ps) (pending_from o txid ps)) told new
        (sym (take_fault_is w f h (set_size ps) txid) ∙ ap (λ (m : ℕ). take_fault_in f m txid) (sym ez) ∙ free)
        (takes_is w f h even txid (λ position. Set position txid ps) (pending_from o txid ps) told new refl (set_size ps)
        (subst (λ (m : ℕ). TakesBy (fits_parts f.draft.parts m) f (Set f.draft.next txid ps) (pending_from o txid ps) (past_notice f.mode) told new)
        (length-set ps)
        (subst (λ (part : Stored). TakesBy (part_fits f part) f part (pending_from o txid ps) (past_notice f.mode) told new)
        (ap₂ (λ m l. Set m txid l) position es)
        (subst (λ (l : List Pending). TakesBy (part_fits f (Set n txid shared)) f (Set n txid shared) l (past_notice f.mode) told new) er t))))
