-- The ranges of what a log writer keeps and gives back: its rows, the entries that it sent, and the records under way.
use Rattle.std.proofs.Common.{◌≡◌, ℕ, suc, ◌+◌, ◌-◌, ◌≤◌, List, [], ◌∷◌, length, take, drop, Option, Some, None, Result, Ok}
use Rattle.std.proofs.Common.{Err, is_some, refl, ap, subst, arith, length-append, Bool, true, false, cond, not, ◌&&◌}
use Rattle.std.specs.Prelude.{nat_lt}
use Rattle.std.specs.List.{AllByRecursion}
use Rattle.dl_types.specs.declared.row.Origin.{Origin}
use Rattle.dl_types.specs.declared.row.Row.{Row}
use Rattle.dl_types.specs.declared.refusal.Refusal.{Refusal}
use Rattle.dl_types.specs.declared.refusal.Refusal.TheVariants as refused
use Rattle.dl_record.specs.declared.stored.Stored.{Stored}
use Rattle.dl_record.specs.declared.stored.Stored.TheVariants.{Plain, Control, Set}
use Rattle.dl_text.specs.Hex.{AllBytes}
use Rattle.dl_text.specs.Numbers.{most_u32, most_u64}
use Rattle.dl_text.specs.PlaceFields.{IsPlaceFrom}
use Rattle.dl_msg.specs.declared.msg.Msg.{Msg}
use Rattle.dl_schedule.specs.StepLines.{IsClient, IsBookie, IsTxid}
use Rattle.dl_transcript.specs.Ranges.{IsU32, IsU64}
use Rattle.dl_rules_stream.specs.LogWriters.{Pending, LogCall, Appends, AppendsSet, Flushes, Commits, Closes, HearsFrom, LogMode, Open, Committing}
use Rattle.dl_rules_stream.specs.LogWriters.{Committed, Closing, Closable}
use Rattle.dl_rules_stream.specs.LogWriters.{control_bytes, LogNow, LogMove, stays, rows_at, rows_due, sends_parts, flushes, sends_control, mode_goes_on}
use Rattle.dl_rules_stream.specs.LogWriters.{goes_on}
use Rattle.dl_rules_stream.specs.LogWriters.{then_goes_on}
use Rattle.dl_rules_stream.specs.LogWriters.{makes_room, has_parts, fits, all_confirmed, confirmed_count, fenced_at, sent_count, in_mode, past_commit}
use Rattle.dl_rules_stream.specs.LogWriters.{pending_from, longest_payload, is_closing, is_window_full, writer_fault, or_fault, fault_if}
use Rattle.dl_rules_stream.specs.LogWriters as log
use Rattle.dl_rules_stream.specs.LogWriters.{takes_behind, unless, take_fault, send_fault, set_size, appends, appends_set, log_flushes, commits, closes}
use Rattle.dl_rules_stream.specs.LogWriters.{heard_by, log_hears, or_same, after_log_call}
use Rattle.dl_rules_stream.specs.LogWriters.{LogArgs, log_started, LogState, IsOpen, IsCommitting, HasCommitted, IsClosing, MayClose, IsFenced, state_by}
use Rattle.dl_rules_stream.specs.LogWriters.{log_state, SentEntry, last_behind, last_sent_entry}
use Rattle.dl_quorum.specs.Pieces.{members}
use Rattle.dl_record.specs.Grammar.{entry_bytes}
use Rattle.dl_rules_ledger.specs.Writers.{add_letters, is_add_fenced, first_fence, or_else}
use Rattle.dl_transcript.specs.Ranges.{IsRefusal}
use Rattle.dl_rules_client.specs.EventRanges.{set_most}
use Rattle.dl_codec.specs.Fields.{IsBytes}
use Rattle.dl_rules_client.proofs.ByteRanges.{StoredFits, entry_spelt}
use Rattle.dl_rules_client.proofs.TellRanges.{ToldFits}
use Rattle.dl_rules_client.proofs.RangeLists.{cond_both}
use Rattle.dl_rules_client.proofs.RangeLists.{AllSome, all-map, all-append, all-last, all-take, all-drop, all-flat}

-- A record that was not sent yet.
pub record IsPending (p : Pending) : Type 0 where
  pub client : IsClient p.origin.client
  pub call : IsU32 p.origin.call
  pub txid : IsTxid p.txid
  pub payload : AllBytes p.payload

-- A row.
pub record IsRow (r : Row) : Type 0 where
  pub place : IsPlaceFrom 0 r.place
  pub client : IsClient r.origin.client
  pub call : IsU32 r.origin.call
  pub txid : IsTxid r.txid
  pub payload : AllBytes r.payload

-- a commit whose control entry is due has one entry more to send
abbrev pub due : LogMode → ℕ
due Open = 0
due (Committing None) = 1
due (Committing (Some n)) = 0
due (Committed n) = 0
due Closing = 0
due Closable = 0

-- the number of a control entry is at most this
abbrev pub ControlUpTo : ℕ → LogMode → Type 0
ControlUpTo most Open = Unit {0}
ControlUpTo most (Committing None) = Unit {0}
ControlUpTo most (Committing (Some n)) = n ≤ most
ControlUpTo most (Committed n) = n ≤ most
ControlUpTo most Closing = Unit {0}
ControlUpTo most Closable = Unit {0}

-- A log writer with at most so many records under way, and at most so many entries sent or due.
pub record LogFits (records entries : ℕ) (w : LogNow) : Type 0 where
  pub segment : IsU64 w.segment
  pub parts : AllByRecursion StoredFits w.parts
  pub pending : AllByRecursion IsPending w.pending
  pub few : length w.pending ≤ records
  pub rows : AllByRecursion (AllByRecursion IsRow) w.entries
  pub sent : sent_count w + due w.mode ≤ entries
  pub kept : length w.entries + due w.mode ≤ entries
  pub control : ControlUpTo entries w.mode
  pub members : (entry : ℕ) → AllByRecursion IsBookie (members w.ledger.pieces entry)
  pub fenced : AllSome IsBookie (fenced_at w)
  pub last : IsTxid w.last_taken

-- a move of one
pub record LogMoveFits (records entries : ℕ) (m : LogMove) : Type 0 where
  pub now : LogFits records entries m.now
  pub rows : AllByRecursion IsRow m.rows
  pub letters : AllByRecursion ToldFits m.letters

-- a move, where a call is not refused
abbrev pub CallFits : (records entries : ℕ) → Result LogMove Refusal → Type 0
CallFits r e (Ok m) = LogMoveFits r e m
CallFits r e (Err why) = IsRefusal why

-- a greater bound on control entries
control_more : (e f : ℕ) (mode : LogMode) → e ≤ f → ControlUpTo e mode → ControlUpTo f mode
control_more e f Open h c = tt
control_more e f (Committing None) h c = tt
control_more e f (Committing (Some n)) h c = omega (arith, h, c)
control_more e f (Committed n) h c = omega (arith, h, c)
control_more e f Closing h c = tt
control_more e f Closable h c = tt

-- greater bounds
pub log_more : (r q e f : ℕ) (w : LogNow) → r ≤ q → e ≤ f → LogFits r e w → LogFits q f w
log_more r q e f w h k fit = record {
  segment = fit.segment;
  parts = fit.parts;
  pending = fit.pending;
  few = omega (arith, h, fit.few);
  rows = fit.rows;
  sent = omega (arith, k, fit.sent);
  kept = omega (arith, k, fit.kept);
  control = control_more e f w.mode k fit.control;
  members = fit.members;
  fenced = fit.fenced;
  last = fit.last;
}

-- a move with greater bounds
move_more : (r q e f : ℕ) (m : LogMove) → r ≤ q → e ≤ f → LogMoveFits r e m → LogMoveFits q f m
move_more r q e f m h k fit = record { now = log_more r q e f m.now h k fit.now; rows = fit.rows; letters = fit.letters }

-- a writer that stays as it is
stays_fit : (r e : ℕ) (w : LogNow) → LogFits r e w → LogMoveFits r e (stays w)
stays_fit r e w fit = record { now = fit; rows = tt; letters = tt }

-- records at their places
rows_at_fit : (segment entry slot : ℕ) (ps : List Pending) → IsU64 segment → IsU64 entry → slot + length ps ≤ most_u32
    → AllByRecursion IsPending ps → AllByRecursion IsRow (rows_at segment entry slot ps)
rows_at_fit segment entry slot [] s e few each = tt
rows_at_fit segment entry slot (p ∷ ps) s e few each =
    let here : slot ≤ most_u32 = omega arith in
    let more : suc slot + length ps ≤ most_u32 = omega arith in (
      record {
        place = (s, (e, (omega arith, here)));
        client = each.0.client;
        call = each.0.call;
        txid = each.0.txid;
        payload = each.0.payload;
      },
      rows_at_fit segment entry (suc slot) ps s e more each.1,
    )

-- the messages by which an entry is sent
add_letters_fit : {r e : ℕ} (w : LogNow) (bytes : List ℕ) → sent_count w ≤ most_u64 → IsBytes bytes → LogFits r e w
    → AllByRecursion ToldFits (add_letters w.ledger bytes)
unfolding add_letters
add_letters_fit w bytes few are fit =
    all-map IsBookie ToldFits _ (λ b is. (is, ((omega arith, few), are))) (members w.ledger.pieces (sent_count w)) (fit.members (sent_count w))

-- the entry under way is sent
parts_fit : (r e : ℕ) (w : LogNow) → r ≤ most_u32 → e ≤ most_u64 → LogFits r e w → LogMoveFits r (suc e) (sends_parts w)
unfolding sends_parts
parts_fit r e w h k fit = record {
  now = record {
    segment = fit.segment;
    parts = tt;
    pending = tt;
    few = omega arith;
    rows = all-last (AllByRecursion IsRow) w.entries (rows_due w) fit.rows
        (rows_at_fit w.segment (sent_count w) 0 w.pending fit.segment (omega arith, omega (arith, k, fit.sent)) (omega (arith, h, fit.few)) fit.pending);
    sent = omega (arith, fit.sent);
    kept = omega (arith, fit.kept, length-append w.entries (rows_due w ∷ []));
    control = control_more e (suc e) w.mode (omega arith) fit.control;
    members = fit.members;
    fenced = fit.fenced;
    last = fit.last;
  };
  rows = tt;
  letters = add_letters_fit w (entry_bytes w.parts) (omega (arith, k, fit.sent)) (entry_spelt w.parts fit.parts) fit;
}

-- the entry under way is sent, where there is one
flushes_fit : (r e : ℕ) (w : LogNow) → r ≤ most_u32 → e ≤ most_u64 → LogFits r e w → LogMoveFits r (suc e) (flushes w)
flushes_fit r e w h k fit =
    cond_both (LogMoveFits r (suc e)) (has_parts w) (sends_parts w) (stays w) (parts_fit r e w h k fit)
    (stays_fit r (suc e) w (log_more r r e (suc e) w (omega arith) (omega arith) fit))

-- room is made
room_fit : (r e size : ℕ) (w : LogNow) → r ≤ most_u32 → e ≤ most_u64 → LogFits r e w → LogMoveFits r (suc e) (makes_room w size)
room_fit r e size w h k fit =
    cond_both (LogMoveFits r (suc e)) (fits w size) (stays w) (sends_parts w)
    (stays_fit r (suc e) w (log_more r r e (suc e) w (omega arith) (omega arith) fit)) (parts_fit r e w h k fit)

-- a writer in a mode with as many entries due, or one more
mode_fit : (r e : ℕ) (w : LogNow) (mode : LogMode) → due mode ≤ 1 → ControlUpTo (suc e) mode → LogFits r e w → LogFits r (suc e) (in_mode mode w)
mode_fit r e w mode one control fit = record {
  segment = fit.segment;
  parts = fit.parts;
  pending = fit.pending;
  few = fit.few;
  rows = fit.rows;
  sent = omega (arith, fit.sent, one);
  kept = omega (arith, fit.kept, one);
  control = control;
  members = fit.members;
  fenced = fit.fenced;
  last = fit.last;
}

-- the control entry is sent that was due
control_fit : (r e : ℕ) (w : LogNow) → e ≤ most_u64 → w.mode ≡ Committing None → LogFits r e w → LogMoveFits r e (sends_control w)
unfolding sends_control
control_fit r e w k is fit =
    let one : due w.mode ≡ 1 = ap due is in
    record {
      now = record {
        segment = fit.segment;
        parts = fit.parts;
        pending = fit.pending;
        few = fit.few;
        rows = all-last (AllByRecursion IsRow) w.entries [] fit.rows tt;
        sent = omega (arith, fit.sent, one);
        kept = omega (arith, fit.kept, one, length-append w.entries ([] ∷ []));
        control = omega (arith, fit.sent, one);
        members = fit.members;
        fenced = fit.fenced;
        last = fit.last;
      };
      rows = tt;
      letters = add_letters_fit w (control_bytes w) (omega (arith, k, fit.sent)) (entry_spelt (Control w.rows_sent w.last_sent ∷ []) (tt, tt)) fit;
    }

-- a commit that has its control entry confirmed
committed_fit : (r e n : ℕ) (w : LogNow) → w.mode ≡ Committing (Some n) → LogFits r e w → LogFits r e (record w { mode = Committed n })
committed_fit r e n w is fit = record {
  segment = fit.segment;
  parts = fit.parts;
  pending = fit.pending;
  few = fit.few;
  rows = fit.rows;
  sent = omega (arith, fit.sent);
  kept = omega (arith, fit.kept);
  control = subst (ControlUpTo e) is fit.control;
  members = fit.members;
  fenced = fit.fenced;
  last = fit.last;
}

-- a close that may be made
closable_fit : (r e : ℕ) (w : LogNow) → LogFits r e w → LogFits r e (record w { mode = Closable })
closable_fit r e w fit = record {
  segment = fit.segment;
  parts = fit.parts;
  pending = fit.pending;
  few = fit.few;
  rows = fit.rows;
  sent = omega (arith, fit.sent);
  kept = omega (arith, fit.kept);
  control = tt;
  members = fit.members;
  fenced = fit.fenced;
  last = fit.last;
}

-- the next step of a mode
next_fit : (r e : ℕ) (w : LogNow) (mode : LogMode) → e ≤ most_u64 → w.mode ≡ mode → LogFits r e w → LogMoveFits r e (mode_goes_on w mode)
next_fit r e w (Committing None) k is fit =
    cond_both (LogMoveFits r e) (all_confirmed w) (sends_control w) (stays w) (control_fit r e w k is fit) (stays_fit r e w fit)
next_fit r e w (Committing (Some n)) k is fit =
    cond_both (LogMoveFits r e) _ (stays (record w { mode = Committed n })) (stays w)
    (stays_fit r e _ (committed_fit r e n w is fit)) (stays_fit r e w fit)
next_fit r e w Closing k is fit =
    cond_both (LogMoveFits r e) (all_confirmed w) (stays (record w { mode = Closable })) (stays w)
    (stays_fit r e _ (closable_fit r e w fit)) (stays_fit r e w fit)
next_fit r e w Open k is fit = stays_fit r e w fit
next_fit r e w (Committed n) k is fit = stays_fit r e w fit
next_fit r e w Closable k is fit = stays_fit r e w fit

-- a writer goes on, where it isn't fenced
on_fit : (r e : ℕ) (w : LogNow) → e ≤ most_u64 → LogFits r e w → LogMoveFits r e (goes_on w)
unfolding goes_on
on_fit r e w k fit =
    cond_both (LogMoveFits r e) (is_some (fenced_at w)) (stays w) (mode_goes_on w w.mode) (stays_fit r e w fit) (next_fit r e w w.mode k refl fit)

-- a writer goes on after a move
then_fit : (r e : ℕ) (m : LogMove) → e ≤ most_u64 → LogMoveFits r e m → LogMoveFits r e (then_goes_on m)
then_fit r e m k fit =
    let next = on_fit r e m.now k fit.now in
    record {
      now = next.now;
      rows = all-append IsRow m.rows (goes_on m.now).rows fit.rows next.rows;
      letters = all-append ToldFits m.letters (goes_on m.now).letters fit.letters next.letters;
    }

-- a call that may be refused
unless_fit : (r e : ℕ) (why : Option Refusal) (m : LogMove) → AllSome IsRefusal why → LogMoveFits r e m → CallFits r e (unless why m)
unless_fit r e None m is fit = fit
unless_fit r e (Some why) m is fit = is

-- ---- refusals

-- a close has begun, or the ledger is fenced
writer_fault_fits : (closing : Bool) (fenced : Option ℕ) → AllSome IsBookie fenced → AllSome IsRefusal (writer_fault closing fenced)
writer_fault_fits true fenced is = tt
writer_fault_fits false (Some b) is = is
writer_fault_fits false None is = tt

-- a first fault, or else the second one
or_fault_fits : (x y : Option Refusal) → AllSome IsRefusal x → AllSome IsRefusal y → AllSome IsRefusal (or_fault x y)
or_fault_fits (Some why) y a b = a
or_fault_fits None y a b = b

-- a fault where a test holds
fault_if_fits : (t : Bool) (why : Refusal) → IsRefusal why → AllSome IsRefusal (fault_if t why)
fault_if_fits true why is = is
fault_if_fits false why is = tt

-- why a call that sends an entry is refused
send_fault_fits : (r e : ℕ) (w : LogNow) (due : Bool) → LogFits r e w → AllSome IsRefusal (send_fault w due)
send_fault_fits r e w due fit =
    or_fault_fits (writer_fault (is_closing w.mode) (fenced_at w)) (fault_if (due && is_window_full w) refused.WindowFull)
    (writer_fault_fits (is_closing w.mode) (fenced_at w) fit.fenced) (fault_if_fits (due && is_window_full w) refused.WindowFull tt)

-- why a record is refused
take_fault_fits : (r e : ℕ) (w : LogNow) (size txid : ℕ) → size ≤ most_u64 → IsTxid txid → LogFits r e w → AllSome IsRefusal (take_fault w size txid)
take_fault_fits r e w size txid small id fit =
    let long : Option Refusal = fault_if (nat_lt longest_payload size) (refused.TooLong size) in
    let back : Option Refusal = fault_if (nat_lt txid w.last_taken) (refused.TxidBack w.last_taken txid) in
    let full : Option Refusal = fault_if (not (log.fits w size) && is_window_full w) refused.WindowFull in
    or_fault_fits (writer_fault (is_closing w.mode) (fenced_at w)) (or_fault long (or_fault back full))
    (writer_fault_fits (is_closing w.mode) (fenced_at w) fit.fenced)
    (or_fault_fits long (or_fault back full) (fault_if_fits (nat_lt longest_payload size) (refused.TooLong size) (omega arith, small))
    (or_fault_fits back full (fault_if_fits (nat_lt txid w.last_taken) (refused.TxidBack w.last_taken txid) (fit.last, id))
    (fault_if_fits (not (log.fits w size) && is_window_full w) refused.WindowFull tt)))

-- ---- calls

-- the records of a call
pub pending_fit : (o : Origin) (txid : ℕ) (payloads : List (List ℕ)) → IsClient o.client → IsTxid txid → o.call + length payloads ≤ suc most_u32
    → AllByRecursion AllBytes payloads → AllByRecursion IsPending (pending_from o txid payloads)
pending_fit o txid [] c t few each = tt
pending_fit o txid (p ∷ ps) c t few each =
    let here : o.call ≤ most_u32 = omega arith in
    let more : (o.call + 1) + length ps ≤ suc most_u32 = omega arith in (
      record { client = c; call = (omega arith, here); txid = t; payload = each.0 },
      pending_fit (record o { call = o.call + 1 }) txid ps c t more each.1,
    )

-- a call but hearing ends the notice of a commit, and changes nothing else
past_due : (mode : LogMode) → due (past_commit mode) ≡ due mode
past_due Open = refl
past_due (Committing None) = refl
past_due (Committing (Some n)) = refl
past_due (Committed n) = refl
past_due Closing = refl
past_due Closable = refl

-- the same of the number of a control entry
past_control : (e : ℕ) (mode : LogMode) → ControlUpTo e mode → ControlUpTo e (past_commit mode)
past_control e Open c = tt
past_control e (Committing None) c = tt
past_control e (Committing (Some n)) c = c
past_control e (Committed n) c = tt
past_control e Closing c = tt
past_control e Closable c = tt

-- how many records a call has
pending_length : (o : Origin) (txid : ℕ) (payloads : List (List ℕ)) → length (pending_from o txid payloads) ≡ length payloads
pending_length o txid [] = refl
pending_length o txid (p ∷ ps) = ap suc (pending_length (record o { call = o.call + 1 }) txid ps)

-- records are taken behind what is sent first
behind_fit : (r e k : ℕ) (m : LogMove) (txid : ℕ) (part : ℕ → Stored) (ps : List Pending) → ((position : ℕ) → StoredFits (part position))
    → length ps ≤ k → AllByRecursion IsPending ps → IsTxid txid
    → LogMoveFits r e m → LogMoveFits (r + k) e (takes_behind m txid part ps)
behind_fit r e k m txid part ps stored few each id fit = record {
  now = record {
    segment = fit.now.segment;
    parts = all-last StoredFits m.now.parts (part (log.next_position m.now)) fit.now.parts (stored (log.next_position m.now));
    pending = all-append IsPending m.now.pending ps fit.now.pending each;
    few = omega (arith, length-append m.now.pending ps, fit.now.few, few);
    rows = fit.now.rows;
    sent = omega (arith, fit.now.sent, past_due m.now.mode);
    kept = omega (arith, fit.now.kept, past_due m.now.mode);
    control = past_control e m.now.mode fit.now.control;
    members = fit.now.members;
    fenced = fit.now.fenced;
    last = id;
  };
  rows = fit.rows;
  letters = fit.letters;
}

-- the bookie that fenced a writer, behind a message more
fence_fits : (first : Option ℕ) (t : Bool) (b : ℕ) → IsBookie b → AllSome IsBookie first → AllSome IsBookie (or_else first (cond t (Some b) None))
fence_fits (Some b) t c from is = is
fence_fits None true b from is = from
fence_fits None false b from is = tt

-- a writer that has heard something
heard_fit : (r e : ℕ) (w : LogNow) (b : ℕ) (m : Msg) → IsBookie b → LogFits r e w → LogMoveFits r e (heard_by w b m)
heard_fit r e w b m from fit =
    let after : LogNow = (heard_by w b m).now in
    let low : ℕ = confirmed_count w in
    let high : ℕ = confirmed_count after in
    record {
      now = record {
        segment = fit.segment;
        parts = fit.parts;
        pending = fit.pending;
        few = fit.few;
        rows = fit.rows;
        sent = omega (arith, fit.sent);
        kept = omega (arith, fit.kept);
        control = fit.control;
        members = fit.members;
        fenced = fence_fits (first_fence w.ledger.ledger w.ledger.calls) (is_add_fenced w.ledger.ledger m) b from fit.fenced;
        last = fit.last;
      };
      letters = tt;
      rows = all-flat (AllByRecursion IsRow) IsRow (λ rows. rows) (λ rows each. each) (take (high - low) (drop low w.entries))
          (all-take (AllByRecursion IsRow) (high - low) (drop low w.entries) (all-drop (AllByRecursion IsRow) low w.entries fit.rows));
    }

-- a message of a bookie
pub hears_fit : (r e : ℕ) (w : LogNow) (b : ℕ) (m : Msg) → e ≤ most_u64 → IsBookie b → LogFits r e w → LogMoveFits r e (log_hears w b m)
unfolding log_hears
hears_fit r e w b m k from fit = then_fit r e (heard_by w b m) k (heard_fit r e w b m from fit)

-- The records of an append or of a set, where the last of their numbers has 32 bits.
pub record IsTaken (o : Origin) (txid : ℕ) (payloads : List (List ℕ)) : Type 0 where
  pub client : IsClient o.client
  pub id : IsTxid txid
  pub calls : o.call + length payloads ≤ suc most_u32
  pub bytes : AllByRecursion AllBytes payloads
  pub few : length payloads ≤ set_most
  pub size : set_size payloads ≤ most_u64

-- records that are taken behind room that is made
taken_fit : (r e size : ℕ) (w : LogNow) (o : Origin) (txid : ℕ) (payloads : List (List ℕ)) (part : ℕ → Stored) → ((position : ℕ) → StoredFits (part position))
    → r ≤ most_u32 → suc e ≤ most_u64
    → IsTaken o txid payloads → LogFits r e w
    → LogMoveFits (r + set_most) (suc (suc e)) (takes_behind (makes_room w size) txid part (pending_from o txid payloads))
taken_fit r e size w o txid payloads part stored h k is fit =
    move_more (r + set_most) (r + set_most) (suc e) (suc (suc e)) _ (omega arith) (omega arith)
    (behind_fit r (suc e) set_most (makes_room w size) txid part (pending_from o txid payloads) stored
    (omega (arith, is.few, pending_length o txid payloads)) (pending_fit o txid payloads is.client is.id is.calls is.bytes) is.id
    (room_fit r e size w h (omega (arith, k)) fit))

-- a record
pub appends_fit : (r e : ℕ) (w : LogNow) (o : Origin) (txid : ℕ) (payload : List ℕ) → r ≤ most_u32 → suc e ≤ most_u64
    → IsTaken o txid (payload ∷ []) → LogFits r e w → CallFits (r + set_most) (suc (suc e)) (appends w o txid payload)
unfolding appends
appends_fit r e w o txid payload h k is fit =
    unless_fit (r + set_most) (suc (suc e)) (take_fault w (length payload) txid) _
    (take_fault_fits r e w (length payload) txid (omega (arith, is.size)) is.id fit)
    (taken_fit r e (length payload) w o txid (payload ∷ []) (λ position. Plain position txid payload) (λ position. is.bytes.0) h k is fit)

-- a set of records
pub sets_fit : (r e : ℕ) (w : LogNow) (o : Origin) (txid : ℕ) (payloads : List (List ℕ)) → r ≤ most_u32 → suc e ≤ most_u64
    → IsTaken o txid payloads → LogFits r e w → CallFits (r + set_most) (suc (suc e)) (appends_set w o txid payloads)
unfolding appends_set
sets_fit r e w o txid payloads h k is fit =
    unless_fit (r + set_most) (suc (suc e)) (take_fault w (set_size payloads) txid) _ (take_fault_fits r e w (set_size payloads) txid is.size is.id fit)
    (taken_fit r e (set_size payloads) w o txid payloads (λ position. Set position txid payloads) (λ position. is.bytes) h k is fit)

-- what is under way is sent in another mode
sent_fit : (r e : ℕ) (w : LogNow) (mode : LogMode) → due mode ≤ 1 → ControlUpTo (suc e) mode → r ≤ most_u32 → suc e ≤ most_u64
    → LogFits r e w → LogMoveFits (r + set_most) (suc (suc e)) (flushes (in_mode mode w))
sent_fit r e w mode one control h k fit =
    move_more r (r + set_most) (suc (suc e)) (suc (suc e)) _ (omega arith) (omega arith)
    (flushes_fit r (suc e) (in_mode mode w) h k (mode_fit r e w mode one control fit))

-- a mode has at most one entry due
due_most : (mode : LogMode) → due mode ≤ 1
due_most Open = omega arith
due_most (Committing None) = omega arith
due_most (Committing (Some n)) = omega arith
due_most (Committed n) = omega arith
due_most Closing = omega arith
due_most Closable = omega arith

-- a flush leaves as many entries due as there were
kept_fit : (r e : ℕ) (w : LogNow) → LogFits r e w → LogFits r e (in_mode (past_commit w.mode) w)
kept_fit r e w fit = record {
  segment = fit.segment;
  parts = fit.parts;
  pending = fit.pending;
  few = fit.few;
  rows = fit.rows;
  sent = omega (arith, fit.sent, past_due w.mode);
  kept = omega (arith, fit.kept, past_due w.mode);
  control = past_control e w.mode fit.control;
  members = fit.members;
  fenced = fit.fenced;
  last = fit.last;
}

-- a flush
pub flush_fit : (r e : ℕ) (w : LogNow) → r ≤ most_u32 → suc e ≤ most_u64 → LogFits r e w → CallFits (r + set_most) (suc (suc e)) (log_flushes w)
unfolding log_flushes
flush_fit r e w h k fit =
    unless_fit (r + set_most) (suc (suc e)) (send_fault w (has_parts w)) _ (send_fault_fits r e w (has_parts w) fit)
    (move_more r (r + set_most) (suc e) (suc (suc e)) _ (omega arith) (omega arith)
    (flushes_fit r e (in_mode (past_commit w.mode) w) h (omega (arith, k)) (kept_fit r e w fit)))

-- a commit
pub commit_fit : (r e : ℕ) (w : LogNow) → r ≤ most_u32 → suc (suc e) ≤ most_u64 → LogFits r e w → CallFits (r + set_most) (suc (suc e)) (commits w)
unfolding commits
commit_fit r e w h room fit =
    let k : suc e ≤ most_u64 = omega (arith, room) in
    unless_fit (r + set_most) (suc (suc e)) (send_fault w (has_parts w)) _ (send_fault_fits r e w (has_parts w) fit)
    (then_fit (r + set_most) (suc (suc e)) (flushes (in_mode (Committing None) w)) room (sent_fit r e w (Committing None) (omega arith) tt h k fit))

-- a close
pub close_fit : (r e : ℕ) (w : LogNow) → r ≤ most_u32 → suc (suc e) ≤ most_u64 → LogFits r e w → CallFits (r + set_most) (suc (suc e)) (closes w)
unfolding closes
close_fit r e w h room fit =
    let k : suc e ≤ most_u64 = omega (arith, room) in
    unless_fit (r + set_most) (suc (suc e)) (send_fault w (has_parts w)) _ (send_fault_fits r e w (has_parts w) fit)
    (then_fit (r + set_most) (suc (suc e)) (flushes (in_mode Closing w)) room (sent_fit r e w Closing (omega arith) tt h k fit))

-- a call leaves what it says, or the writer as it was
same_fit : (r e : ℕ) (w : LogNow) (result : Result LogMove Refusal) → LogFits r e w → CallFits (r + set_most) (suc (suc e)) result
    → LogFits (r + set_most) (suc (suc e)) (or_same w result)
same_fit r e w (Ok m) fit call = call.now
same_fit r e w (Err why) fit call = log_more r (r + set_most) e (suc (suc e)) w (omega arith) (omega arith) fit

-- the values of a call are such as a line may have
abbrev pub IsCall : LogCall → Type 0
IsCall (Appends o txid payload) = IsTaken o txid (payload ∷ [])
IsCall (AppendsSet o txid payloads) = IsTaken o txid payloads
IsCall Flushes = Unit {0}
IsCall Commits = Unit {0}
IsCall Closes = Unit {0}
IsCall (HearsFrom b m) = IsBookie b

-- a writer after a call
pub called_fit : (r e : ℕ) (w : LogNow) (call : LogCall) → r ≤ most_u32 → suc (suc e) ≤ most_u64 → IsCall call → LogFits r e w
    → LogFits (r + set_most) (suc (suc e)) (after_log_call w call)
unfolding after_log_call
called_fit r e w (Appends o txid payload) h k is fit =
    same_fit r e w (appends w o txid payload) fit (appends_fit r e w o txid payload h (omega (arith, k)) is fit)
called_fit r e w (AppendsSet o txid payloads) h k is fit =
    same_fit r e w (appends_set w o txid payloads) fit (sets_fit r e w o txid payloads h (omega (arith, k)) is fit)
called_fit r e w Flushes h k is fit = same_fit r e w (log_flushes w) fit (flush_fit r e w h (omega (arith, k)) fit)
called_fit r e w Commits h k is fit = same_fit r e w (commits w) fit (commit_fit r e w h k fit)
called_fit r e w Closes h k is fit = same_fit r e w (closes w) fit (close_fit r e w h k fit)
called_fit r e w (HearsFrom b m) h k is fit =
    log_more r (r + set_most) e (suc (suc e)) _ (omega arith) (omega arith) (hears_fit r e w b m (omega (arith, k)) is fit).now

-- a writer after a message of a bookie
pub told_fit : (r e : ℕ) (w : LogNow) (b : ℕ) (m : Msg) → e ≤ most_u64 → IsBookie b → LogFits r e w → LogFits r e (after_log_call w (HearsFrom b m))
unfolding after_log_call
told_fit r e w b m k from fit = (hears_fit r e w b m k from fit).now

-- a writer that was given no call yet
pub started_fit : (r e : ℕ) (x : LogArgs) → IsU64 x.segment → IsTxid x.last
    → ((entry : ℕ) → AllByRecursion IsBookie (members x.pieces entry)) → LogFits r e (log_started x)
started_fit r e x is id members = record {
  segment = is;
  parts = tt;
  pending = tt;
  few = omega arith;
  rows = tt;
  sent = omega arith;
  kept = omega arith;
  control = tt;
  members = members;
  fenced = tt;
  last = id;
}

-- the number of a control entry that a writer tells
abbrev pub ToldUpTo : ℕ → LogState → Type 0
ToldUpTo most (HasCommitted n) = n ≤ most
ToldUpTo most IsOpen = Unit {0}
ToldUpTo most IsCommitting = Unit {0}
ToldUpTo most IsClosing = Unit {0}
ToldUpTo most (MayClose entries rows last) = Unit {0}
ToldUpTo most (IsFenced bookie) = IsBookie bookie

-- what a writer tells by its mode
told_by : (e : ℕ) (w : LogNow) (mode : LogMode) (fenced : Option ℕ) → AllSome IsBookie fenced → ControlUpTo e mode → ToldUpTo e (state_by w mode fenced)
told_by e w Closable fenced is c = tt
told_by e w Open (Some b) is c = is
told_by e w (Committing n) (Some b) is c = is
told_by e w (Committed n) (Some b) is c = is
told_by e w Closing (Some b) is c = is
told_by e w Open None is c = tt
told_by e w (Committing n) None is c = tt
told_by e w (Committed n) None is c = c
told_by e w Closing None is c = tt

-- what a writer tells
pub state_fit : (r e : ℕ) (w : LogNow) → LogFits r e w → ToldUpTo e (log_state w)
unfolding log_state
state_fit r e w fit = told_by e w w.mode (fenced_at w) fit.fenced fit.control

-- an entry that was sent
pub record EntryFits (x : SentEntry) : Type 0 where
  pub entry : IsU64 x.entry
  pub rows : AllByRecursion IsRow x.rows

-- the last of entries
last_fit : (n : ℕ) (entries : List (List Row)) → n + length entries ≤ most_u64 → AllByRecursion (AllByRecursion IsRow) entries
    → AllSome EntryFits (last_behind n entries)
last_fit n [] few each = tt
last_fit n (rows ∷ []) few each = record { entry = (omega arith, omega arith); rows = each.0 }
last_fit n (rows ∷ more ∷ others) few each =
    let next : suc n + length (more ∷ others) ≤ most_u64 = omega arith in
    last_fit (suc n) (more ∷ others) next each.1

-- the entry that was sent last
pub last_entry_fit : (r e : ℕ) (w : LogNow) → e ≤ most_u64 → LogFits r e w → AllSome EntryFits (last_sent_entry w)
last_entry_fit r e w k fit =
    let few : 0 + length w.entries ≤ most_u64 = omega (arith, k, fit.kept) in
    last_fit 0 w.entries few fit.rows
