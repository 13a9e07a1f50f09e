-- What is kept stands for what the rule says, move by move.
use Rattle.std.proofs.Common.{◌≡◌, ℕ, suc, ◌+◌, ◌-◌, ◌≤◌, ◌<◌, Bool, true, false, cond, not, ◌&&◌, ◌==◌, leb, ltb, eqb, Option, Some, None, List, [], ◌∷◌}
use Rattle.std.proofs.Common.{◌++◌, length, map, take, drop, refl, sym, ap, ap₂, ◌∙◌, subst, arith, length-append, add-zero, append_assoc, Result, Ok, Err}
use Rattle.std.specs.Prelude.{is_some}
use Rattle.std.specs.List.{flat_map}
use Rattle.std.proofs.lemmas.List.{map-append, append-nil, drop-append-le, drop-drop, drop-map, take-map}
use Rattle.std.proofs.lemmas.Bool.{ne_eqb}
use Rattle.dl_types.specs.declared.row.Row.{Row}
use Rattle.dl_types.specs.declared.refusal.Refusal.{Refusal}
use Rattle.dl_types.specs.declared.refusal.Refusal.TheVariants as refused
use Rattle.dl_record.specs.declared.stored.Stored.{Stored}
use Rattle.dl_record.specs.declared.stored.Stored.TheVariants.{Control}
use Rattle.dl_record.specs.Stored.{txid_of}
use Rattle.dl_record.specs.Grammar.{entry_bytes}
use Rattle.dl_msg.specs.declared.msg.Msg.{Msg}
use Rattle.dl_msg.specs.declared.letters.Told.{Told}
use Rattle.dl_rules_ledger.specs.declared.window.TheConstants.{WINDOW}
use Rattle.dl_rules_ledger.specs.Writers.{Sends, Hears, with_call, add_letters}
use Rattle.dl_rules_stream.specs.LogWriters as rule
use Rattle.dl_rules_stream.specs.LogWriters.{LogNow, LogMove, LogMode, Pending, stays, rows_at, rows_due, sends_parts, sends_control, flushes, goes_on}
use Rattle.dl_rules_stream.specs.LogWriters.{mode_goes_on, in_mode, has_parts, then_goes_on, past_commit, takes_behind, takes_part, next_position}
use Rattle.dl_rules_stream.specs.LogWriters.{makes_room, fits, take_fault, send_fault, unless, rows_between, heard_by, confirmed_count, sent_count}
use Rattle.dl_rules_stream.specs.LogWriters.{fenced_at, all_confirmed, last_behind, is_closing, or_fault, writer_fault, fault_if, last_sent_entry}
use Rattle.dl_lwrite.specs.Facts.{WriterFacts}
use Rattle.dl_lwrite.specs.Steps.{HasSent}
use Rattle.dl_lwrite.specs.Standing as lwrite
use Rattle.dl_writer.specs.declared.mode.Mode.{Mode}
use Rattle.dl_writer.specs.declared.mode.Mode.TheVariants as kept
use Rattle.dl_writer.specs.declared.going.Going.TheVariants.{Turns, SendsControl}
use Rattle.dl_writer.specs.Modes.{log_mode, past_notice}
use Rattle.dl_writer.specs.Facts.{DraftFacts, LogFacts}
use Rattle.dl_writer.specs.Drafts.{empty_draft, with_part, fits_parts}
use Rattle.dl_writer.specs.Going.{going_by, going_if, going}
use Rattle.dl_writer.specs.Sending.{row_spot, SendsOn}
use Rattle.dl_writer.specs.Refusals.{call_fault, record_fault, is_full_in, send_fault_in, take_fault_in}
use Rattle.dl_writer.specs.Moves.{draft_rows, SendsDraft, IsControl, IsQuiet, GoesBy, IsAhead, TakesBy, IsEnding}
use Rattle.dl_writer.specs.Views.{entry_of, spots, NowStands, IsMove}

-- ---- lists of entries

-- the last of entries with one more is that one
last_behind-push : (n : ℕ) (entries : List (List Row)) (rows : List Row)
    → last_behind n (entries ++ rows ∷ []) ≡ Some (record { entry = n + length entries; rows = rows })
last_behind-push n [] rows = ap (λ (k : ℕ). Some (record { entry = k; rows = rows })) (sym (add-zero n))
last_behind-push n (x ∷ []) rows = ap (λ (k : ℕ). Some (record { entry = k; rows = rows })) (omega arith)
last_behind-push n (x ∷ y ∷ ys) rows =
    last_behind-push (suc n) (y ∷ ys) rows ∙ ap (λ (k : ℕ). Some (record { entry = k; rows = rows })) (omega arith)

-- one entry more waits behind those that do
spots-push : (n : ℕ) (entries : List (List Row)) (rows : List Row) → n ≤ length entries
    → spots (drop n (entries ++ rows ∷ [])) ≡ spots (drop n entries) ++ map row_spot rows ∷ []
spots-push n entries rows le =
    ap spots (drop-append-le n entries (rows ∷ []) le) ∙ map-append (λ rows. map row_spot rows) (drop n entries) (rows ∷ [])

-- the spots of entries joined are those of their rows joined
flat-spots : (entries : List (List Row)) → flat_map (λ x. x) (spots entries) ≡ map row_spot (flat_map (λ rows. rows) entries)
flat-spots [] = refl
flat-spots (rows ∷ entries) =
    ap (λ l. map row_spot rows ++ l) (flat-spots entries) ∙ sym (map-append row_spot rows (flat_map (λ rows. rows) entries))

-- ---- modes

-- the notice of a commit ends so
pub past_is : (m : Mode) → log_mode (past_notice m) ≡ past_commit (log_mode m)
past_is kept.Open = refl
past_is kept.Awaiting = refl
past_is (kept.Committing control) = refl
past_is (kept.Committed control) = refl
past_is kept.Closing = refl
past_is kept.Closable = refl

-- nothing is confirmed by going on
rows_in_mode : (w : LogNow) (m : LogMode) → (mode_goes_on w m).rows ≡ []
unfolding sends_control
rows_in_mode w (rule.Committing None) = elim (all_confirmed w) as (λ t. (cond t (sends_control w) (stays w)).rows ≡ []) [ true ↦ refl | false ↦ refl ]
rows_in_mode w (rule.Committing (Some n)) =
    elim (ltb n (confirmed_count w)) as (λ t. (cond t (stays (record w { mode = rule.Committed n })) (stays w)).rows ≡ []) [ true ↦ refl | false ↦ refl ]
rows_in_mode w rule.Closing =
    elim (all_confirmed w) as (λ t. (cond t (stays (record w { mode = rule.Closable })) (stays w)).rows ≡ []) [ true ↦ refl | false ↦ refl ]
rows_in_mode w rule.Open = refl
rows_in_mode w (rule.Committed n) = refl
rows_in_mode w rule.Closable = refl

-- the same, fenced or not
pub goes_on-rows : (w : LogNow) → (goes_on w).rows ≡ []
unfolding goes_on
goes_on-rows w = elim (is_some (fenced_at w)) as (λ t. (cond t (stays w) (mode_goes_on w w.mode)).rows ≡ []) [ true ↦ refl | false ↦ rows_in_mode w w.mode ]

module _ (w : LogNow) (f : LogFacts) (h : NowStands w f) where
  -- it stands for the rule in any mode
  pub in_mode_stands : (m : Mode) → NowStands (in_mode (log_mode m) w) (record f { mode = m })
  in_mode_stands m = record {
    segment = h.segment;
    ledger = h.ledger;
    parts = h.parts;
    pending = h.pending;
    last_taken = h.last_taken;
    entries = h.entries;
    waiting = h.waiting;
    last = h.last;
    rows_sent = h.rows_sent;
    last_sent = h.last_sent;
    mode = refl;
  }

  -- nothing is told in a mode
  pub quiet : (m : Mode) (told : List Told) (new : LogFacts) → IsQuiet (record f { mode = m }) told new → IsMove (stays (in_mode (log_mode m) w)) told new
  quiet m told new q = record { told = q.letters; stands = subst (NowStands (in_mode (log_mode m) w)) (sym q.now) (in_mode_stands m) }

  -- ---- one entry more

  module _ (ledger : WriterFacts) (counts : HasSent f.ledger ledger) (rows : List Row) where
    entries_more : length (w.entries ++ rows ∷ []) ≡ ledger.sent
    entries_more = omega (arith, length-append w.entries (rows ∷ []), h.entries, counts.sent)

    waiting_more : f.waiting ++ map row_spot rows ∷ [] ≡ spots (drop ledger.confirmed (w.entries ++ rows ∷ []))
    waiting_more =
        ap (λ l. l ++ map row_spot rows ∷ []) h.waiting ∙ sym (spots-push f.ledger.confirmed w.entries rows (omega (arith, counts.below, h.entries)))
        ∙ ap (λ n. spots (drop n (w.entries ++ rows ∷ []))) (sym counts.confirmed)

    last_more : Some (record { entry = f.ledger.sent; rows = rows }) ≡ last_behind 0 (w.entries ++ rows ∷ [])
    last_more =
        ap (λ (n : ℕ). Some (record { entry = n; rows = rows })) (omega (arith, h.entries)) ∙ sym (last_behind-push 0 w.entries rows)

  -- the rows of the entry under way are the rule's
  due_is : draft_rows f ≡ rows_due w
  due_is =
      ap (λ s. rows_at s f.ledger.sent 0 f.draft.pending) h.segment ∙ ap (λ n. rows_at w.segment n 0 f.draft.pending) h.ledger.sent
      ∙ ap (rows_at w.segment (sent_count w) 0) h.pending

  module _ (next : DraftFacts) (mode : Mode) (told : List Told) (new : LogFacts) (s : SendsDraft f next mode told new) where
    -- the messages are the rule's
    pub letters_are : told ≡ (sends_parts w).letters
    unfolding sends_parts
    letters_are = (s.ledger.sends w.ledger h.ledger).letters ∙ ap (λ parts. add_letters w.ledger (entry_bytes parts)) h.parts

    -- it stands for the rule with the next entry
    pub sent_stands : (taken : ℕ) (parts : List Stored) (pending : List Pending) (m : LogMode) → next.last ≡ taken → next.parts ≡ parts
        → next.pending ≡ pending → log_mode mode ≡ m
        → NowStands (record (sends_parts w).now { last_taken = taken; parts = parts; pending = pending; mode = m }) new
    unfolding sends_parts
    sent_stands taken parts pending m t p r e = record {
      segment = s.segment ∙ h.segment;
      ledger = subst (λ ps. lwrite.StandsFor (with_call w.ledger (Sends (entry_bytes ps))) new.ledger) h.parts
          (s.ledger.sends w.ledger h.ledger).stands;
      parts = ap (λ (d : DraftFacts). d.parts) s.draft ∙ p;
      pending = ap (λ (d : DraftFacts). d.pending) s.draft ∙ r;
      last_taken = ap (λ (d : DraftFacts). d.last) s.draft ∙ t;
      entries = entries_more new.ledger s.ledger.counts (rows_due w);
      waiting = s.waiting ∙ ap (λ rows. f.waiting ++ map row_spot rows ∷ []) due_is ∙ waiting_more new.ledger s.ledger.counts (rows_due w);
      last = ap entry_of s.last ∙ ap (λ rows. Some (record { entry = f.ledger.sent; rows = rows })) due_is
          ∙ last_more new.ledger s.ledger.counts (rows_due w);
      rows_sent = s.rows_sent ∙ ap₂ (λ (m n : ℕ). m + n) h.rows_sent (ap length h.pending);
      last_sent = s.last_sent ∙ h.last_taken;
      mode = ap log_mode s.mode_is ∙ e;
    }

  -- a control entry is the rule's, in whatever mode it is due
  pub control : (m : Mode) (told : List Told) (new : LogFacts) → IsControl (record f { mode = m }) told new
      → IsMove (sends_control (in_mode (log_mode m) w)) told new
  unfolding sends_control
  control m told new s =
      let bytes : entry_bytes (Control f.rows_sent f.last_sent ∷ []) ≡ entry_bytes (Control w.rows_sent w.last_sent ∷ []) =
      ap₂ (λ (n t : ℕ). entry_bytes (Control n t ∷ [])) h.rows_sent h.last_sent in
      record {
        told = (s.ledger.sends w.ledger h.ledger).letters ∙ ap (add_letters w.ledger) bytes;
        stands = record {
          segment = s.segment ∙ h.segment;
          ledger = subst (λ b. lwrite.StandsFor (with_call w.ledger (Sends b)) new.ledger) bytes
              (s.ledger.sends w.ledger h.ledger).stands;
          parts = ap (λ (d : DraftFacts). d.parts) s.draft ∙ h.parts;
          pending = ap (λ (d : DraftFacts). d.pending) s.draft ∙ h.pending;
          last_taken = ap (λ (d : DraftFacts). d.last) s.draft ∙ h.last_taken;
          entries = entries_more new.ledger s.ledger.counts [];
          waiting = s.waiting ∙ waiting_more new.ledger s.ledger.counts [];
          last = ap entry_of s.last ∙ last_more new.ledger s.ledger.counts [];
          rows_sent = s.rows_sent ∙ h.rows_sent;
          last_sent = s.last_sent ∙ h.last_sent;
          mode = ap log_mode s.mode_is ∙ ap (λ n. rule.Committing (Some n)) h.ledger.sent;
        };
      }

  -- ---- going on

  module _ (told : List Told) (new : LogFacts) where
    -- a commit that waits
    awaiting : (t : Bool) → GoesBy (cond t SendsControl (Turns kept.Awaiting)) (record f { mode = kept.Awaiting }) told new
        → IsMove (cond t (sends_control (in_mode (log_mode kept.Awaiting) w)) (stays (in_mode (log_mode kept.Awaiting) w))) told new
    awaiting true g = control kept.Awaiting told new g
    awaiting false g = quiet kept.Awaiting told new g

    -- a mode that turns into another
    turning : (m other : Mode) (t : Bool) → GoesBy (going_if t other m) (record f { mode = m }) told new
        → IsMove (cond t (stays (in_mode (log_mode other) w)) (stays (in_mode (log_mode m) w))) told new
    turning m other true g = quiet other told new g
    turning m other false g = quiet m told new g

    -- whether all is confirmed is what the rule says
    all_is : (f.ledger.confirmed == f.ledger.sent) ≡ all_confirmed w
    all_is = ap₂ eqb h.ledger.confirmed h.ledger.sent

    -- a mode goes on by the rule
    by_mode : (m : Mode) → GoesBy (going_by false (f.ledger.confirmed == f.ledger.sent) f.ledger.confirmed m) (record f { mode = m }) told new
        → IsMove (mode_goes_on (in_mode (log_mode m) w) (log_mode m)) told new
    by_mode kept.Open g = quiet kept.Open told new g
    by_mode kept.Awaiting g =
        subst (λ t. IsMove (cond t (sends_control (in_mode (rule.Committing None) w)) (stays (in_mode (rule.Committing None) w))) told new) all_is
        (awaiting (f.ledger.confirmed == f.ledger.sent) g)
    by_mode (kept.Committing n) g =
        subst (λ c. IsMove (cond (ltb n c) (stays (in_mode (rule.Committed n) w)) (stays (in_mode (rule.Committing (Some n)) w))) told new)
        h.ledger.confirmed
        (turning (kept.Committing n) (kept.Committed n) (ltb n f.ledger.confirmed) g)
    by_mode (kept.Committed n) g = quiet (kept.Committed n) told new g
    by_mode kept.Closing g =
        subst (λ t. IsMove (cond t (stays (in_mode rule.Closable w)) (stays (in_mode rule.Closing w))) told new) all_is
        (turning kept.Closing kept.Closable (f.ledger.confirmed == f.ledger.sent) g)
    by_mode kept.Closable g = quiet kept.Closable told new g

    -- fenced or not
    by_fence : (m : Mode) (t : Bool) → GoesBy (going_by t (f.ledger.confirmed == f.ledger.sent) f.ledger.confirmed m) (record f { mode = m }) told new
        → IsMove (cond t (stays (in_mode (log_mode m) w)) (mode_goes_on (in_mode (log_mode m) w) (log_mode m))) told new
    by_fence m true g = quiet m told new g
    by_fence m false g = by_mode m g

    -- it goes on by the rule
    pub goes : (m : Mode) → GoesBy (going f.ledger m) (record f { mode = m }) told new → IsMove (goes_on (in_mode (log_mode m) w)) told new
    unfolding goes_on
    goes m g =
        subst (λ o. IsMove (cond (is_some o) (stays (in_mode (log_mode m) w)) (mode_goes_on (in_mode (log_mode m) w) (log_mode m))) told new)
        h.ledger.fenced
        (by_fence m (is_some f.ledger.fenced) g)

  -- ---- hearing

  module _ (bookie passed : ℕ) (msg : Msg) (heard : WriterFacts) (stands : lwrite.StandsFor (with_call w.ledger (Hears bookie msg)) heard)
      (ahead : IsAhead f heard passed) where
    -- it stands for the rule that has heard the message
    pub heard_stands : NowStands (heard_by w bookie msg).now (record f { ledger = heard; waiting = drop passed f.waiting })
    heard_stands = record {
      segment = h.segment;
      ledger = stands;
      parts = h.parts;
      pending = h.pending;
      last_taken = h.last_taken;
      entries = h.entries ∙ sym ahead.sent;
      waiting = ap (drop passed) h.waiting ∙ drop-map (λ rows. map row_spot rows) passed (drop f.ledger.confirmed w.entries)
          ∙ ap spots (drop-drop passed f.ledger.confirmed w.entries) ∙ ap (λ n. spots (drop n w.entries)) (sym ahead.confirmed);
      last = h.last;
      rows_sent = h.rows_sent;
      last_sent = h.last_sent;
      mode = h.mode;
    }

    -- the rows that are told are the rule's
    pub heard_rows : flat_map (λ x. x) (take passed f.waiting) ≡ map row_spot (heard_by w bookie msg).rows
    heard_rows =
        let few : passed ≡ heard.confirmed - f.ledger.confirmed = omega (arith, ahead.confirmed) in
        ap (λ l. flat_map (λ x. x) (take passed l)) h.waiting
        ∙ ap (flat_map (λ x. x)) (take-map (λ rows. map row_spot rows) passed (drop f.ledger.confirmed w.entries))
        ∙ flat-spots (take passed (drop f.ledger.confirmed w.entries))
        ∙ ap (λ n. map row_spot (flat_map (λ rows. rows) (take n (drop f.ledger.confirmed w.entries)))) few
        ∙ ap (λ n. map row_spot (rows_between w.entries n heard.confirmed)) h.ledger.confirmed
        ∙ ap (λ n. map row_spot (rows_between w.entries (confirmed_count w) n)) stands.confirmed

  -- ---- taking a record

  -- the next position is the rule's
  next_is : f.draft.next ≡ f.rows_sent + length f.draft.pending → f.draft.next ≡ next_position w
  next_is e = e ∙ ap₂ (λ (m n : ℕ). m + n) h.rows_sent (ap length h.pending)

  module _ (even : f.draft.next ≡ f.rows_sent + length f.draft.pending) (txid : ℕ) (part : ℕ → Stored) (rows : List Pending) (told : List Told) (new : LogFacts)
      (same : txid_of (part f.draft.next) ≡ txid) where
    -- by whether it fits
    takes_by : (t : Bool) → TakesBy t f (part f.draft.next) rows (past_notice f.mode) told new
        → IsMove (takes_behind (cond t (stays w) (sends_parts w)) txid part rows) told new
    unfolding sends_parts
    takes_by true q = record {
      told = q.letters;
      stands = subst (NowStands (takes_part w txid (part (next_position w)) rows)) (sym q.now) (record {
        segment = h.segment;
        ledger = h.ledger;
        parts = ap₂ (λ ps n. ps ++ part n ∷ []) h.parts (next_is even);
        pending = ap (λ ps. ps ++ rows) h.pending;
        last_taken = same;
        entries = h.entries;
        waiting = h.waiting;
        last = h.last;
        rows_sent = h.rows_sent;
        last_sent = h.last_sent;
        mode = past_is f.mode ∙ ap past_commit h.mode;
      });
    }
    takes_by false s = record {
      told = letters_are (with_part (empty_draft f.draft.next f.draft.last) (part f.draft.next) rows) (past_notice f.mode) told new s;
      stands = sent_stands (with_part (empty_draft f.draft.next f.draft.last) (part f.draft.next) rows) (past_notice f.mode) told new s
          txid (part (next_position (sends_parts w).now) ∷ []) rows (past_commit w.mode)
          same (ap (λ n. part n ∷ []) (next_is even ∙ sym (add-zero (next_position w)))) refl (past_is f.mode ∙ ap past_commit h.mode);
    }

    -- by the rule
    pub takes_is : (size : ℕ) → TakesBy (fits_parts f.draft.parts size) f (part f.draft.next) rows (past_notice f.mode) told new
        → IsMove (takes_behind (makes_room w size) txid part rows) told new
    takes_is size t =
        subst (λ ps. IsMove (takes_behind (cond (fits_parts ps size) (stays w) (sends_parts w)) txid part rows) told new) h.parts
        (takes_by (fits_parts f.draft.parts size) t)

  -- ---- flushing

  -- an entry under way is sent in a mode
  pub flush_sent : (mode : Mode) (m : LogMode) (told : List Told) (new : LogFacts) → log_mode mode ≡ m
      → SendsDraft f (empty_draft f.draft.next f.draft.last) mode told new → IsMove (sends_parts (in_mode m w)) told new
  unfolding sends_parts
  flush_sent mode m told new e s = record {
    told = letters_are (empty_draft f.draft.next f.draft.last) mode told new s;
    stands = sent_stands (empty_draft f.draft.next f.draft.last) mode told new s w.last_taken [] [] m h.last_taken refl refl e;
  }

  -- ---- refusals

  -- why any call but hearing is refused
  call_fault_is : (other : Option Refusal) → call_fault f other ≡ or_fault (writer_fault (is_closing w.mode) (fenced_at w)) other
  call_fault_is other =
      ap (λ m. or_fault (writer_fault (is_closing m) f.ledger.fenced) other) h.mode
      ∙ ap (λ o. or_fault (writer_fault (is_closing w.mode) o) other) h.ledger.fenced

  -- whether the window is full
  full_is : is_full_in f ≡ rule.is_window_full w
  full_is = ap₂ (λ m n. leb (m + WINDOW) n) h.ledger.confirmed h.ledger.sent

  -- why a call that sends the entry under way is refused
  pub send_fault_is : send_fault_in f ≡ send_fault w (has_parts w)
  send_fault_is =
      call_fault_is (fault_if (ltb 0 (length f.draft.parts) && is_full_in f) refused.WindowFull)
      ∙ ap₂ (λ (ps : List Stored) t. or_fault (writer_fault (is_closing w.mode) (fenced_at w)) (fault_if (ltb 0 (length ps) && t) refused.WindowFull))
      h.parts full_is

  -- why a record is refused
  pub take_fault_is : (size txid : ℕ) → take_fault_in f size txid ≡ take_fault w size txid
  take_fault_is size txid =
      let refusal : Option Refusal → Option Refusal = or_fault (writer_fault (is_closing w.mode) (fenced_at w)) in
      call_fault_is (record_fault size f.draft.last txid (fault_if (not (fits_parts f.draft.parts size) && is_full_in f) refused.WindowFull))
      ∙ ap (λ t. refusal (record_fault size t txid (fault_if (not (fits_parts f.draft.parts size) && is_full_in f) refused.WindowFull))) h.last_taken
      ∙ ap₂ (λ ps t. refusal (record_fault size w.last_taken txid (fault_if (not (fits_parts ps size) && t) refused.WindowFull))) h.parts full_is
