-- The recovery of a ledger as a whole and the writer of a log segment promise nothing but what they heard promised.
use Rattle.std.proofs.Common.{ℕ, List, [], ◌∷◌, length, Option, Some, None, Result, Ok, Err}
use Rattle.std.specs.Prelude.{IfOk, nat_lt, is_some}
use Rattle.std.proofs.lemmas.Bool.{cond_both}
use Rattle.dl_types.specs.declared.meta_answer.MetaAnswer.{MetaAnswer}
use Rattle.dl_types.specs.declared.meta_answer.MetaAnswer.TheVariants as answer
use Rattle.dl_types.specs.declared.one_answer.OneAnswer.TheVariants.{Version, Bytes}
use Rattle.dl_types.specs.declared.refusal.Refusal.{Refusal}
use Rattle.dl_types.specs.declared.row.Origin.{Origin}
use Rattle.dl_types.specs.declared.why.Why.TheVariants.{NoNode, BadVersion}
use Rattle.dl_record.specs.declared.stored.Stored.{Stored}
use Rattle.dl_record.specs.declared.stored.Stored.TheVariants.{Plain, Set}
use Rattle.dl_record.specs.Grammar.{entry_bytes}
use Rattle.dl_msg.specs.declared.heard.Heard.{Heard}
use Rattle.dl_msg.specs.declared.heard.Heard.TheVariants.{Reply, From}
use Rattle.dl_msg.specs.declared.letters.Told.{Told}
use Rattle.dl_msg.specs.declared.msg.Msg.{Msg}
use Rattle.dl_formats.specs.declared.ledger.LedgerState.{LedgerState}
use Rattle.dl_formats.specs.declared.ledger.LedgerState.TheVariants as state
use Rattle.dl_rules_ledger.specs.Recoveries.{Ended, Exhausted, Move, fences, recovers}
use Rattle.dl_rules_stream.specs.Nodes.{LedgerNode}
use Rattle.dl_rules_stream.specs.Orders.{Next, tells, or_refused}
use Rattle.dl_rules_stream.specs.Listings.{ledger_node_of}
use Rattle.dl_rules_stream.specs.LedgerRecoveries as ledger
use Rattle.dl_rules_stream.specs.LedgerRecoveries.{RecoveryArgs, RecoveryStage}
use Rattle.dl_rules_stream.specs.LogWriters as log
use Rattle.dl_rules_stream.specs.LogWriters.{LogNow, LogMove, LogMode}
use Rattle.dl_rules_client.proofs.RangeLists.{all-append}
use Rattle.dl_law_nodes.specs.Disks.{Nodes}
use Rattle.dl_law_nodes.specs.Promises.{Shapes, LastPiecesFollow, AskHolds, AnswerHolds, ToldHold}
use Rattle.dl_law_nodes.specs.Laws.{MoveHolds}
use Rattle.dl_law_nodes.proofs.Tasks.{all_recoveries_hold, all_writers_hold}
use Rattle.dl_law_stores.specs.Tasks.{HeardHolds, NextHolds, StageHolds, KnowsPieces, StageGoesOn, LedgerRecoveriesHold, LogHolds, LogGoesOn, LogWritersHold}

module _ (shape : Shapes) (k : Nodes) where
  -- messages are told, where there are any
  pub tells_hold : (A : Type 0) (told : List Told) → ToldHold shape k told → NextHolds {A = A} shape k (tells told)
  tells_hold A [] h = tt
  tells_hold A (t ∷ told) h = h

  -- ---- the recovery of a ledger

  module _ (x : RecoveryArgs) where
    -- a stage goes on
    abbrev Goes : RecoveryStage × Next ℕ → Type 0
    Goes move = StageGoesOn shape k x.ledger move

    -- behind a phase that was come to
    move_goes : (m : LedgerNode) (version : ℕ) (move : Move) → MoveHolds shape k x.ledger move → Goes (ledger.after_move x m version move)
    move_goes m version (Ended count, letters) h = record { stage = h.phase; next = tt }
    move_goes m version (Exhausted, letters) h = record { stage = tt; next = tt }
    move_goes m version (phase, letters) h = record { stage = h.phase; next = tells_hold ℕ letters h.told }

    -- a node that is marked
    mark_goes : (m : LedgerNode) (version : ℕ) → Goes (ledger.after_mark x m version)
    mark_goes m version = move_goes m version (fences (ledger.subject_of x m)) (all_recoveries_hold shape k (ledger.subject_of x m)).begun

    -- a node that was read
    node_goes : (version : ℕ) (m : LedgerNode) (s : LedgerState) → Goes (ledger.after_node x version m s)
    node_goes version m state.Writing = record { stage = tt; next = tt }
    node_goes version m state.Recovering = mark_goes m version
    node_goes version m state.Closed = record { stage = tt; next = tt }

    -- the same of its bytes
    read_goes : (old : Option LedgerNode) (version : ℕ) (r : Result LedgerNode Refusal)
        → Goes (or_refused (ledger.WasRefused old) (λ m. ledger.after_node x version m m.state) r)
    read_goes old version (Ok m) = node_goes version m m.state
    read_goes old version (Err w) = record { stage = tt; next = tt }

    -- an answer
    answer_goes : (stage : RecoveryStage) (a : MetaAnswer) → StageHolds shape k x.ledger stage → Goes (ledger.recovery_answers x stage a)
    unfolding ledger.recovery_answers
    answer_goes (ledger.GettingNode old) (answer.One (Bytes bytes version)) h = read_goes old version (ledger_node_of x.conf x.ledger bytes)
    answer_goes (ledger.GettingNode old) (answer.Failed place NoNode) h = record { stage = tt; next = tt }
    answer_goes (ledger.GettingNode old) (answer.Failed place w) h = record { stage = tt; next = tt }
    answer_goes (ledger.Marking m version) (answer.One (Version now)) h = mark_goes (ledger.come_to state.Recovering 0 m) now
    answer_goes (ledger.Marking m version) (answer.Failed place NoNode) h = record { stage = tt; next = tt }
    answer_goes (ledger.Marking m version) (answer.Failed place (BadVersion now)) h = record { stage = tt; next = tt }
    answer_goes (ledger.Marking m version) (answer.Failed place w) h = record { stage = tt; next = tt }
    answer_goes (ledger.Closing m version count) (answer.One (Version now)) h = record { stage = tt; next = tt }
    answer_goes (ledger.Closing m version count) (answer.Failed place NoNode) h = record { stage = tt; next = tt }
    answer_goes (ledger.Closing m version count) (answer.Failed place (BadVersion now)) h = record { stage = tt; next = tt }
    answer_goes (ledger.Closing m version count) (answer.Failed place w) h = record { stage = tt; next = tt }
    answer_goes stage a h = record { stage = h; next = tt }

    -- a message of a bookie
    told_goes : LastPiecesFollow shape k → (stage : RecoveryStage) (b : ℕ) (m : Msg) → KnowsPieces shape x stage → StageHolds shape k x.ledger stage
        → AnswerHolds shape k b m → Goes (ledger.recovery_told x stage b m)
    told_goes follow (ledger.Searching m version phase) b msg own h a =
        move_goes m version (recovers (ledger.subject_of x m) phase b msg)
        ((all_recoveries_hold shape k (ledger.subject_of x m)).heard own follow phase b msg h a)
    told_goes follow stage b msg own h a = record { stage = h; next = tt }

    -- what it hears
    pub heard_goes : LastPiecesFollow shape k → (stage : RecoveryStage) (h : Heard) → KnowsPieces shape x stage → StageHolds shape k x.ledger stage
        → HeardHolds shape k h → Goes (ledger.recovery_hears x stage h)
    unfolding ledger.recovery_hears
    heard_goes follow stage (Reply a) own s h = answer_goes stage a s
    heard_goes follow stage (From b m) own s h = told_goes follow stage b m own s h

  -- ---- the writer of a segment

  -- nothing is told
  log_stays : (w : LogNow) → LogHolds shape k w → LogGoesOn shape k (log.stays w)
  log_stays w h = record { now = h; told = tt }

  -- the entry under way is sent
  parts_go : (w : LogNow) → LogHolds shape k w → LogGoesOn shape k (log.sends_parts w)
  unfolding log.sends_parts
  parts_go w h =
      let each = all_writers_hold.each shape k w.ledger in
      record {
        now = record { own = h.own; writer = each.sent (entry_bytes w.parts) h.writer };
        told = each.told (entry_bytes w.parts) h.own h.writer;
      }

  -- where there is one
  flush_goes : (w : LogNow) → LogHolds shape k w → LogGoesOn shape k (log.flushes w)
  flush_goes w h = cond_both (log.has_parts w) (log.sends_parts w) (log.stays w) (LogGoesOn shape k) (λ _. parts_go w h) (λ _. log_stays w h)

  -- a control entry is sent
  control_goes : (w : LogNow) → LogHolds shape k w → LogGoesOn shape k (log.sends_control w)
  unfolding log.sends_control
  control_goes w h =
      let each = all_writers_hold.each shape k w.ledger in
      record {
        now = record { own = h.own; writer = each.sent (log.control_bytes w) h.writer };
        told = each.told (log.control_bytes w) h.own h.writer;
      }

  -- a writer in another mode
  mode_holds : (mode : LogMode) (w : LogNow) → LogHolds shape k w → LogHolds shape k (log.in_mode mode w)
  mode_holds mode w h = record { own = h.own; writer = h.writer }

  -- a mode goes on
  mode_goes : (w : LogNow) (mode : LogMode) → LogHolds shape k w → LogGoesOn shape k (log.mode_goes_on w mode)
  mode_goes w (log.Committing None) h =
      cond_both (log.all_confirmed w) (log.sends_control w) (log.stays w) (LogGoesOn shape k) (λ _. control_goes w h) (λ _. log_stays w h)
  mode_goes w (log.Committing (Some n)) h =
      cond_both (nat_lt n (log.confirmed_count w)) (log.stays (record w { mode = log.Committed n })) (log.stays w) (LogGoesOn shape k)
      (λ _. log_stays (record w { mode = log.Committed n }) (mode_holds (log.Committed n) w h)) (λ _. log_stays w h)
  mode_goes w log.Closing h =
      cond_both (log.all_confirmed w) (log.stays (record w { mode = log.Closable })) (log.stays w) (LogGoesOn shape k)
      (λ _. log_stays (record w { mode = log.Closable }) (mode_holds log.Closable w h)) (λ _. log_stays w h)
  mode_goes w log.Open h = log_stays w h
  mode_goes w (log.Committed n) h = log_stays w h
  mode_goes w log.Closable h = log_stays w h

  -- a writer goes on
  log_goes : (w : LogNow) → LogHolds shape k w → LogGoesOn shape k (log.goes_on w)
  unfolding log.goes_on
  log_goes w h =
      cond_both (is_some (log.fenced_at w)) (log.stays w) (log.mode_goes_on w w.mode) (LogGoesOn shape k) (λ _. log_stays w h) (λ _. mode_goes w w.mode h)

  -- a move that goes on
  then_goes : (m : LogMove) → LogGoesOn shape k m → LogGoesOn shape k (log.then_goes_on m)
  then_goes m g =
      let next = log_goes m.now g.now in
      record { now = next.now; told = all-append (λ (t : Told). AskHolds shape k t.msg) m.letters (log.goes_on m.now).letters g.told next.told }

  -- a call that may be refused
  unless_goes : (fault : Option Refusal) (m : LogMove) → LogGoesOn shape k m → IfOk (log.unless fault m) (LogGoesOn shape k)
  unless_goes None m g = g
  unless_goes (Some r) m g = tt

  -- room is made
  room_goes : (w : LogNow) (size : ℕ) → LogHolds shape k w → LogGoesOn shape k (log.makes_room w size)
  room_goes w size h = cond_both (log.fits w size) (log.stays w) (log.sends_parts w) (LogGoesOn shape k) (λ _. log_stays w h) (λ _. parts_go w h)

  -- a record is taken behind it
  behind_goes : (m : LogMove) (txid : ℕ) (part : ℕ → Stored) (pending : List log.Pending) → LogGoesOn shape k m
      → LogGoesOn shape k (log.takes_behind m txid part pending)
  behind_goes m txid part pending g = record { now = record { own = g.now.own; writer = g.now.writer }; told = g.told }

  module _ (w : LogNow) (h : LogHolds shape k w) where
    -- a record
    appends_go : (o : Origin) (txid : ℕ) (payload : List ℕ) → IfOk (log.appends w o txid payload) (LogGoesOn shape k)
    unfolding log.appends
    appends_go o txid payload =
        unless_goes (log.take_fault w (length payload) txid)
        (log.takes_behind (log.makes_room w (length payload)) txid (λ position. Plain position txid payload) (log.pending_from o txid (payload ∷ [])))
        (behind_goes (log.makes_room w (length payload)) txid (λ position. Plain position txid payload) (log.pending_from o txid (payload ∷ []))
        (room_goes w (length payload) h))

    -- a set of records
    appends_set_go : (o : Origin) (txid : ℕ) (payloads : List (List ℕ)) → IfOk (log.appends_set w o txid payloads) (LogGoesOn shape k)
    unfolding log.appends_set
    appends_set_go o txid payloads =
        unless_goes (log.take_fault w (log.set_size payloads) txid)
        (log.takes_behind (log.makes_room w (log.set_size payloads)) txid (λ position. Set position txid payloads) (log.pending_from o txid payloads))
        (behind_goes (log.makes_room w (log.set_size payloads)) txid (λ position. Set position txid payloads) (log.pending_from o txid payloads)
        (room_goes w (log.set_size payloads) h))

    -- a flush
    flushes_go : IfOk (log.log_flushes w) (LogGoesOn shape k)
    unfolding log.log_flushes
    flushes_go =
        unless_goes (log.send_fault w (log.has_parts w)) (log.flushes (log.in_mode (log.past_commit w.mode) w))
        (flush_goes (log.in_mode (log.past_commit w.mode) w) (mode_holds (log.past_commit w.mode) w h))

    -- a commit
    commits_go : IfOk (log.commits w) (LogGoesOn shape k)
    unfolding log.commits
    commits_go =
        unless_goes (log.send_fault w (log.has_parts w)) (log.then_goes_on (log.flushes (log.in_mode (log.Committing None) w)))
        (then_goes (log.flushes (log.in_mode (log.Committing None) w))
        (flush_goes (log.in_mode (log.Committing None) w) (mode_holds (log.Committing None) w h)))

    -- a close
    closes_go : IfOk (log.closes w) (LogGoesOn shape k)
    unfolding log.closes
    closes_go =
        unless_goes (log.send_fault w (log.has_parts w)) (log.then_goes_on (log.flushes (log.in_mode log.Closing w)))
        (then_goes (log.flushes (log.in_mode log.Closing w)) (flush_goes (log.in_mode log.Closing w) (mode_holds log.Closing w h)))

    -- a message of a bookie
    hears_goes : (b : ℕ) (m : Msg) → AnswerHolds shape k b m → LogGoesOn shape k (log.log_hears w b m)
    unfolding log.log_hears
    hears_goes b m a =
        then_goes (log.heard_by w b m)
        (record { now = record { own = h.own; writer = (all_writers_hold.each shape k w.ledger).heard b m h.writer a }; told = tt })

-- recoveries of ledgers hold
pub ledger_recoveries_hold : LedgerRecoveriesHold
ledger_recoveries_hold shape k x = record { begun = record { stage = tt; next = tt }; heard = heard_goes shape k x }

-- log writers hold
pub log_writers_hold : LogWritersHold
log_writers_hold = record {
  begun = λ shape k x own. record { own = own; writer = all_writers_hold.begun k x.ledger x.pieces };
  each = λ shape k w h. record {
    appending = appends_go shape k w h;
    appending_set = appends_set_go shape k w h;
    flushing = flushes_go shape k w h;
    committing = commits_go shape k w h;
    closing = closes_go shape k w h;
    hearing = hears_goes shape k w h;
  };
}
