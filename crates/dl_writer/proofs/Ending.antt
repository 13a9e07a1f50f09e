-- What a call does, as the rule says of it and as the view with it is.
use Rattle.std.proofs.Common.{◌≡◌, ℕ, ◌+◌, Bool, true, false, cond, ltb, Option, Some, None, List, [], ◌++◌, length, map, take, drop, ◌-◌, ap₂}
use Rattle.std.proofs.Common.{Result, Ok, Err, refl, sym, ap, ◌∙◌, subst, arith}
use Rattle.std.specs.Prelude.{is_some}
use Rattle.std.specs.List.{flat_map}
use Rattle.std.proofs.lemmas.List.{append-nil, drop_all}
use Rattle.std.proofs.lemmas.Bool.{ne_eqb, cond-false}
use Rattle.dl_types.specs.declared.refusal.Refusal.{Refusal}
use Rattle.dl_msg.specs.declared.msg.Msg.{Msg}
use Rattle.dl_msg.specs.declared.letters.Told.{Told}
use Rattle.dl_quorum.specs.Pieces.{Pieces}
use Rattle.dl_rules_ledger.specs.Writers as ledgers
use Rattle.dl_rules_stream.specs.LogWriters as rule
use Rattle.dl_rules_stream.specs.LogWriters.{LogNow, LogMove, LogMode, LogCall, Appends, AppendsSet, Flushes, Commits, Closes, HearsFrom, stays, sends_parts}
use Rattle.dl_rules_stream.specs.LogWriters.{flushes, goes_on, mode_goes_on, in_mode, has_parts, then_goes_on, unless, heard_by, log_hears, fenced_at}
use Rattle.dl_rules_stream.specs.LogWriters.{all_confirmed, send_fault, or_same, after_log_call, log_of, past_commit, log_flushes}
use Rattle.dl_lwrite.specs.Facts.{WriterFacts}
use Rattle.dl_lwrite.specs.Steps.{HasHeard}
use Rattle.dl_lwrite.specs.Standing as lwrite
use Rattle.dl_writer.specs.declared.mode.Mode.{Mode}
use Rattle.dl_writer.specs.declared.mode.Mode.TheVariants as kept
use Rattle.dl_writer.specs.declared.going.Going.{Going}
use Rattle.dl_writer.specs.declared.going.Going.TheVariants.{Turns, SendsControl}
use Rattle.dl_writer.specs.Modes.{log_mode, past_notice}
use Rattle.dl_writer.specs.declared.acked.Acked.{Acked}
use Rattle.dl_writer.specs.declared.write_fault.WriteFault.{WriteFault}
use Rattle.dl_writer.specs.declared.write_fault.WriteFault.TheVariants as fault
use Rattle.dl_writer.specs.States.{state_at}
use Rattle.dl_writer.specs.Facts.{DraftFacts, LogFacts}
use Rattle.dl_writer.specs.Drafts.{empty_draft}
use Rattle.dl_writer.specs.Going.{going}
use Rattle.dl_writer.specs.Sending.{row_spot}
use Rattle.dl_writer.specs.Moves.{SendsDraft, IsQuiet, GoesBy, IsAhead, IsEnding, with_ledger}
use Rattle.dl_writer.specs.Refusals.{send_fault_in}
use Rattle.dl_writer.specs.Views.{LogView, args_of, new_view, with_call, now_of, entry_of, spots, NowStands, StandsFor, answer_to, ends_in, IsMove, Takes}
use Rattle.dl_writer.specs.Views.{IsTaking, IsHearing, Refuses}
use Rattle.dl_writer.proofs.Lifting.{past_is, in_mode_stands, quiet, goes_on-rows, goes, heard_stands, heard_rows, flush_sent, send_fault_is}

-- ---- answers

-- what isn't refused is taken
pub takes_unless : (o : Option Refusal) (m : LogMove) (told : List Told) (f : LogFacts) → o ≡ None → IsMove m told f → Takes (unless o m) told f
takes_unless None m told f e t = t
takes_unless (Some r) m told f e t = absurd cc

-- what is refused is so
pub refuses_unless : (o : Option Refusal) (m : LogMove) (r : Refusal) → o ≡ Some r → unless o m ≡ Err r
refuses_unless o m r e = ap (λ x. unless x m) e

-- ---- views

-- a call that is taken leaves what the rule says
stands_or : (w : LogNow) (r : Result LogMove Refusal) (told : List Told) (f : LogFacts) → Takes r told f → NowStands (or_same w r) f
stands_or w (Ok m) told f t = t.stands
stands_or w (Err r) told f t = absurd t

-- the writer after a call is what the answer to it leaves
after_is : (w : LogNow) (call : LogCall) → after_log_call w call ≡ or_same w (answer_to w call)
unfolding after_log_call
after_is w (Appends origin txid payload) = refl
after_is w (AppendsSet origin txid payloads) = refl
after_is w Flushes = refl
after_is w Commits = refl
after_is w Closes = refl
after_is w (HearsFrom bookie msg) = refl

-- a call that the rule takes is one of the view
pub taking : (v : LogView) (call : LogCall) (told : List Told) (f : LogFacts) → Takes (answer_to (now_of v) call) told f → IsTaking v call told f
unfolding log_of
taking v call told f t = record {
  taken = t;
  stands = subst (λ w. NowStands w f) (sym (after_is (now_of v) call)) (stands_or (now_of v) (answer_to (now_of v) call) told f t);
}

-- a view with a message is what hearing it leaves
pub heard_view : (v : LogView) (bookie : ℕ) (msg : Msg) (f : LogFacts) → NowStands (log_hears (now_of v) bookie msg).now f
    → StandsFor (with_call v (HearsFrom bookie msg)) f
unfolding log_of after_log_call
heard_view v bookie msg f s = s

-- what is kept at the start stands for the view without a call
pub started : (f : LogFacts) (number : ℕ) (pieces : Pieces) → lwrite.StandsFor (ledgers.new_view number pieces) f.ledger → f.ledger.sent ≡ 0
    → f.draft ≡ empty_draft 0 f.last_sent → f.waiting ≡ [] → f.last ≡ None → f.rows_sent ≡ 0 → f.mode ≡ kept.Open
    → StandsFor (new_view (args_of f.segment f.last_sent number pieces)) f
unfolding log_of
started f number pieces ledger none draft waiting last rows mode = record {
  segment = refl;
  ledger = ledger;
  parts = ap (λ d. d.parts) draft;
  pending = ap (λ d. d.pending) draft;
  last_taken = ap (λ d. d.last) draft;
  entries = sym none;
  waiting = waiting ∙ sym (ap spots (drop_all f.ledger.confirmed [] (omega arith)));
  last = ap entry_of last;
  rows_sent = rows;
  last_sent = refl;
  mode = ap log_mode mode;
}

-- ---- commits and closes

-- where a mode stays, nothing goes on
still : (x : LogNow) → mode_goes_on x x.mode ≡ stays x → goes_on x ≡ stays x
unfolding goes_on
still x e = elim (is_some (fenced_at x)) as (λ t. cond t (stays x) (mode_goes_on x x.mode) ≡ stays x) [ true ↦ refl | false ↦ e ]

-- a commit or a close that begins stays while an entry is unconfirmed
still_in : (x : LogNow) (m : Mode) → IsEnding m → all_confirmed x ≡ false → mode_goes_on x (log_mode m) ≡ stays x
still_in x kept.Awaiting e not_all = cond-false (all_confirmed x) _ _ not_all
still_in x kept.Closing e not_all = cond-false (all_confirmed x) _ _ not_all
still_in x kept.Open e not_all = absurd e
still_in x (kept.Committing n) e not_all = absurd e
still_in x (kept.Committed n) e not_all = absurd e
still_in x kept.Closable e not_all = absurd e

-- behind a move after which nothing goes on nothing is told
then_still : (m : LogMove) (told : List Told) (f : LogFacts) → goes_on m.now ≡ stays m.now → IsMove m told f → IsMove (then_goes_on m) told f
then_still m told f e t = record {
  told = t.told ∙ sym (append-nil m.letters) ∙ ap (λ (g : LogMove). m.letters ++ g.letters) (sym e);
  stands = subst (λ (g : LogMove). NowStands g.now f) (sym e) t.stands;
}

module _ (w : LogNow) (f : LogFacts) (h : NowStands w f) (told : List Told) (new : LogFacts) where
  -- the entry under way is sent, and then all that is left is to wait
  ends_sent : (m : Mode) → IsEnding m → SendsDraft f (empty_draft f.draft.next f.draft.last) m told new
      → IsMove (then_goes_on (sends_parts (in_mode (log_mode m) w))) told new
  unfolding sends_parts
  ends_sent m e s =
      let sent = sends_parts (in_mode (log_mode m) w) in
      let move : IsMove sent told new = flush_sent w f h m (log_mode m) told new refl s in
      let counts = s.ledger.counts in
      let open_yet : all_confirmed sent.now ≡ false =
      ne_eqb (rule.confirmed_count sent.now) (rule.sent_count sent.now)
      (λ all. omega (arith, all, move.stands.ledger.confirmed, move.stands.ledger.sent, counts.sent, counts.confirmed, counts.below)) in
      then_still sent told new (still sent.now (still_in sent.now m e open_yet)) move

  -- whether there is an entry under way is what the rule says
  has_parts_is : ltb 0 (length f.draft.parts) ≡ has_parts w
  has_parts_is = ap (λ ps. ltb 0 (length ps)) h.parts

  -- a commit or a close that is taken, by whether there is an entry under way
  ends_by : (m : Mode) → IsEnding m → (t : Bool)
      → cond t (SendsDraft f (empty_draft f.draft.next f.draft.last) m told new) (GoesBy (going f.ledger m) (record f { mode = m }) told new)
      → IsMove (then_goes_on (cond t (sends_parts (in_mode (log_mode m) w)) (stays (in_mode (log_mode m) w)))) told new
  ends_by m e true s = ends_sent m e s
  ends_by m e false g = let move = goes w f h told new m g in record { told = move.told; stands = move.stands }

  -- by the rule
  pub ends_is : (m : Mode) → IsEnding m → send_fault_in f ≡ None
      → cond (ltb 0 (length f.draft.parts)) (SendsDraft f (empty_draft f.draft.next f.draft.last) m told new)
      (GoesBy (going f.ledger m) (record f { mode = m }) told new)
      → Takes (ends_in (log_mode m) w) told new
  ends_is m e free t =
      takes_unless (send_fault w (has_parts w)) (then_goes_on (flushes (in_mode (log_mode m) w))) told new (sym (send_fault_is w f h) ∙ free)
      (subst (λ b. IsMove (then_goes_on (cond b (sends_parts (in_mode (log_mode m) w)) (stays (in_mode (log_mode m) w)))) told new) has_parts_is
      (ends_by m e (ltb 0 (length f.draft.parts)) t))

  -- ---- flushes

  -- a flush that is taken, by whether there is an entry under way
  flushes_by : (t : Bool)
      → cond t (SendsDraft f (empty_draft f.draft.next f.draft.last) (past_notice f.mode) told new) (IsQuiet (record f { mode = past_notice f.mode }) told new)
      → IsMove (cond t (sends_parts (in_mode (past_commit w.mode) w)) (stays (in_mode (past_commit w.mode) w))) told new
  flushes_by true s = flush_sent w f h (past_notice f.mode) (past_commit w.mode) told new (past_is f.mode ∙ ap past_commit h.mode) s
  flushes_by false q =
      subst (λ m. IsMove (stays (in_mode m w)) told new) (past_is f.mode ∙ ap past_commit h.mode) (quiet w f h (past_notice f.mode) told new q)

  -- by the rule
  pub flush_is : send_fault_in f ≡ None
      → cond (ltb 0 (length f.draft.parts)) (SendsDraft f (empty_draft f.draft.next f.draft.last) (past_notice f.mode) told new)
      (IsQuiet (record f { mode = past_notice f.mode }) told new)
      → Takes (log_flushes w) told new
  unfolding log_flushes
  flush_is free t =
      takes_unless (send_fault w (has_parts w)) (flushes (in_mode (past_commit w.mode) w)) told new (sym (send_fault_is w f h) ∙ free)
      (subst (λ b. IsMove (cond b (sends_parts (in_mode (past_commit w.mode) w)) (stays (in_mode (past_commit w.mode) w))) told new) has_parts_is
      (flushes_by (ltb 0 (length f.draft.parts)) t))

  -- ---- hearing

  module _ (bookie passed : ℕ) (msg : Msg) (heard : WriterFacts) (stands : lwrite.StandsFor (ledgers.with_call w.ledger (ledgers.Hears bookie msg)) heard)
      (ahead : IsAhead f heard passed) (g : GoesBy (going heard f.mode) (with_ledger f heard passed f.mode) told new) where
    -- the writer with the message
    abbrev after : LogNow
    after = (heard_by w bookie msg).now

    -- what is heard goes on by the rule
    pub hears_is : IsMove (log_hears w bookie msg) told new
    unfolding log_hears
    hears_is =
        let move = goes after (record f { ledger = heard; waiting = drop passed f.waiting }) (heard_stands w f h bookie passed msg heard stands ahead)
        told new f.mode g in
        let here : IsMove (goes_on after) told new = subst (λ m. IsMove (goes_on (in_mode m after)) told new) h.mode move in
        record { told = here.told; stands = here.stands }

    -- the rows that are told are the rule's
    pub hears_rows : flat_map (λ x. x) (take passed f.waiting) ≡ map row_spot (log_hears w bookie msg).rows
    unfolding log_hears
    hears_rows =
        heard_rows w f h bookie passed msg heard stands ahead
        ∙ ap (map row_spot) (sym (append-nil (heard_by w bookie msg).rows) ∙ ap (λ l. (heard_by w bookie msg).rows ++ l) (sym (goes_on-rows after)))

-- going on confirms nothing
pub goes-confirmed : (g : Going) (f : LogFacts) (told : List Told) (new : LogFacts) → GoesBy g f told new → new.ledger.confirmed ≡ f.ledger.confirmed
goes-confirmed (Turns m) f told new q = ap (λ (x : LogFacts). x.ledger.confirmed) q.now
goes-confirmed SendsControl f told new s = s.ledger.counts.confirmed

-- ---- clauses of the calls

-- a type that a test chooses
at_true : (t : Bool) (P Q : Type 0) → t ≡ true → P → cond t P Q
at_true t P Q e p = subst (λ (b : Bool). cond b P Q) (sym e) p

-- or the other one
at_false : (t : Bool) (P Q : Type 0) → t ≡ false → Q → cond t P Q
at_false t P Q e q = subst (λ (b : Bool). cond b P Q) (sym e) q

-- the state that is told is the rule's
pub state_is : (w : LogNow) (f : LogFacts) → NowStands w f → state_at f.mode f.ledger.fenced f.ledger.sent f.rows_sent f.last_sent ≡ rule.log_state w
unfolding rule.log_state
state_is w f h = by_mode f.mode f.ledger.fenced ∙ ap₂ (λ m o. rule.state_by w m o) h.mode h.ledger.fenced
  where
    by_mode : (m : Mode) (o : Option ℕ) → state_at m o f.ledger.sent f.rows_sent f.last_sent ≡ rule.state_by w (log_mode m) o
    by_mode kept.Closable o =
        ap (λ n. rule.MayClose n f.rows_sent f.last_sent) h.ledger.sent ∙ ap₂ (λ n t. rule.MayClose (rule.sent_count w) n t) h.rows_sent h.last_sent
    by_mode kept.Open None = refl
    by_mode kept.Open (Some b) = refl
    by_mode kept.Awaiting None = refl
    by_mode kept.Awaiting (Some b) = refl
    by_mode (kept.Committing n) None = refl
    by_mode (kept.Committing n) (Some b) = refl
    by_mode (kept.Committed n) None = refl
    by_mode (kept.Committed n) (Some b) = refl
    by_mode kept.Closing None = refl
    by_mode kept.Closing (Some b) = refl

-- a close that is taken
pub closes_taken : (v : LogView) (told : List Told) (f : LogFacts) → Takes (ends_in rule.Closing (now_of v)) told f → IsTaking v Closes told f
unfolding rule.closes
closes_taken v told f t = taking v Closes told f t

-- a commit that is taken
pub commits_taken : (v : LogView) (told : List Told) (f : LogFacts) → Takes (ends_in (rule.Committing None) (now_of v)) told f → IsTaking v Commits told f
unfolding rule.commits
commits_taken v told f t = taking v Commits told f t

-- a close that is refused
pub closes_refused : (w : LogNow) (x : WriteFault) → Refuses (ends_in rule.Closing w) x → Refuses (rule.closes w) x
unfolding rule.closes
closes_refused w (fault.Refused r) e = e
closes_refused w fault.NoMemory e = tt

-- a commit that is refused
pub commits_refused : (w : LogNow) (x : WriteFault) → Refuses (ends_in (rule.Committing None) w) x → Refuses (rule.commits w) x
unfolding rule.commits
commits_refused w (fault.Refused r) e = e
commits_refused w fault.NoMemory e = tt

-- an entry under way that was sent before an empty one, in this mode
sends_from : (f : LogFacts) (told : List Told) (new : LogFacts) (next : DraftFacts) (mode other : Mode) (n l : ℕ) → next ≡ empty_draft n l → n ≡ f.draft.next
    → l ≡ f.draft.last → mode ≡ other → SendsDraft f next mode told new → SendsDraft f (empty_draft f.draft.next f.draft.last) other told new
sends_from f told new next mode other n l e en el em s =
    subst (λ (d : DraftFacts). SendsDraft f d other told new) (e ∙ ap₂ empty_draft en el) (subst (λ (m : Mode). SendsDraft f next m told new) em s)

module _ (w : LogNow) (f : LogFacts) (h : NowStands w f) (told : List Told) (new : LogFacts) where
  -- a commit or a close that sends the entry under way
  pub end_sends : (m : Mode) → IsEnding m → send_fault_in f ≡ None → ltb 0 (length f.draft.parts) ≡ true → (next : DraftFacts) (n l : ℕ)
      → next ≡ empty_draft n l → n ≡ f.draft.next → l ≡ f.draft.last → SendsDraft f next m told new → Takes (ends_in (log_mode m) w) told new
  end_sends m e free some next n l en nn ll s =
      ends_is w f h told new m e free
      (at_true (ltb 0 (length f.draft.parts)) _ (GoesBy (going f.ledger m) (record f { mode = m }) told new) some
      (sends_from f told new next m m n l en nn ll refl s))

  -- a commit or a close that only goes on
  pub end_goes : (m : Mode) → IsEnding m → send_fault_in f ≡ None → ltb 0 (length f.draft.parts) ≡ false → (ledger : WriterFacts) → ledger ≡ f.ledger
      → GoesBy (going ledger m) (with_ledger f ledger 0 m) told new → Takes (ends_in (log_mode m) w) told new
  end_goes m e free none ledger same g =
      ends_is w f h told new m e free
      (at_false (ltb 0 (length f.draft.parts)) (SendsDraft f (empty_draft f.draft.next f.draft.last) m told new) _ none
      (subst (λ (x : WriterFacts). GoesBy (going x m) (with_ledger f x 0 m) told new) same g))

  -- a flush that sends the entry under way
  pub flush_sends : send_fault_in f ≡ None → ltb 0 (length f.draft.parts) ≡ true → (next : DraftFacts) (mode : Mode) (n l : ℕ)
      → next ≡ empty_draft n l → n ≡ f.draft.next → l ≡ f.draft.last → mode ≡ past_notice f.mode → SendsDraft f next mode told new
      → Takes (log_flushes w) told new
  flush_sends free some next mode n l en nn ll em s =
      flush_is w f h told new free
      (at_true (ltb 0 (length f.draft.parts)) _ (IsQuiet (record f { mode = past_notice f.mode }) told new) some
      (sends_from f told new next mode (past_notice f.mode) n l en nn ll em s))

  -- a flush that sends nothing
  pub flush_stays : (mode : Mode) → send_fault_in f ≡ None → ltb 0 (length f.draft.parts) ≡ false → mode ≡ past_notice f.mode
      → IsQuiet (record f { mode = mode }) told new → Takes (log_flushes w) told new
  flush_stays mode free none em q =
      flush_is w f h told new free
      (at_false (ltb 0 (length f.draft.parts)) (SendsDraft f (empty_draft f.draft.next f.draft.last) (past_notice f.mode) told new) _ none
      (subst (λ (m : Mode). IsQuiet (record f { mode = m }) told new) em q))

-- a flush that is refused
pub flush_refused : (w : LogNow) (f : LogFacts) → NowStands w f → (r : Refusal) → Some r ≡ send_fault_in f → log_flushes w ≡ Err r
unfolding log_flushes
flush_refused w f h r e =
    refuses_unless (send_fault w (has_parts w)) (flushes (in_mode (past_commit w.mode) w)) r (sym (send_fault_is w f h) ∙ sym e)

-- a message that is heard
pub hearing : (v : LogView) (f : LogFacts) → StandsFor v f → (bookie passed : ℕ) (msg : Msg) (ledger heard : WriterFacts) (told : List Told) (new : LogFacts)
    → ledger ≡ f.ledger
    → ((x : ledgers.WriterView) → lwrite.StandsFor x ledger → lwrite.StandsFor (ledgers.with_call x (ledgers.Hears bookie msg)) heard)
    → (number : ℕ) → HasHeard ledger number msg heard → passed ≡ heard.confirmed - ledger.confirmed
    → GoesBy (going heard f.mode) (with_ledger f heard passed f.mode) told new
    → (acked : Acked) → acked.confirmed ≡ heard.confirmed → acked.rows ≡ flat_map (λ x. x) (take passed f.waiting) → acked.letters ≡ told
    → IsHearing v bookie msg acked new
hearing v f h bookie passed msg ledger heard told new same hears number counts few g acked confirmed rows letters =
    let kept_is : ledger.confirmed ≡ f.ledger.confirmed = ap (λ (x : WriterFacts). x.confirmed) same in
    let sent_is : ledger.sent ≡ f.ledger.sent = ap (λ (x : WriterFacts). x.sent) same in
    let stands = hears (now_of v).ledger (subst (lwrite.StandsFor (now_of v).ledger) (sym same) h.ledger) in
    let ahead : IsAhead f heard passed = record {
      sent = counts.sent ∙ sent_is;
      confirmed = omega (arith, few, kept_is, counts.grows);
      below = counts.below;
    } in
    let move = hears_is (now_of v) f h told new bookie passed msg heard stands ahead g in
    let view = heard_view v bookie msg new move.stands in
    record {
      confirmed = confirmed ∙ sym (goes-confirmed (going heard f.mode) (with_ledger f heard passed f.mode) told new g) ∙ view.ledger.confirmed;
      rows = rows ∙ hears_rows (now_of v) f h told new bookie passed msg heard stands ahead g;
      letters = letters ∙ move.told;
      stands = view;
    }
