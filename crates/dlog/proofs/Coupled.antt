-- A log and what was seen of it fit together, and so they do behind each of its acts.
use Rattle.std.proofs.Common.{◌≡◌, ℕ, ◌+◌, ◌≤◌, Bool, true, false, cond, nat_lt, ◌==◌, List, [], ◌∷◌}
use Rattle.std.proofs.Common.{◌++◌, length, refl, sym, ap, ◌∙◌, subst, append_assoc, append-nil}
use Rattle.std.specs.List.{flat_map}
use Rattle.std.proofs.lemmas.Bool.{ltb-false}
use Rattle.std.proofs.lemmas.List.Concat.{flat_map-append}
use Rattle.dl_types.specs.declared.row.Row.{Row}
use Rattle.dl_types.specs.declared.refusal.Refusal.{Refusal}
use Rattle.dl_types.specs.declared.refusal.Refusal.TheVariants.{TxidBack, TooLong, WindowFull}
use Rattle.dl_transcript.specs.declared.event.Event.TheVariants.{Sent, Took, Refused, Nothing}
use Rattle.dl_transcript.specs.Legal.{History, Leaves, effect_on_read, keeps, sees}
use Rattle.dlog.specs.Machine.{Log, Effect, segment, next_row, take, send, send_and_take, append, flush, confirm, entry_events, fits, is_window_full}
use Rattle.dl_types.specs.declared.payload.TheConstants.{MAX_PAYLOAD}
use Rattle.dlog.proofs.Leads.{Leads, leads_one, leads_both, leads_to}
use Rattle.dlog.proofs.Rules.{keeps_refused, sees_refused}
use Rattle.dlog.proofs.Rows.{TookRows, took_take, took_send, took_confirm}
use Rattle.dlog.proofs.WriterHistories.{WriterHistory, Fits, took_leads, upto, entries_lead}

-- the rows that were taken and aren't confirmed
abbrev pub pending : Log → List Row
pending g = flat_map (λ rows. rows) g.waiting ++ g.filling

-- how far the writer of a log has come that took these rows, and of which these have grown
abbrev pub writer_history : ℕ → Log → List Row → List Row → WriterHistory
writer_history sessions g rows grown = record { sessions = sessions; client = g.client; stream = g.stream; taken = rows; grown = grown; acked = length grown }

-- the rows that a log took are those that have grown, with those that are pending behind them, and so they were seen
pub record LogFits (sessions : ℕ) (g : Log) (s : History) : Type 0 where
  pub rows : List Row
  pub grown : List Row
  pub took : TookRows g rows
  pub parts : rows ≡ grown ++ pending g
  pub seen : Fits (writer_history sessions g rows grown) s

-- an act of the log leads to what fits the log that it leaves
abbrev pub ActLeads : ℕ → History → Effect Log → Type 0
ActLeads sessions s act = Leads (LogFits sessions act.0) s act.1

-- a record is taken
take_leads : (sessions : ℕ) (g : Log) (txid : ℕ) (payload : List ℕ) (s : History) → g.last ≤ txid → LogFits sessions g s
    → ActLeads sessions s (take g txid payload)
unfolding take
take_leads sessions g txid payload s le h =
    let r : Row = next_row g txid payload in
    let w : WriterHistory = writer_history sessions g h.rows h.grown in
    let first : List Row = flat_map (λ (x : List Row). x) g.waiting in
    let parts : h.rows ++ r ∷ [] ≡ h.grown ++ (first ++ (g.filling ++ r ∷ [])) =
    ap (λ xs. xs ++ r ∷ []) h.parts ∙ append_assoc h.grown (first ++ g.filling) (r ∷ []) ∙ ap (λ xs. h.grown ++ xs) (append_assoc first g.filling (r ∷ [])) in
    let now : Log = record g { taken = g.taken + 1; last = txid; filling = g.filling ++ r ∷ [] } in
    leads_to (Fits (record w { taken = w.taken ++ r ∷ [] })) (LogFits sessions now) s (Took g.client (g.taken + 1) g.stream txid payload ∷ [])
    (λ t f. record { rows = h.rows ++ r ∷ []; grown = h.grown; took = took_take g h.rows txid payload le h.took; parts = parts; seen = f })
    (took_leads w s (g.taken + 1) r (ap (λ n. n + 1) (sym h.took.count)) h.seen)

-- an entry is sent, which has no rule: its rows stay pending
send_leads : (sessions : ℕ) (g : Log) (s : History) → LogFits sessions g s → ActLeads sessions s (send g)
unfolding send keeps sees
send_leads sessions g s h =
    let first : List Row = flat_map (λ (x : List Row). x) g.waiting in
    let same : flat_map (λ (x : List Row). x) (g.waiting ++ g.filling ∷ []) ++ [] ≡ first ++ g.filling =
    append-nil _ ∙ flat_map-append (λ (x : List Row). x) g.waiting (g.filling ∷ []) ∙ ap (λ xs. first ++ xs) (append-nil g.filling) in
    leads_one (LogFits sessions (record g { sent = g.sent + 1; waiting = g.waiting ++ g.filling ∷ []; filling = [] })) s (Sent g.client segment g.sent) refl
    (record { rows = h.rows; grown = h.grown; took = took_send g h.rows h.took; parts = h.parts ∙ ap (λ xs. h.grown ++ xs) (sym same); seen = h.seen })

-- an entry is sent, and then a record is taken
send_and_take_leads : (sessions : ℕ) (g : Log) (txid : ℕ) (payload : List ℕ) (s : History) → g.last ≤ txid → LogFits sessions g s
    → ActLeads sessions s (send_and_take g txid payload)
unfolding send_and_take send
send_and_take_leads sessions g txid payload s le h =
    leads_both (LogFits sessions (send g).0) (LogFits sessions (take (send g).0 txid payload).0) s (send g).1 (take (send g).0 txid payload).1
    (send_leads sessions g s h) (λ t k. take_leads sessions (send g).0 txid payload t le k)

-- a refusal that leaves reads leaves the log
refused_leads : (sessions : ℕ) (g : Log) (c : ℕ) (why : Refusal) (s : History) → effect_on_read why ≡ Leaves → LogFits sessions g s
    → ActLeads sessions s (g, Refused c why ∷ [])
refused_leads sessions g c why s leaves h =
    leads_one (LogFits sessions g) s (Refused c why) (keeps_refused s c why leaves) (subst (LogFits sessions g) (sym (sees_refused s c why leaves)) h)

-- an append is refused, or takes its record
pub append_leads : (sessions : ℕ) (g : Log) (txid : ℕ) (payload : List ℕ) (s : History) → LogFits sessions g s → ActLeads sessions s (append g txid payload)
unfolding append
append_leads sessions g txid payload s h =
    go (nat_lt MAX_PAYLOAD (length payload)) (nat_lt txid g.last) (fits g payload) (is_window_full g) (ltb-false txid g.last) (TooLong (length payload))
    (TxidBack g.last txid) refl refl
  where
    go : (a b c d : Bool) → (b ≡ false → g.last ≤ txid) → (x y : Refusal) → effect_on_read x ≡ Leaves → effect_on_read y ≡ Leaves
        → ActLeads sessions s (cond {A = Effect Log} a (g, Refused g.client x ∷ []) (cond {A = Effect Log} b (g, Refused g.client y ∷ [])
        (cond {A = Effect Log} c (take g txid payload) (cond {A = Effect Log} d (g, Refused g.client WindowFull ∷ []) (send_and_take g txid payload)))))
    go true b c d le x y p q = refused_leads sessions g g.client x s p h
    go false true c d le x y p q = refused_leads sessions g g.client y s q h
    go false false true d le x y p q = take_leads sessions g txid payload s (le refl) h
    go false false false true le x y p q = refused_leads sessions g g.client WindowFull s refl h
    go false false false false le x y p q = send_and_take_leads sessions g txid payload s (le refl) h

-- a flush is refused, or sends the entry under way
pub flush_leads : (sessions : ℕ) (g : Log) (s : History) → LogFits sessions g s → ActLeads sessions s (flush g)
unfolding flush keeps sees
flush_leads sessions g s h = go (length g.filling == 0) (is_window_full g)
  where
    go : (a b : Bool) → ActLeads sessions s (cond {A = Effect Log} a (g, Nothing ∷ []) (cond {A = Effect Log} b (g, Refused g.client WindowFull ∷ []) (send g)))
    go true b = leads_one (LogFits sessions g) s Nothing refl h
    go false true = refused_leads sessions g g.client WindowFull s refl h
    go false false = send_leads sessions g s h

-- the entries that were sent are confirmed
pub confirm_leads : (sessions : ℕ) (g : Log) (s : History) → LogFits sessions g s → ActLeads sessions s (confirm g)
unfolding confirm
confirm_leads sessions g s h =
    let w : WriterHistory = writer_history sessions g h.rows h.grown in
    let first : List Row = flat_map (λ (x : List Row). x) g.waiting in
    leads_to (Fits (upto w (h.grown ++ first))) (LogFits sessions (record g { waiting = [] })) s (flat_map (entry_events g.stream) g.waiting)
    (λ t f. record {
      rows = h.rows;
      grown = h.grown ++ first;
      took = took_confirm g h.rows h.took;
      parts = h.parts ∙ sym (append_assoc h.grown first g.filling);
      seen = f;
    })
    (entries_lead g.waiting g.filling h.grown w s h.took.in_turn h.parts h.seen)
