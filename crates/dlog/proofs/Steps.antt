-- The machine and what was seen of it fit together, and so they do behind each step.
use Rattle.std.proofs.Common.{◌≡◌, ℕ, ◌+◌, Bool, true, false, cond, ◌==◌, List, [], ◌∷◌, length, Option, Some, None, refl, sym, ap, arith}
use Rattle.std.proofs.lemmas.Option.{none-some}
use Rattle.dl_schedule.specs.declared.step.Step.{Step}
use Rattle.dl_schedule.specs.declared.step.Step.TheVariants as step
use Rattle.dl_transcript.specs.declared.event.Event.{Event}
use Rattle.dl_transcript.specs.declared.event.Event.TheVariants.{Joined, Created, Writer, Nothing}
use Rattle.dl_transcript.specs.Legal.{History, StreamHistory, ClientHistory, new_stream, new_client, no_history, has, keeps, sees}
use Rattle.dl_transcript.specs.Histories.{put_reader}
use Rattle.dl_transcript.proofs.Runs.{Keeps, none, more}
use Rattle.dlog.specs.declared.order.Order.{Order}
use Rattle.dlog.specs.declared.order.Order.TheVariants as order
use Rattle.dlog.specs.Machine.{Log, State, Effect, start, new_log, segment, append, flush, confirm, on_log, finish, settle, one}
use Rattle.dlog.proofs.Leads.{Leads, leads_none, leads_one, leads_both, leads_to}
use Rattle.dlog.proofs.Rules.{keeps_joined, keeps_writer}
use Rattle.dlog.proofs.Rows.{took_none}
use Rattle.dlog.proofs.WriterHistories.{records_stay, writer_fits}
use Rattle.dlog.proofs.Coupled.{LogFits, ActLeads, append_leads, flush_leads, confirm_leads}

-- sessions alone were seen
pub record NoneSeen (sessions : ℕ) (s : History) : Type 0 where
  pub joined : s.sessions ≡ sessions
  pub streams : (stream : List ℕ) → s.streams stream ≡ new_stream
  pub clients : (c : ℕ) → s.clients c ≡ new_client

-- what was seen of the log that was opened, or of none
abbrev pub LogSeen : ℕ → Option Log → History → Type 0
LogSeen sessions None s = NoneSeen sessions s
LogSeen sessions (Some g) s = LogFits sessions g s

-- no order is under way beside an open log
abbrev pub OrderFits : Option Log → Option Order → Type 0
OrderFits None o = Unit {0}
OrderFits (Some g) o = o ≡ None

-- a machine, and what was seen of it
pub record Coupled (s : State) (seen : History) : Type 0 where
  pub log : LogSeen s.sessions s.log seen
  pub order : OrderFits s.log s.order

-- at the start nothing was seen
pub start_coupled : Coupled start no_history
start_coupled = record { log = record { joined = refl; streams = λ stream. refl; clients = λ c. refl }; order = tt }

-- what an act of the machine shows leads to what fits the machine that it leaves
abbrev pub StepLeads : History → Effect State → Type 0
StepLeads seen act = Leads (Coupled act.0) seen act.1

-- a machine of these parts
abbrev pub state : ℕ → Option Order → Option Log → State
state sessions o log = record { sessions = sessions; order = o; log = log }

-- joining

-- the sessions are those that were seen
sessions_seen : (sessions : ℕ) (log : Option Log) (s : History) → LogSeen sessions log s → s.sessions ≡ sessions
sessions_seen sessions None s h = h.joined
sessions_seen sessions (Some g) s h = h.seen.joined

-- a client of which nothing was seen
none_seen : (s : History) (c d : ℕ) → ((x : ℕ) → s.clients x ≡ new_client) → (put_reader s c None).clients d ≡ new_client
none_seen s c d clients = go (d == c)
  where
    go : (t : Bool) → cond t (record (s.clients c) { reader = None }) (s.clients d) ≡ new_client
    go true = ap (λ (x : ClientHistory). record x { reader = None }) (clients c)
    go false = clients d

-- a session more changes nothing else but a reader
seen_with : (sessions c k : ℕ) (log : Option Log) (s : History) → LogSeen sessions log s → LogSeen k log (record (put_reader s c None) { sessions = k })
seen_with sessions c k None s h = record { joined = refl; streams = h.streams; clients = λ d. none_seen s c d h.clients }
seen_with sessions c k (Some g) s h = record {
  rows = h.rows;
  grown = h.grown;
  took = h.took;
  parts = h.parts;
  seen = record { joined = refl; rows = h.seen.rows; records = records_stay s c g.client g.stream h.rows (length h.grown) h.seen.records };
}

-- a client joins
join_leads : (s : State) (c : ℕ) (seen : History) → Coupled s seen → StepLeads seen (record s { sessions = s.sessions + 1 }, Joined c (s.sessions + 1) ∷ [])
unfolding sees
join_leads s c seen h =
    leads_one (Coupled (record s { sessions = s.sessions + 1 })) seen (Joined c (s.sessions + 1))
    (keeps_joined seen c (s.sessions + 1) (record { next = ap (λ n. n + 1) (sym (sessions_seen s.sessions s.log seen h.log)) }))
    (record { log = seen_with s.sessions c (s.sessions + 1) s.log seen h.log; order = h.order })

-- orders

-- where no log is open any order may be under way
order_free : (log : Option Log) (o : Option Order) → log ≡ None → OrderFits log o
order_free None o e = tt
order_free (Some g) o e = absurd (none-some g (sym e))

-- an order is under way, and nothing is shown
order_leads : (s : State) (o : Order) (seen : History) → s.log ≡ None → Coupled s seen → StepLeads seen (record s { order = Some o }, [])
order_leads s o seen e h = leads_none (Coupled (record s { order = Some o })) seen (record { log = h.log; order = order_free s.log (Some o) e })

-- no order may be under way beside any log
no_order : (log : Option Log) → OrderFits log None
no_order None = tt
no_order (Some g) = refl

-- a log is opened: its client is the writer of the first segment
writer_leads : (sessions : ℕ) (c : ℕ) (stream : List ℕ) (seen : History) → NoneSeen sessions seen
    → StepLeads seen (state sessions None (Some (new_log c stream)), Writer c stream segment ∷ [])
writer_leads sessions c stream seen h =
    leads_one (Coupled (state sessions None (Some (new_log c stream)))) seen (Writer c stream segment)
    (keeps_writer seen c stream segment (record {
      counted = omega arith;
      within = omega (arith, ap (λ (x : StreamHistory). x.closed) (h.streams stream));
      fresh = ap (λ (x : StreamHistory). has segment x.writers) (h.streams stream);
    }))
    (record {
      log = record {
        rows = [];
        grown = [];
        took = took_none c stream;
        parts = refl;
        seen = writer_fits sessions c stream seen h.joined (h.streams stream) (h.clients c);
      };
      order = refl;
    })

-- the order under way ends
finish_leads : (sessions : ℕ) (o : Option Order) (log : Option Log) (seen : History) → Coupled (state sessions o log) seen
    → StepLeads seen (finish (state sessions o log) o)
unfolding keeps sees
finish_leads sessions None log seen h = leads_none (Coupled (state sessions None log)) seen h
finish_leads sessions (Some (order.Create c stream)) log seen h = leads_one (Coupled (state sessions None log)) seen (Created c stream) refl
    (record { log = h.log; order = no_order log })
finish_leads sessions (Some (order.Open c stream)) None seen h = writer_leads sessions c stream seen h.log
finish_leads sessions (Some (order.Open c stream)) (Some g) seen h = absurd (none-some (order.Open c stream) (sym h.order))

-- acts of the log

-- an act of the log that was opened, or what is shown without one
on_log_leads : (f : Log → Effect Log) (other : List Event) (sessions : ℕ) (o : Option Order) (log : Option Log) (seen : History)
    → ((g : Log) → LogFits sessions g seen → ActLeads sessions seen (f g)) → Keeps seen other seen
    → Coupled (state sessions o log) seen → StepLeads seen (on_log f other (state sessions o log) log)
on_log_leads f other sessions o None seen acts k h = record { seen = seen; keep = k; fits = h }
on_log_leads f other sessions o (Some g) seen acts k h =
    leads_to (LogFits sessions (f g).0) (Coupled (state sessions o (Some (f g).0))) seen (f g).1 (λ t fit. record { log = fit; order = h.order }) (acts g h.log)

-- that nothing changed has no rule
nothing_kept : (seen : History) → Keeps seen (Nothing ∷ []) seen
unfolding keeps sees
nothing_kept seen = more refl none

-- the order under way ends, and the entries are confirmed
settle_leads : (s : State) (seen : History) → Coupled s seen → StepLeads seen (settle s)
unfolding settle
settle_leads s seen h =
    let now : Effect State = finish s s.order in
    let then : Effect State = on_log confirm [] now.0 now.0.log in
    leads_both (Coupled now.0) (Coupled then.0) seen now.1 then.1 (finish_leads s.sessions s.order s.log seen h)
    (λ t k. on_log_leads confirm [] now.0.sessions now.0.order now.0.log t (λ g fit. confirm_leads now.0.sessions g t fit) none k)

-- an order to create or to open comes before a log is open
abbrev pub MayStep : Option Log → Step → Type 0
MayStep log (step.Create c stream) = log ≡ None
MayStep log (step.Open c stream) = log ≡ None
MayStep log _ = Unit {0}

-- each step leads to what fits the machine behind it
pub one_leads : (s : State) (x : Step) (seen : History) → MayStep s.log x → Coupled s seen → StepLeads seen (one s x)
unfolding one
one_leads s (step.Join c) seen may h = join_leads s c seen h
one_leads s (step.Create c stream) seen may h = order_leads s (order.Create c stream) seen may h
one_leads s (step.Open c stream) seen may h = order_leads s (order.Open c stream) seen may h
one_leads s (step.Append c txid payload) seen may h =
    on_log_leads (λ g. append g txid payload) (Nothing ∷ []) s.sessions s.order s.log seen (λ g fit. append_leads s.sessions g txid payload seen fit)
    (nothing_kept seen) h
one_leads s (step.Flush c) seen may h = on_log_leads flush (Nothing ∷ []) s.sessions s.order s.log seen (λ g fit. flush_leads s.sessions g seen fit)
    (nothing_kept seen) h
one_leads s step.Settle seen may h = settle_leads s seen h
one_leads s _ seen may h = leads_none (Coupled s) seen h
