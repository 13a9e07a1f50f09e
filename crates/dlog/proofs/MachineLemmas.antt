-- What the machine's acts do to its counts, and how many rows an entry has.
use Rattle.std.proofs.Common.{ℕ, ◌+◌, ◌*◌, ◌<◌, ◌≤◌, Bool, true, false, cond, nat_lt, ◌==◌, List, [], ◌∷◌, length, Option, Some, None, arith}
use Rattle.std.specs.Prelude.{IfSome}
use Rattle.dl_types.specs.declared.row.Row.{Row}
use Rattle.std.proofs.lemmas.List.Sums.{sum_by-cons}
use Rattle.dl_types.specs.declared.refusal.Refusal.TheVariants.{TxidBack, TooLong, WindowFull}
use Rattle.dl_schedule.specs.declared.step.Step.{Step}
use Rattle.dl_schedule.specs.declared.step.Step.TheVariants as step
use Rattle.dl_transcript.specs.declared.event.Event.{Event}
use Rattle.dl_transcript.specs.declared.event.Event.TheVariants.{Refused, Nothing}
use Rattle.dlog.specs.declared.order.Order.{Order}
use Rattle.dlog.specs.declared.order.Order.TheVariants as order
use Rattle.dlog.specs.Machine.{Log, State, Effect, record_size, entry_size, take, send, send_and_take, append, flush}
use Rattle.dlog.specs.Machine.{confirm, on_log, finish, settle, one, fits, is_window_full, LogWithin, Within}
use Rattle.dl_types.specs.declared.payload.TheConstants.{MAX_PAYLOAD}

-- each row of an entry takes its header
pub size_of_rows : (rows : List Row) → 8 + 20 * length rows ≤ entry_size rows
size_of_rows [] = omega arith
size_of_rows (r ∷ rows) = omega (arith, size_of_rows rows, sum_by-cons (λ (x : Row). record_size (length x.payload)) r rows)

-- a log counts up by one at most
pub record CountsUp (old new : Log) : Type 0 where
  pub taken : new.taken ≤ old.taken + 1
  pub sent : new.sent ≤ old.sent + 1

-- a log that stays
still : (g : Log) → CountsUp g g
still g = record { taken = omega arith; sent = omega arith }

-- an append counts up by one at most
append_counts : (g : Log) (txid : ℕ) (payload : List ℕ) → CountsUp g (append g txid payload).0
unfolding append send_and_take take send
append_counts g txid payload = go (nat_lt MAX_PAYLOAD (length payload)) (nat_lt txid g.last) (fits g payload) (is_window_full g)
    (Refused g.client (TooLong (length payload)) ∷ []) (Refused g.client (TxidBack g.last txid) ∷ []) (Refused g.client WindowFull ∷ [])
  where
    go : (a b c d : Bool) (x y z : List Event)
        → CountsUp g (cond {A = Effect Log} a (g, x) (cond {A = Effect Log} b (g, y)
        (cond {A = Effect Log} c (take g txid payload) (cond {A = Effect Log} d (g, z) (send_and_take g txid payload))))).0
    go true b c d x y z = still g
    go false true c d x y z = still g
    go false false true d x y z = record { taken = omega arith; sent = omega arith }
    go false false false true x y z = still g
    go false false false false x y z = record { taken = omega arith; sent = omega arith }

-- a flush counts up by one at most
flush_counts : (g : Log) → CountsUp g (flush g).0
unfolding flush send
flush_counts g = go (length g.filling == 0) (is_window_full g) (Nothing ∷ []) (Refused g.client WindowFull ∷ [])
  where
    go : (a b : Bool) (x y : List Event) → CountsUp g (cond {A = Effect Log} a (g, x) (cond {A = Effect Log} b (g, y) (send g))).0
    go true b x y = still g
    go false true x y = still g
    go false false x y = record { taken = omega arith; sent = omega arith }

-- what is confirmed is not counted
confirm_counts : (g : Log) → CountsUp g (confirm g).0
unfolding confirm
confirm_counts g = record { taken = omega arith; sent = omega arith }

-- counts that went up by one at most are below one number more
log_within : (n : ℕ) (g h : Log) → CountsUp g h → LogWithin n g → LogWithin (n + 1) h
log_within n g h up w = record { taken = omega (arith, up.taken, w.taken); sent = omega (arith, up.sent, w.sent) }

-- counts below a number are below the next one
log_later : (n : ℕ) (o : Option Log) → IfSome o (LogWithin n) → IfSome o (LogWithin (n + 1))
log_later n None w = tt
log_later n (Some g) w = log_within n g g (still g) w

-- the counts of a machine too
later : (n : ℕ) (s : State) → Within n s → Within (n + 1) s
later n s w = record { sessions = omega (arith, w.sessions); log = log_later n s.log w.log }

-- an act that counts up by one at most keeps the counts of the machine within one number more
on_log_within : (n : ℕ) (s : State) (o : Option Log) (f : Log → Effect Log) (other : List Event) → ((g : Log) → CountsUp g (f g).0) → s.sessions < n + 1
    → IfSome s.log (LogWithin n) → IfSome o (LogWithin n) → Within (n + 1) (on_log f other s o).0
on_log_within n s None f other up sessions whole w = record { sessions = sessions; log = log_later n s.log whole }
on_log_within n s (Some g) f other up sessions whole w = record { sessions = sessions; log = log_within n g (f g).0 (up g) w }

-- an order that ends leaves the counts below the number
finish_within : (n : ℕ) (s : State) (o : Option Order) → 0 < n → Within n s → Within n (finish s o).0
finish_within n s None pos w = w
finish_within n s (Some (order.Create c stream)) pos w = record { sessions = w.sessions; log = w.log }
finish_within n s (Some (order.Open c stream)) pos w = record { sessions = w.sessions; log = record { taken = pos; sent = pos } }

-- each step counts up by one at most
pub one_within : (n : ℕ) (s : State) (x : Step) → Within n s → Within (n + 1) (one s x).0
unfolding one settle
one_within n s (step.Join c) w = record { sessions = omega (arith, w.sessions); log = (later n s w).log }
one_within n s (step.Create c stream) w = record { sessions = (later n s w).sessions; log = (later n s w).log }
one_within n s (step.Open c stream) w = record { sessions = (later n s w).sessions; log = (later n s w).log }
one_within n s (step.Append c txid payload) w = on_log_within n s s.log (λ g. append g txid payload) (Nothing ∷ []) (λ g. append_counts g txid payload)
    (omega (arith, w.sessions)) w.log w.log
one_within n s (step.Flush c) w = on_log_within n s s.log flush (Nothing ∷ []) flush_counts (omega (arith, w.sessions)) w.log w.log
one_within n s step.Settle w =
    let f = finish_within n s s.order (omega (arith, w.sessions)) w in
    on_log_within n (finish s s.order).0 (finish s s.order).0.log confirm [] confirm_counts (omega (arith, f.sessions)) f.log f.log
one_within n s _ w = later n s w
