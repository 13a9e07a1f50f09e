-- What an order does at what it hears, as one rule for all orders that end with an event.
use Rattle.std.specs.Prelude.{◌≡◌, ℕ, false, List, ◌∷◌, Option, Some, None}
use Rattle.dl_msg.specs.declared.heard.Heard.{Heard}
use Rattle.dl_msg.specs.declared.turn.Turn.{Turn}
use Rattle.dl_transcript.specs.declared.event.Event.{Event}
use Rattle.dl_transcript.specs.declared.event.Event.TheVariants as event
use Rattle.dl_rules_stream.specs.Orders.{Next, Wait}
use Rattle.dl_rules_stream.specs.Makes.{make_hears, make_stage}
use Rattle.dl_rules_stream.specs.Removes.{remove_hears, remove_stage}
use Rattle.dl_rules_stream.specs.Truncates.{truncate_hears, truncate_stage}
use Rattle.dl_rules_stream.specs.Purges.{purge_hears, purge_stage}
use Rattle.dl_requests.specs.Turns.{turn_of, next_by}
use Rattle.dl_rules_client.specs.Acts.{ClientArgs, no_acts}
use Rattle.dl_rules_client.specs.Views as rule
use Rattle.dl_rules_client.specs.Views.{ClientNow, ClientMove, order_doing, stays, truncate_args}
use Rattle.dl_rules_client.specs.Orders.{order_hears}
use Rattle.dl_client.specs.declared.doing.Doing.{Doing}
use Rattle.dl_client.specs.declared.order.Order.{Order}
use Rattle.dl_client.specs.Standing.{DoingStands, OrderStands}

-- What an order that heard something does then, and what it does next.
pub record Going : Type 0 where
  pub doing : rule.Doing
  pub next : Next Event

-- an order that goes on so, and ends with this event of what its list is done with
abbrev pub goes_with : {A : Type 0} → rule.Doing → Next A → (A → Event) → Going
goes_with doing next end = record { doing = doing; next = next_by end next }

-- what an order does at what it hears
abbrev pub going_at : ℕ → rule.Order → Heard → rule.Doing → Going
going_at client o h (rule.Makes heard) =
    goes_with (rule.Makes (h ∷ heard)) (make_hears o.stream (make_stage o.stream heard) h).1 (λ u. event.Created client o.stream)
going_at client o h (rule.Removes heard) =
    goes_with (rule.Removes (h ∷ heard)) (remove_hears o.stream (remove_stage o.stream heard) h).1 (λ u. event.Removed client o.stream)
going_at client o h (rule.Truncates to heard) =
    let args = truncate_args o to in
    goes_with (rule.Truncates to (h ∷ heard)) (truncate_hears args (truncate_stage args heard) h).1 (event.Truncated client o.stream)
going_at client o h (rule.Purges heard) =
    goes_with (rule.Purges (h ∷ heard)) (purge_hears o.stream (purge_stage o.stream heard) h).1 (event.Purged client o.stream)
going_at client o h doing = record { doing = doing; next = Wait }

-- the same of an order as it is
abbrev pub going_of : ClientArgs → rule.Order → Heard → Going
going_of me o h = going_at me.number o h o.doing

-- an order that heard something answers with this turn, and this task stands for what it does then
pub record DoingGoes (me : ClientArgs) (o : rule.Order) (h : Heard) (t : Turn Event) (k : Doing) : Type 0 where
  pub turn : t ≡ turn_of (going_of me o h).next
  pub stands : DoingStands me (order_doing o (going_of me o h).doing) k

-- the same of the whole order
pub record OrderGoes (me : ClientArgs) (o : rule.Order) (h : Heard) (t : Turn Event) (k : Order) : Type 0 where
  pub turn : t ≡ turn_of (going_of me o h).next
  pub stands : OrderStands me (order_doing o (going_of me o h).doing) k

-- ---- the client

-- what a client does where its order under way hears something
abbrev pub hears_in : ClientArgs → ClientNow → Heard → Option rule.Order → ClientMove
hears_in me n h None = stays n no_acts
hears_in me n h (Some o) = order_hears me n o h o.doing

-- a client whose request waits for no reply
abbrev pub replied : ClientNow → ClientNow
replied n = record n { awaits = false }
