-- What a turn of its order does to what a client keeps, whatever it stands for.
use Rattle.std.specs.Prelude.{ℕ, ◌+◌, ◌==◌, Bool, true, false, Option, Some, None}
use Rattle.dl_msg.specs.declared.turn.Turn.{Turn}
use Rattle.dl_msg.specs.declared.turn.Turn.TheVariants as turn
use Rattle.dl_transcript.specs.declared.event.Event.{Event}
use Rattle.dl_transcript.specs.declared.event.Event.TheVariants as event
use Rattle.dl_schedule.specs.declared.step.Step.{Step}
use Rattle.dl_schedule.specs.declared.step.Step.TheVariants as step
use Rattle.dl_acts.specs.declared.front.Front.{Front}
use Rattle.dl_acts.specs.declared.parts.Parts.{Parts}
use Rattle.dl_acts.specs.Parts.{parts_behind}
use Rattle.dl_client.specs.declared.order.Order.{Order}
use Rattle.dl_client.specs.Facts.{ClientFacts}

-- a client with this order under way
abbrev pub with_order : ClientFacts → Order → ClientFacts
with_order c k = record c { order = Some k }

-- a client whose order has ended
abbrev pub without_order : ClientFacts → ClientFacts
without_order c = record c { order = None; awaits = false }

-- a client after a turn of its order
abbrev pub after_turn : ClientFacts → Turn Event → ClientFacts
after_turn c turn.Wait = c
after_turn c (turn.Ask op) = record c { asked = c.asked + 1; awaits = true }
after_turn c (turn.Tell letters) = c
after_turn c (turn.Done e) = without_order c
after_turn c (turn.Refused r) = without_order c

-- what a client does at a turn of its order, behind a front
abbrev pub parts_at : ClientFacts → Front → Turn Event → Parts
parts_at c front turn.Wait = parts_behind c.number c.session front
parts_at c front (turn.Ask op) = record (parts_behind c.number c.session front) { asked = Some (record { number = c.asked + 1; op = op }) }
parts_at c front (turn.Tell letters) = record (parts_behind c.number c.session front) { told = letters }
parts_at c front (turn.Done e) = record (parts_behind c.number c.session front) { last = Some e }
parts_at c front (turn.Refused r) = record (parts_behind c.number c.session front) { last = Some (event.Refused c.number r) }

-- whether the order under way has this tag
abbrev pub is_tag : ℕ → Option Order → Bool
is_tag tag None = false
is_tag tag (Some k) = tag == k.line

-- lines that are records, or send them
abbrev pub is_record : Step → Bool
is_record (step.Append c txid payload) = true
is_record (step.Set c txid payloads) = true
is_record (step.Flush c) = true
is_record x = false

-- lines whose orders have a task here
abbrev pub HasTask : Step → Type 0
HasTask (step.Open c s) = ⊥
HasTask (step.Recover c s) = ⊥
HasTask (step.SeekOldest c s) = ⊥
HasTask (step.SeekPlace c s d) = ⊥
HasTask (step.SeekTxid c s txid) = ⊥
HasTask x = Unit {0}
