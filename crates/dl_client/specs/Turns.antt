-- Turns of tasks, as turns of an order.
use Rattle.dl_msg.specs.declared.turn.Turn.{Turn}
use Rattle.dl_msg.specs.declared.turn.Turn.TheVariants as turn

-- the same turn, where an order is done with what this makes of a task's value
abbrev pub turn_by : {A B : Type 0} → (A → B) → Turn A → Turn B
turn_by f turn.Wait = turn.Wait
turn_by f (turn.Ask op) = turn.Ask op
turn_by f (turn.Tell letters) = turn.Tell letters
turn_by f (turn.Done result) = turn.Done (f result)
turn_by f (turn.Refused refusal) = turn.Refused refusal
