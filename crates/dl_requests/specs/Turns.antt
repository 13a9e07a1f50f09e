-- What a task answers, by what its order does next.
use Rattle.std.specs.Prelude.{◌≡◌}
use Rattle.dl_msg.specs.declared.turn.Turn.{Turn}
use Rattle.dl_msg.specs.declared.turn.Turn.TheVariants as turn
use Rattle.dl_rules_stream.specs.Requests.{op_of}
use Rattle.dl_rules_stream.specs.Orders.{Next, Wait, Ask, Tell, Done, Refused}
use Rattle.dl_requests.specs.declared.moves.Move.{Move}
use Rattle.dl_requests.specs.declared.moves.Move.TheVariants.{Stays, Goes}

-- the turn of what an order does next: a request is asked as the operation that it is
abbrev pub turn_of : {A : Type 0} → Next A → Turn A
turn_of Wait = turn.Wait
turn_of (Ask request) = turn.Ask (op_of request)
turn_of (Tell letters) = turn.Tell letters
turn_of (Done result) = turn.Done result
turn_of (Refused refusal) = turn.Refused refusal

-- a turn is what the order does next; where the order is done, its value and that of the turn are related so
abbrev pub IsTurn : {A B : Type 0} → (A → B → Type 0) → Next A → Turn B → Type 0
IsTurn P Wait turn.Wait = Unit {0}
IsTurn P (Ask request) (turn.Ask op) = op ≡ op_of request
IsTurn P (Tell letters) (turn.Tell told) = told ≡ letters
IsTurn P (Done a) (turn.Done b) = P a b
IsTurn P (Refused r) (turn.Refused refusal) = refusal ≡ r
IsTurn P next t = ⊥

-- the same where the order is done with a value that this makes of its own
abbrev pub next_by : {A B : Type 0} → (A → B) → Next A → Next B
next_by f Wait = Wait
next_by f (Ask request) = Ask request
next_by f (Tell letters) = Tell letters
next_by f (Done result) = Done (f result)
next_by f (Refused refusal) = Refused refusal

-- where an order goes, done with such a value
abbrev pub goes_by : {R A B : Type 0} → (A → B) → R × Next A → R × Next B
goes_by f (stage, next) = (stage, next_by f next)

-- the stage to which an order goes, and the turn of what it does next
abbrev pub answer_of : {R A : Type 0} → R × Next A → R × Turn A
answer_of (stage, next) = (stage, turn_of next)

-- what a task's move says, from a stage of its order: the order's stage that it stands for then, and its turn
abbrev pub move_of : {S R A : Type 0} → (S → R) → R → Move S A → R × Turn A
move_of stands stage Stays = (stage, turn.Wait)
move_of stands stage (Goes kept turn) = (stands kept, turn)

-- the kept stage behind a move
abbrev pub stage_behind : {S A : Type 0} → S → Move S A → S
stage_behind stage Stays = stage
stage_behind stage (Goes next t) = next

-- the turn of a move
abbrev pub turn_in : {S A : Type 0} → Move S A → Turn A
turn_in Stays = turn.Wait
turn_in (Goes next t) = t
