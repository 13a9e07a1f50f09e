-- A task stands for a view of its order: what it was given, and all that it heard.
use Rattle.std.specs.Prelude.{◌≡◌, List, [], ◌∷◌}
use Rattle.dl_msg.specs.declared.heard.Heard.{Heard}
use Rattle.dl_msg.specs.declared.turn.Turn.{Turn}
use Rattle.dl_rules_stream.specs.Orders.{Next, stage_after}
use Rattle.dl_requests.specs.Turns.{turn_of, next_by, IsTurn}

-- What an order is given, and what was heard, the newest first.
pub record View (X : Type 0) : Type 0 where
  pub given : X
  pub heard : List Heard

-- an order that has heard nothing yet
abbrev pub new_view : {X : Type 0} → X → View X
new_view x = record { given = x; heard = [] }

-- a view with one thing more that was heard
abbrev pub with_heard : {X : Type 0} → View X → Heard → View X
with_heard v h = record { given = v.given; heard = h ∷ v.heard }

-- An order by its rules: what it begins with, and what it does at a stage at what it hears.
pub record Order (X R A : Type 0) : Type 0 where
  pub first : X → R × Next A
  pub hears : X → R → Heard → R × Next A

-- the stage of an order after all that a view says
abbrev pub stage_by : {X R A : Type 0} → Order X R A → View X → R
stage_by o v = stage_after (o.first v.given) (o.hears v.given) v.heard

-- A task goes on as the rule does: it answers with this turn, and stands then at this stage.
pub record GoesBy {R A F : Type 0} (At : R → F → Type 0) (move : R × Next A) (t : Turn A) (f : F) : Type 0 where
  pub turn : t ≡ turn_of move.1
  pub stands : At move.0 f

-- A task answers by what its view says, and stands then for the view with what it heard.
pub record Hears {X R A F : Type 0} (o : Order X R A) (For : View X → F → Type 0) (v : View X) (h : Heard) (t : Turn A) (f : F) : Type 0 where
  pub turn : t ≡ turn_of (o.hears v.given (stage_by o v) h).1
  pub stands : For (with_heard v h) f

-- The same of a task that is done with what this makes of the rule's value.
pub record HearsBy {X R A B F : Type 0} (result : A → B) (o : Order X R A) (For : View X → F → Type 0) (v : View X) (h : Heard) (t : Turn B) (f : F)
    : Type 0 where
  pub turn : t ≡ turn_of (next_by result (o.hears v.given (stage_by o v) h).1)
  pub stands : For (with_heard v h) f

-- A task goes on as the rule does, where what it is done with is related so to the rule's value: it stands then at this stage.
pub record GoesTo {R A B F : Type 0} (P : A → B → Type 0) (At : R → F → Type 0) (move : R × Next A) (t : Turn B) (f : F) : Type 0 where
  pub turn : IsTurn P move.1 t
  pub stands : At move.0 f

-- The same of a task that answers by what its view says.
pub record HearsTo {X R A B F : Type 0} (P : A → B → Type 0) (o : Order X R A) (For : View X → F → Type 0) (v : View X) (h : Heard) (t : Turn B) (f : F)
    : Type 0 where
  pub turn : IsTurn P (o.hears v.given (stage_by o v) h).1 t
  pub stands : For (with_heard v h) f
