-- A client stands for what it is by the rules: each thing that it keeps is what they say, and each task in it stands for the view of
-- that task.
use Rattle.std.specs.Prelude.{◌≡◌, ℕ, List, ◌∷◌, Option, Some, None}
use Rattle.dl_types.specs.declared.dlsn.Dlsn.{Dlsn}
use Rattle.dl_msg.specs.declared.heard.Heard.{Heard}
use Rattle.dl_rules_client.specs.Acts.{Input, ClientArgs, Acts}
use Rattle.dl_rules_client.specs.Clients.{acts_of, client_of}
use Rattle.dl_rules_client.specs.Views as rule
use Rattle.dl_rules_client.specs.Views.{ClientNow, ClientMove, truncate_args}
use Rattle.dl_acts.specs.declared.parts.Parts.{Parts}
use Rattle.dl_acts.specs.Parts.{acts_by}
use Rattle.dl_namespace.specs.Facts.{MakeFacts, RemoveFacts}
use Rattle.dl_namespace.specs.Making.{MakesFor}
use Rattle.dl_namespace.specs.Removing.{RemovesFor}
use Rattle.dl_trunc.specs.Facts.{TruncateFacts, PurgeFacts}
use Rattle.dl_trunc.specs.Truncating.{TruncatesFor}
use Rattle.dl_trunc.specs.Purging.{PurgesFor}
use Rattle.dl_client.specs.declared.doing.Doing.{Doing}
use Rattle.dl_client.specs.declared.doing.Doing.TheVariants as kept
use Rattle.dl_client.specs.declared.order.Order.{Order}
use Rattle.dl_client.specs.Facts.{ClientFacts}

-- ---- orders

-- an order makes its stream, and this task stands for what it heard
pub record IsMaking (o : rule.Order) (task : MakeFacts) : Type 0 where
  pub heard : List Heard
  pub is : o.doing ≡ rule.Makes heard
  pub stands : MakesFor (record { given = o.stream; heard = heard }) task

-- an order removes its stream, and this task stands for what it heard
pub record IsRemoving (o : rule.Order) (task : RemoveFacts) : Type 0 where
  pub heard : List Heard
  pub is : o.doing ≡ rule.Removes heard
  pub stands : RemovesFor (record { given = o.stream; heard = heard }) task

-- an order moves the point of its stream, and this task stands for what it heard
pub record IsTruncating (o : rule.Order) (task : TruncateFacts) : Type 0 where
  pub to : Dlsn
  pub heard : List Heard
  pub is : o.doing ≡ rule.Truncates to heard
  pub stands : TruncatesFor (record { given = truncate_args o to; heard = heard }) task

-- an order deletes the segments below the point of its stream, and this task stands for what it heard
pub record IsPurging (o : rule.Order) (task : PurgeFacts) : Type 0 where
  pub heard : List Heard
  pub is : o.doing ≡ rule.Purges heard
  pub stands : PurgesFor (record { given = o.stream; heard = heard }) task

-- the task of an order stands for what the order heard
abbrev pub DoingStands : ClientArgs → rule.Order → Doing → Type 0
DoingStands me o (kept.Makes task) = IsMaking o task
DoingStands me o (kept.Removes task) = IsRemoving o task
DoingStands me o (kept.Truncates task) = IsTruncating o task
DoingStands me o (kept.Purges task) = IsPurging o task

-- an order under way
pub record OrderStands (me : ClientArgs) (o : rule.Order) (k : Order) : Type 0 where
  pub line : k.line ≡ o.line
  pub stream : k.stream ≡ o.stream
  pub doing : DoingStands me o k.doing

-- ---- the client

-- something is there, and this one stands for it
pub record IsThere {A B : Type 0} (P : A → B → Type 0) (x : Option A) (b : B) : Type 0 where
  pub value : A
  pub is : x ≡ Some value
  pub stands : P value b

-- both are there and the one stands for the other, or neither is
abbrev pub BothStand : {A B : Type 0} → (A → B → Type 0) → Option A → Option B → Type 0
BothStand P x None = x ≡ None
BothStand P x (Some b) = IsThere P x b

-- each thing that a client keeps is what the rules say
pub record NowStands (me : ClientArgs) (n : ClientNow) (c : ClientFacts) : Type 0 where
  pub number : c.number ≡ me.number
  pub session : c.session ≡ me.session
  pub conf : c.conf ≡ me.conf
  pub asked : c.asked ≡ n.asked
  pub awaits : c.awaits ≡ n.awaits
  pub taken : c.taken ≡ n.taken
  pub order : BothStand (OrderStands me) n.order c.order
  pub writer : n.writer ≡ None
  pub reader : n.reader ≡ None

-- a client that makes a move does what the rules say, and stands then for what it is by them
pub record Does (me : ClientArgs) (move : ClientMove) (parts : Parts) (c : ClientFacts) : Type 0 where
  pub acts_are : acts_by parts None ≡ move.acts
  pub stands : NowStands me move.now c

-- a client stands for a view: the lines and letters that it took, the newest first
abbrev pub StandsFor : ClientArgs → List Input → ClientFacts → Type 0
StandsFor me view c = NowStands me (client_of me view) c

-- a client that takes something does what the rules say, and stands then for the view with it
pub record Takes (me : ClientArgs) (view : List Input) (x : Input) (acts : Acts) (c : ClientFacts) : Type 0 where
  pub acts_are : acts ≡ acts_of me view x
  pub stands : StandsFor me (x ∷ view) c
