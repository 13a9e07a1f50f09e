-- The lines of a schedule: which of them change nothing, and the atomic steps of each of the others.
use Rattle.std.specs.Prelude.{ℕ, zero, suc, ◌-◌, Bool, true, false, if◌then◌else◌, not, ◌&&◌, ◌||◌, ◌==◌, nat_lt, nat_le, List, [], ◌∷◌, length, map}
use Rattle.std.specs.Prelude.{Option, Some, None, is_some, is_none, slice_get}
use Rattle.dl_types.specs.declared.address.Address.{Address}
use Rattle.dl_types.specs.declared.address.Address.TheVariants.{Client, Bookie as AtBookie, Meta as AtMeta}
use Rattle.dl_msg.specs.declared.letter.Letter.{Letter}
use Rattle.dl_session.specs.declared.admit.Admit.{Admit}
use Rattle.dl_session.specs.declared.admit.Admit.TheVariants as admit
use Rattle.dl_session.specs.Sessions.{is_live}
use Rattle.dl_formats.specs.declared.conf.Conf.{Conf}
use Rattle.dl_rules_client.specs.Clients.{client_of, lacks_subject}
use Rattle.dl_schedule.specs.declared.node.Node as target
use Rattle.dl_schedule.specs.declared.node.Node.TheVariants.{Bookie, Meta as TheMeta}
use Rattle.dl_schedule.specs.declared.step.Step.{Step}
use Rattle.dl_schedule.specs.declared.step.Step.TheVariants as step
use Rattle.dl_transcript.specs.declared.event.Event.{Event}
use Rattle.dl_transcript.specs.declared.event.Event.TheVariants as event
use Rattle.dl_machine.specs.States.{State, Node, Joined, is_up, is_down, is_lost, can_take, bookies_of, args_of}
use Rattle.dl_machine.specs.Atoms.{Atom, SetUp, Join, Crash, End, Order, Deliver, Commit, Stop, StopMeta, Kill, KillMeta, Rise, RiseMeta, Lose, Shows}
use Rattle.dl_machine.specs.Atoms.{MetaRequest, meta_in, request_in, admit_in}

-- ---- links

-- two ends of links are the same
abbrev pub is_end : Address → Address → Bool
is_end (Client c) (Client d) = c == d
is_end (AtBookie b) (AtBookie d) = b == d
is_end AtMeta AtMeta = true
is_end x y = false

-- one end is shown before another: clients by their numbers, storage nodes by theirs, the metadata node
abbrev pub is_end_before : Address → Address → Bool
is_end_before (Client c) (Client d) = nat_lt c d
is_end_before (Client c) (AtBookie b) = true
is_end_before (Client c) AtMeta = true
is_end_before (AtBookie b) (Client c) = false
is_end_before (AtBookie b) (AtBookie d) = nat_lt b d
is_end_before (AtBookie b) AtMeta = true
is_end_before AtMeta x = false

-- a letter is on the link from one end to another
abbrev pub is_on : Address → Address → Letter → Bool
is_on from to l = is_end from l.from && is_end to l.to

-- the place, counted on from this one, of the letter of a link before which so many others of it stand
unfoldable pub place_from : Address → Address → (place before : ℕ) → List Letter → Option ℕ
place_from from to place n [] = None
place_from from to place n (l ∷ ls) =
    if not (is_on from to l) then place_from from to (suc place) n ls
    else if n == 0 then Some place
    else place_from from to (suc place) (n - 1) ls

-- the place of the letter with this number, from 1, on its link
abbrev pub place_of : List Letter → Address → Address → ℕ → Option ℕ
place_of letters from to zero = None
place_of letters from to (suc n) = place_from from to 0 n letters

-- How many letters a link has.
pub record Mail : Type 0 where
  pub from : Address
  pub to : Address
  pub count : ℕ

-- the link of a letter, which is its first
abbrev pub first_mail : Letter → Mail
first_mail l = record { from = l.from; to = l.to; count = 1 }

-- the link of a letter is shown before another link: by the sender, and then by the receiver
abbrev pub comes_before : Letter → Mail → Bool
comes_before l m = is_end_before l.from m.from || (is_end l.from m.from && is_end_before l.to m.to)

-- a letter more on links in their order
abbrev pub with_mail : Letter → List Mail → List Mail
with_mail l [] = first_mail l ∷ []
with_mail l (m ∷ ms) =
    if is_on m.from m.to l then (record m { count = suc m.count }) ∷ ms
    else if comes_before l m then first_mail l ∷ m ∷ ms
    else m ∷ with_mail l ms

-- the links that have letters, in their order
unfoldable pub links : List Letter → List Mail
links [] = []
links (l ∷ ls) = with_mail l (links ls)

-- each link with the count of its letters, as an event
abbrev pub mail_events : List Letter → List Event
mail_events letters = map (λ (m : Mail). event.Mail m.from m.to m.count) (links letters)

-- ---- lines that change nothing

-- the numbers with which the world is set up
abbrev pub conf_of : (b e w a : ℕ) → Conf
conf_of b e w a = record { b = b; e = e; qw = w; qa = a }

-- an ack quorum is within a write quorum, that within an ensemble, and that within the storage nodes
abbrev pub can_set_up : Conf → Bool
can_set_up c = nat_le c.e c.b && nat_le c.qw c.e && nat_le c.qa c.qw

-- a storage node of this number is there
abbrev pub is_there : State → ℕ → Bool
is_there s b = nat_lt b (bookies_of s.conf)

-- a storage node is up and has something to commit
abbrev pub has_queue : Node → Bool
has_queue n = is_up n.mode && not (length n.bookie.queue == 0)

-- a storage node of this number can commit
abbrev pub can_commit : State → ℕ → Bool
can_commit s b = is_there s b && has_queue (s.nodes b)

-- the letter at a place, where there is one
abbrev pub letter_at : State → Option ℕ → Option Letter
letter_at s None = None
letter_at s (Some place) = slice_get s.letters place

-- a letter can be delivered, where there is one
abbrev pub can_come : State → Option Letter → Bool
can_come s None = false
can_come s (Some l) = can_take s l l.to

-- a request that is admitted so runs
abbrev pub is_run : Admit → Bool
is_run admit.Run = true
is_run admit.Old = false
is_run admit.Expired = false

-- a request would run, where there is one
abbrev pub request_would_run : State → Option MetaRequest → Bool
request_would_run s None = false
request_would_run s (Some r) = is_run (admit_in s r)

-- a letter is a request that would run
abbrev pub letter_would_run : State → Option Letter → Bool
letter_would_run s None = false
letter_would_run s (Some l) = request_would_run s (request_in l.msg)

-- a node that is named is there and up
abbrev pub node_is_up : State → target.Node → Bool
node_is_up s (Bookie b) = is_there s b && is_up (s.nodes b).mode
node_is_up s TheMeta = s.meta_up

-- a node that is named is there and down
abbrev pub node_is_down : State → target.Node → Bool
node_is_down s (Bookie b) = is_there s b && is_down (s.nodes b).mode
node_is_down s TheMeta = not s.meta_up

-- a line of a client that has not joined, or that lacks its subject
abbrev pub idle_order : Option Conf → ℕ → Option Joined → Step → Bool
idle_order (Some conf) c (Some me) x = let args = args_of conf c me in lacks_subject (client_of args me.view) x
idle_order (Some conf) c None x = true
idle_order None c me x = true

-- a stop of the metadata node on a letter of a client: the client has not joined, the node is down, or no such letter would run
abbrev pub idle_stop : State → (client number : ℕ) → Bool
idle_stop s c n =
    is_none (s.clients c) || not s.meta_up || not (letter_would_run s (letter_at s (place_of s.letters (Client c) AtMeta n)))

-- the client of a line that a client takes
abbrev pub client_in : Step → Option ℕ
client_in (step.Setup b e w a) = None
client_in (step.Join c) = None
client_in (step.Crash c) = None
client_in (step.Expire k) = None
client_in (step.Create c stream) = Some c
client_in (step.Remove c stream) = Some c
client_in (step.Open c stream) = Some c
client_in (step.Recover c stream) = Some c
client_in (step.Purge c stream) = Some c
client_in (step.Append c txid payload) = Some c
client_in (step.Set c txid payloads) = Some c
client_in (step.Flush c) = Some c
client_in (step.Commit c) = Some c
client_in (step.Close c) = Some c
client_in (step.SeekOldest c stream) = Some c
client_in (step.SeekPlace c stream d) = Some c
client_in (step.SeekTxid c stream txid) = Some c
client_in (step.Read c count) = Some c
client_in (step.Truncate c stream d) = Some c
client_in (step.Deliver from to n) = None
client_in (step.Sync b) = None
client_in (step.Lose b) = None
client_in (step.Stop b call kept) = None
client_in (step.StopMeta c n call kept) = None
client_in (step.Kill node) = None
client_in (step.Up node) = None
client_in step.Settle = None
client_in step.Mail = None

-- a line of a client, where it is one
abbrev pub idle_client : State → Option ℕ → Step → Bool
idle_client s None x = false
idle_client s (Some c) x = idle_order s.conf c (s.clients c) x

-- lines that change nothing in a world that is set up; those of clients stand last
unfoldable pub idle_in : State → Step → Bool
idle_in s (step.Setup b e w a) = true
idle_in s (step.Join c) = not s.meta_up
idle_in s (step.Crash c) = is_none (s.clients c)
idle_in s (step.Expire k) = not s.meta_up || not (is_live (meta_in s).sessions k)
idle_in s (step.Deliver from to n) = not (can_come s (letter_at s (place_of s.letters from to n)))
idle_in s (step.Sync b) = not (can_commit s b)
idle_in s (step.Lose b) = not (is_there s b) || is_lost (s.nodes b).mode
idle_in s (step.Stop b call kept) = not (can_commit s b)
idle_in s (step.StopMeta c n call kept) = idle_stop s c n
idle_in s (step.Kill node) = not (node_is_up s node)
idle_in s (step.Up node) = not (node_is_down s node)
idle_in s step.Settle = false
idle_in s step.Mail = false
idle_in s x = idle_client s (client_in x) x

-- lines that change nothing: a setup that can't be or is a second one; before it every other line; and those above
unfoldable pub is_idle : State → Step → Bool
is_idle s (step.Setup b e w a) = is_some s.conf || not (can_set_up (conf_of b e w a))
is_idle s x = is_none s.conf || idle_in s x

-- ---- the atomic steps of lines

-- a stop leaves its batch only where it is in call 3 or 4 and the bit says so
abbrev pub is_kept : ℕ → Bool → Bool
is_kept call kept = nat_le 3 call && kept

-- an atomic step on the letter at a place, where there is one
abbrev pub at_place : (ℕ → Atom) → Option ℕ → List Atom
at_place f None = []
at_place f (Some place) = f place ∷ []

-- a node that is named goes down
abbrev pub kill_of : target.Node → Atom
kill_of (Bookie b) = Kill b
kill_of TheMeta = KillMeta

-- a node that is named is loaded
abbrev pub rise_of : target.Node → Atom
rise_of (Bookie b) = Rise b
rise_of TheMeta = RiseMeta

-- a client takes a line, where it is one of a client
abbrev pub order_of : ℕ → Step → Option ℕ → List Atom
order_of line x None = []
order_of line x (Some c) = Order c line x ∷ []

-- the atomic steps of a line that changes something and doesn't settle; those of clients stand last
unfoldable pub plain_atoms : State → ℕ → Step → List Atom
plain_atoms s line (step.Setup b e w a) = SetUp (conf_of b e w a) ∷ []
plain_atoms s line (step.Join c) = Join c ∷ []
plain_atoms s line (step.Crash c) = Crash c ∷ []
plain_atoms s line (step.Expire k) = End k ∷ []
plain_atoms s line (step.Deliver from to n) = at_place Deliver (place_of s.letters from to n)
plain_atoms s line (step.Sync b) = Commit b ∷ []
plain_atoms s line (step.Lose b) = Lose b ∷ []
plain_atoms s line (step.Stop b call kept) = Stop b (is_kept call kept) ∷ []
plain_atoms s line (step.StopMeta c n call kept) =
    at_place (λ place. StopMeta place (is_kept call kept)) (place_of s.letters (Client c) AtMeta n)
plain_atoms s line (step.Kill node) = kill_of node ∷ []
plain_atoms s line (step.Up node) = rise_of node ∷ []
plain_atoms s line step.Settle = []
plain_atoms s line step.Mail = map Shows (mail_events s.letters)
plain_atoms s line x = order_of line x (client_in x)
