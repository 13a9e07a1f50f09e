-- A state of the machine, and what a transcript has shown of it: its sessions, and its clients with their records and readers.
use Rattle.std.specs.Prelude.{◌≡◌, ℕ, ◌≤◌, true, false, List, length, Option, Some, None, is_some}
use Rattle.dl_session.specs.Sessions.{Known, is_live}
use Rattle.dl_formats.specs.declared.conf.Conf.{Conf}
use Rattle.dl_transcript.specs.Legal.{History, ClientHistory, has}
use Rattle.dl_rules_client.specs.Clients.{client_of}
use Rattle.dl_machine.specs.States.{State, Joined, args_of}
use Rattle.dl_machine.specs.Atoms.{meta_in}
use Rattle.dl_law_client.specs.Seen.{ClientSeen}

-- ---- sessions

-- A session was shown to be joined, and not to have expired.
pub record IsLiveSeen (k sessions : ℕ) (expired : List ℕ) : Type 0 where
  pub given : 1 ≤ k
  pub joined : k ≤ sessions
  pub lives : has k expired ≡ false

-- As many sessions were joined as were given; those that are live were not shown to have expired; and what has expired was joined.
pub record SessionsSeen (known : Known) (sessions : ℕ) (expired : List ℕ) : Type 0 where
  pub last : sessions ≡ known.last
  pub live : (k : ℕ) → is_live known k ≡ true → IsLiveSeen k sessions expired
  pub within : (k : ℕ) → has k expired ≡ true → k ≤ sessions

-- ---- clients

-- this was shown of a client's process; before a setup there is none
abbrev pub ProcessSeen : Option Conf → ℕ → Option Joined → ClientHistory → Type 0
ProcessSeen conf c None h = Unit {0}
ProcessSeen None c (Some me) h = ⊥
ProcessSeen (Some conf) c (Some me) h = ClientSeen (client_of (args_of conf c me) me.view) h

-- As many records of a client were shown as were taken, and what shows its process.
pub record ClientFits (conf : Option Conf) (c : ℕ) (me : Option Joined) (calls : ℕ) (h : ClientHistory) : Type 0 where
  pub count : length h.taken ≡ calls
  pub process : ProcessSeen conf c me h

-- ---- states

-- A state, and what was seen of it. The metadata node is up only in a world that is set up.
pub record Coupled (s : State) (seen : History) : Type 0 where
  pub sessions : SessionsSeen (meta_in s).sessions seen.sessions seen.expired
  pub world : s.meta_up ≡ true → is_some s.conf ≡ true
  pub clients : (c : ℕ) → ClientFits s.conf c (s.clients c) (s.calls c) (seen.clients c)
