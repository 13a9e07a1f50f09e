-- The requests of a client's process: among its letters they are numbered from 1 on, each number once.
use Rattle.std.specs.Prelude.{ℕ, Bool, ◌&&◌, ◌==◌, List, filter, Option, Some, None}
use Rattle.dl_types.specs.declared.address.Address.TheVariants.{Client}
use Rattle.dl_msg.specs.declared.letter.Letter.{Letter}
use Rattle.dl_formats.specs.declared.conf.Conf.{Conf}
use Rattle.dl_rules_client.specs.Clients.{client_of}
use Rattle.dl_machine.specs.States.{State, Joined, args_of}
use Rattle.dl_machine.specs.Lines.{is_end}
use Rattle.dl_law_client.specs.Seen.{AsksOn}

-- a letter is from this client, in this session
abbrev pub is_from : ℕ → ℕ → Letter → Bool
is_from c session l = is_end (Client c) l.from && l.session == session

-- the letters of a client in a session, the oldest first
abbrev pub letters_of : ℕ → ℕ → List Letter → List Letter
letters_of c session letters = filter (is_from c session) letters

-- the requests of a process are numbered on to as many as its client has made by all that it took; before a setup there is no process
abbrev pub ProcessAsks : Option Conf → ℕ → Option Joined → List Letter → Type 0
ProcessAsks conf c None letters = Unit {0}
ProcessAsks None c (Some me) letters = ⊥
ProcessAsks (Some conf) c (Some me) letters = AsksOn 0 (letters_of c me.session letters) (client_of (args_of conf c me) me.view).asked

-- so are those of each process
abbrev pub AllAsk : State → Type 0
AllAsk s = (c : ℕ) → ProcessAsks s.conf c (s.clients c) s.letters
