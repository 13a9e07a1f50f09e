-- What letters and deliveries mean to the machine.
use Rattle.std.specs.Prelude.{◌≡◌, ℕ, ◌<◌, Bool, true, false, List, [], ◌∷◌, length}
use Rattle.std.specs.List.{list_any}
use Rattle.dl_types.specs.declared.address.Address.TheVariants.{Client, Bookie, Meta}
use Rattle.dl_msg.specs.declared.letter.Letter.{Letter}
use Rattle.dl_machine.specs.States.{State, with_letters, marks, is_up, has_session}
use Rattle.dl_machine.specs.Runs.{next_letter}
use Rattle.dl_links.specs.declared.file.File.{File}
use Rattle.dl_links.specs.declared.file.File.TheVariants.{Link, Inbox}
use Rattle.dl_links.specs.Filing.{is_file}
use Rattle.dl_links.specs.Sent.{Sent, StandFor, with_letter, with_delivery, next_from}

-- a file is a link
abbrev pub is_link : File → Bool
is_link (Link from to) = true
is_link (Inbox to session) = false

-- Files are the inboxes of the receivers that can take something: of nodes that are up, and of clients that have joined.
pub record AreOpen (s : State) (files : List File) : Type 0 where
  pub inboxes : list_any is_link files ≡ false
  pub bookies : (b : ℕ) → list_any (is_file (Inbox (Bookie b) 0)) files ≡ is_up (s.nodes b).mode
  pub meta : list_any (is_file (Inbox Meta 0)) files ≡ s.meta_up
  pub clients : (c session : ℕ) → list_any (is_file (Inbox (Client c) session)) files ≡ has_session (s.clients c) session

-- What is kept stands for the machine's state as letters are sent and delivered, and the first letter that waits in the inboxes
-- of those that can take something is the one that settling delivers next.
pub record LettersStand : Type 0 where
  pub sent : (s : State) (x : Sent) (letter : Letter) → StandFor s x
      → StandFor (with_letters s (letter ∷ [])) (with_letter x letter)
  pub delivered : (s : State) (x : Sent) (place : ℕ) → StandFor s x → place < length x.letters
      → StandFor (marks s place) (with_delivery x place)
  pub next : (s : State) (x : Sent) (files : List File) → StandFor s x → AreOpen s files
      → next_from files 0 x.letters x.delivered ≡ next_letter s 0 s.letters
