-- Files of letters: the link and the inbox of a letter, and the places of the letters of each.
use Rattle.std.specs.Prelude.{ℕ, suc, Bool, false, ◌==◌, ◌&&◌, if◌then◌else◌, List, [], ◌∷◌}
use Rattle.dl_types.specs.declared.address.Address.{Address}
use Rattle.dl_types.specs.declared.address.Address.TheVariants.{Client, Bookie, Meta}
use Rattle.dl_msg.specs.declared.letter.Letter.{Letter}
use Rattle.dl_machine.specs.Lines.{is_end, is_on}
use Rattle.dl_links.specs.declared.file.File.{File}
use Rattle.dl_links.specs.declared.file.File.TheVariants.{Link, Inbox}

-- two files are the same
abbrev pub is_file : File → File → Bool
is_file (Link from to) (Link from' to') = is_end from from' && is_end to to'
is_file (Inbox to session) (Inbox to' session') = is_end to to' && session == session'
is_file (Link from to) (Inbox to' session') = false
is_file (Inbox to session) (Link from' to') = false

-- the session of the inbox to which letters of this session come: that of a client, and none of another node
abbrev pub session_at : Address → ℕ → ℕ
session_at (Client c) session = session
session_at (Bookie b) session = 0
session_at Meta session = 0

-- the link of a letter
abbrev pub link_of : Letter → File
link_of l = Link l.from l.to

-- the inbox that a letter is for
abbrev pub inbox_of : Letter → File
inbox_of l = Inbox l.to (session_at l.to l.session)

-- a letter is filed in a file
abbrev pub is_filed : File → Letter → Bool
is_filed (Link from to) l = is_on from to l
is_filed (Inbox to session) l = is_end l.to to && session_at l.to l.session == session

-- the places, counted on from this one, of the letters of a file
abbrev pub places_from : File → ℕ → List Letter → List ℕ
places_from file place [] = []
places_from file place (l ∷ ls) = if is_filed file l then place ∷ places_from file (suc place) ls else places_from file (suc place) ls
