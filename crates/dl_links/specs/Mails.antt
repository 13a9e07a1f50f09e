-- Links with the counts of their letters, as code has them.
use Rattle.std.specs.Prelude.{◌≡◌, ℕ, ◌<◌, ◌≤◌, Bool, true, false, ◌||◌, List, length, map, slice_index_or}
use Rattle.dl_msg.specs.declared.letter.Letter.{Letter}
use Rattle.dl_machine.specs.Lines as machine
use Rattle.dl_machine.specs.Lines.{is_on, comes_before}
use Rattle.dl_links.specs.declared.mail.Mail.{Mail}
use Rattle.dl_links.specs.declared.mail.Spot.{Spot}
use Rattle.dl_links.specs.declared.mail.Spot.TheVariants.{Here, Before}

-- a link with its count, as the machine has it
abbrev pub mail_of : Mail → machine.Mail
mail_of m = record { from = m.from; to = m.to; count = m.count }

-- links with their counts, as the machine has them
abbrev pub mails_of : List Mail → List machine.Mail
mails_of mails = map mail_of mails

-- the link of a letter is this one or comes before it
abbrev pub is_passed : Letter → Mail → Bool
is_passed l m = is_on m.from m.to l || comes_before l (mail_of m)

-- the link of a letter comes behind so many first ones
abbrev pub IsBehind : Letter → List Mail → ℕ → Type 0
IsBehind l mails count = (k : ℕ) (d : Mail) → k < count → is_passed l (slice_index_or mails k d) ≡ false

-- The link of a letter is there, behind so many.
pub record IsHere (l : Letter) (mails : List Mail) (index : ℕ) : Type 0 where
  pub within : index < length mails
  pub behind : IsBehind l mails index
  pub on : (d : Mail) → is_on (slice_index_or mails index d).from (slice_index_or mails index d).to l ≡ true

-- The link of a letter is to come behind so many.
pub record IsBefore (l : Letter) (mails : List Mail) (index : ℕ) : Type 0 where
  pub within : index ≤ length mails
  pub behind : IsBehind l mails index
  pub other : (d : Mail) → index < length mails → is_on (slice_index_or mails index d).from (slice_index_or mails index d).to l ≡ false
  pub before : (d : Mail) → index < length mails → comes_before l (mail_of (slice_index_or mails index d)) ≡ true

-- where the link of a letter stands among others, or is to stand
abbrev pub IsSpot : Letter → List Mail → Spot → Type 0
IsSpot l mails (Here index) = IsHere l mails index
IsSpot l mails (Before index) = IsBefore l mails index
