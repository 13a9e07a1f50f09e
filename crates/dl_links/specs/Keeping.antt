-- What is kept of letters beside them.
use Rattle.std.specs.Prelude.{◌≡◌, Bool, List, length}
use Rattle.dl_msg.specs.declared.letter.Letter.{Letter}
use Rattle.dl_links.specs.declared.file.File.{File}
use Rattle.dl_links.specs.declared.filed.Filed.{Filed}
use Rattle.dl_links.specs.Filing.{places_from}
use Rattle.dl_links.specs.Tables.{places_in, AllGone}

-- There is a mark for each letter, each file has the places of its letters, and those that are past were delivered.
pub record AreKept (letters : List Letter) (delivered : List Bool) (entries : List (File × Filed)) : Type 0 where
  pub count : length delivered ≡ length letters
  pub places : (f : File) → places_in entries f ≡ places_from f 0 letters
  pub gone : AllGone delivered entries
