-- What is kept of files.
use Rattle.std.specs.Prelude.{◌≡◌, ℕ, ◌<◌, Bool, false, if◌then◌else◌, List, [], ◌∷◌, ◌++◌, Option, Some, None, vec_len, vec_capacity}
use Rattle.std.specs.Map.{lookup}
use Rattle.dl_msg.specs.declared.letter.Letter.{Letter}
use Rattle.dl_links.specs.declared.file.File.{File}
use Rattle.dl_links.specs.declared.filed.Filed.{Filed}
use Rattle.dl_links.specs.Filing.{is_file, is_filed}
use Rattle.dl_links.specs.Waiting.{first_waiting, earlier, AreGone}

-- what is kept of a file, where something is
abbrev pub filed_at : List (File × Filed) → File → Option Filed
filed_at entries file = lookup (is_file file) entries

-- the places that are kept
abbrev pub places_of : Option Filed → List ℕ
places_of None = []
places_of (Some filed) = filed.places.items

-- how many of them are past
abbrev pub gone_of : Option Filed → ℕ
gone_of None = 0
gone_of (Some filed) = filed.gone

-- there is room for one more
abbrev pub HasRoomFor : Option Filed → Type 0
HasRoomFor None = ⊥
HasRoomFor (Some filed) = vec_len filed.places < vec_capacity filed.places

-- the places of a file
abbrev pub places_in : List (File × Filed) → File → List ℕ
places_in entries file = places_of (filed_at entries file)

-- how many of the places of a file are past
abbrev pub gone_in : List (File × Filed) → File → ℕ
gone_in entries file = gone_of (filed_at entries file)

-- there is room for one more place in a file
abbrev pub HasRoom : List (File × Filed) → File → Type 0
HasRoom entries file = HasRoomFor (filed_at entries file)

-- Each file has its places as before, and room where it had some.
pub record Stays (old new : List (File × Filed)) : Type 0 where
  pub places : (f : File) → places_in new f ≡ places_in old f
  pub gone : (f : File) → gone_in new f ≡ gone_in old f
  pub room : (f : File) → HasRoom old f → HasRoom new f

-- One file has one more place; all have their others as before, and those that are not this one room where they had some.
pub record Pushes (old new : List (File × Filed)) (file : File) (place : ℕ) : Type 0 where
  pub places : (f : File) → places_in new f ≡ (if is_file file f then places_in old f ++ place ∷ [] else places_in old f)
  pub gone : (f : File) → gone_in new f ≡ gone_in old f
  pub room : (f : File) → is_file file f ≡ false → HasRoom old f → HasRoom new f

-- The files of a letter have its place besides; all have their others as before.
pub record Takes (old new : List (File × Filed)) (letter : Letter) (place : ℕ) : Type 0 where
  pub places : (f : File) → places_in new f ≡ (if is_filed f letter then places_in old f ++ place ∷ [] else places_in old f)
  pub gone : (f : File) → gone_in new f ≡ gone_in old f

-- Each file has its places as before, and what is past in it was delivered, where that was so.
pub record Passes (delivered : List Bool) (old new : List (File × Filed)) : Type 0 where
  pub places : (f : File) → places_in new f ≡ places_in old f
  pub gone : (f : File) → AreGone delivered (places_in old f) (gone_in old f) → AreGone delivered (places_in new f) (gone_in new f)

-- what is past in each file was delivered
abbrev pub AllGone : List Bool → List (File × Filed) → Type 0
AllGone delivered entries = (f : File) → AreGone delivered (places_in entries f) (gone_in entries f)

-- the first place that waits in these files
abbrev pub first_in : List Bool → List (File × Filed) → List File → Option ℕ
first_in delivered entries [] = None
first_in delivered entries (f ∷ fs) = earlier (first_waiting delivered (places_in entries f)) (first_in delivered entries fs)
