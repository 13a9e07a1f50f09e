-- The first letter that waits in several files, as the first of their first ones.
use Rattle.std.proofs.Common.{◌≡◌, ℕ, suc, ◌<◌, Bool, true, false, not, cond, ◌&&◌, ◌||◌, List, [], ◌∷◌, get_or, Option, Some, None, refl, sym, ◌∙◌, ap, arith}
use Rattle.dl_msg.specs.declared.letter.Letter.{Letter}
use Rattle.dl_links.specs.declared.file.File.{File}
use Rattle.dl_links.specs.declared.filed.Filed.{Filed}
use Rattle.dl_links.specs.Filing.{is_filed, places_from}
use Rattle.dl_links.specs.Waiting.{first_waiting, earlier}
use Rattle.dl_links.specs.Tables.{places_in, first_in}
use Rattle.dl_links.specs.Sent.{is_in, next_from}

-- the first of places with one before them or without
first_cond : (b : Bool) (delivered : List Bool) (place : ℕ) (places : List ℕ)
    → first_waiting delivered (cond b (place ∷ places) places)
    ≡ cond b (cond (get_or delivered place false) (first_waiting delivered places) (Some place)) (first_waiting delivered places)
first_cond true delivered place places = refl
first_cond false delivered place places = refl

-- a place is earlier than those that come later
later_next : (b : Bool) (n place : ℕ) (rest : Option ℕ) → n < place → earlier (Some n) rest ≡ Some n
    → earlier (Some n) (cond b (Some place) rest) ≡ Some n
later_next true n place rest below e = ap Some (omega arith)
later_next false n place rest below e = e

-- what waits in files comes no earlier than the place from which they are looked at
next_is_later : (fs : List File) (n place : ℕ) (ls : List Letter) (delivered : List Bool) → n < place
    → earlier (Some n) (next_from fs place ls delivered) ≡ Some n
next_is_later fs n place [] delivered below = refl
next_is_later fs n place (l ∷ ls) delivered below =
    later_next (not (get_or delivered place false) && is_in fs l) n place (next_from fs (suc place) ls delivered) below
    (next_is_later fs n (suc place) ls delivered (omega arith))

-- a place is earlier than those of a file that come later
later_first : (b w : Bool) (n place : ℕ) (rest : Option ℕ) → n < place → earlier rest (Some n) ≡ Some n
    → earlier (cond b (cond w rest (Some place)) rest) (Some n) ≡ Some n
later_first true true n place rest below e = e
later_first true false n place rest below e = ap Some (omega arith)
later_first false w n place rest below e = e

-- what waits in a file comes no earlier than the place from which it is looked at
first_is_later : (f : File) (n place : ℕ) (ls : List Letter) (delivered : List Bool) → n < place
    → earlier (first_waiting delivered (places_from f place ls)) (Some n) ≡ Some n
first_is_later f n place [] delivered below = refl
first_is_later f n place (l ∷ ls) delivered below =
    ap (λ o. earlier o (Some n)) (first_cond (is_filed f l) delivered place (places_from f (suc place) ls))
    ∙ later_first (is_filed f l) (get_or delivered place false) n place (first_waiting delivered (places_from f (suc place) ls)) below
    (first_is_later f n (suc place) ls delivered (omega arith))

-- one letter of both: it was delivered, or is in the one file, in the others, or in none
both_step : (w b t : Bool) (place : ℕ) (first next all : Option ℕ) → earlier first next ≡ all
    → earlier (Some place) next ≡ Some place → earlier first (Some place) ≡ Some place
    → earlier (cond b (cond w first (Some place)) first) (cond (not w && t) (Some place) next) ≡ cond (not w && (b || t)) (Some place) all
both_step true true t place first next all e later after = e
both_step true false t place first next all e later after = e
both_step false true true place first next all e later after = ap Some (omega arith)
both_step false true false place first next all e later after = later
both_step false false true place first next all e later after = after
both_step false false false place first next all e later after = e

-- what waits in one file and what waits in others
both : (f : File) (fs : List File) (place : ℕ) (ls : List Letter) (delivered : List Bool)
    → earlier (first_waiting delivered (places_from f place ls)) (next_from fs place ls delivered) ≡ next_from (f ∷ fs) place ls delivered
both f fs place [] delivered = refl
both f fs place (l ∷ ls) delivered =
    ap (λ o. earlier o (next_from fs place (l ∷ ls) delivered)) (first_cond (is_filed f l) delivered place (places_from f (suc place) ls))
    ∙ both_step (get_or delivered place false) (is_filed f l) (is_in fs l) place (first_waiting delivered (places_from f (suc place) ls))
    (next_from fs (suc place) ls delivered) (next_from (f ∷ fs) (suc place) ls delivered) (both f fs (suc place) ls delivered)
    (next_is_later fs place (suc place) ls delivered (omega arith)) (first_is_later f place (suc place) ls delivered (omega arith))

-- no letter is in no file
none_of_none : (place : ℕ) (ls : List Letter) (delivered : List Bool) → next_from [] place ls delivered ≡ None
none_of_none place [] delivered = refl
none_of_none place (l ∷ ls) delivered = never (not (get_or delivered place false)) ∙ none_of_none (suc place) ls delivered
  where
    never : (b : Bool) → cond (b && false) (Some place) (next_from [] (suc place) ls delivered) ≡ next_from [] (suc place) ls delivered
    never true = refl
    never false = refl

-- the first of files that have the places of their letters is the first letter that waits
pub first_is : (delivered : List Bool) (entries : List (File × Filed)) (letters : List Letter) (fs : List File)
    → ((f : File) → places_in entries f ≡ places_from f 0 letters) → first_in delivered entries fs ≡ next_from fs 0 letters delivered
first_is delivered entries letters [] places = sym (none_of_none 0 letters delivered)
first_is delivered entries letters (f ∷ fs) places =
    (λ i. earlier (first_waiting delivered (places f i)) (first_is delivered entries letters fs places i)) ∙ both f fs 0 letters delivered
