-- A letter's place is put behind those of its link and its inbox.
use Rattle.std.proofs.Common.{◌≡◌, ℕ, cond, ◌&&◌, List, [], ◌∷◌, ◌++◌, refl, ◌∙◌, ap}
use Rattle.dl_msg.specs.declared.letter.Letter.{Letter}
use Rattle.dl_links.specs.declared.file.File.{File}
use Rattle.dl_links.specs.declared.file.File.TheVariants.{Link, Inbox}
use Rattle.dl_links.specs.declared.filed.Filed.{Filed}
use Rattle.dl_links.specs.Filing.{is_file, is_filed, link_of, inbox_of}
use Rattle.dl_links.specs.Tables.{places_in, Stays, Pushes, Takes}
use Rattle.dl_links.proofs.FileLemmas.{end_turns}

-- the places of a file of a letter, by the tests of its link and of its inbox
filed_by : (letter : Letter) (f : File) (places : List ℕ) (place : ℕ)
    → cond (is_file (inbox_of letter) f) (cond (is_file (link_of letter) f) (places ++ place ∷ []) places ++ place ∷ [])
    (cond (is_file (link_of letter) f) (places ++ place ∷ []) places)
    ≡ cond (is_filed f letter) (places ++ place ∷ []) places
filed_by letter (Link from to) places place =
    λ i. cond (end_turns letter.from from i && end_turns letter.to to i) (places ++ place ∷ []) places
filed_by letter (Inbox to session) places place = refl

-- room was made in both, and the place put into both
pub takes : (a b d e g : List (File × Filed)) (letter : Letter) (place : ℕ) → Stays a b → Stays b d
    → Pushes d e (link_of letter) place → Pushes e g (inbox_of letter) place → Takes a g letter place
takes a b d e g letter place first second link inbox =
    record {
      places = λ f. inbox.places f
          ∙ ap (λ ps. cond (is_file (inbox_of letter) f) (ps ++ place ∷ []) ps) (link.places f
          ∙ ap (λ ps. cond (is_file (link_of letter) f) (ps ++ place ∷ []) ps) (second.places f ∙ first.places f))
          ∙ filed_by letter f (places_in a f) place;
      gone = λ f. inbox.gone f ∙ link.gone f ∙ second.gone f ∙ first.gone f;
    }
