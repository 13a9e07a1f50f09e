-- Letters and deliveries as the machine's.
use Rattle.std.proofs.Common.{◌≡◌, ℕ, suc, ◌<◌, Bool, true, false, not, cond, ◌&&◌, ◌||◌, ◌==◌, List, [], ◌∷◌, ◌++◌, length, get_or, Some, refl, sym, ◌∙◌, ap, arith, length-append, length-set, true≢false}
use Rattle.std.specs.List.{list_any}
use Rattle.dl_types.specs.declared.address.Address.{Address}
use Rattle.dl_types.specs.declared.address.Address.TheVariants.{Client, Bookie, Meta}
use Rattle.dl_msg.specs.declared.letter.Letter.{Letter}
use Rattle.dl_machine.specs.Lines.{is_end}
use Rattle.dl_machine.specs.Runs.{next_letter}
use Rattle.dl_machine.specs.States.{State, can_take, with_letters, marks}
use Rattle.dl_links.specs.declared.file.File.{File}
use Rattle.dl_links.specs.declared.file.File.TheVariants.{Link, Inbox}
use Rattle.dl_links.specs.Filing.{is_file, inbox_of, session_at}
use Rattle.dl_links.specs.Sent.{Sent, StandFor, with_letter, with_delivery, is_in, next_from}
use Rattle.dl_links.specs.Laws.{AreOpen, is_link}
use Rattle.dl_links.proofs.KeptLemmas.{mark_push, mark_set}

-- a letter is sent
pub stands_sent : (s : State) (x : Sent) (letter : Letter) → StandFor s x → StandFor (with_letters s (letter ∷ [])) (with_letter x letter)
stands_sent s x letter h =
    record {
      letters = ap (λ ls. ls ++ letter ∷ []) h.letters;
      delivered = λ place. h.delivered place ∙ sym (mark_push x.delivered place);
      count = omega (arith, h.count, length-append x.letters (letter ∷ []), length-append x.delivered (false ∷ []));
    }

-- a letter is delivered
pub stands_delivered : (s : State) (x : Sent) (place : ℕ) → StandFor s x → place < length x.letters
    → StandFor (marks s place) (with_delivery x place)
stands_delivered s x place h inside =
    record {
      letters = h.letters;
      delivered = λ p. ap (cond (p == place) true) (h.delivered p) ∙ mark_set x.delivered place p (omega (arith, inside, h.count));
      count = length-set x.delivered place true ∙ h.count;
    }

-- the first letter that waits, where what is in the files is what can be taken
next_is : (s : State) (files : List File) (place : ℕ) (ls : List Letter) (delivered : List Bool)
    → ((p : ℕ) → s.delivered p ≡ get_or delivered p false) → ((l : Letter) → is_in files l ≡ can_take s l l.to)
    → next_from files place ls delivered ≡ next_letter s place ls
unfolding next_letter
next_is s files place [] delivered marked takes = refl
next_is s files place (l ∷ ls) delivered marked takes =
    λ i. cond (not (sym (marked place) i) && takes l i) (Some place) (next_is s files (suc place) ls delivered marked takes i)

-- where no file is a link, a letter is in one that is its inbox
inboxes_any : (files : List File) (l : Letter) → list_any is_link files ≡ false → is_in files l ≡ list_any (is_file (inbox_of l)) files
inboxes_any [] l none = refl
inboxes_any (Link from to ∷ files) l none = absurd (true≢false none)
inboxes_any (Inbox to session ∷ files) l none =
    ap (λ b. (is_end l.to to && session_at l.to l.session == session) || b) (inboxes_any files l none)

-- the inbox of a receiver is open where it can take a letter
open_at : (s : State) (files : List File) (l : Letter) (to : Address) → AreOpen s files
    → list_any (is_file (Inbox to (session_at to l.session))) files ≡ can_take s l to
open_at s files l (Client c) h = h.clients c l.session
open_at s files l (Bookie b) h = h.bookies b
open_at s files l Meta h = h.meta

-- the first letter that waits in the inboxes that are open is the one that is delivered next
pub stands_next : (s : State) (x : Sent) (files : List File) → StandFor s x → AreOpen s files
    → next_from files 0 x.letters x.delivered ≡ next_letter s 0 s.letters
stands_next s x files h open_files =
    next_is s files 0 x.letters x.delivered h.delivered (λ l. inboxes_any files l open_files.inboxes ∙ open_at s files l l.to open_files)
    ∙ ap (next_letter s 0) (sym h.letters)
