-- A step at the message that its phase waits for.
use Rattle.std.proofs.Common.{◌≡◌, ℕ, Bool, true, List, [], ◌∷◌, sym, ap, ◌∙◌}
use Rattle.std.proofs.lemmas.Bool.{cond-true}
use Rattle.dl_msg.specs.declared.msg.Msg.{Msg}
use Rattle.dl_msg.specs.declared.msg.Msg.TheVariants.{LacIs, NoEntry}
use Rattle.dl_rules_ledger.specs.Subjects.{Subject, is_about, is_about_entry}
use Rattle.dl_rules_ledger.specs.Recoveries.{Fencing, Reading, recovers, after_answer, after_denial}

-- an answer with the fenced bit
pub fenced_answer : (x : Subject) (answers : List (ℕ × ℕ)) (b t l n : ℕ) (f : Bool) (m : Msg) → m ≡ LacIs t l f n → f ≡ true
    → is_about x b t l ≡ true → after_answer x ((b, n) ∷ answers) ≡ recovers x (Fencing answers) b m
unfolding recovers
fenced_answer x answers b t l n f m is fenced about =
    sym (ap (recovers x (Fencing answers) b) (is ∙ ap (λ bit. LacIs t l bit n) fenced)
    ∙ cond-true (is_about x b t l) (after_answer x ((b, n) ∷ answers)) (Fencing answers, []) about)

-- a denial with the fenced bit
pub fenced_denial : (x : Subject) (start entry : ℕ) (denials : List ℕ) (b t l e : ℕ) (f : Bool) (m : Msg) → m ≡ NoEntry t l e f → f ≡ true
    → is_about_entry x entry b t l e ≡ true → after_denial x start entry (b ∷ denials) ≡ recovers x (Reading start entry denials) b m
unfolding recovers
fenced_denial x start entry denials b t l e f m is fenced about =
    sym (ap (recovers x (Reading start entry denials) b) (is ∙ ap (λ bit. NoEntry t l e bit) fenced)
    ∙ cond-true (is_about_entry x entry b t l e) (after_denial x start entry (b ∷ denials)) (Reading start entry denials, []) about)
