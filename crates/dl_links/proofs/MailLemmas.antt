-- One more letter on links in their order.
use Rattle.std.proofs.Common.{◌≡◌, ℕ, zero, suc, ◌+◌, ◌-◌, ◌^◌, ◌<◌, ◌≤◌, Bool, true, false, cond, ◌||◌, subst, List, [], ◌∷◌, All, length, get_or, set, insert, drop, refl, sym, ◌∙◌, ap, arith, true≢false, length-drop}
use Rattle.std.proofs.Math.Seq.{drop-cons}
use Rattle.dl_msg.specs.declared.letter.Letter.{Letter}
use Rattle.dl_machine.specs.Lines as machine
use Rattle.dl_machine.specs.Lines.{is_on, comes_before, first_mail, with_mail, links}
use Rattle.dl_links.specs.declared.mail.Mail.{Mail}
use Rattle.dl_links.specs.Mails.{mail_of, mails_of, is_passed}

-- the first of two tests that do not hold
or_first : (a b : Bool) → (a || b) ≡ false → a ≡ false
or_first true b h = h
or_first false b h = refl

-- the second of two tests that do not hold
or_second : (a b : Bool) → (a || b) ≡ false → b ≡ false
or_second true b h = absurd (true≢false h)
or_second false b h = h

-- a link before that of the letter stays first
skip : (l : Letter) (m : Mail) (rest : List machine.Mail) → is_passed l m ≡ false
    → with_mail l (mail_of m ∷ rest) ≡ mail_of m ∷ with_mail l rest
skip l m rest passed =
    ap (λ b. cond b (record (mail_of m) { count = suc m.count } ∷ rest) (cond (comes_before l (mail_of m)) (first_mail l ∷ mail_of m ∷ rest)
    (mail_of m ∷ with_mail l rest))) (or_first (is_on m.from m.to l) (comes_before l (mail_of m)) passed)
    ∙ ap (λ b. cond b (first_mail l ∷ mail_of m ∷ rest) (mail_of m ∷ with_mail l rest)) (or_second (is_on m.from m.to l) (comes_before l (mail_of m)) passed)

-- a letter more on a link that is there
pub counted : (l : Letter) (d : Mail) (ms : List Mail) (i : ℕ) (more : Mail) → ((k : ℕ) → k < i → is_passed l (get_or ms k d) ≡ false)
    → i < length ms → is_on (get_or ms i d).from (get_or ms i d).to l ≡ true
    → mail_of more ≡ record (mail_of (get_or ms i d)) { count = suc (get_or ms i d).count }
    → mails_of (set ms i more) ≡ with_mail l (mails_of ms)
counted l d [] i more behind inside on is = absurd (omega arith)
counted l d (m ∷ ms) zero more behind inside on is =
    ap (λ x. x ∷ mails_of ms) is
    ∙ sym (ap (λ b. cond b (record (mail_of m) { count = suc m.count } ∷ mails_of ms) (cond (comes_before l (mail_of m))
    (first_mail l ∷ mail_of m ∷ mails_of ms) (mail_of m ∷ with_mail l (mails_of ms)))) on)
counted l d (m ∷ ms) (suc i) more behind inside on is =
    ap (λ xs. mail_of m ∷ xs) (counted l d ms i more (λ k below. behind (suc k) (omega arith)) (omega arith) on is)
    ∙ sym (skip l m (mails_of ms) (behind 0 (omega arith)))

-- the first letter of a link
pub inserted : (l : Letter) (d : Mail) (ms : List Mail) (i : ℕ) (first : Mail) → ((k : ℕ) → k < i → is_passed l (get_or ms k d) ≡ false)
    → i ≤ length ms → (i < length ms → is_on (get_or ms i d).from (get_or ms i d).to l ≡ false)
    → (i < length ms → comes_before l (mail_of (get_or ms i d)) ≡ true)
    → mail_of first ≡ first_mail l → mails_of (insert ms i first) ≡ with_mail l (mails_of ms)
inserted l d [] zero first behind within other before is = ap (λ x. x ∷ []) is
inserted l d [] (suc i) first behind within other before is = absurd (omega arith)
inserted l d (m ∷ ms) zero first behind within other before is =
    ap (λ x. x ∷ mail_of m ∷ mails_of ms) is
    ∙ sym (ap (λ b. cond b (record (mail_of m) { count = suc m.count } ∷ mails_of ms) (cond (comes_before l (mail_of m))
    (first_mail l ∷ mail_of m ∷ mails_of ms) (mail_of m ∷ with_mail l (mails_of ms)))) (other (omega arith))
    ∙ ap (λ b. cond b (first_mail l ∷ mail_of m ∷ mails_of ms) (mail_of m ∷ with_mail l (mails_of ms))) (before (omega arith)))
inserted l d (m ∷ ms) (suc i) first behind within other before is =
    ap (λ xs. mail_of m ∷ xs) (inserted l d ms i first (λ k below. behind (suc k) (omega arith)) (omega arith)
    (λ inside. other (omega arith)) (λ inside. before (omega arith)) is)
    ∙ sym (skip l m (mails_of ms) (behind 0 (omega arith)))

-- the links of letters from one place on are those behind it with its letter
pub links_step : (ls : List Letter) (l : Letter) (n step : ℕ) → n ≡ length ls → step < n → l ≡ get_or ls (n - 1 - step) l
    → links (drop (n - (step + 1)) ls) ≡ with_mail l (links (drop (n - step) ls))
unfolding links
links_step ls l n step size inside is =
    let same : n - (step + 1) ≡ n - 1 - step = omega arith in
    let next : suc (n - 1 - step) ≡ n - step = omega arith in
    let within : n - 1 - step < length ls = omega arith in
    ap (λ k. links (drop k ls)) same
    ∙ ap links (drop-cons ls (n - 1 - step) l within)
    ∙ (λ i. with_mail (sym is i) (links (drop (next i) ls)))

-- no letters have no links
pub links_none : (ls : List Letter) (n : ℕ) → length ls ≤ n → links (drop n ls) ≡ []
unfolding links
links_none ls n all = ap links (drop_all ls n all)
  where
    drop_all : (xs : List Letter) (m : ℕ) → length xs ≤ m → drop m xs ≡ []
    drop_all [] zero h = refl
    drop_all [] (suc m) h = refl
    drop_all (x ∷ xs) zero h = absurd (omega arith)
    drop_all (x ∷ xs) (suc m) h = drop_all xs m (omega arith)

-- each count is at most so many
AreAtMost : ℕ → List machine.Mail → Type 0
AreAtMost n [] = Unit {0}
AreAtMost n (m ∷ ms) = (m.count ≤ n) × AreAtMost n ms

-- a bound on counts is one where there is a letter more
one_more : (n : ℕ) (ms : List machine.Mail) → AreAtMost n ms → AreAtMost (suc n) ms
unfolding AreAtMost
one_more n [] h = tt
one_more n (m ∷ ms) h = (omega (arith, h.0), one_more n ms h.1)

-- counts where a link has a letter more, is new, or stays
mail_bounded : (n : ℕ) (l : Letter) (m : machine.Mail) (ms rest : List machine.Mail) (a b : Bool) → m.count ≤ n → AreAtMost n ms
    → AreAtMost (suc n) rest → AreAtMost (suc n) (cond a (record m { count = suc m.count } ∷ ms) (cond b (first_mail l ∷ m ∷ ms) (m ∷ rest)))
unfolding AreAtMost
mail_bounded n l m ms rest true b first others h = (omega (arith, first), one_more n ms others)
mail_bounded n l m ms rest false true first others h = (omega arith, (omega (arith, first), one_more n ms others))
mail_bounded n l m ms rest false false first others h = (omega (arith, first), h)

-- counts with a letter more
with_mail_bounded : (n : ℕ) (l : Letter) (ms : List machine.Mail) → AreAtMost n ms → AreAtMost (suc n) (with_mail l ms)
unfolding AreAtMost
with_mail_bounded n l [] h = (omega arith, tt)
with_mail_bounded n l (m ∷ ms) h =
    mail_bounded n l m ms (with_mail l ms) (is_on m.from m.to l) (comes_before l m) h.0 h.1 (with_mail_bounded n l ms h.1)

-- a count is at most all letters
links_bounded : (ls : List Letter) → AreAtMost (length ls) (links ls)
unfolding links AreAtMost
links_bounded [] = tt
links_bounded (l ∷ ls) = with_mail_bounded (length ls) l (links ls) (links_bounded ls)

-- counts that code has, by those that they stand for
small_counts : (n : ℕ) (ms : List Mail) → n + 1 < 2 ^ 32 → AreAtMost n (mails_of ms) → All (λ (m : Mail). m.count + 1 < 2 ^ 32) ms
unfolding AreAtMost
small_counts n [] few h k d below = absurd (omega arith)
small_counts n (m ∷ ms) few h zero d below = omega (arith, h.0)
small_counts n (m ∷ ms) few h (suc k) d below = small_counts n ms few h.1 k d (omega arith)

-- counts of the last letters are such that one more fits
pub counts_fit : (ls : List Letter) (ms : List Mail) (step : ℕ) → step < length ls → length ls < 2 ^ 32
    → mails_of ms ≡ links (drop (length ls - step) ls) → All (λ (m : Mail). m.count + 1 < 2 ^ 32) ms
counts_fit ls ms step inside few is =
    small_counts (length (drop (length ls - step) ls)) ms (omega (arith, length-drop (length ls - step) ls))
    (subst (AreAtMost (length (drop (length ls - step) ls))) (sym is) (links_bounded (drop (length ls - step) ls)))
