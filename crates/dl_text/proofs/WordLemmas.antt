-- One of several words is read exactly.
use Rattle.std.proofs.Common.{◌≡◌, ℕ, zero, suc, ◌+◌, ◌-◌, ◌≤◌, ◌<◌, max, Bool, true, false, cond, eqb, List, [], ◌∷◌, ◌++◌, length}
use Rattle.std.proofs.Common.{get_or, drop, Option, Some, None, Result, Ok, Err, inl, inr, refl, sym, ap, subst, ◌∙◌, arith}
use Rattle.std.specs.List.{AllByRecursion, Contains}
use Rattle.std.proofs.lemmas.Bool.{eqb-true, eq-eqb, cases_lt}
use Rattle.std.specs.Ordering.{ord_max, nat_cmp}
use Rattle.std.proofs.lemmas.Bool.Decides.{nat_tests}
use Rattle.std.proofs.lemmas.List.{drop_more}
use Rattle.dl_text.specs.Readers.{shared_length, Exact}
use Rattle.dl_text.specs.Words.{after, word_or, words_from}
use Rattle.dl_text.proofs.ReaderLemmas.{shared_le, ok_is}

-- what stands behind a word has the word in front
pub after_found : (word bytes rest : List ℕ) → after word bytes ≡ Some rest → bytes ≡ word ++ rest
after_found [] bytes rest e = cc
after_found (w ∷ ws) [] rest e = absurd cc
after_found (w ∷ ws) (b ∷ bs) rest e = go w b ws bs rest (eqb b w) refl (after_found ws bs rest) e
  where
    go : (w b : ℕ) (ws bs rest : List ℕ) (t : Bool) → eqb b w ≡ t → (after ws bs ≡ Some rest → bs ≡ ws ++ rest) → cond t (after ws bs) None ≡ Some rest
        → b ∷ bs ≡ w ∷ (ws ++ rest)
    go w b ws bs rest true t ih e = rw (eqb-true b w t) (ap (λ (x : List ℕ). w ∷ x) (ih e))
    go w b ws bs rest false t ih e = absurd cc

-- a word that is read stands in front, be it this one or one of the others
found_go : {K : Type 0} (text : K → List ℕ) (j k : K) (bytes rest : List ℕ) (o : Option (List ℕ)) (other : Result (K × List ℕ) ℕ) → after (text j) bytes ≡ o
    → (other ≡ Ok (k, rest) → bytes ≡ text k ++ rest) → word_or o j other ≡ Ok (k, rest) → bytes ≡ text k ++ rest
found_go {K} text j k bytes rest (Some r) other h ih e =
    let p : (j, r) ≡ (k, rest) = ok_is {B = ℕ} (j, r) (k, rest) e in
    let P : K × List ℕ → Type 0 = λ x. bytes ≡ text x.0 ++ x.1 in
    subst P p (after_found (text j) bytes r h)
found_go text j k bytes rest None other h ih e = ih e

-- the word that is read stands in front, and the rest behind it
pub words_found : {K : Type 0} (text : K → List ℕ) (best : ℕ) (ks : List K) (bytes : List ℕ) (k : K) (rest : List ℕ)
    → words_from text best ks bytes ≡ Ok (k, rest) → bytes ≡ text k ++ rest
words_found text best [] bytes k rest e = absurd cc
words_found text best (j ∷ ks) bytes k rest e =
    found_go text j k bytes rest (after (text j) bytes) (words_from text (max best (shared_length bytes (text j))) ks bytes) refl
    (words_found text (max best (shared_length bytes (text j))) ks bytes k rest) e

-- where no word stands, it was not the first
missed : {K : Type 0} (j : K) (o : Option (List ℕ)) (other : Result (K × List ℕ) ℕ) (left : ℕ) → word_or o j other ≡ Err left → other ≡ Err left
missed j (Some r) other left e = absurd cc
missed j None other left e = e

-- some word shares as much as the best
abbrev IsReached : {K : Type 0} → (K → Type 0) → (K → List ℕ) → List ℕ → ℕ → Type 0
IsReached {K} V text bytes best = (k : K) × V k × (shared_length bytes (text k) ≡ best)

-- one more word leaves the best reached by some word
reached_more : {K : Type 0} (V : K → Type 0) (text : K → List ℕ) (bytes : List ℕ) (best : ℕ) (j : K) → V j → IsReached V text bytes best
    → IsReached V text bytes (max best (shared_length bytes (text j)))
reached_more V text bytes best j v r = elim (cases_lt best (shared_length bytes (text j))) [
  | inl more ↦ (j, v, omega arith)
  | inr less ↦
      (r.0, r.1, omega (arith, r.2))
]

-- where no word stands, some word shares all that stands before the stop
words_near : {K : Type 0} (V : K → Type 0) (text : K → List ℕ) (best : ℕ) (ks : List K) (bytes : List ℕ) (left : ℕ) → AllByRecursion V ks
    → IsReached V text bytes best → words_from text best ks bytes ≡ Err left → (k : K) × V k × (shared_length bytes (text k) + left ≡ length bytes)
words_near V text best [] bytes left all r e =
    let h : Err (length bytes - best) ≡ Err left = e in
    let is : length bytes - best ≡ left = cc in
    (r.0, r.1, omega (arith, r.2, is, shared_le bytes (text r.0)))
words_near V text best (j ∷ ks) bytes left all r e = words_near V text (max best (shared_length bytes (text j))) ks bytes left all.1
    (reached_more V text bytes best j all.0 r) (missed j (after (text j) bytes) _ left e)

-- a word that is read is one of the list
words_which : {K : Type 0} (V : K → Type 0) (text : K → List ℕ) (best : ℕ) (ks : List K) (bytes : List ℕ) (k : K) (rest : List ℕ) → AllByRecursion V ks
    → words_from text best ks bytes ≡ Ok (k, rest) → V k
words_which V text best [] bytes k rest all e = absurd cc
words_which {K} V text best (j ∷ ks) bytes k rest all e = go V j k rest (after (text j) bytes)
    (words_from text (max best (shared_length bytes (text j))) ks bytes) all.0
    (words_which V text (max best (shared_length bytes (text j))) ks bytes k rest all.1) e
  where
    go : {K : Type 0} (V : K → Type 0) (j k : K) (rest : List ℕ) (o : Option (List ℕ)) (other : Result (K × List ℕ) ℕ) → V j → (other ≡ Ok (k, rest) → V k)
        → word_or o j other ≡ Ok (k, rest) → V k
    go {K} V j k rest (Some r) other v ih e =
        let p : (j, r) ≡ (k, rest) = ok_is {B = ℕ} (j, r) (k, rest) e in
        subst V (ap (λ (x : K × List ℕ). x.0) p) v
    go V j k rest None other v ih e = ih e

-- where no word stands, no word of the list shares more, and the best before them fits the text
words_far : {K : Type 0} (text : K → List ℕ) (best : ℕ) (ks : List K) (bytes : List ℕ) (left : ℕ) → best ≤ length bytes
    → words_from text best ks bytes ≡ Err left → (best + left ≤ length bytes) × AllByRecursion (λ k. shared_length bytes (text k) + left ≤ length bytes) ks
words_far text best [] bytes left r e =
    let h : Err (length bytes - best) ≡ Err left = e in
    let is : length bytes - best ≡ left = cc in
    (omega (arith, is), tt)
words_far text best (j ∷ ks) bytes left r e =
    let fits : max best (shared_length bytes (text j)) ≤ length bytes = omega (arith, shared_le bytes (text j)) in
    let w = words_far text (max best (shared_length bytes (text j))) ks bytes left fits (missed j (after (text j) bytes) _ left e) in
    (omega (arith, w.0), (omega (arith, w.0), w.1))

-- A word of a list of words is read exactly, where each word is read as itself.
pub words_exact : {K : Type 0} (V : K → Type 0) (text : K → List ℕ) (first : K) (ks : List K) → AllByRecursion V (first ∷ ks)
    → ((k : K) (rest : List ℕ) → V k → words_from text 0 (first ∷ ks) (text k ++ rest) ≡ Ok (k, rest))
    → ((P : K → Type 0) → AllByRecursion P (first ∷ ks) → (k : K) → V k → P k) → Exact V text (words_from text 0 (first ∷ ks))
words_exact {K} V text first ks valid again every = record {
  found = λ bytes k rest e. (words_which V text 0 (first ∷ ks) bytes k rest valid e, words_found text 0 (first ∷ ks) bytes k rest e);
  again = λ k rest v. again k rest v;
  near = λ bytes left e. words_near V text (max 0 (shared_length bytes (text first))) ks bytes left valid.1 (first, valid.0, omega arith)
      (missed first (after (text first) bytes) _ left e);
  far = λ bytes left e k v. every (λ j. shared_length bytes (text j) + left ≤ length bytes) ((words_far text 0 (first ∷ ks) bytes left (omega arith) e).1) k v;
}

-- a word that does not stand at the front is passed
pub words_miss : {K : Type 0} (text : K → List ℕ) (best : ℕ) (k : K) (ks : List K) (bytes : List ℕ) → after (text k) bytes ≡ None
    → words_from text best (k ∷ ks) bytes ≡ words_from text (max best (shared_length bytes (text k))) ks bytes
words_miss text best k ks bytes e = rw e refl

-- the greater of two numbers, by either definition
max_is : (a b : ℕ) → ord_max nat_cmp a b ≡ max a b
max_is a b = grind (arith, nat_tests)

-- one turn of the search
pub words_step : {K : Type 0} (text : K → List ℕ) (best next i : ℕ) (words : List K) (word : K) (bytes spelled : List ℕ) (all : Result (K × List ℕ) ℕ)
    → next ≡ ord_max nat_cmp best (shared_length bytes spelled) → spelled ≡ text word → after spelled bytes ≡ None → word ≡ get_or words i word
    → i < length words → words_from text best (drop i words) bytes ≡ all → best ≤ length bytes
    → (words_from text next (drop (i + 1) words) bytes ≡ all) × (next ≤ length bytes)
words_step {K} text best next i words word bytes spelled all is spells missing reads within same fits =
    let top : next ≡ max best (shared_length bytes (text word)) = is ∙ max_is best (shared_length bytes spelled)
    ∙ ap (λ (t : List ℕ). max best (shared_length bytes t)) spells in
    let parts : drop i words ≡ word ∷ drop (i + 1) words = drop_more words i word within ∙ ap (λ (k : K). k ∷ drop (i + 1) words) (sym reads) in
    let gone : after (text word) bytes ≡ None = ap (λ (t : List ℕ). after t bytes) (sym spells) ∙ missing in (
      ap (λ (k : ℕ). words_from text k (drop (i + 1) words) bytes) top ∙ sym (words_miss text best word (drop (i + 1) words) bytes gone)
          ∙ ap (λ (ks : List K). words_from text best ks bytes) (sym parts) ∙ same,
      omega (arith, top, shared_le bytes (text word), fits),
    )

-- behind a word at the front stands the rest
after_front : (word rest : List ℕ) → after word (word ++ rest) ≡ Some rest
after_front [] rest = refl
after_front (w ∷ ws) rest = rw (eq-eqb w w refl) (after_front ws rest)

-- The one word of a list of one is read exactly.
pub one_word_exact : {K : Type 0} (text : K → List ℕ) (word : K) → Exact (λ k. k ≡ word) text (words_from text 0 (word ∷ []))
one_word_exact {K} text word = words_exact (λ k. k ≡ word) text word [] (refl, tt) again every
  where
    here : (rest : List ℕ) → words_from text 0 (word ∷ []) (text word ++ rest) ≡ Ok (word, rest)
    here rest = rw (after_front (text word) rest) refl

    again : (k : K) (rest : List ℕ) → k ≡ word → words_from text 0 (word ∷ []) (text k ++ rest) ≡ Ok (k, rest)
    again k rest is = subst (λ (j : K). words_from text 0 (word ∷ []) (text j ++ rest) ≡ Ok (j, rest)) (sym is) (here rest)

    every : (P : K → Type 0) → AllByRecursion P (word ∷ []) → (k : K) → k ≡ word → P k
    every P all k is = subst P (sym is) all.0

-- what holds of each word of a list holds of one that it contains
every_word : {K : Type 0} (P : K → Type 0) (words : List K) → AllByRecursion P words → (k : K) → Contains words k → P k
every_word P [] all k c = absurd (omega (arith, c.1))
every_word {K} P (word ∷ words) all k (zero, within, is) = subst P is all.0
every_word {K} P (word ∷ words) all k (suc i, within, is) = every_word P words all.1 k (i, omega (arith, within), is)

-- what holds of each word that a list contains holds of all of them in turn
listed : {K : Type 0} (P : K → Type 0) (words : List K) → ((k : K) → Contains words k → P k) → AllByRecursion P words
listed P [] each = tt
listed P (word ∷ words) each = (each word (0, omega arith, refl), listed P words (λ k c. each k (suc c.0, omega (arith, c.1), c.2)))

-- Words are read exactly where each of them is read as itself.
pub listed_exact : {K : Type 0} (text : K → List ℕ) (first : K) (words : List K)
    → ((k : K) (rest : List ℕ) → Contains (first ∷ words) k → words_from text 0 (first ∷ words) (text k ++ rest) ≡ Ok (k, rest))
    → Exact (Contains (first ∷ words)) text (words_from text 0 (first ∷ words))
listed_exact text first words again = words_exact (Contains (first ∷ words)) text first words
    (listed (Contains (first ∷ words)) (first ∷ words) (λ k c. c)) again (λ P all. every_word P (first ∷ words) all)
