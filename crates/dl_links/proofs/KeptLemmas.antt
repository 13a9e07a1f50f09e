-- What is kept stays true as letters are sent and delivered.
use Rattle.std.proofs.Common.{◌≡◌, ℕ, zero, suc, ◌+◌, ◌<◌, Bool, true, false, cond, ◌==◌, List, [], ◌∷◌, ◌++◌, length, get_or, set, refl, sym, ◌∙◌, ap, subst, arith, length-append, length-set, get_or-set_same, get_or-set_other, eqb-true, eq-eqb, true≢false}
use Rattle.dl_msg.specs.declared.letter.Letter.{Letter}
use Rattle.dl_links.specs.declared.file.File.{File}
use Rattle.dl_links.specs.declared.filed.Filed.{Filed}
use Rattle.dl_links.specs.Filing.{is_filed, places_from}
use Rattle.dl_links.specs.Waiting.{AreGone}
use Rattle.dl_links.specs.Tables.{places_in, gone_in, Stays, Takes, Passes}
use Rattle.dl_links.specs.Keeping.{AreKept}
use Rattle.dl_links.proofs.WaitingLemmas.{gone_of_more}
use Rattle.dl_links.proofs.PlaceLemmas.{places_push}

-- a mark more that isn't set
pub mark_push : (delivered : List Bool) (p : ℕ) → get_or (delivered ++ false ∷ []) p false ≡ get_or delivered p false
mark_push [] zero = refl
mark_push [] (suc p) = refl
mark_push (d ∷ ds) zero = refl
mark_push (d ∷ ds) (suc p) = mark_push ds p

-- a mark that is set
pub mark_set : (delivered : List Bool) (place p : ℕ) → place < length delivered
    → cond (p == place) true (get_or delivered p false) ≡ get_or (set delivered place true) p false
mark_set delivered place p inside = go (p == place) refl
  where
    go : (b : Bool) → (p == place) ≡ b → cond (p == place) true (get_or delivered p false) ≡ get_or (set delivered place true) p false
    go true w = ap (λ b. cond b true (get_or delivered p false)) w
        ∙ sym (ap (λ k. get_or (set delivered place true) k false) (eqb-true p place w) ∙ get_or-set_same delivered place true false inside)
    go false w = ap (λ b. cond b true (get_or delivered p false)) w
        ∙ sym (get_or-set_other delivered place p true false (λ e. true≢false (sym (eq-eqb p place e) ∙ w)))

-- what is past stays past where a mark comes
gone_push : (delivered : List Bool) (places : List ℕ) (gone : ℕ) → AreGone delivered places gone → AreGone (delivered ++ false ∷ []) places gone
gone_push delivered places gone h =
    record { within = h.within; each = λ k below. mark_push delivered (get_or places k 0) ∙ h.each k below }

-- what is past stays past where a mark is set
gone_set : (delivered : List Bool) (place : ℕ) (places : List ℕ) (gone : ℕ) → place < length delivered → AreGone delivered places gone
    → AreGone (set delivered place true) places gone
gone_set delivered place places gone inside h =
    record {
      within = h.within;
      each = λ k below. sym (mark_set delivered place (get_or places k 0) inside) ∙ ap (cond (get_or places k 0 == place) true) (h.each k below)
          ∙ always (get_or places k 0 == place);
    }
  where
    always : (b : Bool) → cond b true true ≡ true
    always true = refl
    always false = refl

-- room was made
pub kept_stays : (letters : List Letter) (delivered : List Bool) (old new : List (File × Filed)) → AreKept letters delivered old → Stays old new
    → AreKept letters delivered new
kept_stays letters delivered old new h stays =
    record {
      count = h.count;
      places = λ f. stays.places f ∙ h.places f;
      gone = λ f. subst (λ ps. AreGone delivered ps (gone_in new f)) (sym (stays.places f))
          (subst (AreGone delivered (places_in old f)) (sym (stays.gone f)) (h.gone f));
    }

-- what is past moved up
pub kept_passes : (letters : List Letter) (delivered : List Bool) (old new : List (File × Filed)) → AreKept letters delivered old
    → Passes delivered old new → AreKept letters delivered new
kept_passes letters delivered old new h passes =
    record { count = h.count; places = λ f. passes.places f ∙ h.places f; gone = λ f. passes.gone f (h.gone f) }

-- a letter was delivered
pub kept_delivery : (letters : List Letter) (delivered : List Bool) (entries : List (File × Filed)) (place : ℕ) → place < length delivered
    → AreKept letters delivered entries → AreKept letters (set delivered place true) entries
kept_delivery letters delivered entries place inside h =
    record {
      count = length-set delivered place true ∙ h.count;
      places = h.places;
      gone = λ f. gone_set delivered place (places_in entries f) (gone_in entries f) inside (h.gone f);
    }

-- a letter was sent
pub kept_letter : (letters : List Letter) (delivered : List Bool) (old new : List (File × Filed)) (letter : Letter) (place : ℕ)
    → AreKept letters delivered old → place ≡ length letters → Takes old new letter place
    → AreKept (letters ++ letter ∷ []) (delivered ++ false ∷ []) new
kept_letter letters delivered old new letter place h last takes =
    record {
      count = omega (arith, h.count, length-append letters (letter ∷ []), length-append delivered (false ∷ []));
      places = λ f. takes.places f ∙ (λ i. cond (is_filed f letter) (h.places f i ++ last i ∷ []) (h.places f i)) ∙ sym (places_push f 0 letters letter
          ∙ ap (λ n. cond (is_filed f letter) (places_from f 0 letters ++ n ∷ []) (places_from f 0 letters)) (zero_more (length letters)));
      gone = λ f. subst (λ ps. AreGone (delivered ++ false ∷ []) ps (gone_in new f)) (sym (takes.places f))
          (subst (AreGone (delivered ++ false ∷ []) (cond (is_filed f letter) (places_in old f ++ place ∷ []) (places_in old f))) (sym (takes.gone f))
          (gone_push delivered (cond (is_filed f letter) (places_in old f ++ place ∷ []) (places_in old f)) (gone_in old f)
          (with_more (is_filed f letter) f)));
    }
  where
    zero_more : (n : ℕ) → 0 + n ≡ n
    zero_more n = omega arith

    with_more : (b : Bool) (f : File) → AreGone delivered (cond b (places_in old f ++ place ∷ []) (places_in old f)) (gone_in old f)
    with_more true f = gone_of_more delivered (places_in old f) (place ∷ []) (gone_in old f) (h.gone f)
    with_more false f = h.gone f
