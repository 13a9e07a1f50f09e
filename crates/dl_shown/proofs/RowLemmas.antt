-- One row more.
use Rattle.std.proofs.Common.{◌≡◌, ℕ, Bool, true, false, cond, not, ◌&&◌, ◌||◌, nat_le, nat_eq, ◌==◌, List, [], ◌∷◌, ◌++◌, map, Option, Some, None, is_some}
use Rattle.std.proofs.Common.{refl, sym, ap, ◌∙◌, arith}
use Rattle.std.specs.List.{list_any, list_all}
use Rattle.std.proofs.lemmas.Bool.{and_parts, and_from, eqb-true}
use Rattle.std.proofs.lemmas.Bool.Decides.{nat_tests}
use Rattle.std.proofs.lemmas.List.Folds.{list_any-append}
use Rattle.dl_types.specs.declared.dlsn.Dlsn.{Dlsn}
use Rattle.dl_types.specs.declared.row.Row.{Row}
use Rattle.dl_types.specs.Places.{is_before, is_same}
use Rattle.dl_transcript.specs.Legal.{last_or, is_some_and, is_from, are_below}
use Rattle.dl_shown.specs.declared.rows.RowsShown.{RowsShown}
use Rattle.dl_shown.specs.Rows.{is_record, place_of, is_above, may_grow, IsNoted, StandsFor}
use Rattle.indexmap.specs.IndexMap.{get, get_by}
use Rattle.dl_shown.proofs.Judging.{last_push}

-- places that stand in a row
pub before_trans : (a b d : Dlsn) → is_before a b ≡ true → is_before b d ≡ true → is_before a d ≡ true
before_trans a b d p q = grind (arith, nat_tests, p, q)

-- what stands above one that stands above all rows stands above all rows
all_before : (rows : List Row) (b d : Dlsn) → list_all (λ r. is_before r.place b) rows ≡ true → is_before b d ≡ true
    → list_all (λ r. is_before r.place d) rows ≡ true
all_before [] b d all later = refl
all_before (r ∷ rows) b d all later =
    let p = and_parts (is_before r.place b) (list_all (λ x. is_before x.place b) rows) all in
    and_from _ _ (before_trans r.place b d p.0 later) (all_before rows b d p.1 later)

-- all of a list and of one more
all_push : (f : Row → Bool) (rows : List Row) (x : Row) → list_all f (rows ++ x ∷ []) ≡ (list_all f rows && f x)
all_push f [] x = turn (f x)
  where
    turn : (b : Bool) → (b && true) ≡ b
    turn true = refl
    turn false = refl
all_push f (r ∷ rows) x = ap (λ (b : Bool). f r && b) (all_push f rows x) ∙ grouped (f r) (list_all f rows) (f x)
  where
    grouped : (a b c : Bool) → (a && (b && c)) ≡ ((a && b) && c)
    grouped true b c = refl
    grouped false b c = refl

-- above all rows and the last one stands what stands above the last one
above_push : (rows : List Row) (x : Row) (d : Dlsn) → list_all (λ r. is_before r.place x.place) rows ≡ true
    → is_before x.place d ≡ list_all (λ r. is_before r.place d) (rows ++ x ∷ [])
above_push rows x d all = go (is_before x.place d) refl ∙ sym (all_push (λ r. is_before r.place d) rows x)
  where
    go : (b : Bool) → is_before x.place d ≡ b → is_before x.place d ≡ (list_all (λ r. is_before r.place d) rows && is_before x.place d)
    go true e = e ∙ sym (and_from _ _ (all_before rows x.place d all e) e)
    go false e = e ∙ none (list_all (λ r. is_before r.place d) rows) ∙ ap (λ (b : Bool). list_all (λ r. is_before r.place d) rows && b) (sym e)
      where
        none : (b : Bool) → false ≡ (b && false)
        none true = refl
        none false = refl

-- what stands above one that stands above all rows stands above those of its segment
all_below : (rows : List Row) (b d : Dlsn) → list_all (λ r. is_before r.place b) rows ≡ true → is_before b d ≡ true → are_below d rows ≡ true
all_below [] b d all later = refl
all_below (r ∷ rows) b d all later =
    let p = and_parts (is_before r.place b) (list_all (λ x. is_before x.place b) rows) all in
    and_from _ _ (either (not (r.place.segment == d.segment)) (is_before r.place d) (before_trans r.place b d p.0 later)) (all_below rows b d p.1 later)
  where
    either : (x y : Bool) → y ≡ true → (x || y) ≡ true
    either true y e = refl
    either false y e = e

-- with one row more the last one of its segment is that
below_push : (rows : List Row) (x : Row) (d : Dlsn) (old : Option Dlsn) → list_all (λ r. is_before r.place x.place) rows ≡ true
    → is_above old d ≡ are_below d rows
    → is_above (cond (x.place.segment == d.segment) (Some x.place) old) d ≡ are_below d (rows ++ x ∷ [])
below_push rows x d old all was =
    go (x.place.segment == d.segment) (is_before x.place d) refl
    ∙ sym (all_push (λ r. not (r.place.segment == d.segment) || is_before r.place d) rows x)
  where
    go : (same above : Bool) → is_before x.place d ≡ above
        → is_above (cond same (Some x.place) old) d ≡ (are_below d rows && (not same || is_before x.place d))
    go true true e = e ∙ sym (and_from _ _ (all_below rows x.place d all e) e)
    go true false e = e ∙ none (are_below d rows) ∙ ap (λ (b : Bool). are_below d rows && b) (sym e)
      where
        none : (b : Bool) → false ≡ (b && false)
        none true = refl
        none false = refl
    go false above e = was ∙ one (are_below d rows)
      where
        one : (b : Bool) → b ≡ (b && true)
        one true = refl
        one false = refl

-- the ids of rows and of one more
ids_push : (rows : List Row) (x : Row) → map (λ r. r.txid) (rows ++ x ∷ []) ≡ map (λ r. r.txid) rows ++ x.txid ∷ []
ids_push [] x = refl
ids_push (r ∷ rows) x = ap (λ t. r.txid ∷ t) (ids_push rows x)

-- a test of a list and of one more
any_push : (f : Row → Bool) (rows : List Row) (x : Row) → list_any f (rows ++ x ∷ []) ≡ (list_any f rows || f x)
any_push f rows x = list_any-append f rows (x ∷ []) ∙ ap (λ (b : Bool). list_any f rows || b) (turn (f x))
  where
    turn : (b : Bool) → (b || false) ≡ b
    turn true = refl
    turn false = refl

-- a record that has a row, with one more
grown_push : (same : Bool) (old : Option Dlsn) (d : Dlsn) (seen : Bool) → is_some old ≡ seen → is_some (cond same (Some d) old) ≡ (seen || same)
grown_push true old d true e = refl
grown_push true old d false e = refl
grown_push false old d true e = e
grown_push false old d false e = e

-- where it stands, where it had none
stands_push : (same here : Bool) (old : Option Dlsn) (d e : Dlsn) (seen : Bool) → is_some_and (λ p. is_same p e) old ≡ seen → is_same d e ≡ here
    → (same ≡ true → is_some old ≡ false) → is_some_and (λ p. is_same p e) (cond same (Some d) old) ≡ (seen || (same && here))
stands_push true here (Some q) d e seen was is none = absurd (let clash : true ≡ false = none refl in cc)
stands_push true here None d e true was is none = absurd cc
stands_push true here None d e false was is none = is
stands_push false here old d e true was is none = was
stands_push false here old d e false was is none = was

-- with a row that may grow the table stands for the rows with it
pub grows : (old new noted : RowsShown) (rows : List Row) (x : Row) → StandsFor old rows
    → may_grow rows x.place x.txid x.origin.client x.origin.call ≡ true → IsNoted old noted x → new.rows.items ≡ noted.rows.items ++ x ∷ []
    → new.top ≡ noted.top → new.last ≡ noted.last → new.places ≡ noted.places → new.tops ≡ noted.tops → StandsFor new (rows ++ x ∷ [])
grows old new noted rows x h may is kept top last places tops =
    let above = list_all (λ r. is_before r.place x.place) rows in
    let ids = nat_le (last_or 0 (map (λ r. r.txid) rows)) x.txid in
    let from = list_any (is_from x.origin.client x.origin.call) rows in
    let p = and_parts (above && ids) (not from) may in
    let q = and_parts above ids p.0 in
    let none : from ≡ false = not_true from p.1 in
    let here : (c n : ℕ) → place_of new c n ≡ cond (x.origin.client == c && x.origin.call == n) (Some x.place) (place_of old c n) =
    λ c n. ap (λ m. get_by (is_record c n) m) places ∙ is.places c n in
    record {
      kept = kept ∙ ap (λ v. v.items ++ x ∷ []) is.kept ∙ ap (λ (rs : List Row). rs ++ x ∷ []) h.kept;
      above = λ e. ap (λ (t : Option Dlsn). is_above t e) (top ∙ is.top) ∙ above_push rows x e q.0;
      below = λ e. ap (λ m. is_above (get nat_eq m e.segment) e) tops ∙ ap (λ (t : Option Dlsn). is_above t e) (is.tops e.segment)
          ∙ below_push rows x e (get nat_eq old.tops e.segment) q.0 (h.below e);
      last = last ∙ is.last ∙ sym (ap (last_or 0) (ids_push rows x) ∙ last_push 0 (map (λ r. r.txid) rows) x.txid);
      grown = λ c n. ap is_some (here c n) ∙ grown_push (x.origin.client == c && x.origin.call == n) (place_of old c n) x.place _ (h.grown c n)
          ∙ sym (any_push (is_from c n) rows x);
      stands = λ c n e. ap (is_some_and (λ p. is_same p e)) (here c n)
          ∙ stands_push (x.origin.client == c && x.origin.call == n) (is_same x.place e) (place_of old c n) x.place e _ (h.stands c n e) refl
          (λ same. let k = and_parts (x.origin.client == c) (x.origin.call == n) same in
          h.grown c n ∙ ap (λ (m : ℕ). list_any (is_from m n) rows) (sym (eqb-true x.origin.client c k.0))
          ∙ ap (λ (m : ℕ). list_any (is_from x.origin.client m) rows) (sym (eqb-true x.origin.call n k.1)) ∙ none)
          ∙ sym (any_push (λ r. is_from c n r && is_same r.place e) rows x);
    }
  where
    not_true : (b : Bool) → not b ≡ true → b ≡ false
    not_true true e = absurd cc
    not_true false e = refl
