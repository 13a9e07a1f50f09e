-- Lists in rising order, and sessions beside their numbers.
use Rattle.std.proofs.Common.{◌≡◌, ℕ, zero, suc, ◌+◌, ◌<◌, ◌≤◌, Bool, true, false, cond, not, ◌==◌, List, [], ◌∷◌, ◌++◌, length, map, filter}
use Rattle.std.proofs.Common.{get_or, set, Option, Some, None, Err, All, refl, sym, ap, ◌∙◌, subst, ap₂, arith, eq-eqb, length-append}
use Rattle.std.proofs.lemmas.Bool.{ne_eqb, cond-true, cond-false}
use Rattle.std.specs.List.{remove}
use Rattle.std.specs.List.Sorted.{IsBinarySearchResult, IsStrictlyIncreasing}
use Rattle.std.specs.Ordering.{nat_cmp}
use Rattle.std.proofs.lemmas.List.Sorted.{searched}
use Rattle.std.proofs.lemmas.Grind.{get_or_default_zero}
use Rattle.std.proofs.lemmas.List.Edits.{length-remove}
use Rattle.dl_session.specs.declared.admit.Admit.TheVariants.{Run}
use Rattle.dl_session.specs.Sessions.{Known, Live, ids, number_in, with_number, after_connect, after_expiry, after_run, admission}
use Rattle.dl_session.specs.Rises.{Rises, beside}

-- each is above the low bound
pub rises_above : (low high : ℕ) (xs : List ℕ) (i d : ℕ) → Rises low high xs → i < length xs → low < get_or xs i d
rises_above low high [] i d r h = absurd (omega arith)
rises_above low high (x ∷ xs) zero d r h = r.0
rises_above low high (x ∷ xs) (suc i) d r h = omega (arith, r.0, rises_above x high xs i d r.1 (omega arith))

-- where numbers rise between two bounds, the low one is at most the high one
rises_bounds : (low high : ℕ) (xs : List ℕ) → Rises low high xs → low ≤ high
rises_bounds low high [] r = r
rises_bounds low high (x ∷ xs) r = omega (arith, r.0, rises_bounds x high xs r.1)

-- each is at most the high bound
pub rises_below : (low high : ℕ) (xs : List ℕ) (i d : ℕ) → Rises low high xs → i < length xs → get_or xs i d ≤ high
rises_below low high [] i d r h = absurd (omega arith)
rises_below low high (x ∷ xs) zero d r h = rises_bounds x high xs r.1
rises_below low high (x ∷ xs) (suc i) d r h = rises_below x high xs i d r.1 (omega arith)

-- an earlier one is below a later one
pub rises_between : (low high : ℕ) (xs : List ℕ) (i j d : ℕ) → Rises low high xs → i < j → j < length xs → get_or xs i d < get_or xs j d
rises_between low high [] i j d r l h = absurd (omega arith)
rises_between low high (x ∷ xs) i zero d r l h = absurd (omega arith)
rises_between low high (x ∷ xs) zero (suc j) d r l h = rises_above x high xs j d r.1 (omega arith)
rises_between low high (x ∷ xs) (suc i) (suc j) d r l h = rises_between x high xs i j d r.1 (omega arith) (omega arith)

-- an earlier one is at most a later one
pub rises_order : (low high : ℕ) (xs : List ℕ) (i j d : ℕ) → Rises low high xs → i ≤ j → j < length xs → get_or xs i d ≤ get_or xs j d
rises_order low high [] i j d r l h = absurd (omega arith)
rises_order low high (x ∷ xs) zero zero d r l h = omega arith
rises_order low high (x ∷ xs) (suc i) zero d r l h = absurd (omega arith)
rises_order low high (x ∷ xs) zero (suc j) d r l h = omega (arith, rises_above x high xs j d r.1 (omega arith))
rises_order low high (x ∷ xs) (suc i) (suc j) d r l h = rises_order x high xs i j d r.1 (omega arith) (omega arith)

-- numbers that rise from a bound rise from any lower one too
rises_from : (low low' high : ℕ) (xs : List ℕ) → low' ≤ low → Rises low high xs → Rises low' high xs
rises_from low low' high [] l r = omega (arith, l, r)
rises_from low low' high (x ∷ xs) l r = (omega (arith, l, r.0), r.1)

-- one more at the end
pub rises_more : (low high : ℕ) (xs : List ℕ) → Rises low high xs → Rises low (high + 1) (xs ++ (high + 1) ∷ [])
rises_more low high [] r = (omega (arith, r), omega arith)
rises_more low high (x ∷ xs) r = (r.0, rises_more x high xs r.1)

-- without the one at a place
pub rises_less : (low high : ℕ) (xs : List ℕ) (i : ℕ) → Rises low high xs → i < length xs → Rises low high (remove xs i)
rises_less low high [] i r h = absurd (omega arith)
rises_less low high (x ∷ xs) zero r h = rises_from x low high xs (omega (arith, r.0)) r.1
rises_less low high (x ∷ xs) (suc i) r h = (r.0, rises_less x high xs i r.1 (omega arith))

-- the sessions of sessions beside their numbers are those sessions
pub ids-beside : (xs ns : List ℕ) → length ns ≡ length xs → ids (beside xs ns) ≡ xs
ids-beside [] ns h = refl
ids-beside (x ∷ xs) [] h = absurd (omega arith)
ids-beside (x ∷ xs) (n ∷ ns) h = ap (λ (t : List ℕ). x ∷ t) (ids-beside xs ns (omega arith))

-- one more session with its number, on each side, is one more live session at the end
pub beside-more : (xs ns : List ℕ) (x n : ℕ) → length ns ≡ length xs
    → beside (xs ++ x ∷ []) (ns ++ n ∷ []) ≡ beside xs ns ++ (record { session = x; number = n }) ∷ []
beside-more [] [] x n h = refl
beside-more [] (m ∷ ns) x n h = absurd (omega arith)
beside-more (y ∷ xs) [] x n h = absurd (omega arith)
beside-more (y ∷ xs) (m ∷ ns) x n h = ap (λ (t : List Live). (record { session = y; number = m }) ∷ t) (beside-more xs ns x n (omega arith))

-- a session is at none of the places
abbrev pub IsNone : List ℕ → ℕ → Type 0
IsNone xs k = (j : ℕ) → j < length xs → get_or xs j 0 ≡ k → ⊥

-- a bound that numbers rise above is none of them
none_above : (x high : ℕ) (xs : List ℕ) (k : ℕ) → x ≡ k → Rises x high xs → IsNone xs k
none_above x high xs k e r j h same = absurd (omega (arith, e, same, rises_above x high xs j 0 r h))

-- what is none of a list is not its first member
none_here : (x : ℕ) (xs : List ℕ) (k : ℕ) → IsNone (x ∷ xs) k → (x == k) ≡ false
none_here x xs k none = ne_eqb x k (none zero (omega arith))

-- what is none of a list is none of the rest
none_later : (x : ℕ) (xs : List ℕ) (k : ℕ) → IsNone (x ∷ xs) k → IsNone xs k
none_later x xs k none j h = none (suc j) (omega arith)

-- a session that is none of the live ones has no number
pub number_none : (xs ns : List ℕ) (k : ℕ) → IsNone xs k → number_in (beside xs ns) k ≡ None
number_none [] ns k none = refl
number_none (x ∷ xs) [] k none = refl
number_none (x ∷ xs) (n ∷ ns) k none = cond-false _ _ _ (none_here x xs k none) ∙ number_none xs ns k (none_later x xs k none)

-- the session at a place has the number at the same place
pub number_at : (low high : ℕ) (xs ns : List ℕ) (i k : ℕ) → Rises low high xs → length ns ≡ length xs → i < length xs → get_or xs i 0 ≡ k
    → number_in (beside xs ns) k ≡ Some (get_or ns i 0)
number_at low high [] ns i k r same h e = absurd (omega arith)
number_at low high (x ∷ xs) [] i k r same h e = absurd (omega arith)
number_at low high (x ∷ xs) (n ∷ ns) zero k r same h e = cond-true _ _ _ (eq-eqb x k e)
number_at low high (x ∷ xs) (n ∷ ns) (suc i) k r same h e =
    cond-false _ _ _ (ne_eqb x k (λ w. absurd (omega (arith, w, e, rises_above x high xs i 0 r.1 (omega arith)))))
    ∙ number_at x high xs ns i k r.1 (omega arith) (omega arith) e

-- the live sessions but one
abbrev pub others : ℕ → List Live → List Live
others k live = filter (λ (x : Live). not (x.session == k)) live

-- a choice by what fails, turned round, is the first
not_same : {A : Type 0} (b : Bool) (x y : A) → b ≡ false → cond (not b) x y ≡ x
not_same true x y e = absurd (cc)
not_same false x y e = refl

-- a choice by what holds, turned round, is the second
not_other : {A : Type 0} (b : Bool) (x y : A) → b ≡ true → cond (not b) x y ≡ y
not_other true x y e = refl
not_other false x y e = absurd (cc)

-- without a session that is none of them the live sessions are the same
pub others_none : (xs ns : List ℕ) (k : ℕ) → IsNone xs k → others k (beside xs ns) ≡ beside xs ns
others_none [] ns k none = refl
others_none (x ∷ xs) [] k none = refl
others_none (x ∷ xs) (n ∷ ns) k none =
    not_same _ _ _ (none_here x xs k none) ∙ ap (λ (t : List Live). (record { session = x; number = n }) ∷ t) (others_none xs ns k (none_later x xs k none))

-- without the session at a place both lists lose the member at that place
pub others_at : (low high : ℕ) (xs ns : List ℕ) (i k : ℕ) → Rises low high xs → length ns ≡ length xs → i < length xs → get_or xs i 0 ≡ k
    → others k (beside xs ns) ≡ beside (remove xs i) (remove ns i)
others_at low high [] ns i k r same h e = absurd (omega arith)
others_at low high (x ∷ xs) [] i k r same h e = absurd (omega arith)
others_at low high (x ∷ xs) (n ∷ ns) zero k r same h e = not_other _ _ _ (eq-eqb x k e) ∙ others_none xs ns k (none_above x high xs k e r.1)
others_at low high (x ∷ xs) (n ∷ ns) (suc i) k r same h e =
    not_same _ _ _ (ne_eqb x k (λ w. absurd (omega (arith, w, e, rises_above x high xs i 0 r.1 (omega arith)))))
    ∙ ap (λ (t : List Live). (record { session = x; number = n }) ∷ t) (others_at x high xs ns i k r.1 (omega arith) (omega arith) e)

-- a number that runs in none of the live sessions changes nothing
ran_none : (xs ns : List ℕ) (k m : ℕ) → IsNone xs k → map (with_number k m) (beside xs ns) ≡ beside xs ns
ran_none [] ns k m none = refl
ran_none (x ∷ xs) [] k m none = refl
ran_none (x ∷ xs) (n ∷ ns) k m none =
    let here : with_number k m (record { session = x; number = n }) ≡ (record { session = x; number = n }) = cond-false _ _ _ (none_here x xs k none) in
    let later = ran_none xs ns k m (none_later x xs k none) in
    λ i. here i ∷ later i

-- a number that runs in the session at a place is the number at that place
pub ran_at : (low high : ℕ) (xs ns : List ℕ) (i k m : ℕ) → Rises low high xs → length ns ≡ length xs → i < length xs → get_or xs i 0 ≡ k
    → map (with_number k m) (beside xs ns) ≡ beside xs (set ns i m)
ran_at low high [] ns i k m r same h e = absurd (omega arith)
ran_at low high (x ∷ xs) [] i k m r same h e = absurd (omega arith)
ran_at low high (x ∷ xs) (n ∷ ns) zero k m r same h e =
    let here : with_number k m (record { session = x; number = n }) ≡ (record { session = x; number = m }) = cond-true _ _ _ (eq-eqb x k e) in
    let later = ran_none xs ns k m (none_above x high xs k e r.1) in
    λ i. here i ∷ later i
ran_at low high (x ∷ xs) (n ∷ ns) (suc i) k m r same h e =
    let here : with_number k m (record { session = x; number = n }) ≡ (record { session = x; number = n }) =
    cond-false _ _ _ (ne_eqb x k (λ w. absurd (omega (arith, w, e, rises_above x high xs i 0 r.1 (omega arith))))) in
    let later = ran_at x high xs ns i k m r.1 (omega arith) (omega arith) e in
    λ i. here i ∷ later i

-- what is above all members before a place and below all from it on is none of them
apart : (a x i k : ℕ) → (k < i → a < x) → (i ≤ k → x < a) → a ≡ x → ⊥
apart a x i k below above e = grind arith

-- a search that found nothing
pub not_found : (xs : List ℕ) (x i high : ℕ) → IsBinarySearchResult (λ y. nat_cmp y x) xs (Err i) → Rises 0 high xs → IsNone xs x
not_found xs x i high p r k h e =
    let s = searched xs x (Err i) p (λ i j l m. rises_order 0 high xs i j 0 r l m) in
    apart (get_or xs k 0) x i k (s.1 k) (λ le. s.2 k le h) e

-- the kept lists, and what they stand for
pub record IsKept (last : ℕ) (xs ns : List ℕ) : Type 0 where
  pub rises : Rises 0 last xs
  pub same : length ns ≡ length xs

-- the sessions that these tables keep: the last one given, and the live ones beside their numbers
abbrev pub known : ℕ → List ℕ → List ℕ → Known
known last xs ns = record { last = last; live = beside xs ns }

-- one more session, above the last, keeps the tables in rising order and of one length
pub keeps_more : (last : ℕ) (xs ns ys ms : List ℕ) (n : ℕ) → IsKept last xs ns → ys ≡ xs ++ (last + 1) ∷ [] → ms ≡ ns ++ n ∷ []
    → Rises 0 (last + 1) ys × (length ms ≡ length ys)
keeps_more last xs ns ys ms n k e f = (
  subst (λ (t : List ℕ). Rises 0 (last + 1) t) (sym e) (rises_more 0 last xs k.rises),
  rw (e, f) (omega (arith, k.same, length-append xs ((last + 1) ∷ []), length-append ns (n ∷ []))),
)

-- tables with one more session, above the last and with the number 0, keep the sessions after a connection
pub known-connected : (last : ℕ) (xs ns ys ms : List ℕ) (s : Known) → IsKept last xs ns → known last xs ns ≡ s → ys ≡ xs ++ (last + 1) ∷ [] → ms ≡ ns ++ 0 ∷ []
    → (last + 1 ≡ s.last + 1) × (known (last + 1) ys ms ≡ after_connect s)
unfolding after_connect
known-connected last xs ns ys ms s k is e f = (
  ap (λ (t : Known). t.last + 1) is,
  ap₂ (λ (a b : List ℕ). known (last + 1) a b) e f ∙ ap (λ (t : List Live). record { last = last + 1; live = t }) (beside-more xs ns (last + 1) 0 k.same)
      ∙ ap after_connect is,
)

-- one session fewer keeps the tables in rising order and of one length
pub keeps_fewer : (last : ℕ) (xs ns ys ms : List ℕ) (i : ℕ) → IsKept last xs ns → i < length xs → ys ≡ remove xs i → ms ≡ remove ns i
    → Rises 0 last ys × (length ms ≡ length ys)
keeps_fewer last xs ns ys ms i k h e f = (
  subst (λ (t : List ℕ). Rises 0 last t) (sym e) (rises_less 0 last xs i k.rises h),
  rw (e, f) (omega (arith, k.same, length-remove xs i h, length-remove ns i (omega (arith, h, k.same)))),
)

-- tables without the session at a place keep the sessions after its expiry
pub known-expired : (last : ℕ) (xs ns ys ms : List ℕ) (i session : ℕ) (s : Known) → IsKept last xs ns → known last xs ns ≡ s → i < length xs
    → get_or xs i 0 ≡ session → ys ≡ remove xs i → ms ≡ remove ns i → known last ys ms ≡ after_expiry s session
unfolding after_expiry
known-expired last xs ns ys ms i session s k is h at e f =
    ap₂ (λ (a b : List ℕ). known last a b) e f
    ∙ ap (λ (t : List Live). record { last = last; live = t }) (sym (others_at 0 last xs ns i session k.rises k.same h at))
    ∙ ap (λ (t : Known). after_expiry t session) is

-- the expiry of a session that is not live changes nothing
pub known-expired_none : (last : ℕ) (xs ns : List ℕ) (session : ℕ) (s : Known) → known last xs ns ≡ s → IsNone xs session → s ≡ after_expiry s session
unfolding after_expiry
known-expired_none last xs ns session s is none =
    sym is ∙ ap (λ (t : List Live). record { last = last; live = t }) (sym (others_none xs ns session none)) ∙ ap (λ (t : Known). after_expiry t session) is

-- tables with a number at a session's place keep the sessions after that number ran in it
pub known-ran : (last : ℕ) (xs ns : List ℕ) (i session number : ℕ) (s : Known) → IsKept last xs ns → known last xs ns ≡ s → i < length xs
    → get_or xs i 0 ≡ session → known last xs (set ns i number) ≡ after_run s session number
unfolding after_run
known-ran last xs ns i session number s k is h at =
    ap (λ (t : List Live). record { last = last; live = t }) (sym (ran_at 0 last xs ns i session number k.rises k.same h at))
    ∙ ap (λ (t : Known). after_run t session number) is

-- what a look finds
pub known-number : (last : ℕ) (xs ns : List ℕ) (i session : ℕ) (s : Known) → IsKept last xs ns → known last xs ns ≡ s → i < length xs → get_or xs i 0 ≡ session
    → number_in s.live session ≡ Some (get_or ns i 0)
known-number last xs ns i session s k is h at = ap (λ (t : Known). number_in t.live session) (sym is) ∙ number_at 0 last xs ns i session k.rises k.same h at

-- a session that the tables lack has no number
pub known-none : (last : ℕ) (xs ns : List ℕ) (session : ℕ) (s : Known) → known last xs ns ≡ s → IsNone xs session → number_in s.live session ≡ None
known-none last xs ns session s is none = ap (λ (t : Known). number_in t.live session) (sym is) ∙ number_none xs ns session none

-- a place that was found
pub record IsAt (xs : List ℕ) (i session : ℕ) : Type 0 where
  pub within : i < length xs
  pub is : get_or xs i 0 ≡ session

-- a session that stands at a place of a list stands there in an equal list
pub found_in : (xs ys : List ℕ) (i session : ℕ) → xs ≡ ys → (i < length xs) × (get_or xs i 0 ≡ session) → IsAt ys i session
found_in xs ys i session e h = subst (λ (t : List ℕ). IsAt t i session) e (record { within = h.0; is = h.1 })

-- what is none of a list is none of an equal list
pub none_in : (xs ys : List ℕ) (session : ℕ) → xs ≡ ys → IsNone xs session → IsNone ys session
none_in xs ys session e h = subst (λ (t : List ℕ). IsNone t session) e h

-- the table of sessions has the live ones
pub known-live : (last : ℕ) (xs ns : List ℕ) (s : Known) → IsKept last xs ns → known last xs ns ≡ s → xs ≡ ids s.live
known-live last xs ns s k is = sym (ids-beside xs ns k.same) ∙ ap (λ (t : Known). ids t.live) is

-- the last session that the tables keep is the last one given
pub known-last : (last : ℕ) (xs ns : List ℕ) (s : Known) → known last xs ns ≡ s → last ≡ s.last
known-last last xs ns s is = ap (λ (t : Known). t.last) is

-- numbers that rise are strictly increasing
pub increasing : (last : ℕ) (xs : List ℕ) → Rises 0 last xs → IsStrictlyIncreasing xs
increasing last xs r k h = rises_between 0 last xs k (k + 1) 0 r (omega arith) h

-- no live session is above the last one given
pub all_given : (last : ℕ) (xs : List ℕ) → Rises 0 last xs → All (λ x. x ≤ last) xs
all_given last xs r k d h = rises_below 0 last xs k d r h

-- a request that runs has a live session
pub runs_live : (o : Option ℕ) (n : ℕ) → o ≡ None → admission o n ≡ Run → ⊥
runs_live None n e run = cc
runs_live (Some m) n e run = absurd (cc)

-- what a look reads at the place that was found
pub number_read : (last : ℕ) (xs ns : List ℕ) (i session n : ℕ) (s : Known) → IsKept last xs ns → known last xs ns ≡ s → IsAt xs i session → n ≡ get_or ns i n
    → Some n ≡ number_in s.live session
number_read last xs ns i session n s k is at read =
    ap Some (read ∙ get_or_default_zero ns i n (omega (arith, at.within, k.same))) ∙ sym (known-number last xs ns i session s k is at.within at.is)
