-- The rows that a writer makes, as plain lists: each may follow those before it.
use Rattle.std.proofs.Common.{◌≡◌, ℕ, ◌+◌, ◌<◌, ◌≤◌, Bool, true, false, nat_le, ◌==◌, List, [], ◌∷◌, ◌++◌, length}
use Rattle.std.proofs.Common.{map, Some, refl, sym, ap, ◌∙◌, subst, arith, le-leb, append_assoc, append-nil}
use Rattle.std.specs.Prelude.{slice_get}
use Rattle.std.specs.List.{list_any, list_all}
use Rattle.std.proofs.lemmas.Bool.{and_from, and_parts, and_right, or_from, or_left, or_right, ne_eqb, leb-true}
use Rattle.std.proofs.lemmas.Bool.Decides.{nat_tests}
use Rattle.std.proofs.lemmas.List.{length_push, map_push}
use Rattle.std.proofs.lemmas.List.Folds.{list_all-append}
use Rattle.dl_types.specs.declared.dlsn.Dlsn.{Dlsn}
use Rattle.dl_types.specs.declared.row.Row.{Row}
use Rattle.dl_types.specs.Places.{place, is_before}
use Rattle.dl_transcript.specs.Legal.{has, last_or, is_from}
use Rattle.dlog.specs.Machine.{Log, segment, new_log, next_row, take, send, confirm}

-- lists

-- a weaker test passes too
pub all_weaker : {A : Type 0} (p q : A → Bool) → ((x : A) → p x ≡ true → q x ≡ true) → (xs : List A) → list_all p xs ≡ true → list_all q xs ≡ true
all_weaker p q step [] h = refl
all_weaker p q step (x ∷ xs) h =
    let parts : (p x ≡ true) × (list_all p xs ≡ true) = and_parts (p x) (list_all p xs) h in
    and_from (q x) (list_all q xs) (step x parts.0) (all_weaker p q step xs parts.1)

-- and one more that passes
all_push : {A : Type 0} (p : A → Bool) (xs : List A) (x : A) → list_all p xs ≡ true → p x ≡ true → list_all p (xs ++ x ∷ []) ≡ true
all_push p xs x h k = list_all-append p xs (x ∷ []) ∙ and_from (list_all p xs) (list_all p (x ∷ [])) h (and_from (p x) true k refl)

-- what all pass may bar another test from each
none_by : {A : Type 0} (p q : A → Bool) → ((x : A) → p x ≡ true → q x ≡ false) → (xs : List A) → list_all p xs ≡ true → list_any q xs ≡ false
none_by p q step [] h = refl
none_by p q step (x ∷ xs) h =
    let parts : (p x ≡ true) × (list_all p xs ≡ true) = and_parts (p x) (list_all p xs) h in
    or_from (q x) (list_any q xs) (step x parts.0) (none_by p q step xs parts.1)

-- what is in the middle is somewhere
pub any_at : {A : Type 0} (p : A → Bool) (front : List A) (x : A) (back : List A) → p x ≡ true → list_any p (front ++ x ∷ back) ≡ true
any_at p [] x back h = or_left (p x) (list_any p back) h
any_at p (y ∷ front) x back h = or_right (p y) (list_any p (front ++ x ∷ back)) (any_at p front x back h)

-- and is found there
pub slice_get_at : {A : Type 0} (front : List A) (x : A) (back : List A) → slice_get (front ++ x ∷ back) (length front) ≡ Some x
slice_get_at [] x back = refl
slice_get_at (y ∷ front) x back = slice_get_at front x back

-- the last of a list that was added to
last_or_push : {A : Type 0} (d : A) (xs : List A) (x : A) → last_or d (xs ++ x ∷ []) ≡ x
last_or_push d [] x = refl
last_or_push d (y ∷ xs) x = last_or_push y xs x

-- numbers up to n, and one above it
pub le_more : (n m k : ℕ) → n ≤ m → nat_le k n ≡ true → nat_le k m ≡ true
le_more n m k le h = le-leb k m (omega (arith, leb-true k n h))

-- a number up to n is none above it
not_above : (n m k : ℕ) → n < m → nat_le k n ≡ true → (k == m) ≡ false
not_above n m k below h = ne_eqb k m (λ e. omega (arith, leb-true k n h))

-- no number of a list is above all of them
pub none_above : (n m : ℕ) (xs : List ℕ) → n < m → list_all (λ k. nat_le k n) xs ≡ true → has m xs ≡ false
none_above n m xs below h = none_by (λ k. nat_le k n) (λ k. k == m) (λ k le. not_above n m k below le) xs h

-- no row has a number above all of theirs
none_from : (c n m : ℕ) (rows : List Row) → n < m → list_all (λ (r : Row). nat_le r.origin.call n) rows ≡ true → list_any (is_from c m) rows ≡ false
none_from c n m rows below h =
    none_by (λ (r : Row). nat_le r.origin.call n) (is_from c m) (λ r le. and_right (r.origin.client == c) (r.origin.call == m)
    (not_above n m r.origin.call below le)) rows h

-- places

-- places are in order
pub before_trans : (a b c : Dlsn) → is_before a b ≡ true → is_before b c ≡ true → is_before a c ≡ true
before_trans a b c h k = grind (arith, nat_tests)

-- the next slot is above a slot
before_slot : (k e s : ℕ) → is_before (place k e s) (place k e (s + 1)) ≡ true
before_slot k e s = grind (arith, nat_tests)

-- the next entry is above a slot
before_entry : (k e s : ℕ) → is_before (place k e s) (place k (e + 1) 0) ≡ true
before_entry k e s = grind (arith, nat_tests)

-- nothing of the first segment stands before its first place
pub not_before_first : (d : Dlsn) → d.segment ≡ 1 → is_before d (place 1 0 0) ≡ false
not_before_first d h = grind (arith, nat_tests)

-- a row that client c may write behind these
pub record Follows (c : ℕ) (old : List Row) (r : Row) : Type 0 where
  pub client : r.origin.client ≡ c
  pub call : r.origin.call ≡ length old + 1
  pub in_segment : r.place.segment ≡ segment
  pub above : list_all (λ x. is_before x.place r.place) old ≡ true
  pub ids : last_or 0 (map (λ x. x.txid) old) ≤ r.txid
  pub fresh : list_any (is_from r.origin.client r.origin.call) old ≡ false

-- behind the old rows each of the others follows those before it
abbrev pub InTurn : ℕ → List Row → List Row → Type 0
InTurn c old [] = Unit {0}
InTurn c old (r ∷ rows) = Follows c old r × InTurn c (old ++ r ∷ []) rows

-- one more behind them all
in_turn_push : (c : ℕ) (old rows : List Row) (r : Row) → InTurn c old rows → Follows c (old ++ rows) r → InTurn c old (rows ++ r ∷ [])
in_turn_push c old [] r h f = (subst (λ xs. Follows c xs r) (append-nil old) f, tt)
in_turn_push c old (x ∷ rows) r h f = (h.0, in_turn_push c (old ++ x ∷ []) rows r h.1 (subst (λ xs. Follows c xs r) (sym (append_assoc old (x ∷ []) rows)) f))

-- the one in the middle
in_turn_at : (c : ℕ) (old front : List Row) (r : Row) (back : List Row) → InTurn c old (front ++ r ∷ back) → Follows c (old ++ front) r
in_turn_at c old [] r back h = subst (λ xs. Follows c xs r) (sym (append-nil old)) h.0
in_turn_at c old (x ∷ front) r back h = subst (λ xs. Follows c xs r) (append_assoc old (x ∷ []) front) (in_turn_at c (old ++ x ∷ []) front r back h.1)

-- a row follows those before it
pub follows_at : (c : ℕ) (rows front : List Row) (r : Row) (back : List Row) → rows ≡ front ++ r ∷ back → InTurn c [] rows → Follows c front r
follows_at c rows front r back e h = in_turn_at c [] front r back (subst (InTurn c []) e h)

-- all rows that a log has taken: they are in turn, so many, with this last id, and stand before the place of the next one
pub record TookRows (g : Log) (rows : List Row) : Type 0 where
  pub in_turn : InTurn g.client [] rows
  pub count : length rows ≡ g.taken
  pub last : last_or 0 (map (λ r. r.txid) rows) ≡ g.last
  pub places : list_all (λ r. is_before r.place (place segment g.sent (length g.filling))) rows ≡ true
  pub calls : list_all (λ r. nat_le r.origin.call g.taken) rows ≡ true

-- a new log has taken no row
pub took_none : (c : ℕ) (stream : List ℕ) → TookRows (new_log c stream) []
took_none c stream = record { in_turn = tt; count = refl; last = refl; places = refl; calls = refl }

-- the next row follows those that were taken
next_follows : (g : Log) (rows : List Row) (txid : ℕ) (payload : List ℕ) → g.last ≤ txid → TookRows g rows → Follows g.client rows (next_row g txid payload)
next_follows g rows txid payload le t = record {
  client = refl;
  call = ap (λ n. n + 1) (sym t.count);
  in_segment = refl;
  above = t.places;
  ids = omega (arith, t.last, le);
  fresh = none_from g.client g.taken (g.taken + 1) rows (omega arith) t.calls;
}

-- the acts keep this: a record is taken, an entry is sent, the entries are confirmed
pub took_take : (g : Log) (rows : List Row) (txid : ℕ) (payload : List ℕ) → g.last ≤ txid → TookRows g rows
    → TookRows (take g txid payload).0 (rows ++ next_row g txid payload ∷ [])
unfolding take
took_take g rows txid payload le t =
    let r : Row = next_row g txid payload in
    let here : Dlsn = place segment g.sent (length g.filling) in
    let next : Dlsn = place segment g.sent (length g.filling + 1) in
    let step : is_before here next ≡ true = before_slot segment g.sent (length g.filling) in
    let all_before : list_all (λ (x : Row). is_before x.place next) (rows ++ r ∷ []) ≡ true =
    all_push (λ (x : Row). is_before x.place next) rows r
    (all_weaker (λ (x : Row). is_before x.place here) (λ (x : Row). is_before x.place next) (λ x h. before_trans x.place here next h step) rows t.places) step
    in
    record {
      in_turn = in_turn_push g.client [] rows r t.in_turn (next_follows g rows txid payload le t);
      count = length_push rows r ∙ ap (λ n. n + 1) t.count;
      last = ap (last_or 0) (map_push (λ (x : Row). x.txid) rows r) ∙ last_or_push 0 (map (λ (x : Row). x.txid) rows) txid;
      places = subst (λ n. list_all (λ (x : Row). is_before x.place (place segment g.sent n)) (rows ++ r ∷ []) ≡ true)
          (sym (length_push g.filling r)) all_before;
      calls = all_push (λ (x : Row). nat_le x.origin.call (g.taken + 1)) rows r
          (all_weaker (λ (x : Row). nat_le x.origin.call g.taken) (λ (x : Row). nat_le x.origin.call (g.taken + 1))
          (λ x h. le_more g.taken (g.taken + 1) x.origin.call (omega arith) h) rows t.calls)
          (le-leb (g.taken + 1) (g.taken + 1) (omega arith));
    }

-- an entry is sent
pub took_send : (g : Log) (rows : List Row) → TookRows g rows → TookRows (send g).0 rows
unfolding send
took_send g rows t = record {
  in_turn = t.in_turn;
  count = t.count;
  last = t.last;
  places = all_weaker (λ (x : Row). is_before x.place (place segment g.sent (length g.filling))) (λ (x : Row). is_before x.place (place segment (g.sent + 1) 0))
      (λ x h. before_trans x.place (place segment g.sent (length g.filling)) (place segment (g.sent + 1) 0) h
      (before_entry segment g.sent (length g.filling))) rows t.places;
  calls = t.calls;
}

-- the entries are confirmed
pub took_confirm : (g : Log) (rows : List Row) → TookRows g rows → TookRows (confirm g).0 rows
unfolding confirm
took_confirm g rows t = record { in_turn = t.in_turn; count = t.count; last = t.last; places = t.places; calls = t.calls }
