-- What tables answer of events, and what they stand for then.
use Rattle.std.proofs.Common.{◌≡◌, ℕ, ◌+◌, ◌<◌, ◌≤◌, Bool, true, false, Option, Some, cond, not, ◌&&◌, ◌||◌, nat_le, ◌==◌, List, [], ◌∷◌, ◌++◌, length}
use Rattle.std.proofs.Common.{drop, refl, sym, ap, subst, ◌∙◌, arith, bytes_eq, eq-eqb, ne_eqb, ◌-◌}
use Rattle.std.specs.List.{list_any}
use Rattle.std.specs.Cmp.Lexicographic.{bytes_decides}
use Rattle.std.proofs.lemmas.Bool.{and_parts, and_from, eqb-true}
use Rattle.std.proofs.lemmas.Bool.Decides.{nat_tests}
use Rattle.std.proofs.lemmas.List.Folds.{list_any-append}
use Rattle.dl_types.specs.declared.dlsn.Dlsn.{Dlsn}
use Rattle.dl_types.specs.Places.{is_before, is_same, is_at_most}
use Rattle.dl_transcript.specs.declared.event.Event.TheVariants as event
use Rattle.dl_transcript.specs.Legal.{History, StreamHistory, has, last_or, are_below, are_ends, keeps}
use Rattle.dl_shown.specs.declared.sessions.SessionsShown.{SessionsShown}
use Rattle.dl_shown.specs.declared.stream.StreamShown.{StreamShown}
use Rattle.dl_shown.specs.Sessions.{may_expire}
use Rattle.dl_shown.specs.Sessions as sessions
use Rattle.dl_shown.specs.Streams.{first_of, is_key, may_write, may_commit, may_move, ends_at, is_end, may_recover}
use Rattle.dl_shown.specs.Streams as streams

-- an event that breaks its rule is refused, whatever would stand behind it
pub refuses : {X : Type 0} (may kept : Bool) → may ≡ false → may ≡ kept → (false ≡ kept) × (false ≡ true → X)
refuses may kept no_way same = (sym no_way ∙ same, λ f. absurd cc)

-- an event that keeps its rule is let pass, with what stands behind it
pub allows : {X : Type 0} (may kept : Bool) → may ≡ true → may ≡ kept → X → (true ≡ kept) × (true ≡ true → X)
allows may kept yes_way same x = (sym yes_way ∙ same, λ t. x)

-- what was shown of the stream that an event names is what was put there
put_same : (name : List ℕ) (x y : StreamHistory) → cond (bytes_eq name name) x y ≡ x
put_same name x y = ap (λ (b : Bool). cond b x y) ((bytes_decides name name).1 refl)

-- a table that stands for what was put there
pub put_stands : (t : StreamShown) (name : List ℕ) (x y : StreamHistory) → streams.StandsFor t x → streams.StandsFor t (cond (bytes_eq name name) x y)
put_stands t name x y h = subst (λ (z : StreamHistory). streams.StandsFor t z) (sym (put_same name x y)) h

-- one more number is among those of a list
pub has_more : (k n : ℕ) (ns : List ℕ) (seen : Bool) → seen ≡ has k ns → cond (n == k) true seen ≡ has k (n ∷ ns)
has_more k n ns seen same = go (n == k)
  where
    go : (b : Bool) → cond b true seen ≡ (b || has k ns)
    go true = refl
    go false = same

-- ---- sessions

-- a session that may end
pub expire_same : (t : SessionsShown) (s : History) (k : ℕ) → sessions.StandsFor t s → may_expire t k ≡ keeps s (event.Expired k)
unfolding keeps
expire_same t s k h = λ i. nat_le 1 k && nat_le k (h.joined i) && not (h.expired k i)

-- a session that may join
pub join_same : (t : SessionsShown) (s : History) (c k : ℕ) → sessions.StandsFor t s → (k == t.joined + 1) ≡ keeps s (event.Joined c k)
unfolding keeps
join_same t s c k h = λ i. k == (h.joined i + 1)

-- a session is one more than the last
pub joins : (k joined n : ℕ) → n ≡ k → 1 ≤ n → n - 1 ≡ joined → (k == joined + 1) ≡ true
joins k joined n is some same = eq-eqb k (joined + 1) (omega (arith, is, some, same))

-- a session is none
pub no_join : (k joined n : ℕ) → n ≡ k → 1 ≤ n → (n - 1 ≡ joined → ⊥) → (k == joined + 1) ≡ false
no_join k joined n is some other = ne_eqb k (joined + 1) (λ e. other (omega (arith, is, some, e)))

-- ---- streams

-- a segment that may have a writer
pub write_same : (t : StreamShown) (s : History) (name : List ℕ) (c k : ℕ) → streams.StandsFor t (s.streams name)
    → may_write t k ≡ keeps s (event.Writer c name k)
unfolding keeps
write_same t s name c k h = λ i. nat_le 1 k && nat_le k (h.closed i + 1) && not (h.writers k i)

-- a place that may be committed
pub commit_same : (t : StreamShown) (s : History) (name : List ℕ) (d : Dlsn) → streams.StandsFor t (s.streams name)
    → may_commit t d ≡ keeps s (event.Committed name d)
unfolding keeps
commit_same t s name d h = λ i. nat_le d.segment (h.closed i + 1) && d.slot == 0

-- a segment that may be closed
pub close_same : (t : StreamShown) (s : History) (name : List ℕ) (k : ℕ) → streams.StandsFor t (s.streams name)
    → (k == t.closed + 1) ≡ keeps s (event.Closed name k)
unfolding keeps
close_same t s name k h = λ i. k == (h.closed i + 1)

-- a place to which the point may move
pub move_same : (t : StreamShown) (s : History) (name : List ℕ) (d : Dlsn) → streams.StandsFor t (s.streams name)
    → may_move t d ≡ keeps s (event.Point name d)
unfolding keeps
move_same t s name d h = λ i. is_before (h.point i) d && is_at_most d (first_of (h.closed i + 1))

-- the last of a list to which one was added is that one
pub last_push : {A : Type 0} (a : A) (xs : List A) (x : A) → last_or a (xs ++ x ∷ []) ≡ x
last_push a [] x = refl
last_push a (y ∷ ys) x = last_push y ys x

-- what stands behind the first of a list, with one more at its end
behind_push : {A : Type 0} (xs : List A) (x : A) → 0 < length xs → drop 1 (xs ++ x ∷ []) ≡ drop 1 xs ++ x ∷ []
behind_push [] x some = absurd (omega (arith, some))
behind_push (y ∷ ys) x some = refl

-- a table compares places as they are compared, either way round
key_same : (a b : Dlsn) → is_key a b ≡ is_same b a
key_same a b = grouped (a.segment == b.segment) (a.entry == b.entry) (a.slot == b.slot)
    ∙ (λ i. turned a.segment b.segment i && turned a.entry b.entry i && turned a.slot b.slot i)
  where
    grouped : (x y z : Bool) → (x && (y && z)) ≡ ((x && y) && z)
    grouped true y z = refl
    grouped false y z = refl

    turned : (m n : ℕ) → (m == n) ≡ (n == m)
    turned m n = grind (arith, nat_tests)

-- one more place is among those to which the point was moved
pub moved_more : (d e : Dlsn) (points : List Dlsn) (seen : Bool) → 0 < length points → seen ≡ list_any (is_same d) (drop 1 points)
    → cond (is_key e d) true seen ≡ list_any (is_same d) (drop 1 (points ++ e ∷ []))
moved_more d e points seen some same =
    go (is_key e d) (is_same d e) (key_same e d) ∙ ap (λ (b : Bool). b || (is_same d e || false)) same
    ∙ sym (list_any-append (is_same d) (drop 1 points) (e ∷ [])) ∙ ap (list_any (is_same d)) (sym (behind_push points e some))
  where
    go : (a b : Bool) → a ≡ b → cond a true seen ≡ (seen || (b || false))
    go true true p = turn seen
      where
        turn : (t : Bool) → true ≡ (t || true)
        turn true = refl
        turn false = refl
    go false false p = turn seen
      where
        turn : (t : Bool) → t ≡ (t || false)
        turn true = refl
        turn false = refl
    go true false p = absurd cc
    go false true p = absurd cc

-- what was seen leaves the stream's points with one more
pub points_push : (points : List Dlsn) (d : Dlsn) → 0 < length (points ++ d ∷ [])
points_push [] d = omega arith
points_push (p ∷ points) d = omega arith

-- a place where a recovery may end
pub recover_same : (t : StreamShown) (s : History) (name : List ℕ) (c : ℕ) (d : Dlsn) (above : Bool) → streams.StandsFor t (s.streams name)
    → above ≡ are_below d (s.streams name).rows → (may_recover t d && above) ≡ keeps s (event.Recovered c name d)
unfolding keeps
recover_same t s name c d above h told =
    turned (nat_le 1 d.segment && nat_le d.segment t.closed && d.slot == 0) (is_end t d) above
    ∙ (λ i. nat_le 1 d.segment && nat_le d.segment (h.closed i) && d.slot == 0 && told i && h.ends d i)
  where
    turned : (x y z : Bool) → ((x && y) && z) ≡ ((x && z) && y)
    turned true true true = refl
    turned true true false = refl
    turned true false true = refl
    turned true false false = refl
    turned false y z = refl

-- where a recovery ended as every other of its segment did, the same place is told for the segment
pub ends_more : (e d : Dlsn) (old : Option Dlsn) (ends : List Dlsn) → are_ends e ends ≡ true → ends_at old d ≡ are_ends d ends
    → ends_at (cond (e.segment == d.segment) (Some e) old) d ≡ are_ends d (e ∷ ends)
ends_more e d old ends all was = go (e.segment == d.segment) (is_same e d) refl
  where
    one_place : (a b : Dlsn) → is_same a b ≡ true → a ≡ b
    one_place a b p =
        let q = and_parts (a.segment == b.segment && a.entry == b.entry) (a.slot == b.slot) p in
        let r = and_parts (a.segment == b.segment) (a.entry == b.entry) q.0 in
        λ i. record { segment = eqb-true a.segment b.segment r.0 i; entry = eqb-true a.entry b.entry r.1 i; slot = eqb-true a.slot b.slot q.1 i }

    go : (same here : Bool) → is_same e d ≡ here → ends_at (cond same (Some e) old) d ≡ ((not same || is_same e d) && are_ends d ends)
    go false here p = was
    go true false p = p ∙ ap (λ (b : Bool). b && are_ends d ends) (sym p)
    go true true p = p ∙ sym (and_from (is_same e d) (are_ends d ends) p (ap (λ (x : Dlsn). are_ends x ends) (sym (one_place e d p)) ∙ all))

-- a recovery that may end at the place ends where the others of its segment did
pub ends_known : (t : StreamShown) (x : StreamHistory) (d : Dlsn) (above : Bool) → streams.StandsFor t x → (may_recover t d && above) ≡ true
    → are_ends d x.ends ≡ true
ends_known t x d above h may =
    let p = and_parts (may_recover t d) above may in
    let q = and_parts (nat_le 1 d.segment && nat_le d.segment t.closed && d.slot == 0) (is_end t d) p.0 in
    sym (h.ends d) ∙ q.1
