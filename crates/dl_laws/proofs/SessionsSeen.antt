-- What was shown of sessions, as they join, expire and run requests.
use Rattle.std.proofs.Common.{◌≡◌, ℕ, suc, ◌+◌, ◌≤◌, ◌⊎◌, Bool, true, false, cond, not, ◌||◌, ◌==◌, List, [], ◌∷◌, ◌++◌, map, filter, Option, Some, None}
use Rattle.std.proofs.Common.{refl, sym, ◌∙◌, inl, inr, arith, eq-eqb, eqb-true, ne_eqb, true≢false, is_some}
use Rattle.std.proofs.lemmas.Bool.{or_from}
use Rattle.dl_session.specs.Sessions.{Live, Known, number_in, is_live, with_number, after_connect, after_expiry, after_run}
use Rattle.dl_transcript.specs.Legal.{has}
use Rattle.dl_laws.specs.Coupled.{IsLiveSeen, SessionsSeen}

-- ---- live sessions

-- a session is live among these
abbrev Lives : List Live → ℕ → Type 0
Lives live k = is_some (number_in live k) ≡ true

-- a session that is live beside a new one is live, or is the new one
lives_more : (live : List Live) (x : Live) (k : ℕ) → Lives (live ++ x ∷ []) k → Lives live k ⊎ (x.session ≡ k)
lives_more [] x k e = go (x.session == k) refl e
  where
    go : (b : Bool) → (x.session == k) ≡ b → is_some (cond {A = Option ℕ} b (Some x.number) None) ≡ true → Lives [] k ⊎ (x.session ≡ k)
    go true w f = inr (eqb-true x.session k w)
    go false w f = absurd cc
lives_more (y ∷ ys) x k e = go (y.session == k) e (lives_more ys x k)
  where
    go : (b : Bool) → is_some (cond b (Some y.number) (number_in (ys ++ x ∷ []) k)) ≡ true → (Lives (ys ++ x ∷ []) k → Lives ys k ⊎ (x.session ≡ k))
        → (is_some (cond b (Some y.number) (number_in ys k)) ≡ true) ⊎ (x.session ≡ k)
    go true f ih = inl refl
    go false f ih = ih f

-- a session that is live behind an item is live behind the others, or is that of the item
lives_on : (y : Live) (ys : List Live) (k : ℕ) → Lives ys k → Lives (y ∷ ys) k
lives_on y ys k h = go (y.session == k)
  where
    go : (b : Bool) → is_some (cond b (Some y.number) (number_in ys k)) ≡ true
    go true = refl
    go false = h

-- a session that is live after another has ended was live, and is another
lives_still : (live : List Live) (j k : ℕ) → Lives (filter (λ (x : Live). not (x.session == j)) live) k → Lives live k × (j ≡ k → ⊥)
lives_still [] j k e = absurd cc
lives_still (y ∷ ys) j k e = go (y.session == j) refl e (lives_still ys j k)
  where
    rest : List Live
    rest = filter (λ (x : Live). not (x.session == j)) ys

    same : (b : Bool) → (y.session == k) ≡ b → (y.session == j) ≡ false → is_some (cond b (Some y.number) (number_in rest k)) ≡ true
        → (Lives rest k → Lives ys k × (j ≡ k → ⊥)) → (is_some (cond b (Some y.number) (number_in ys k)) ≡ true) × (j ≡ k → ⊥)
    same true w other f ih = (refl, λ i. true≢false (sym (eq-eqb y.session j (eqb-true y.session k w ∙ sym i)) ∙ other))
    same false w other f ih = ih f

    go : (b : Bool) → (y.session == j) ≡ b → Lives (cond (not b) (y ∷ rest) rest) k → (Lives rest k → Lives ys k × (j ≡ k → ⊥))
        → Lives (y ∷ ys) k × (j ≡ k → ⊥)
    go true w f ih = let h = ih f in (lives_on y ys k h.0, h.1)
    go false w f ih = same (y.session == k) refl w f ih

-- a session in which a number runs is live as before
lives_ran : (live : List Live) (s n k : ℕ) → Lives (map (with_number s n) live) k → Lives live k
lives_ran [] s n k e = e
lives_ran (y ∷ ys) s n k e = go (y.session == s) e (lives_ran ys s n k)
  where
    same : (b : Bool) → is_some (cond b (Some n) (number_in (map (with_number s n) ys) k)) ≡ true → (Lives (map (with_number s n) ys) k → Lives ys k)
        → is_some (cond b (Some y.number) (number_in ys k)) ≡ true
    same true f ih = refl
    same false f ih = ih f

    other : (b : Bool) → is_some (cond b (Some y.number) (number_in (map (with_number s n) ys) k)) ≡ true
        → (Lives (map (with_number s n) ys) k → Lives ys k) → is_some (cond b (Some y.number) (number_in ys k)) ≡ true
    other true f ih = refl
    other false f ih = ih f

    go : (b : Bool) → Lives (cond b (record y { number = n }) y ∷ map (with_number s n) ys) k → (Lives (map (with_number s n) ys) k → Lives ys k)
        → Lives (y ∷ ys) k
    go true f ih = same (y.session == k) f ih
    go false f ih = other (y.session == k) f ih

-- ---- what was shown of them

-- a session that isn't shown to have expired as all that have are at most these
not_expired : (sessions k : ℕ) (expired : List ℕ) → ((j : ℕ) → has j expired ≡ true → j ≤ sessions) → suc sessions ≤ k → has k expired ≡ false
not_expired sessions k expired within h = go (has k expired) refl
  where
    go : (b : Bool) → has k expired ≡ b → b ≡ false
    go true w = absurd (omega (arith, within k w, h))
    go false w = refl

-- a session is given
pub connect_seen : (known : Known) (sessions : ℕ) (expired : List ℕ) → SessionsSeen known sessions expired
    → SessionsSeen (after_connect known) (suc known.last) expired
unfolding after_connect
connect_seen known sessions expired h = record {
  last = omega arith;
  live = λ k e. go k (lives_more known.live (record { session = known.last + 1; number = 0 }) k e);
  within = λ k e. omega (arith, h.within k e, h.last);
}
  where
    go : (k : ℕ) → Lives known.live k ⊎ (known.last + 1 ≡ k) → IsLiveSeen k (suc known.last) expired
    go k (inl e) = let seen = h.live k e in record { given = seen.given; joined = omega (arith, seen.joined, h.last); lives = seen.lives }
    go k (inr e) = record {
      given = omega (arith, e);
      joined = omega (arith, e);
      lives = not_expired sessions k expired h.within (omega (arith, e, h.last));
    }

-- a session ends
pub expire_seen : (known : Known) (j sessions : ℕ) (expired : List ℕ) → is_live known j ≡ true → SessionsSeen known sessions expired
    → SessionsSeen (after_expiry known j) sessions (j ∷ expired)
unfolding after_expiry
expire_seen known j sessions expired alive h = record {
  last = h.last;
  live = λ k e. let still = lives_still known.live j k e in let seen = h.live k still.0 in
      record { given = seen.given; joined = seen.joined; lives = or_from (j == k) (has k expired) (ne_eqb j k still.1) seen.lives };
  within = λ k e. go k (j == k) refl e;
}
  where
    go : (k : ℕ) (b : Bool) → (j == k) ≡ b → (b || has k expired) ≡ true → k ≤ sessions
    go k true w e = omega (arith, eqb-true j k w, (h.live j alive).joined)
    go k false w e = h.within k e

-- a request runs
pub ran_seen : (known : Known) (k n sessions : ℕ) (expired : List ℕ) → SessionsSeen known sessions expired
    → SessionsSeen (after_run known k n) sessions expired
unfolding after_run
ran_seen known k n sessions expired h =
    record { last = h.last; live = λ j e. h.live j (lives_ran known.live k n j e); within = h.within }
