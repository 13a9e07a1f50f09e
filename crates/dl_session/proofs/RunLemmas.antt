-- What whole runs leave of the sessions.
use Rattle.std.proofs.Common.{◌≡◌, ℕ, ◌+◌, ◌<◌, ◌≤◌, Bool, true, false, cond, not, ◌==◌, nat_lt, List, [], ◌∷◌, ◌++◌, map, filter}
use Rattle.std.proofs.Common.{Option, None, Some, is_some, IsTrue, refl, sym, ap, ◌∙◌, subst, arith, eqb-true, inl, inr, ◌⊎◌}
use Rattle.std.proofs.lemmas.Bool.{cases_eq, ne_eqb, cond-true, cond-false, ltb-true}
use Rattle.dl_session.specs.declared.admit.Admit.TheVariants.{Old, Run}
use Rattle.dl_session.specs.Sessions.{Known, Live, after_connect, after_expiry, after_run, is_live, number_in, admission, with_number}
use Rattle.dl_session.specs.Laws.{Change, Connects, Expires, Runs, after_change, after_changes, AreAdmitted}

-- ---- the last number of one session

-- a session at the end is found only where it is that one
number-more : (live : List Live) (k s : ℕ) → (s ≡ k → ⊥) → number_in (live ++ (record { session = s; number = 0 }) ∷ []) k ≡ number_in live k
number-more [] k s other = cond-false _ _ _ (ne_eqb s k other)
number-more (x ∷ xs) k s other = ap (λ (o : Option ℕ). cond (x.session == k) (Some x.number) o) (number-more xs k s other)

-- a session that is taken out of the live ones has no number
number-gone : (live : List Live) (k : ℕ) → number_in (filter (λ (x : Live). not (x.session == k)) live) k ≡ None
number-gone [] k = refl
number-gone (x ∷ xs) k = go (number-gone xs k) (x.session == k) refl
  where
    go : number_in (filter (λ (x : Live). not (x.session == k)) xs) k ≡ None → (b : Bool) → (x.session == k) ≡ b
        → number_in (cond (not b) (x ∷ filter (λ (x : Live). not (x.session == k)) xs) (filter (λ (x : Live). not (x.session == k)) xs)) k ≡ None
    go ih true w = ih
    go ih false w = cond-false _ _ _ w ∙ ih

-- a session keeps its number when another one is taken out
number-kept : (live : List Live) (k s : ℕ) → (s ≡ k → ⊥) → number_in (filter (λ (x : Live). not (x.session == s)) live) k ≡ number_in live k
number-kept [] k s other = refl
number-kept (x ∷ xs) k s other = go (number-kept xs k s other) (x.session == s) refl
  where
    go : number_in (filter (λ (x : Live). not (x.session == s)) xs) k ≡ number_in xs k → (b : Bool) → (x.session == s) ≡ b
        → number_in (cond (not b) (x ∷ filter (λ (x : Live). not (x.session == s)) xs) (filter (λ (x : Live). not (x.session == s)) xs)) k
        ≡ number_in (x ∷ xs) k
    go ih true w = ih ∙ sym (cond-false _ _ _ (ne_eqb x.session k (λ e. other (sym (eqb-true x.session s w) ∙ e))))
    go ih false w = ap (λ (o : Option ℕ). cond (x.session == k) (Some x.number) o) ih

-- a session keeps its number when a number runs in another one
number-other : (live : List Live) (k n j : ℕ) → (j ≡ k → ⊥) → number_in (map (with_number k n) live) j ≡ number_in live j
number-other [] k n j other = refl
number-other (x ∷ xs) k n j other = go (number-other xs k n j other) (x.session == k) refl
  where
    go : number_in (map (with_number k n) xs) j ≡ number_in xs j → (b : Bool) → (x.session == k) ≡ b
        → number_in (cond b (record x { number = n }) x ∷ map (with_number k n) xs) j ≡ number_in (x ∷ xs) j
    go ih true w =
        let no_here : (x.session == j) ≡ false = ne_eqb x.session j (λ e. other (sym e ∙ eqb-true x.session k w)) in
        cond-false _ _ _ no_here ∙ ih ∙ sym (cond-false _ _ _ no_here)
    go ih false w = ap (λ (o : Option ℕ). cond (x.session == j) (Some x.number) o) ih

-- the last number of a session, once this one ran
abbrev replaced : Option ℕ → ℕ → Option ℕ
replaced None n = None
replaced (Some m) n = Some n

-- after a number ran in a session it is the session's last, if the session is live
number-same : (live : List Live) (k n : ℕ) → number_in (map (with_number k n) live) k ≡ replaced (number_in live k) n
number-same [] k n = refl
number-same (x ∷ xs) k n = go (number-same xs k n) (x.session == k) refl
  where
    go : number_in (map (with_number k n) xs) k ≡ replaced (number_in xs k) n → (b : Bool) → (x.session == k) ≡ b
        → number_in (cond b (record x { number = n }) x ∷ map (with_number k n) xs) k ≡ replaced (cond b (Some x.number) (number_in xs k)) n
    go ih true w = cond-true _ _ _ w
    go ih false w = cond-false _ _ _ w ∙ ih

-- ---- one change

-- a fact on the last number of a session, given or not, that one change keeps
Keeps : (Option ℕ → Type 0) → ℕ → Known → Change → Type 0
Keeps P k s x = (k ≤ (after_change s x).last) × P (number_in (after_change s x).live k)

-- a connection keeps whatever holds of the last number of a session that was given before
keeps_connected : (P : Option ℕ → Type 0) (s : Known) (k : ℕ) → k ≤ s.last → P (number_in s.live k) → Keeps P k s Connects
unfolding Keeps after_connect
keeps_connected P s k given now = (omega (arith, given), subst P (sym (number-more s.live k (s.last + 1) (λ e. absurd (omega (arith, e, given))))) now)

-- an expiry keeps what holds of a given session's last number, if it also holds where there is none
keeps_expired : (P : Option ℕ → Type 0) (s : Known) (k session : ℕ) → k ≤ s.last → P None → P (number_in s.live k) → Keeps P k s (Expires session)
unfolding Keeps after_expiry
keeps_expired P s k session given none now = (given, go (cases_eq session k))
  where
    go : (session ≡ k) ⊎ (session ≡ k → ⊥) → P (number_in (filter (λ (x : Live). not (x.session == session)) s.live) k)
    go (inl e) =
        subst P (sym (ap (λ (j : ℕ). number_in (filter (λ (x : Live). not (x.session == session)) s.live) j) (sym e) ∙ number-gone s.live session)) none
    go (inr other) = subst P (sym (number-kept s.live k session other)) now

-- a number that runs keeps what holds of a given session's last number, if it also holds of that number in this session
keeps_ran : (P : Option ℕ → Type 0) (s : Known) (k session n : ℕ) → k ≤ s.last → (session ≡ k → P (replaced (number_in s.live k) n)) → P (number_in s.live k)
    → Keeps P k s (Runs session n)
unfolding Keeps after_run
keeps_ran P s k session n given here now = (given, go (cases_eq session k))
  where
    go : (session ≡ k) ⊎ (session ≡ k → ⊥) → P (number_in (map (with_number session n) s.live) k)
    go (inl e) = subst P (sym (ap (λ (j : ℕ). number_in (map (with_number j n) s.live) k) e ∙ number-same s.live k n)) (here e)
    go (inr other) = subst P (sym (number-other s.live session n k (λ e. other (sym e)))) now

-- ---- what is gone stays gone

-- a session has no number: it is not live
IsGone : Option ℕ → Type 0
IsGone o = is_some o ≡ false

-- a number that runs in a session that is gone leaves it gone
gone_replaced : (o : Option ℕ) (n : ℕ) → is_some o ≡ false → is_some (replaced o n) ≡ false
gone_replaced None n gone = refl
gone_replaced (Some m) n gone = gone

-- one change leaves a session that was given and is gone, given and gone
gone-change : (s : Known) (k : ℕ) (x : Change) → k ≤ s.last → is_live s k ≡ false → (k ≤ (after_change s x).last) × (is_live (after_change s x) k ≡ false)
unfolding Keeps IsGone
gone-change s k Connects given gone = keeps_connected IsGone s k given gone
gone-change s k (Expires session) given gone = keeps_expired IsGone s k session given refl gone
gone-change s k (Runs session number) given gone = keeps_ran IsGone s k session number given (λ e. gone_replaced (number_in s.live k) number gone) gone

-- a session that was given and is gone stays gone after any changes
pub gone-after : (s : Known) (k : ℕ) (xs : List Change) → k ≤ s.last → is_live s k ≡ false → is_live (after_changes s xs) k ≡ false
gone-after s k [] given gone = gone
gone-after s k (x ∷ xs) given gone = let one = gone-change s k x given gone in gone-after (after_change s x) k xs one.0 one.1

-- ---- a number that ran is never admitted again

-- the last number of a session is not below this one, where the session is live
abbrev Passed : ℕ → Option ℕ → Type 0
Passed n None = Unit {0}
Passed n (Some m) = n ≤ m

-- a number that is admitted is above the last one
rose : (last n : ℕ) → admission (Some last) n ≡ Run → last < n
rose last n e = go (nat_lt last n) refl e
  where
    go : (b : Bool) → nat_lt last n ≡ b → cond b Run Old ≡ Run → last < n
    go true w e = ltb-true last n w
    go false w e = absurd (cc)

-- a number that is admitted leaves what it is above passed
passed_replaced : (o : Option ℕ) (n m : ℕ) → admission o m ≡ Run → Passed n o → Passed n (replaced o m)
passed_replaced None n m run passed = tt
passed_replaced (Some last) n m run passed = omega (arith, passed, rose last m run)

-- one admitted change keeps a given session's last number from falling below a number
passed-change : (s : Known) (k n : ℕ) (x : Change) → k ≤ s.last → AreAdmitted s (x ∷ []) → Passed n (number_in s.live k)
    → (k ≤ (after_change s x).last) × Passed n (number_in (after_change s x).live k)
unfolding Keeps
passed-change s k n Connects given admitted passed = keeps_connected (Passed n) s k given passed
passed-change s k n (Expires session) given admitted passed = keeps_expired (Passed n) s k session given tt passed
passed-change s k n (Runs session m) given admitted passed =
    keeps_ran (Passed n) s k session m given
    (λ e. passed_replaced (number_in s.live k) n m (subst (λ (j : ℕ). admission (number_in s.live j) m ≡ Run) e admitted.0) passed) passed

-- the first change is admitted, and the others after it
first_admitted : (s : Known) (x : Change) (xs : List Change) → AreAdmitted s (x ∷ xs) → AreAdmitted s (x ∷ []) × AreAdmitted (after_change s x) xs
first_admitted s Connects xs admitted = (tt, admitted)
first_admitted s (Expires session) xs admitted = (tt, admitted)
first_admitted s (Runs session number) xs admitted = ((admitted.0, tt), admitted.1)

-- admitted changes keep a given session's last number from falling below a number
passed-after : (s : Known) (k n : ℕ) (xs : List Change) → k ≤ s.last → AreAdmitted s xs → Passed n (number_in s.live k)
    → Passed n (number_in (after_changes s xs).live k)
passed-after s k n [] given admitted passed = passed
passed-after s k n (x ∷ xs) given admitted passed =
    let parts = first_admitted s x xs admitted in
    let one = passed-change s k n x given parts.0 passed in
    passed-after (after_change s x) k n xs one.0 parts.1 one.1

-- a number that the last one is not below is not admitted
passed_stays : (o : Option ℕ) (n : ℕ) → Passed n o → admission o n ≡ Run → ⊥
passed_stays None n passed run = cc
passed_stays (Some last) n passed run = absurd (omega (arith, passed, rose last n run))

-- the last number, once a number ran
passed_now : (o : Option ℕ) (n : ℕ) → Passed n (replaced o n)
passed_now None n = tt
passed_now (Some m) n = omega arith

-- a number that ran in a given session is not admitted again after any admitted changes
pub never_again : (s : Known) (k n : ℕ) (xs : List Change) → k ≤ s.last → admission (number_in s.live k) n ≡ Run → AreAdmitted (after_run s k n) xs
    → admission (number_in (after_changes (after_run s k n) xs).live k) n ≡ Run → ⊥
unfolding after_run
never_again s k n xs given run admitted =
    passed_stays (number_in (after_changes (after_run s k n) xs).live k) n
    (passed-after (after_run s k n) k n xs given admitted (subst (Passed n) (sym (number-same s.live k n)) (passed_now (number_in s.live k) n)))

-- ---- one request

-- where a number is admitted, the session is live, and the number is its last once it ran
replaced_run : (o : Option ℕ) (n : ℕ) → admission o n ≡ Run → replaced o n ≡ Some n
replaced_run None n e = absurd (cc)
replaced_run (Some m) n e = refl

-- a number that ran is its session's last one, and every other session keeps its own
pub runs : (s : Known) (k n : ℕ) → admission (number_in s.live k) n ≡ Run
    → (number_in (after_run s k n).live k ≡ Some n) × ((other : ℕ) → (other ≡ k → ⊥) → number_in (after_run s k n).live other ≡ number_in s.live other)
unfolding after_run
runs s k n e = (number-same s.live k n ∙ replaced_run (number_in s.live k) n e, λ other differs. number-other s.live k n other differs)

-- a request that is old has a live session
pub old_live : (o : Option ℕ) (n : ℕ) → Old ≡ admission o n → IsTrue (is_some o)
old_live None n e = absurd (cc)
old_live (Some m) n e = refl
