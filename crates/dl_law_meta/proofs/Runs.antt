-- Each number of a session runs at most once.
use Rattle.std.proofs.Common.{◌≡◌, ℕ, ◌+◌, ◌<◌, ◌≤◌, Bool, true, false, cond, not, ◌==◌, nat_lt, List, [], ◌∷◌, ◌++◌, map, filter, length, Option, Some}
use Rattle.std.proofs.Common.{None, refl, sym, ap, ◌∙◌, subst, arith, eqb-true}
use Rattle.std.proofs.lemmas.Bool.{cond-false, ne_eqb, and_parts, ltb-true, ltb-false}
use Rattle.std.proofs.lemmas.Option.{none-some}
use Rattle.dl_types.specs.declared.meta_op.MetaOp.{MetaOp}
use Rattle.dl_session.specs.declared.admit.Admit.TheVariants.{Run}
use Rattle.dl_session.specs.Sessions.{Known, Live, after_connect, after_expiry, after_run, number_in, admission, with_number}
use Rattle.dl_session.specs.Laws.{Change, Connects, Expires, Runs, after_change, after_changes}
use Rattle.dl_session.specs.Laws as session
use Rattle.dl_session.proofs.RunLemmas.{never_again}
use Rattle.dl_rules_nodes.specs.Items.{MetaItem, Setup, Connect, Expire, Ask}
use Rattle.dl_rules_nodes.specs.Metadata.{does, meta_from, meta_of, admit_of}
use Rattle.dl_law_meta.specs.Histories.{AreAdmitted, runs_number, times_run}
use Rattle.dl_law_meta.specs.Laws.{EachNumberRunsOnce}

-- the sessions after these items
abbrev known : List MetaItem → Known
known items = (meta_of items).sessions

-- ---- live sessions were given

-- a session that isn't live is not when another is given
none_more : (live : List Live) (k s : ℕ) → (s ≡ k → ⊥) → number_in live k ≡ None → number_in (live ++ (record { session = s; number = 0 }) ∷ []) k ≡ None
none_more [] k s other e = cond-false _ _ _ (ne_eqb s k other)
none_more (x ∷ xs) k s other e = go (x.session == k) refl e (none_more xs k s other)
  where
    go : (b : Bool) → (x.session == k) ≡ b → cond b (Some x.number) (number_in xs k) ≡ None
        → (number_in xs k ≡ None → number_in (xs ++ (record { session = s; number = 0 }) ∷ []) k ≡ None)
        → number_in (x ∷ (xs ++ (record { session = s; number = 0 }) ∷ [])) k ≡ None
    go true w f ih = absurd (none-some x.number (sym f))
    go false w f ih = cond-false _ _ _ w ∙ ih f

-- nor when others end
none_fewer : (live : List Live) (k : ℕ) (p : Live → Bool) → number_in live k ≡ None → number_in (filter p live) k ≡ None
none_fewer [] k p e = refl
none_fewer (x ∷ xs) k p e = go (x.session == k) refl e (none_fewer xs k p)
  where
    keep : (b : Bool) → (x.session == k) ≡ false → number_in (filter p xs) k ≡ None → number_in (cond b (x ∷ filter p xs) (filter p xs)) k ≡ None
    keep true w ih = cond-false _ _ _ w ∙ ih
    keep false w ih = ih

    go : (b : Bool) → (x.session == k) ≡ b → cond b (Some x.number) (number_in xs k) ≡ None → (number_in xs k ≡ None → number_in (filter p xs) k ≡ None)
        → number_in (filter p (x ∷ xs)) k ≡ None
    go true w f ih = absurd (none-some x.number (sym f))
    go false w f ih = keep (p x) w (ih f)

-- nor when a number runs in another
none_ran : (live : List Live) (k s n : ℕ) → number_in live k ≡ None → number_in (map (with_number s n) live) k ≡ None
none_ran [] k s n e = refl
none_ran (x ∷ xs) k s n e = go (x.session == k) refl e (none_ran xs k s n)
  where
    same : (b : Bool) → (x.session == k) ≡ false → number_in (map (with_number s n) xs) k ≡ None
        → number_in (cond b (record x { number = n }) x ∷ map (with_number s n) xs) k ≡ None
    same true w ih = cond-false _ _ _ w ∙ ih
    same false w ih = cond-false _ _ _ w ∙ ih

    go : (b : Bool) → (x.session == k) ≡ b → cond b (Some x.number) (number_in xs k) ≡ None
        → (number_in xs k ≡ None → number_in (map (with_number s n) xs) k ≡ None) → number_in (map (with_number s n) (x ∷ xs)) k ≡ None
    go true w f ih = absurd (none-some x.number (sym f))
    go false w f ih = same (x.session == s) w (ih f)

-- no session above the last one is live
not_given : (items : List MetaItem) (k : ℕ) → (known items).last < k → number_in (known items).live k ≡ None
unfolding meta_from does after_connect after_expiry after_run
not_given [] k h = refl
not_given (Setup c ∷ older) k h = not_given older k h
not_given (Connect s ∷ older) k h =
    none_more (known older).live k ((known older).last + 1) (λ e. absurd (omega (arith, e, h))) (not_given older k (omega (arith, h)))
not_given (Expire s ∷ older) k h = none_fewer (known older).live k (λ (x : Live). not (x.session == s)) (not_given older k h)
not_given (Ask s n o ∷ older) k h = none_ran (known older).live k s n (not_given older k h)

-- no request of a session that isn't live runs
admitted_live : (o : Option ℕ) (n : ℕ) → o ≡ None → admission o n ≡ Run → ⊥
admitted_live None n e run = cc
admitted_live (Some m) n e run = absurd (none-some m (sym e))

-- a session in which a request runs was given
given : (items : List MetaItem) (k n : ℕ) → admission (number_in (known items).live k) n ≡ Run → k ≤ (known items).last
given items k n run = go (nat_lt (known items).last k) refl
  where
    go : (b : Bool) → nat_lt (known items).last k ≡ b → k ≤ (known items).last
    go true w = absurd (admitted_live (number_in (known items).live k) n (not_given items k (ltb-true (known items).last k w)) run)
    go false w = ltb-false (known items).last k w

-- ---- items as changes of the sessions

-- the change of the sessions that an item is
abbrev change_of : MetaItem → List Change
change_of (Setup c) = []
change_of (Connect s) = Connects ∷ []
change_of (Expire s) = Expires s ∷ []
change_of (Ask s n o) = Runs s n ∷ []

-- the changes that items are
changes : List MetaItem → List Change
changes [] = []
changes (x ∷ older) = changes older ++ change_of x

-- changes in a row are the first of them, and then the others
after_more : (s : Known) (xs ys : List Change) → after_changes s (xs ++ ys) ≡ after_changes (after_changes s xs) ys
after_more s [] ys = refl
after_more s (x ∷ xs) ys = after_more (after_change s x) xs ys

-- so it is with what admits them
admitted_more : (s : Known) (xs ys : List Change) → session.AreAdmitted s xs → session.AreAdmitted (after_changes s xs) ys → session.AreAdmitted s (xs ++ ys)
admitted_more s [] ys a b = b
admitted_more s (Connects ∷ xs) ys a b = admitted_more (after_connect s) xs ys a b
admitted_more s (Expires k ∷ xs) ys a b = admitted_more (after_expiry s k) xs ys a b
admitted_more s (Runs k n ∷ xs) ys a b = (a.0, admitted_more (after_run s k n) xs ys a.1 b)

-- an item changes the sessions as its change does
change_is : (x : MetaItem) (older : List MetaItem) → known (x ∷ older) ≡ after_changes (known older) (change_of x)
unfolding meta_from does
change_is (Setup c) older = refl
change_is (Connect s) older = refl
change_is (Expire s) older = refl
change_is (Ask s n o) older = refl

-- items change the sessions as their changes do
known_after : (newer older : List MetaItem) → known (newer ++ older) ≡ after_changes (known older) (changes newer)
unfolding changes
known_after [] older = refl
known_after (x ∷ newer) older =
    change_is x (newer ++ older) ∙ ap (λ (s : Known). after_changes s (change_of x)) (known_after newer older)
    ∙ sym (after_more (known older) (changes newer) (change_of x))

-- the change of an item is admitted as the item is
change_admitted : (x : MetaItem) (older : List MetaItem) → AreAdmitted (x ∷ older) → session.AreAdmitted (known older) (change_of x)
change_admitted (Setup c) older h = tt
change_admitted (Connect s) older h = tt
change_admitted (Expire s) older h = tt
change_admitted (Ask s n o) older h = (h.0, tt)

-- so are those of items
are_admitted : (newer older : List MetaItem) → AreAdmitted (newer ++ older) → session.AreAdmitted (known older) (changes newer)
unfolding changes
are_admitted [] older h = tt
are_admitted (x ∷ newer) older h =
    admitted_more (known older) (changes newer) (change_of x) (are_admitted newer older h.1)
    (subst (λ (s : Known). session.AreAdmitted s (change_of x)) (known_after newer older) (change_admitted x (newer ++ older) h))

-- items that are admitted were so before the newer ones
older_admitted : (newer older : List MetaItem) → AreAdmitted (newer ++ older) → AreAdmitted older
older_admitted [] older h = h
older_admitted (x ∷ newer) older h = older_admitted newer older h.1

-- ---- a number that ran is not admitted again

-- a number that ran does not run again
never : (newer older : List MetaItem) (k n : ℕ) (o : MetaOp) → AreAdmitted (newer ++ Ask k n o ∷ older)
    → admit_of (meta_of (newer ++ Ask k n o ∷ older)) k n ≡ Run → ⊥
never newer older k n o h run =
    let old = older_admitted newer (Ask k n o ∷ older) h in
    let asked : known (Ask k n o ∷ older) ≡ after_run (known older) k n = change_is (Ask k n o) older in
    let is : known (newer ++ Ask k n o ∷ older) ≡ after_changes (after_run (known older) k n) (changes newer) = known_after newer (Ask k n o ∷ older)
    ∙ ap (λ (s : Known). after_changes s (changes newer)) asked in
    never_again (known older) k n (changes newer) (given older k n old.0) old.0
    (subst (λ (s : Known). session.AreAdmitted s (changes newer)) asked (are_admitted newer (Ask k n o ∷ older) h))
    (subst (λ (s : Known). admission (number_in s.live k) n ≡ Run) is run)

-- where a number ran among these items
record RanAt (items : List MetaItem) (k n : ℕ) : Type 0 where
  newer : List MetaItem
  older : List MetaItem
  op : MetaOp
  parts : items ≡ newer ++ Ask k n op ∷ older

-- a number that an item runs ran there
ran_here : (x : MetaItem) (older : List MetaItem) (k n : ℕ) → runs_number k n x ≡ true → RanAt (x ∷ older) k n
ran_here (Setup c) older k n e = absurd (cc)
ran_here (Connect s) older k n e = absurd (cc)
ran_here (Expire s) older k n e = absurd (cc)
ran_here (Ask s m o) older k n e =
    let p = and_parts (s == k) (m == n) e in
    record {
      newer = [];
      older = older;
      op = o;
      parts = ap (λ (y : ℕ). Ask y m o ∷ older) (eqb-true s k p.0) ∙ ap (λ (y : ℕ). Ask k y o ∷ older) (eqb-true m n p.1);
    }

-- a number that ran before ran
ran_before : (x : MetaItem) (older : List MetaItem) (k n : ℕ) → RanAt older k n → RanAt (x ∷ older) k n
ran_before x older k n r = record { newer = x ∷ r.newer; older = r.older; op = r.op; parts = ap (λ (ys : List MetaItem). x ∷ ys) r.parts }

-- a number that ran at all ran behind some item
ran_at : (items : List MetaItem) (k n : ℕ) → 0 < times_run k n items → RanAt items k n
ran_at [] k n h = absurd (omega (arith, h))
ran_at (x ∷ older) k n h = go (runs_number k n x) refl h (ran_at older k n)
  where
    go : (b : Bool) → runs_number k n x ≡ b → 0 < length (cond b (x ∷ filter (runs_number k n) older) (filter (runs_number k n) older))
        → (0 < times_run k n older → RanAt older k n) → RanAt (x ∷ older) k n
    go true w f ih = ran_here x older k n w
    go false w f ih = ran_before x older k n (ih (omega (arith, f)))

-- the item that runs a number was admitted
admitted_now : (x : MetaItem) (older : List MetaItem) (k n : ℕ) → AreAdmitted (x ∷ older) → runs_number k n x ≡ true → admit_of (meta_of older) k n ≡ Run
admitted_now (Setup c) older k n h e = absurd (cc)
admitted_now (Connect s) older k n h e = absurd (cc)
admitted_now (Expire s) older k n h e = absurd (cc)
admitted_now (Ask s m o) older k n h e =
    let p = and_parts (s == k) (m == n) e in
    subst (λ (y : ℕ). admit_of (meta_of older) y n ≡ Run) (eqb-true s k p.0) (subst (λ (y : ℕ). admit_of (meta_of older) s y ≡ Run) (eqb-true m n p.1) h.0)

-- a number that runs now did not run before
none_older : (older : List MetaItem) (k n : ℕ) → AreAdmitted older → admit_of (meta_of older) k n ≡ Run → 0 < times_run k n older → ⊥
none_older older k n h run some = by (ran_at older k n some)
  where
    by : RanAt older k n → ⊥
    by r = never r.newer r.older k n r.op (subst AreAdmitted r.parts h) (subst (λ (ys : List MetaItem). admit_of (meta_of ys) k n ≡ Run) r.parts run)

-- each number runs once
pub runs_once : EachNumberRunsOnce
runs_once [] k n h = omega arith
runs_once (x ∷ older) k n h = go (runs_number k n x) refl (runs_once older k n h.1)
  where
    go : (b : Bool) → runs_number k n x ≡ b → times_run k n older ≤ 1
        → length (cond b (x ∷ filter (runs_number k n) older) (filter (runs_number k n) older)) ≤ 1
    go false w ih = omega (arith, ih)
    go true w ih = at_most (nat_lt 0 (times_run k n older)) refl
      where
        at_most : (b : Bool) → nat_lt 0 (times_run k n older) ≡ b → length (x ∷ filter (runs_number k n) older) ≤ 1
        at_most true v = absurd (none_older older k n h.1 (admitted_now x older k n h w) (ltb-true 0 (times_run k n older) v))
        at_most false v = omega (arith, ltb-false 0 (times_run k n older) v)
