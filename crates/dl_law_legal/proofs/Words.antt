-- Where the rules of sessions and of records are kept, their numbers count on.
use Rattle.std.proofs.Common.{◌≡◌, ℕ, suc, ◌+◌, Bool, true, false, cond, ◌&&◌, ◌==◌, nat_le, List, [], ◌∷◌, ◌++◌, length, Option, Some, None, refl}
use Rattle.std.proofs.Common.{sym, ap, ◌∙◌, subst, arith, eq-eqb, eqb-true, true≢false, length-append}
use Rattle.std.proofs.lemmas.Bool.{and_parts, cond-true, cond-false}
use Rattle.dl_transcript.specs.declared.event.Event.{Event}
use Rattle.dl_transcript.specs.declared.event.Event.TheVariants.{Joined, Expired, Created, Removed, Released, Whole, Writer, Took, Sent, Grow, Ack}
use Rattle.dl_transcript.specs.declared.event.Event.TheVariants.{Committed, Closed, Recovered, Point, Truncated, Purged, OpenedAt, OpenedFrom, Reading, End}
use Rattle.dl_transcript.specs.declared.event.Event.TheVariants.{Rows, Refused, Mail, Nothing}
use Rattle.dl_transcript.specs.Legal.{History, ClientHistory, TakenRecord, EffectOnRead, Leaves, Ends, Passes, effect_on_read, after_refusal, put_client}
use Rattle.dl_transcript.specs.Legal.{no_history, keeps, sees}
use Rattle.dl_law_legal.specs.Ruled.{is_of_session, is_of_record, keeps_as_to, fault_as_to}
use Rattle.dl_law_legal.specs.Words.{with_found, CountFrom, session_joined, sessions_joined, record_taken, records_taken, RulesCount}
use Rattle.dl_law_legal.proofs.Parts.{is_missing}

-- the number that an event counts is the next one, and then the last
abbrev Counts : ℕ → ℕ → Option ℕ → Type 0
Counts before now None = now ≡ before
Counts before now (Some n) = (n ≡ suc before) × (now ≡ n)

-- numbers behind it count on
count_on : (before now : ℕ) (o : Option ℕ) (ns : List ℕ) → Counts before now o → CountFrom (suc now) ns → CountFrom (suc before) (with_found o ns)
count_on before now None ns h later = subst (λ n. CountFrom (suc n) ns) h later
count_on before now (Some n) ns h later = (h.0, subst (λ k. CountFrom (suc k) ns) (h.1 ∙ h.0) later)

-- the numbers of a whole transcript, by those of each event
module _ (ruled : Event → Bool) (number : History → ℕ) (found : Event → Option ℕ)
    (each : (s : History) (e : Event) → keeps_as_to ruled s e ≡ true → Counts (number s) (number (sees s e)) (found e)) where
  -- the numbers that are found
  abbrev all_found : List (ℕ × Event) → List ℕ
  all_found [] = []
  all_found (x ∷ xs) = with_found (found x.1) (all_found xs)

  -- they count on
  all_count : (place line : ℕ) (s : History) (xs : List (ℕ × Event)) → fault_as_to ruled place line s xs ≡ None → CountFrom (suc (number s)) (all_found xs)
  unfolding fault_as_to
  all_count place line s [] h = tt
  all_count place line s (x ∷ xs) h = go (nat_le line x.0 && keeps_as_to ruled s x.1) refl h (all_count (place + 1) x.0 (sees s x.1) xs)
    where
      go : (b : Bool) → (nat_le line x.0 && keeps_as_to ruled s x.1) ≡ b → cond b (fault_as_to ruled (place + 1) x.0 (sees s x.1) xs) (Some place) ≡ None
          → (fault_as_to ruled (place + 1) x.0 (sees s x.1) xs ≡ None → CountFrom (suc (number (sees s x.1))) (all_found xs))
          → CountFrom (suc (number s)) (all_found (x ∷ xs))
      go true w none later =
          count_on (number s) (number (sees s x.1)) (found x.1) (all_found xs)
          (each s x.1 (and_parts (nat_le line x.0) (keeps_as_to ruled s x.1) w).1) (later none)
      go false w none later = absurd cc

-- ---- sessions

-- a refusal gives no session
refusal_session : (s : History) (c : ℕ) (x : EffectOnRead) → (after_refusal s c x).sessions ≡ s.sessions
refusal_session s c Leaves = refl
refusal_session s c Ends = refl
refusal_session s c (Passes d) = refl

-- each event counts sessions on
session_counts : (s : History) (e : Event) → keeps_as_to is_of_session s e ≡ true → Counts s.sessions (sees s e).sessions (session_joined e)
unfolding keeps sees
session_counts s (Joined c k) h = let same : k ≡ s.sessions + 1 = eqb-true k (s.sessions + 1) h in (omega (arith, same), refl)
session_counts s (Expired k) h = refl
session_counts s (Created c stream) h = refl
session_counts s (Removed c stream) h = refl
session_counts s (Released c stream) h = refl
session_counts s (Whole c stream) h = refl
session_counts s (Writer c stream k) h = refl
session_counts s (Took c n stream txid payload) h = refl
session_counts s (Sent c k e) h = refl
session_counts s (Grow stream d txid c n payload) h = refl
session_counts s (Ack c n d) h = refl
session_counts s (Committed stream d) h = refl
session_counts s (Closed stream k) h = refl
session_counts s (Recovered c stream d) h = refl
session_counts s (Point stream d) h = refl
session_counts s (Truncated c stream d) h = refl
session_counts s (Purged c stream count) h = refl
session_counts s (OpenedAt c stream d) h = refl
session_counts s (OpenedFrom c stream txid) h = refl
session_counts s (Reading c stream) h = refl
session_counts s (End c stream) h = refl
session_counts s (Rows c stream rows) h = refl
session_counts s (Refused c why) h = refusal_session s c (effect_on_read why)
session_counts s (Mail from to count) h = refl
session_counts s Nothing h = refl

-- ---- records

-- how many records of a client were shown
abbrev count_of : ℕ → History → ℕ
count_of c s = length (s.clients c).taken

-- what is put for a client with the same records
put_count : (s : History) (d c : ℕ) (x : ClientHistory) → x.taken ≡ (s.clients d).taken → count_of c (put_client s d x) ≡ count_of c s
put_count s d c x same = go (c == d) refl
  where
    go : (b : Bool) → (c == d) ≡ b → length (cond b x (s.clients c)).taken ≡ length (s.clients c).taken
    go true w = ap length same ∙ ap (λ j. length (s.clients j).taken) (sym (eqb-true c d w))
    go false w = refl

-- a refusal takes no record
refusal_count : (s : History) (d c : ℕ) (x : EffectOnRead) → count_of c (after_refusal s d x) ≡ count_of c s
refusal_count s d c Leaves = refl
refusal_count s d c Ends = put_count s d c _ refl
refusal_count s d c (Passes p) = put_count s d c _ refl

-- a record that is taken counts for its client alone
took_counts : (c : ℕ) (s : History) (d n : ℕ) (r : TakenRecord) → n ≡ length (s.clients d).taken + 1
    → Counts (count_of c s) (count_of c (put_client s d (record (s.clients d) { taken = (s.clients d).taken ++ r ∷ [] }))) (cond (d == c) (Some n) None)
took_counts c s d n r next = go (d == c) refl
  where
    now : ClientHistory
    now = record (s.clients d) { taken = (s.clients d).taken ++ r ∷ [] }

    more : length now.taken ≡ n
    more = omega (arith, next, length-append (s.clients d).taken (r ∷ []))

    go : (b : Bool) → (d == c) ≡ b → Counts (count_of c s) (count_of c (put_client s d now)) (cond {A = Option ℕ} b (Some n) None)
    go true w =
        let same : d ≡ c = eqb-true d c w in
        let here : (put_client s d now).clients c ≡ now = cond-true (c == d) now (s.clients c) (eq-eqb c d (sym same)) in
        (omega (arith, next, ap (λ j. length (s.clients j).taken) same), ap (λ (x : ClientHistory). length x.taken) here ∙ more)
    go false w =
        let other : (c == d) ≡ false = cases (c == d) refl in
        ap (λ (x : ClientHistory). length x.taken) (cond-false (c == d) now (s.clients c) other)
      where
        cases : (b : Bool) → (c == d) ≡ b → b ≡ false
        cases true e = absurd (true≢false (sym (eq-eqb d c (sym (eqb-true c d e))) ∙ w))
        cases false e = refl

-- each event counts the records of a client on
record_counts : (c : ℕ) (s : History) (e : Event) → keeps_as_to is_of_record s e ≡ true → Counts (count_of c s) (count_of c (sees s e)) (record_taken c e)
unfolding keeps sees
record_counts c s (Joined d k) h = put_count s d c _ refl
record_counts c s (Expired k) h = refl
record_counts c s (Created d stream) h = refl
record_counts c s (Removed d stream) h = refl
record_counts c s (Released d stream) h = refl
record_counts c s (Whole d stream) h = refl
record_counts c s (Writer d stream k) h = refl
record_counts c s (Took d n stream txid payload) h =
    took_counts c s d n (record { stream = stream; txid = txid; payload = payload }) (eqb-true n (length (s.clients d).taken + 1) h)
record_counts c s (Sent d k e) h = refl
record_counts c s (Grow stream d txid j n payload) h = refl
record_counts c s (Ack d n place) h = put_count s d c _ refl
record_counts c s (Committed stream d) h = refl
record_counts c s (Closed stream k) h = refl
record_counts c s (Recovered d stream place) h = refl
record_counts c s (Point stream d) h = refl
record_counts c s (Truncated d stream place) h = refl
record_counts c s (Purged d stream count) h = refl
record_counts c s (OpenedAt d stream place) h = put_count s d c _ refl
record_counts c s (OpenedFrom d stream txid) h = put_count s d c _ refl
record_counts c s (Reading d stream) h = put_count s d c _ refl
record_counts c s (End d stream) h = put_count s d c _ refl
record_counts c s (Rows d stream rows) h = put_count s d c _ refl
record_counts c s (Refused d why) h = refusal_count s d c (effect_on_read why)
record_counts c s (Mail from to count) h = refl
record_counts c s Nothing h = refl

-- ---- transcripts

-- the sessions that are found are those that join
sessions_are : (xs : List (ℕ × Event)) → all_found is_of_session (λ (s : History). s.sessions) session_joined session_counts xs ≡ sessions_joined xs
sessions_are [] = refl
sessions_are (x ∷ xs) = ap (with_found (session_joined x.1)) (sessions_are xs)

-- the records that are found are those that are taken
records_are : (c : ℕ) (xs : List (ℕ × Event)) → all_found is_of_record (count_of c) (record_taken c) (record_counts c) xs ≡ records_taken c xs
records_are c [] = refl
records_are c (x ∷ xs) = ap (with_found (record_taken c x.1)) (records_are c xs)

-- sessions and records count on
pub rules_count : RulesCount
rules_count = record {
  sessions = λ xs h. subst (CountFrom 1) (sessions_are xs)
      (all_count is_of_session (λ (s : History). s.sessions) session_joined session_counts 1 0 no_history xs (is_missing _ h));
  records = λ c xs h. subst (CountFrom 1) (records_are c xs)
      (all_count is_of_record (count_of c) (record_taken c) (record_counts c) 1 0 no_history xs (is_missing _ h));
}
