-- What the rules of sessions and of records come to, without the fold.
use Rattle.std.specs.Prelude.{◌≡◌, ℕ, suc, true, ◌==◌, if◌then◌else◌, List, [], ◌∷◌, Option, Some, None}
use Rattle.dl_transcript.specs.declared.event.Event.{Event}
use Rattle.dl_transcript.specs.declared.event.Event.TheVariants.{Joined, Took}
use Rattle.dl_law_legal.specs.Ruled.{is_of_session, is_of_record, is_legal_as_to}

-- a number in front of others, where there is one
abbrev pub with_found : Option ℕ → List ℕ → List ℕ
with_found None ns = ns
with_found (Some n) ns = n ∷ ns

-- numbers count on from this one: each is one more than the one before it
abbrev pub CountFrom : ℕ → List ℕ → Type 0
CountFrom n [] = Unit {0}
CountFrom n (k ∷ ks) = (k ≡ n) × CountFrom (suc n) ks

-- the session with which a client joins
abbrev pub session_joined : Event → Option ℕ
session_joined (Joined c k) = Some k
session_joined e = None

-- the sessions that join in a transcript, the first one first
abbrev pub sessions_joined : List (ℕ × Event) → List ℕ
sessions_joined [] = []
sessions_joined (x ∷ xs) = with_found (session_joined x.1) (sessions_joined xs)

-- the number of a record that is taken from this client
abbrev pub record_taken : ℕ → Event → Option ℕ
record_taken c (Took d n stream txid payload) = if d == c then Some n else None
record_taken c e = None

-- the numbers of the records that are taken from a client in a transcript
abbrev pub records_taken : ℕ → List (ℕ × Event) → List ℕ
records_taken c [] = []
records_taken c (x ∷ xs) = with_found (record_taken c x.1) (records_taken c xs)

-- Where the rules of sessions are kept, the sessions that join are 1, 2, 3 and so on; and where that of records is, the records of each
-- client are.
pub record RulesCount : Type 0 where
  pub sessions : (xs : List (ℕ × Event)) → is_legal_as_to is_of_session xs ≡ true → CountFrom 1 (sessions_joined xs)
  pub records : (c : ℕ) (xs : List (ℕ × Event)) → is_legal_as_to is_of_record xs ≡ true → CountFrom 1 (records_taken c xs)
