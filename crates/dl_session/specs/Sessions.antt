-- Sessions of clients with the metadata node, and the requests that run in them.
use Rattle.std.specs.Prelude.{ℕ, ◌+◌, Bool, not, if◌then◌else◌, ◌==◌, nat_lt, List, [], ◌∷◌, ◌++◌, map, filter, Option, Some, None, is_some}
use Rattle.dl_session.specs.declared.admit.Admit.{Admit}
use Rattle.dl_session.specs.declared.admit.Admit.TheVariants.{Expired, Old, Run}

-- a live session, with the number of the last request run in it, 0 where none was
pub record Live : Type 0 where
  pub session : ℕ
  pub number : ℕ

-- the last session given, 0 where none was, and those that are live
pub record Known : Type 0 where
  pub last : ℕ
  pub live : List Live

-- no session was given
abbrev pub no_sessions : Known
no_sessions = record { last = 0; live = [] }

-- the live sessions
abbrev pub ids : List Live → List ℕ
ids live = map (λ (x : Live). x.session) live

-- the last number run in a session; none where it is not live
abbrev pub number_in : List Live → ℕ → Option ℕ
number_in [] session = None
number_in (x ∷ xs) session = if x.session == session then Some x.number else number_in xs session

-- whether a session is live
abbrev pub is_live : Known → ℕ → Bool
is_live s session = is_some (number_in s.live session)

-- one more session, above the last
unfoldable pub after_connect : Known → Known
after_connect s = record { last = s.last + 1; live = s.live ++ (record { session = s.last + 1; number = 0 }) ∷ [] }

-- a session is live no longer
unfoldable pub after_expiry : Known → ℕ → Known
after_expiry s session = record s { live = filter (λ (x : Live). not (x.session == session)) s.live }

-- a session in which a number runs
abbrev pub with_number : ℕ → ℕ → Live → Live
with_number session number x = if x.session == session then (record x { number = number }) else x

-- a request of this number ran in a session
unfoldable pub after_run : Known → ℕ → ℕ → Known
after_run s session number = record s { live = map (with_number session number) s.live }

-- what becomes of a request, by the last number run in its session
abbrev pub admission : Option ℕ → ℕ → Admit
admission None number = Expired
admission (Some last) number = if nat_lt last number then Run else Old
