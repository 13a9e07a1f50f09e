-- What holds of sessions over whole runs.
use Rattle.std.specs.Prelude.{◌≡◌, ◌≢◌, ℕ, ◌≤◌, false, List, [], ◌∷◌, Some}
use Rattle.dl_session.specs.declared.admit.Admit.TheVariants.{Run}
use Rattle.dl_session.specs.Sessions.{Known, after_connect, after_expiry, after_run, is_live, number_in, admission}

-- what changes the sessions
pub data Change : Type 0 where
  Connects : Change
  Expires : (session : ℕ) → Change
  Runs : (session number : ℕ) → Change

-- the sessions after one change
abbrev pub after_change : Known → Change → Known
after_change s Connects = after_connect s
after_change s (Expires session) = after_expiry s session
after_change s (Runs session number) = after_run s session number

-- the sessions after changes, the first of the list first
abbrev pub after_changes : Known → List Change → Known
after_changes s [] = s
after_changes s (x ∷ xs) = after_changes (after_change s x) xs

-- a session that was given and is not live is never live again
abbrev pub GoneIsGone : Type 0
GoneIsGone = (s : Known) (session : ℕ) (xs : List Change) → session ≤ s.last → is_live s session ≡ false → is_live (after_changes s xs) session ≡ false

-- the numbers that run are above those that ran before
abbrev pub RunsOnce : Type 0
RunsOnce = (s : Known) (session number : ℕ) → admission (number_in s.live session) number ≡ Run
    → (number_in (after_run s session number).live session ≡ Some number)
    × ((other : ℕ) → (other ≡ session → ⊥) → number_in (after_run s session number).live other ≡ number_in s.live other)

-- each number that runs in these changes is admitted where it runs
abbrev pub AreAdmitted : Known → List Change → Type 0
AreAdmitted s [] = Unit {0}
AreAdmitted s (Connects ∷ xs) = AreAdmitted (after_connect s) xs
AreAdmitted s (Expires session ∷ xs) = AreAdmitted (after_expiry s session) xs
AreAdmitted s (Runs session number ∷ xs) = (admission (number_in s.live session) number ≡ Run) × AreAdmitted (after_run s session number) xs

-- A number of a given session that ran is never admitted again, whatever changes come after it: sessions that are opened
-- or end, and requests of any session that are admitted and run.
abbrev pub NeverAgain : Type 0
NeverAgain = (s : Known) (session number : ℕ) (xs : List Change) → session ≤ s.last → admission (number_in s.live session) number ≡ Run
    → AreAdmitted (after_run s session number) xs → admission (number_in (after_changes (after_run s session number) xs).live session) number ≢ Run
