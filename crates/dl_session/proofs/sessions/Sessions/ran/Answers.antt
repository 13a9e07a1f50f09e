use Rattle.dl_session.proofs.RiseLemmas.{found_in, none_in, known-ran, known-none, runs_live}
use Rattle.dl_session.proofs.sessions.Sessions.ran.Goals as goal

pub returns-in-Some : goal.returns-in-Some
returns-in-Some c =
    let at =
    found_in _ _ _ _ c.deref.ensures.value c.in-Some.ensures in known-ran _ _ _ _ _ _ _
    (record { rises = c.self.invariant.0; same = c.self.invariant.1 }) c.self.view_is at.within at.is

pub returns-in_default : goal.returns-in_default
returns-in_default c = absurd (runs_live _ _ (known-none _ _ _ _ _ c.self.view_is (none_in _ _ _ c.deref.ensures.value c.in_default.ensures)) c.requires)
