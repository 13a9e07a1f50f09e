use Rattle.std.proofs.Common.{sym}
use Rattle.dl_session.proofs.RiseLemmas.{found_in, none_in, number_read, known-none}
use Rattle.dl_session.proofs.sessions.Sessions.last_run.Goals as goal

pub returns-in-Some : goal.returns-in-Some
returns-in-Some c =
    number_read _ _ _ _ _ _ _ (record { rises = c.self.invariant.0; same = c.self.invariant.1 }) c.self.view_is
    (found_in _ _ _ _ c.deref.ensures.value c.in-Some.ensures) c.index.ensures

pub returns-in-None : goal.returns-in-None
returns-in-None c = sym (known-none _ _ _ _ _ c.self.view_is (none_in _ _ _ c.deref.ensures.value c.in-None.ensures))
