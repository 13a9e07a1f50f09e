use Rattle.dl_session.proofs.RiseLemmas.{keeps_more, known-connected}
use Rattle.dl_session.proofs.sessions.Sessions.connect.Goals as goal

pub invariant_of-self-in-Ok : goal.invariant_of-self-in-Ok
invariant_of-self-in-Ok c =
    keeps_more _ _ _ _ _ _ (record { rises = c.self.invariant.0; same = c.self.invariant.1 }) c.in-Ok.ensures.items c.in_ok-push.ensures.items

pub returns-in-Ok-clause-ok : goal.returns-in-Ok-clause-ok
returns-in-Ok-clause-ok c =
    known-connected _ _ _ _ _ _
    (record { rises = c.self.invariant.0; same = c.self.invariant.1 }) c.self.view_is c.in-Ok.ensures.items c.in_ok-push.ensures.items
