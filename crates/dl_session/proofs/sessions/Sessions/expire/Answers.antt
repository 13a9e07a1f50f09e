use Rattle.std.proofs.Common.{sym, ap, is_some}
use Rattle.dl_session.proofs.RiseLemmas.{found_in, none_in, keeps_fewer, known-expired, known-expired_none, known-number, known-none}
use Rattle.dl_session.proofs.sessions.Sessions.expire.Goals as goal

pub invariant_of-self : goal.invariant_of-self
invariant_of-self c =
    let at =
    found_in _ _ _ _ c.deref.ensures.value c.in-Some.ensures in keeps_fewer _ _ _ _ _ _
    (record { rises = c.self.invariant.0; same = c.self.invariant.1 }) at.within c.remove.ensures.items c.remove-in-Some.ensures.items

pub returns-in-Some-clause-answer : goal.returns-in-Some-clause-answer
returns-in-Some-clause-answer c =
    let at =
    found_in _ _ _ _ c.deref.ensures.value c.in-Some.ensures in sym
    (ap is_some (known-number _ _ _ _ _ _ (record { rises = c.self.invariant.0; same = c.self.invariant.1 }) c.self.view_is at.within at.is))

pub returns-in-Some-clause-after : goal.returns-in-Some-clause-after
returns-in-Some-clause-after c =
    let at =
    found_in _ _ _ _ c.deref.ensures.value c.in-Some.ensures in known-expired _ _ _ _ _ _ _ _
    (record { rises = c.self.invariant.0; same = c.self.invariant.1 }) c.self.view_is at.within at.is c.remove.ensures.items c.remove-in-Some.ensures.items

pub returns-in-None-clause-answer : goal.returns-in-None-clause-answer
returns-in-None-clause-answer c = sym (ap is_some (known-none _ _ _ _ _ c.self.view_is (none_in _ _ _ c.deref.ensures.value c.in-None.ensures)))

pub returns-in-None-clause-after : goal.returns-in-None-clause-after
returns-in-None-clause-after c = known-expired_none _ _ _ _ _ c.self.view_is (none_in _ _ _ c.deref.ensures.value c.in-None.ensures)
