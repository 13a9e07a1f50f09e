use Rattle.std.proofs.Common.{sym, ap, ◌∙◌, ◌∷◌}
use Rattle.dl_transcript.specs.Legal.{has, sees}
use Rattle.dl_shown.specs.Sessions.{may_expire}
use Rattle.dl_shown.proofs.Judging.{refuses, allows, has_more, expire_same}
use Rattle.dl_shown.proofs.sessions.SessionsShown.expire.Goals as goal

pub returns-then-not-may_expire : goal.returns-then-not-may_expire
returns-then-not-may_expire c = λ s h. refuses _ _ (ap (may_expire c.args.self.now) (sym c.number-session.ensures.value) ∙ sym c.if-not-may_expire.ensures)
    (expire_same c.args.self.now s c.args.session h)

pub returns : goal.returns
unfolding sees
returns c = λ s h. allows _ _ (ap (may_expire c.args.self.now) (sym c.number-session.ensures.value) ∙ sym c.if-not-may_expire.ensures)
    (expire_same c.args.self.now s c.args.session h)
    (record {
      joined = h.joined;
      expired = λ k. c.in_ok-_new.ensures.updates.0 k ∙ has_more k c.number-session.result s.expired _ (h.expired k)
          ∙ ap (λ n. has k (n ∷ s.expired)) c.number-session.ensures.value;
    })
