use Rattle.dl_transcript.specs.Legal.{sees}
use Rattle.dl_shown.proofs.Judging.{refuses, allows, join_same, no_join, joins}
use Rattle.dl_shown.proofs.sessions.SessionsShown.join.Goals as goal

pub returns-then-session-self : goal.returns-then-session-self
returns-then-session-self c = λ d s h. refuses _ _
    (no_join c.args.session _ c.number-session.result c.number-session.ensures.value c.number-session.ensures.least
    c.if-session-self.true) (join_same c.args.self.now s d c.args.session h)

pub returns : goal.returns
unfolding sees
returns c = λ d s h. allows _ _ (joins c.args.session _ c.number-session.result c.number-session.ensures.value c.number-session.ensures.least
    c.if-session-self.false) (join_same c.args.self.now s d c.args.session h)
    (record { joined = c.number-session.ensures.value; expired = h.expired })
