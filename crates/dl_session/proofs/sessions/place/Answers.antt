use Rattle.dl_session.proofs.RiseLemmas.{not_found}
use Rattle.dl_session.proofs.sessions.place.Goals as goal

pub returns-in-Err : goal.returns-in-Err
returns-in-Err c = not_found _ _ _ c.requires.0 c.in-Err.ensures.position c.requires.1
