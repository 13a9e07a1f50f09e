use Rattle.dl_requests.proofs.NumberLemmas.{member_same}
use Rattle.dl_requests.proofs.numbers.member_in.Goals as goal

pub returns : goal.returns
returns c = member_same _ _ c.read_member.ensures.found c.read_member.ensures.only
