use Rattle.dl_formats.proofs.ChildLemmas.{member_only}
use Rattle.dl_formats.proofs.children.read_member.Goals as goal

pub returns-then-dash-eq45-clause-only : goal.returns-then-dash-eq45-clause-only
returns-then-dash-eq45-clause-only c = member_only c.args.name.now c.read_ten_digits.result c.read_ten_digits.ensures
