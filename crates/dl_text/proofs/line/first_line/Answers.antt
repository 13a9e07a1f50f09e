use Rattle.dl_text.proofs.TextLineLemmas.{no_line, first_line_at}
use Rattle.dl_text.proofs.line.first_line.Goals as goal

pub returns-in-None : goal.returns-in-None
returns-in-None c = no_line c.args.text.now c.in-None.ensures

pub returns-in-Some : goal.returns-in-Some
returns-in-Some c = first_line_at c.args.text.now c.split_at.result.0.now c.split_at.result.1.now c.in-Some.feed c.in-Some.ensures c.split_at.ensures.front
    c.split_at.ensures.back
