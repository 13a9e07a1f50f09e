use Rattle.std.proofs.Common.{sym, ◌∙◌}
use Rattle.dlog.proofs.Reading.{word_is, word_is_empty}
use Rattle.dlog.proofs.arguments.text_of.Goals as goal

pub returns-in-Ok : goal.returns-in-Ok
returns-in-Ok c = c.in-Ok.ensures.cases.0 ∙ sym (word_is c.args.bytes.now c.in-Ok.ensures.cases.1)

pub returns-in-Err : goal.returns-in-Err
returns-in-Err c = sym (word_is_empty c.args.bytes.now c.in-Err.ensures.cases.0)
