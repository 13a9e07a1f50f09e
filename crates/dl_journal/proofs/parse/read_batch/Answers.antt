use Rattle.std.proofs.Common.{◌≡◌, ◌∙◌, arith, true, rules}
use Rattle.dl_journal.specs.Reading.{is_due}
use Rattle.dl_journal.proofs.Parsing.{framed_is, body_behind}
use Rattle.dl_journal.proofs.parse.read_batch.Goals as goal

pub returns : goal.returns
returns c =
    let due : is_due c.args.due c.number_in-number.result ≡ true = search rules in
    framed_is c.args.due c.args.more.now c.in_ok-body.body c.number_in-number.result c.size_in-size.result (λ i. let fits = c.type_inv.more i in
    omega (arith, fits)) c.number_in-number.ensures c.size_in-size.ensures (omega arith) (omega arith)
    (c.in_ok-body.ensures ∙ body_behind c.args.shared.now c.args.more.now c.args.at c.size_in-size.result c.requires.same) due
