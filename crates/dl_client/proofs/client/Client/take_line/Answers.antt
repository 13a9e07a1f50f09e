use Rattle.std.proofs.Common.{◌∙◌, sym, subst}
use Rattle.dl_rules_client.specs.Views.{ClientMove}
use Rattle.dl_client.specs.Standing.{Does}
use Rattle.dl_client.proofs.Taking.{other_line, records_refused}
use Rattle.dl_client.proofs.client.Client.take_line.Goals as goal

pub returns-then-is_record-clause-goes : goal.returns-then-is_record-clause-goes
returns-then-is_record-clause-goes c me n h =
    rw c.refuses.ensures (records_refused me n c.args.self.now c.args.line c.args.step.now h (sym c.is_record.ensures ∙ c.if-is_record.true))

pub returns-clause-goes : goal.returns-clause-goes
returns-clause-goes c me n h =
    let P : ClientMove → Type 0 = λ m. Does me m c.in_ok-parts.parts c.take_if_free.new.self in
    subst P (sym (other_line me n c.args.line c.args.step.now (sym c.is_record.ensures ∙ c.if-is_record.false))) (c.in_ok-parts.ensures.goes me n h)
