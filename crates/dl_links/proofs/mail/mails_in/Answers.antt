use Rattle.std.proofs.Common.{◌-◌, length, ap, sym, ◌∙◌, refl, arith}
use Rattle.dl_machine.specs.Lines.{with_mail}
use Rattle.dl_links.specs.Mails.{mails_of}
use Rattle.dl_links.proofs.MailLemmas.{links_none, links_step, counts_fit}
use Rattle.dl_links.proofs.mail.mails_in.Goals as goal

pub loop-step-init : goal.loop-step-init
loop-step-init c =
    ap mails_of c.new-mails.ensures.items ∙ sym (links_none c.args.letters.now (length c.args.letters.now - 0) (omega arith))

pub add-requires : goal.add-requires
add-requires c = counts_fit c.args.letters.now c.loop-step.mails.items c.loop-step.step c.loop-step-test.true c.requires c.loop-step.invariant

pub loop-step-preserved : goal.loop-step-preserved
loop-step-preserved c =
    c.in_ok-add.ensures
    ∙ ap (with_mail c.index-letters-letters.result) c.loop-step.invariant
    ∙ sym (links_step c.args.letters.now c.index-letters-letters.result (length c.args.letters.now) c.loop-step.step refl c.loop-step-test.true
    c.index-letters-letters.is)
