use Rattle.std.proofs.Common.{◌≡◌, suc, List, ap, ◌∙◌, subst, ◌+◌, add-one}
use Rattle.dl_machine.specs.Lines as machine
use Rattle.dl_links.specs.declared.mail.Mail.{Mail}
use Rattle.dl_links.specs.Mails.{mail_of, mails_of, IsHere, IsBefore}
use Rattle.dl_links.proofs.MailLemmas.{counted, inserted}
use Rattle.dl_links.proofs.mail.add.Goals as goal

-- a count more of a link
more_is : (m other : Mail) → m ≡ other
    → mail_of (record { from = m.from; to = m.to; count = m.count + 1 }) ≡ record (mail_of other) { count = suc other.count }
more_is m other is =
    (λ i. record { from = m.from; to = m.to; count = add-one m.count i })
    ∙ ap (λ (x : Mail). let y : machine.Mail = record (mail_of x) { count = suc x.count } in y) is

pub returns-in-Here : goal.returns-in-Here
returns-in-Here c =
    let there : IsHere c.args.letter.now c.args.mails.now.items c.in-Here.index =
    subst (λ (ms : List Mail). IsHere c.args.letter.now ms c.in-Here.index) c.as_slice.ensures.value c.in-Here.ensures in
    let d : Mail = c.index_mut-mail.result.now in
    counted c.args.letter.now d c.args.mails.now.items c.in-Here.index (record { from = d.from; to = d.to; count = d.count + 1 })
    (λ k below. there.behind k d below) there.within (there.on d) (more_is d _ c.index_mut-mail.ensures.value)

pub returns-in_ok-insert-in-Before : goal.returns-in_ok-insert-in-Before
returns-in_ok-insert-in-Before c =
    let there : IsBefore c.args.letter.now c.args.mails.now.items c.in-Before.index =
    subst (λ (ms : List Mail). IsBefore c.args.letter.now ms c.in-Before.index) c.as_slice.ensures.value c.in-Before.ensures in
    let d : Mail = c.first.result in
    ap mails_of c.in_ok-insert-in-Before.ensures.items
    ∙ inserted c.args.letter.now d c.args.mails.now.items c.in-Before.index d
    (λ k below. there.behind k d below) there.within (there.other d) (there.before d) c.first.ensures
