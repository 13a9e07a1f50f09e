use Rattle.std.proofs.Common.{◌≡◌, subst, sym, ◌∙◌}
use Rattle.dl_quorum.specs.Sizes.{sizes_of}
use Rattle.dl_quorum.specs.Places.{holds}
use Rattle.dl_quorum.specs.Pieces.{acks}
use Rattle.dl_rules_ledger.specs.Subjects.{Subject}
use Rattle.dl_subject.specs.Sets.{IsSetOf}
use Rattle.dl_subject.specs.contracts.subject.Subject.{the_view}
use Rattle.dl_subject.proofs.SetLemmas.{acks_at_places}
use Rattle.dl_subject.proofs.subject.Subject.acks.Goals as goal

pub returns : goal.returns
returns c has set =
    let s = c.self.inside in
    let now : IsSetOf (the_view s).pieces has c.args.set = subst (λ (x : Subject). IsSetOf x.pieces has c.args.set) (sym c.self.view_is) set in
    subst (λ (x : Subject). c.confirmed.result ≡ acks x.pieces c.args.entry has) c.self.view_is
    (c.confirmed.ensures ∙ sym (acks_at_places (sizes_of s.q) s.ensemble c.args.entry has (holds c.args.set) s.q.rule now.places))
