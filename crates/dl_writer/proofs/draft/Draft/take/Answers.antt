use Rattle.std.proofs.Common.{sym, subst, arith}
use Rattle.dl_writer.specs.Facts.{DraftFacts}
use Rattle.dl_writer.specs.Drafts.{MayTake, HasRoom, IsDraft, with_part}
use Rattle.dl_writer.specs.contracts.draft.Draft.{the_view}
use Rattle.dl_writer.proofs.DraftLemmas.{may_follow, draft_more, draft_same}
use Rattle.dl_writer.proofs.draft.Draft.take.Goals as goal

pub add-requires-clause-next : goal.add-requires-clause-next
add-requires-clause-next c =
    let d : DraftFacts = the_view c.self.inside in
    may_follow d c.args.part.now c.args.rows.items c.self.invariant
    (subst (λ (x : DraftFacts). MayTake x.next x.last c.args.part.now c.args.rows.items) (sym c.self.view_is) c.requires.next)
    (subst (λ (x : DraftFacts). HasRoom x.parts c.args.part.now) (sym c.self.view_is) c.requires.room)

pub invariant_of-self-2 : goal.invariant_of-self-2
invariant_of-self-2 c =
    let d : DraftFacts = the_view c.self.inside in
    let more : IsDraft (with_part d c.args.part.now c.args.rows.items) = draft_more d c.args.part.now c.args.rows.items c.self.invariant
    (subst (λ (x : DraftFacts). MayTake x.next x.last c.args.part.now c.args.rows.items) (sym c.self.view_is) c.requires.next) in
    draft_same (with_part d c.args.part.now c.args.rows.items) _ _ _ _ more c.in_ok-add.ensures.built c.in_ok-add.ensures.added
    (omega (arith, c.len-count.ensures, c.args.rows.ok)) c.txid-self-inside.ensures
