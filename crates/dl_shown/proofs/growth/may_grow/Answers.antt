use Rattle.dl_shown.proofs.GrowLemmas.{grow_same}
use Rattle.dl_shown.proofs.growth.may_grow.Goals as goal

pub returns : goal.returns
returns c = λ s stream rows records. grow_same s c.args.name.now c.args.row.now c.may_hold-held.result c.may_grow-grown.result c.is_record-taken.result
    (c.may_hold-held.ensures (s.streams c.args.name.now) stream) (c.may_grow-grown.ensures (s.streams c.args.name.now).rows rows)
    (c.is_record-taken.ensures s c.args.row.now.origin.client records)
