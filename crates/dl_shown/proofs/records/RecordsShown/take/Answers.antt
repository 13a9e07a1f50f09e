use Rattle.std.proofs.Common.{ap, ◌∙◌, ◌++◌, ◌∷◌, [], map, arith}
use Rattle.dl_transcript.specs.Legal.{sees}
use Rattle.dl_shown.specs.Records.{record_of}
use Rattle.dl_shown.proofs.Judging.{refuses, allows}
use Rattle.dl_shown.proofs.RecordLemmas.{records_push, take_same, put_client_stands, next_is, next_is_not}
use Rattle.dl_shown.proofs.records.RecordsShown.take.Goals as goal

pub returns-then-from-len : goal.returns-then-from-len
returns-then-from-len c = λ s d h. refuses _ _ (next_is_not _ _ (λ e. c.if-from-len.true (omega (arith, e, c.from.ensures, c.len.ensures))))
    (take_same c.args.self.now s d c.args.call c.args.taken.stream c.args.taken.txid c.args.taken.payload h)

pub returns : goal.returns
unfolding sees
returns c = λ s d h. allows _ _ (next_is _ _ (omega (arith, c.if-from-len.false, c.from.ensures, c.len.ensures)))
    (take_same c.args.self.now s d c.args.call c.args.taken.stream c.args.taken.txid c.args.taken.payload h)
    (put_client_stands _ d _ _ (record {
      taken = ap (λ ts. map record_of ts) c.in_ok-push.ensures.items ∙ records_push c.args.self.now.taken.items c.args.taken
          ∙ ap (λ ts. ts ++ record_of c.args.taken ∷ []) h.taken;
      acked = h.acked;
    }))
