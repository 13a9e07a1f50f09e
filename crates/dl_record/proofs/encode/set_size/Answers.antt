use Rattle.std.proofs.Common.{arith}
use Rattle.dl_record.proofs.MemberSizes.{length-set_bytes, size_more}
use Rattle.dl_record.proofs.encode.set_size.Goals as goal

pub loop-payload-init : goal.loop-payload-init
loop-payload-init c = record { left = omega (arith, length-set_bytes c.args.payloads.now); short = omega arith }

pub returns-then-saturating_add-size : goal.returns-then-saturating_add-size
returns-then-saturating_add-size c = λ fits.
    omega (arith, fits, size_more c.args.payloads.now c.loop-payload.payload-index c.payload-item.result c.loop-payload-test.true c.payload-item.is)

pub loop-payload-preserved : goal.loop-payload-preserved
loop-payload-preserved c =
    let more = size_more c.args.payloads.now c.loop-payload.payload-index c.payload-item.result c.loop-payload-test.true c.payload-item.is in
    record { left = omega (arith, more); short = omega (arith, more) }
