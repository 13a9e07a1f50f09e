use Rattle.std.proofs.Common.{arith}
use Rattle.dl_record.proofs.MemberSizes.{member_le}
use Rattle.dl_record.proofs.encode.put_members.Goals as goal

pub overflow_cast-len : goal.overflow_cast-len
overflow_cast-len c =
    omega (arith, member_le c.args.payloads.now c.loop-payload.payload-index c.payload-item.result c.loop-payload-test.true c.payload-item.is)
