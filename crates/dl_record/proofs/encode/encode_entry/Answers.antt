use Rattle.std.proofs.Common.{arith, ap, length, length-append}
use Rattle.dl_record.proofs.Sizes.{each_record, count_fits, body_fits}
use Rattle.dl_record.proofs.encode.encode_entry.Goals as goal

pub put_records-requires : goal.put_records-requires
put_records-requires c = each_record c.args.parts.now c.requires

pub overflow_cast-parts : goal.overflow_cast-parts
overflow_cast-parts c = omega (arith, count_fits c.args.parts.now c.requires)

pub close_entry-requires-clause-size : goal.close_entry-requires-clause-size
close_entry-requires-clause-size c =
    omega (arith, c.in_ok-out.ensures.len, simp length-append at (ap length c.in_ok-put_records.ensures.ok), body_fits c.args.parts.now c.requires)
