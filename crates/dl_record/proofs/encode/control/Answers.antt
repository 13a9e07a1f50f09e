use Rattle.std.proofs.Common.{arith, ap, length, length-append, []}
use Rattle.dl_record.proofs.Sizes.{control_entry, length-fields_and_payload}
use Rattle.dl_record.proofs.encode.control.Goals as goal

pub returns-in_err-out-clause-entry : goal.returns-in_err-out-clause-entry
returns-in_err-out-clause-entry c = control_entry c.args.position c.args.txid (omega arith) (omega arith)

pub returns-in_err-put_payload-clause-entry : goal.returns-in_err-put_payload-clause-entry
returns-in_err-put_payload-clause-entry c = control_entry c.args.position c.args.txid (omega arith) (omega arith)

pub returns-clause-entry : goal.returns-clause-entry
returns-clause-entry c = control_entry c.args.position c.args.txid (omega arith) (omega arith)

pub close_entry-requires-clause-size : goal.close_entry-requires-clause-size
close_entry-requires-clause-size c =
    omega (
      arith,
      c.in_ok-out.ensures.len,
      simp length-append at
          (ap length c.in_ok-put_payload.ensures.ok),
      length-fields_and_payload c.args.position 1 c.args.txid [],
    )
