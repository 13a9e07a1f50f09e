use Rattle.std.proofs.Common.{arith}
use Rattle.dl_record.proofs.Entries.{is_valid, is_flaw}
use Rattle.dl_record.proofs.check.check_entry.Goals as goal

pub returns-clause-valid : goal.returns-clause-valid
returns-clause-valid c = is_valid c.args.bytes.now c.check_bytes.result (λ i. omega (arith, c.type_inv.bytes i)) c.check_bytes.ensures

pub returns-clause-flaw : goal.returns-clause-flaw
returns-clause-flaw c = is_flaw c.args.bytes.now c.check_bytes.result c.check_bytes.ensures
