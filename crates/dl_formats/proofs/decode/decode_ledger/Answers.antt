use Rattle.std.proofs.Common.{Ok, sym, ap, arith}
use Rattle.dl_formats.proofs.Exactness.{read_quorum, ledger_found, ledger_only, ledger_refused}
use Rattle.dl_formats.proofs.decode.decode_ledger.Goals as goal

pub ledger_with-requires : goal.ledger_with-requires
ledger_with-requires c = read_quorum c.args.bytes.now c.in-Ok.fields (λ i. omega (arith, c.type_inv.bytes i)) (sym c.in-Ok.ensures)

pub returns-in-Ok : goal.returns-in-Ok
returns-in-Ok c = record {
  found = ledger_found c.args.bytes.now c.in-Ok.fields c.ledger_with.result (λ i. omega (arith, c.type_inv.bytes i))
      (sym c.in-Ok.ensures) c.ledger_with.ensures;
  only = λ x valid spelt. ap (λ m. Ok m)
      (ledger_only c.args.bytes.now c.in-Ok.fields c.ledger_with.result x (sym c.in-Ok.ensures) c.ledger_with.ensures valid spelt);
  refused = tt;
}

pub returns-in-Err : goal.returns-in-Err
returns-in-Err c = record {
  found = tt;
  only = λ x valid spelt. absurd (ledger_refused c.args.bytes.now c.in-Err.fault (sym c.in-Err.ensures) x valid spelt);
  refused = (sym c.in-Err.ensures, ledger_refused c.args.bytes.now c.in-Err.fault (sym c.in-Err.ensures));
}
