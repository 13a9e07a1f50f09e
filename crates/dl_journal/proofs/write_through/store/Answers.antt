use Rattle.std.proofs.Common.{◌≡◌, Result, Err, sym, subst, rules}
use Rattle.dl_depot.specs.declared.device_fault.DeviceFault.{DeviceFault}
use Rattle.dl_journal.specs.Calls.{Stores}
use Rattle.dl_journal.proofs.Through.{through, through_err}
use Rattle.dl_journal.proofs.write_through.store.Goals as goal

pub returns : goal.returns
returns g c = through _ _ _ _ _ _ _ _ c.in_ok-write_at.ensures.wrote c.sync.ensures.synced

pub returns-in_err-write_at : goal.returns-in_err-write_at
returns-in_err-write_at g c =
    let same : c.from_residual.result ≡ Err c.in_err-write_at.field-0.0 = search rules in
    subst (λ (r : Result (Unit {0}) DeviceFault). Stores (g.D.Depot.view c.args.depot.now) (g.D.Depot.view c.write_at.new.self) c.args.file
    c.args.at c.args.bytes.now r) (sym same) (through_err _ _ _ _ _ _ c.in_err-write_at.ensures.wrote)
