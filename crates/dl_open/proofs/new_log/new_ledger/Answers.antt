use Rattle.std.proofs.Common.{IfOk, subst}
use Rattle.dl_quorum.specs.Pieces.{Pieces}
use Rattle.dl_lwrite.specs.Standing.{StandsFor}
use Rattle.dl_rules_ledger.specs.Writers.{new_view}
use Rattle.dl_rules_stream.specs.Nodes.{new_sizes}
use Rattle.dl_open.proofs.Logs.{ring_is}
use Rattle.dl_open.proofs.new_log.new_ledger.Goals as goal

pub returns : goal.returns
returns c =
    let x = c.of-ensemble.result in
    let of = c.of-ensemble.ensures in
    subst (λ (p : Pieces). IfOk c.start.result (StandsFor (new_view c.args.ledger p)))
    (ring_is c.args.ledger c.args.conf.b (new_sizes c.args.conf) x of.first of.bookies of.e) c.start.ensures
