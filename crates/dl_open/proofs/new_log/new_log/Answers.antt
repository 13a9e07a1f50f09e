use Rattle.dl_quorum.specs.Pieces.{ring}
use Rattle.dl_rules_stream.specs.Nodes.{new_sizes}
use Rattle.dl_open.proofs.Logs.{if_ok, is_fresh}
use Rattle.dl_open.proofs.new_log.new_log.Goals as goal

pub start-requires : goal.start-requires
start-requires c = is_fresh c.args.ledger (ring c.args.ledger c.args.conf.b (new_sizes c.args.conf)) _ c.in_ok-writer.ensures

pub returns : goal.returns
returns c = if_ok c.start.result c.start.ensures
    (λ w stands. stands c.args.ledger (ring c.args.ledger c.args.conf.b (new_sizes c.args.conf)) c.in_ok-writer.ensures)
