use Rattle.dl_formats.proofs.Exactness.{ledger_again}
use Rattle.dl_requests.proofs.LedgerNodeLemmas.{node_read, node_too_wide, node_unread}
use Rattle.dl_requests.proofs.ledger_nodes.ledger_in.Goals as goal

pub returns-then-meta-conf-clause-value : goal.returns-then-meta-conf-clause-value
returns-then-meta-conf-clause-value c ledger =
    node_read c.args.conf.now ledger c.args.bytes.now c.in-Ok.meta
    (ledger_again c.args.bytes.now c.in-Ok.meta c.in-Ok.ensures.found.0 c.in-Ok.ensures.found.1) c.if-meta-conf.true

pub returns-else-meta-conf-clause-value : goal.returns-else-meta-conf-clause-value
returns-else-meta-conf-clause-value c ledger =
    node_too_wide c.args.conf.now ledger c.args.bytes.now c.in-Ok.meta
    (ledger_again c.args.bytes.now c.in-Ok.meta c.in-Ok.ensures.found.0 c.in-Ok.ensures.found.1) c.if-meta-conf.false

pub returns-in-Err-clause-value : goal.returns-in-Err-clause-value
returns-in-Err-clause-value c ledger = node_unread c.args.conf.now ledger c.args.bytes.now _ c.in-Err.ensures.refused.0
