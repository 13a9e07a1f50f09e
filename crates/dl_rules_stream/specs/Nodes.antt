-- The node of a ledger as plain numbers, and its bytes.
use Rattle.std.specs.Prelude.{ℕ, List}
use Rattle.dl_quorum.specs.Sizes.{Sizes}
use Rattle.dl_formats.specs.declared.conf.Conf.{Conf}
use Rattle.dl_formats.specs.declared.ledger.LedgerState.{LedgerState}
use Rattle.dl_formats.specs.NodeBytes.{with_version, ledger_fields}

-- How far the ledger has come, how its entries are replicated, and how many it has once it is closed.
pub record LedgerNode : Type 0 where
  pub state : LedgerState
  pub q : Sizes
  pub count : ℕ

-- a node of these
abbrev pub node_with : LedgerState → Sizes → ℕ → LedgerNode
node_with state q count = record { state = state; q = q; count = count }

-- its bytes
abbrev pub node_bytes : LedgerNode → List ℕ
node_bytes n = with_version (ledger_fields (record { state = n.state; e = n.q.e; qw = n.q.qw; qa = n.q.qa; count = n.count }))

-- the sizes of new ledgers
abbrev pub new_sizes : Conf → Sizes
new_sizes c = record { e = c.e; qw = c.qw; qa = c.qa }
