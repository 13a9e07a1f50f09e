-- The value of a ledger's node.
use Rattle.std.specs.Prelude.{ℕ, Option, Some, None, Result, Ok, Err}
use Rattle.dl_types.specs.declared.refusal.Refusal.{Refusal}
use Rattle.dl_types.specs.declared.refusal.Refusal.TheVariants.{GaveUp}
use Rattle.dl_quorum.specs.Sizes.{sizes_of}
use Rattle.dl_formats.specs.declared.ledger.LedgerMeta.{LedgerMeta}
use Rattle.dl_formats.specs.Keys.{Ledger, path_of}
use Rattle.dl_rules_stream.specs.Nodes.{LedgerNode, node_with}

-- the node of a ledger by its metadata
abbrev pub node_of_meta : LedgerMeta → LedgerNode
node_of_meta m = node_with m.state (sizes_of m.q) m.count

-- the node of a ledger, or else an order gives up there
abbrev pub node_or_gave_up : ℕ → Option LedgerMeta → Result LedgerNode Refusal
node_or_gave_up ledger None = Err (GaveUp (path_of (Ledger ledger)))
node_or_gave_up ledger (Some m) = Ok (node_of_meta m)
