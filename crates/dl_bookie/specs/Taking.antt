-- How a storage node takes a message.
use Rattle.std.specs.Prelude.{ℕ, ◌+◌, not, is_some, ◌&&◌, nat_lt, nat_le, if◌then◌else◌, length, Option, Some, None}
use Rattle.dl_journal.specs.Commits.{spare_of}
use Rattle.dl_pool.specs.Pools.{spare, pages_of}
use Rattle.dl_msg.specs.declared.resource.Resource.{Resource}
use Rattle.dl_msg.specs.declared.resource.Resource.TheVariants.{Pool, Index, Ledgers, Queue, Journal}
use Rattle.dl_rules_nodes.specs.Limits.{most_entries, most_ledgers, most_waiting}
use Rattle.dl_rules_nodes.specs.Items.{Item}
use Rattle.dl_rules_nodes.specs.Bookies as rules
use Rattle.dl_items.specs.declared.head.Head.{Head}
use Rattle.dl_items.specs.Heads.{ledger_in}
use Rattle.dl_marks.specs.Tables.{ledger_at}
use Rattle.dl_bookie.specs.declared.taken.Taken.{Taken}
use Rattle.dl_bookie.specs.declared.taken.Taken.TheVariants as outcome
use Rattle.dl_bookie.specs.declared.row.Row.{Row}
use Rattle.dl_bookie.specs.declared.row.Row.TheVariants.{Answers, Queues, Stores}
use Rattle.dl_bookie.specs.Storing.{names_new}
use Rattle.dl_bookie.specs.Facts.{BookieFacts}

-- what there is no room for: so many bytes of an item with this head, its entry, its ledger, the reply, the batch
abbrev pub lack_of : BookieFacts → Head → ℕ → Option Resource
lack_of k h size =
    if nat_lt (spare k.pool) (pages_of size) then Some Pool
    else (if nat_le most_entries (length k.entries) && names_new k.entries h then Some Index
    else (if nat_le most_ledgers (length k.ledgers) && not (is_some (ledger_at k.ledgers (ledger_in h))) then Some Ledgers
    else (if nat_le most_waiting (length k.queue) then Some Queue
    else (if nat_lt (spare_of k.journal) (k.bytes + size) then Some Journal
    else None))))

-- a row of the table with its item, before the tests of room
abbrev pub row_of : Row → Item → rules.Taken
row_of (Answers reply) item = rules.Answers reply
row_of (Queues reply) item = rules.Queues reply None
row_of (Stores reply) item = rules.Queues reply (Some item)

-- what a call answers
abbrev pub outcome_of : rules.Taken → Taken
outcome_of rules.Looks = outcome.Look
outcome_of (rules.Answers reply) = outcome.Answer reply
outcome_of (rules.Queues reply item) = outcome.Queued
