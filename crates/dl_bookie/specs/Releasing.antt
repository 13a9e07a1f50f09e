-- The replies of a queue as they leave.
use Rattle.std.specs.Prelude.{◌≡◌, ℕ, List, Option, Some, None}
use Rattle.dl_pool.specs.Pools.{Held, bytes_at, Adds}
use Rattle.dl_msg.specs.declared.msg.Msg.{Msg}
use Rattle.dl_msg.specs.declared.msg.Msg.TheVariants.{LacIs}
use Rattle.dl_marks.specs.Tables.{Ledgers, ledger_at}
use Rattle.dl_bookie.specs.declared.queued.Queued.{Queued}
use Rattle.dl_bookie.specs.declared.queued.Piece.{Piece}
use Rattle.dl_bookie.specs.declared.replies.Reply.{Reply}
use Rattle.dl_bookie.specs.Rows.{greatest_of}

-- a count that waited is that of the ledger now
abbrev pub told_by : Ledgers → Msg → Msg
told_by ledgers (LacIs t l f n) = LacIs t l f (greatest_of (ledger_at ledgers l))
told_by ledgers m = m

-- a reply of the queue, for its client
abbrev pub reply_for : Ledgers → Queued → Reply
reply_for ledgers q = record { client = q.client; session = q.session; msg = told_by ledgers q.reply }

-- the piece of a reply is freed, where there is one: putting it back would give the pool from before
abbrev pub FreesPiece : Held → Held → Option Piece → Type 0
FreesPiece old new None = new ≡ old
FreesPiece old new (Some p) = (bytes : List ℕ) → bytes_at old p.span ≡ Some bytes → Adds new p.span bytes old
