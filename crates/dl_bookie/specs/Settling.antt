-- The tables when the items of a queue became durable.
use Rattle.std.specs.Prelude.{◌≡◌, ℕ, ◌+◌, ◌-◌, List, [], length, Option, Some, None}
use Rattle.std.specs.List.{AllZip}
use Rattle.dl_pool.specs.Pools.{Held}
use Rattle.dl_rules_nodes.specs.Bookies.{Bookie, Waiting, items_of, gate_of}
use Rattle.dl_marks.specs.declared.marks.Place.{Place}
use Rattle.dl_marks.specs.Tables.{Entries, Ledgers}
use Rattle.dl_marks.specs.Keeping.{Kept}
use Rattle.dl_marks.specs.Moving.{Moving}
use Rattle.dl_bookie.specs.declared.queued.Queued.{Queued}
use Rattle.dl_bookie.specs.declared.queued.Piece.{Piece}
use Rattle.dl_bookie.specs.Standing.{IsQueued}

-- where the entry of an item stands that has so many bytes and begins at this offset
abbrev pub entry_place : ℕ → ℕ → Place
entry_place at size = record { at = at + 29; size = size - 29 }

-- the piece of a reply is kept as durable at this offset, where there is one
abbrev pub KeepsPiece : Entries → Entries → Ledgers → Ledgers → Option Piece → ℕ → Type 0
KeepsPiece old new before now None at = (new ≡ old) × (now ≡ before)
KeepsPiece old new before now (Some p) at = Kept old new before now p.head (entry_place at p.size)

-- All items of this queue wait, and the first of them is to begin at this offset.
pub record AllWait (b : Bookie) (pool : Held) (queue : List Queued) (ws : List Waiting) (at : ℕ) (entries : Entries) (ledgers : Ledgers) : Type 0 where
  pub queue_same : AllZip (IsQueued pool) queue ws
  pub tables : Moving b [] (items_of ws) entries ledgers
  pub place : at ≡ gate_of b.batches + 13

-- The tables keep all items of the queue as durable, whatever node it is of.
pub record SettlesQueue (old new : Entries) (before now : Ledgers) (queue : List Queued) (at : ℕ) : Type 0 where
  pub moved : (b : Bookie) (pool : Held) (ws : List Waiting) → AllWait b pool queue ws at old before → Moving b (items_of ws) [] new now
  pub entries : length new ≡ length old
  pub ledgers : length now ≡ length before
