-- The messages that the tasks over a ledger have for bookies.
use Rattle.std.specs.Prelude.{ℕ}
use Rattle.dl_msg.specs.declared.msg.Msg.{Msg}
use Rattle.dl_msg.specs.declared.msg.Msg.TheVariants.{Add, Copy, AskLac, AskEntry}
use Rattle.dl_msg.specs.declared.letters.Told.{Told}

-- a message with which a task comes to bookies
abbrev pub IsForBookies : Msg → Type 0
IsForBookies (Add ledger entry count bytes) = Unit {0}
IsForBookies (Copy tag ledger entry count bytes) = Unit {0}
IsForBookies (AskLac tag ledger fence) = Unit {0}
IsForBookies (AskEntry tag ledger entry) = Unit {0}
IsForBookies m = ⊥

-- a message for a bookie
abbrev pub letter : Msg → ℕ → Told
letter m bookie = record { bookie = bookie; msg = m }
