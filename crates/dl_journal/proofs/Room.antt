-- A body that a journal has room for.
use Rattle.std.proofs.Common.{◌≡◌, ℕ, ◌+◌, ◌-◌, ◌≤◌, ◌<◌, ◌^◌, Bool, true, false, cond, List, length}
use Rattle.std.proofs.Common.{drop, nat_le, refl, sym, subst, arith, length-take, length-drop}
use Rattle.std.proofs.lemmas.Bool.Decides.{nat_tests}
use Rattle.dl_journal.specs.Limits.{journal_limit, last_number, gate_size, around_body}
use Rattle.dl_journal.specs.State.{JournalState}
use Rattle.dl_journal.specs.Commits.{spare_of, body_of}

-- its number and its length are in range
pub record HasRoom (j : JournalState) (n : ℕ) : Type 0 where
  pub number : j.next ≤ last_number
  pub size : n < 2 ^ 32
  pub fits : j.gate + gate_size + around_body + n ≤ journal_limit

-- a body that is not empty and at most the spare bytes has room
pub has_room : (j : JournalState) (n : ℕ) → 0 < n → n ≤ spare_of j → HasRoom j n
has_room j n some room = go (nat_le j.next last_number) refl room
  where
    go : (b : Bool) → nat_le j.next last_number ≡ b → n ≤ cond b (journal_limit - (j.gate + gate_size + around_body)) 0 → HasRoom j n
    go true is most = record { number = grind (arith, nat_tests); size = omega (arith, some, most); fits = omega (arith, some, most) }
    go false is most = absurd (omega (arith, some, most))

-- a frame's body has the frame's bytes but for those around it
pub length-body : (frame : List ℕ) → around_body < length frame → length (body_of frame) ≡ length frame - around_body
length-body frame some = omega (arith, length-take (length frame - 13) (drop 12 frame), length-drop 12 frame)

-- a frame with a body of at most the spare bytes has a body that has room
pub body_room : (j : JournalState) (frame : List ℕ) → around_body < length frame → length frame - around_body ≤ spare_of j → HasRoom j (length (body_of frame))
body_room j frame some room = subst (λ (n : ℕ). HasRoom j n) (sym (length-body frame some)) (has_room j (length frame - 13) (omega (arith, some)) room)
