-- The front that the bytes shown and those of the last sync share.
use Rattle.std.proofs.Common.{◌≡◌, ◌≤◌, ◌+◌, ◌++◌, ℕ, List, min, take, drop, length, sym, ◌∙◌, ap, arith, length-append, length-take}
use Rattle.std.proofs.lemmas.List.{take-append-le, take-take}
use Rattle.dl_depot.specs.Device.{with_bytes}
use Rattle.dl_depot.specs.Held.{Agree}

-- a write from a place on leaves what is before it
pub agree_put : (same at : ℕ) (bytes shown synced : List ℕ) → at ≤ length shown → Agree same shown synced
    → Agree (min same at) (with_bytes at bytes shown) synced
agree_put same at bytes shown synced le a = record {
  in_shown = omega (arith, front, length-append (take at shown) (bytes ++ drop (at + length bytes) shown));
  in_synced = omega (arith, a.in_synced);
  front = take-append-le (min same at) (take at shown) (bytes ++ drop (at + length bytes) shown) (omega (arith, front))
      ∙ take-take (min same at) at shown (omega arith)
      ∙ sym (take-take (min same at) same shown (omega arith))
      ∙ ap (λ (l : List ℕ). take (min same at) l) a.front
      ∙ take-take (min same at) same synced (omega arith);
}
  where
    front : length (take at shown) ≡ at
    front = omega (arith, length-take at shown, le)
