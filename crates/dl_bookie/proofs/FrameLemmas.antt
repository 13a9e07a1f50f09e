-- The frame of a batch: room for number and length, the body, and room for a gate.
use Rattle.std.proofs.Common.{◌≡◌, ℕ, ◌+◌, ◌-◌, List, [], ◌∷◌, ◌++◌, length, take, drop, refl, ap, ◌∙◌, arith, length-append}
use Rattle.dl_journal.specs.Commits.{body_of}
use Rattle.dl_bookie.specs.declared.batch.TheConstants.{HEAD_ROOM, GATE_ROOM}

-- its length
pub frame_length : (frame bytes : List ℕ) → frame ≡ HEAD_ROOM ++ (bytes ++ GATE_ROOM) → length frame ≡ 13 + length bytes
frame_length frame bytes is = ap length is ∙ omega (arith, length-append HEAD_ROOM (bytes ++ GATE_ROOM), length-append bytes GATE_ROOM)

-- the front of a list
pub take_all : (xs rest : List ℕ) → take (length xs) (xs ++ rest) ≡ xs
take_all [] rest = refl
take_all (x ∷ xs) rest = ap (λ (ys : List ℕ). x ∷ ys) (take_all xs rest)

-- its body
pub frame_body : (frame bytes : List ℕ) → frame ≡ HEAD_ROOM ++ (bytes ++ GATE_ROOM) → body_of frame ≡ bytes
frame_body frame bytes is =
    let size : length frame - 13 ≡ length bytes = omega (arith, frame_length frame bytes is) in
    ap (λ n. take n (drop 12 frame)) size ∙ ap (λ (f : List ℕ). take (length bytes) (drop 12 f)) is ∙ take_all bytes GATE_ROOM
