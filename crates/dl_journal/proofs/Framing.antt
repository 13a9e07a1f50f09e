-- A batch in the bytes behind an open gate.
use Rattle.std.proofs.Common.{◌≡◌, ℕ, zero, suc, ◌+◌, ◌≤◌, ◌<◌, ◌^◌, List, [], ◌∷◌, ◌++◌, length, drop, take, get_or}
use Rattle.std.proofs.Common.{sym, ◌∙◌, ap, refl, arith, append_assoc, length-take, length-drop, take-append-drop}
use Rattle.std.proofs.lemmas.Nat.{be_bytes_4, be_bytes_8}
use Rattle.std.proofs.lemmas.List.{drop-drop}
use Rattle.std.specs.Int.{w32, w64, to_be_bytes, from_be_bytes}
use Rattle.dl_journal.specs.Batches.{frame_of}
use Rattle.dl_journal.specs.Reading.{number_of, size_of}

-- each item is a byte
abbrev pub AreBytes : List ℕ → Type 0
AreBytes bytes = (i : ℕ) → get_or bytes i 0 < 256

-- what is left of bytes are bytes
pub bytes_drop : (n : ℕ) (bytes : List ℕ) → AreBytes bytes → AreBytes (drop n bytes)
bytes_drop zero bytes are i = are i
bytes_drop (suc n) [] are i = are i
bytes_drop (suc n) (x ∷ bytes) are i = bytes_drop n bytes (λ k. are (suc k)) i

-- the first of bytes are bytes
pub bytes_take : (n : ℕ) (bytes : List ℕ) → AreBytes bytes → AreBytes (take n bytes)
bytes_take zero bytes are i = omega arith
bytes_take (suc n) [] are i = are i
bytes_take (suc n) (x ∷ bytes) are zero = are zero
bytes_take (suc n) (x ∷ bytes) are (suc i) = bytes_take n bytes (λ k. are (suc k)) i

-- 8 bytes, 4 bytes, n bytes and the rest, in a row, are the whole
four_parts : (n : ℕ) (rest : List ℕ) → take 8 rest ++ (take 4 (drop 8 rest) ++ (take n (drop 12 rest) ++ drop (12 + n) rest)) ≡ rest
four_parts n rest =
    ap (λ (l : List ℕ). take 8 rest ++ (take 4 (drop 8 rest) ++ (take n (drop 12 rest) ++ l))) (sym (drop-drop n 12 rest))
    ∙ ap (λ (l : List ℕ). take 8 rest ++ (take 4 (drop 8 rest) ++ l)) (take-append-drop n (drop 12 rest))
    ∙ ap (λ (l : List ℕ). take 8 rest ++ (take 4 (drop 8 rest) ++ l)) (sym (drop-drop 4 8 rest))
    ∙ ap (λ (l : List ℕ). take 8 rest ++ l) (take-append-drop 4 (drop 8 rest))
    ∙ take-append-drop 8 rest

-- number, length and body stand in the bytes
pub unframed : (rest : List ℕ) → AreBytes rest → 12 + size_of rest ≤ length rest
    → frame_of (number_of rest) (take (size_of rest) (drop 12 rest)) ++ drop (12 + size_of rest) rest ≡ rest
unfolding frame_of number_of size_of
unframed rest are long =
    let size = from_be_bytes w32 (take 4 (drop 8 rest)) in
    let body = take size (drop 12 rest) in
    let after = drop (12 + size) rest in
    let longer : 12 ≤ length rest = omega (arith, long) in
    let number_is : to_be_bytes w64 (from_be_bytes w64 (take 8 rest)) ≡ take 8 rest =
    be_bytes_8 (take 8 rest) (from_be_bytes w64 (take 8 rest)) (omega (arith, length-take 8 rest, longer)) (bytes_take 8 rest are) refl in
    let body_long : length body ≡ size = omega (arith, length-take size (drop 12 rest), length-drop 12 rest, long) in
    let size_is : to_be_bytes w32 (length body) ≡ take 4 (drop 8 rest) =
    ap (λ (n : ℕ). to_be_bytes w32 n) body_long ∙ be_bytes_4 (take 4 (drop 8 rest)) size
    (omega (arith, length-take 4 (drop 8 rest), length-drop 8 rest, longer)) (bytes_take 4 (drop 8 rest) (bytes_drop 8 rest are)) refl in
    append_assoc (to_be_bytes w64 (from_be_bytes w64 (take 8 rest))) (to_be_bytes w32 (length body) ++ body) after
    ∙ ap (λ (l : List ℕ). to_be_bytes w64 (from_be_bytes w64 (take 8 rest)) ++ l) (append_assoc (to_be_bytes w32 (length body)) body after)
    ∙ ap (λ (l : List ℕ). l ++ (to_be_bytes w32 (length body) ++ (body ++ after))) number_is
    ∙ ap (λ (l : List ℕ). take 8 rest ++ (l ++ (body ++ after))) size_is
    ∙ four_parts size rest

-- a length is below 2 ^ 32
pub small_size : (rest : List ℕ) → AreBytes rest → size_of rest < 2 ^ 32
unfolding size_of
small_size rest are =
    let a = bytes_take 4 (drop 8 rest) (bytes_drop 8 rest are) in
    omega (arith, a 0, a 1, a 2, a 3)
