-- What a read out of memory moves.
use Rattle.std.proofs.Common.{◌≡◌, ℕ, ◌+◌, ◌-◌, ◌<◌, ◌≤◌, min, List, [], ◌++◌, length, take, drop, sym, ap, subst, ◌∙◌, arith, length-append, length-drop}
use Rattle.std.proofs.lemmas.List.{take-append-drop, take-append-le, take_all, take_rest, drop-drop, drop_all, length-take-le}

-- the first n bytes stand at the front of a buffer that they were copied to
front_again : (xs more : List ℕ) (n : ℕ) → n ≤ length xs → take n (take n xs ++ more) ≡ take n xs
front_again xs more n within =
    let full : length (take n xs) ≡ n = length-take-le n xs within in
    take-append-le n (take n xs) more (omega arith) ∙ take_all n (take n xs) (omega arith)

-- what was left is the front of the buffer, and then what is left now
front_then_rest : (left more : List ℕ) (n : ℕ) → n ≤ length left → left ≡ take n (take n left ++ more) ++ drop n left
front_then_rest left more n within =
    sym (ap (λ (t : List ℕ). t ++ drop n left) (front_again left more n within) ∙ take-append-drop n left)

-- no byte went to a buffer with room only where none is left
none_left : (left into : List ℕ) (n : ℕ) → n ≡ min (length into) (length left) → n ≡ 0 → 0 < length (take n left ++ drop n into) → drop n left ≡ []
none_left left into n e none some =
    let joined : length (take n left ++ drop n into) ≡ length (take n left) + length (drop n into) = length-append (take n left) (drop n into) in
    let fits : length (take n left) ≡ n = length-take-le n left (omega arith) in
    let room : length (drop n into) ≡ length into - n = length-drop n into in
    drop_all n left (omega arith)

-- the first n bytes that were left came to the front of a buffer, and the others are left
pub record Moves (old into piece rest : List ℕ) (n : ℕ) : Type 0 where
  pub bytes : old ≡ take n (piece ++ drop n into) ++ rest
  pub ending : n ≡ 0 → 0 < length (piece ++ drop n into) → rest ≡ []

-- the same of a list that is known whole
moves_front : (left into : List ℕ) (n : ℕ) → n ≡ min (length into) (length left) → Moves left into (take n left) (drop n left) n
moves_front left into n e = record {
  bytes = front_then_rest left (drop n into) n (omega arith);
  ending = none_left left into n e;
}

-- the same of a list that is a range of a slice
pub moves_range : (old bytes all into piece : List ℕ) (at n : ℕ) → old ≡ drop at bytes → all ≡ bytes
    → n ≡ min (length into) (length (take (length all - at) (drop at all))) → piece ≡ take n (take (length all - at) (drop at all))
    → Moves old into piece (drop (at + n) bytes) n
moves_range old bytes all into piece at n o a e p =
    let whole : take (length all - at) (drop at all) ≡ old = take_rest all at ∙ ap (λ (t : List ℕ). drop at t) a ∙ sym o in
    let rest : drop n old ≡ drop (at + n) bytes = ap (λ (t : List ℕ). drop n t) o ∙ drop-drop n at bytes in
    let count : n ≡ min (length into) (length old) = e ∙ ap (λ (t : List ℕ). min (length into) (length t)) whole in
    let copied : take n old ≡ piece = sym (p ∙ ap (λ (t : List ℕ). take n t) whole) in
    subst (λ (t : List ℕ). Moves old into piece t n) rest (subst (λ (t : List ℕ). Moves old into t (drop n old) n) copied (moves_front old into n count))
