-- A piece copied out, part by part.
use Rattle.std.proofs.Common.{◌≡◌, ℕ, ◌+◌, List, ◌∷◌, ◌++◌, length, take, drop, sym, ap, ◌∙◌, arith, append_assoc}
use Rattle.std.specs.List.{concat}
use Rattle.std.proofs.lemmas.List.{length-append, length-take-le, length-drop}
use Rattle.std.proofs.lemmas.Slice.{take-put_mid}
use borrow.Rule.Slice.PartMut.{put_mid}

-- the next part and the rest fill what a buffer still lacks
part_fits : (at size : ℕ) (part : List ℕ) (parts rest : List (List ℕ)) → at + length (concat parts) ≡ size → parts ≡ part ∷ rest
    → at + length part + length (concat rest) ≡ size
part_fits at size part parts rest fits is = omega (arith, fits, ap (λ p. length (concat p)) is, length-append part (concat rest))

-- after the next part is copied, what the buffer holds and the parts left are still the whole piece
pub copied_joined : (into copied part total : List ℕ) (parts rest : List (List ℕ)) (at k : ℕ) → take at into ++ concat parts ≡ total
    → at + length (concat parts) ≡ length into
    → parts ≡ part ∷ rest → copied ≡ part → take (at + length part) (put_mid at k into copied) ++ concat rest ≡ total
copied_joined into copied part total parts rest at k joined fits is same =
    ap (λ front. front ++ concat rest)
    (take-put_mid at k into copied (at + length part) (ap (λ p. at + length p) (sym same)) (omega (arith, fits)) ∙ ap (λ p. take at into ++ p) same)
    ∙ append_assoc (take at into) part (concat rest)
    ∙ ap (λ p. take at into ++ concat p) (sym is)
    ∙ joined

-- after the next part is copied, the parts left still fill the buffer
pub copied_size : (into copied part : List ℕ) (parts rest : List (List ℕ)) (at k : ℕ) → at + length (concat parts) ≡ length into
    → parts ≡ part ∷ rest → copied ≡ part → k ≡ length part → at + length part + length (concat rest) ≡ length (put_mid at k into copied)
copied_size into copied part parts rest at k fits is same whole =
    let all = part_fits at (length into) part parts rest fits is in
    omega (
      arith,
      all,
      length-append (take at into) (copied ++ drop k (drop at into)),
      length-append copied (drop k (drop at into)),
      length-take-le at into (omega (arith, fits)),
      length-drop k (drop at into),
      length-drop at into,
      ap length same,
      whole,
    )
