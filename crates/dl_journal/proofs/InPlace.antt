-- Where the bodies of a journal stand.
use Rattle.std.proofs.Common.{◌≡◌, ℕ, ◌+◌, List, ◌∷◌, ◌++◌, length, take, drop, ◌∙◌, ap, arith, append_assoc}
use Rattle.dl_journal.specs.declared.batch.Batch.{Batch}
use Rattle.dl_journal.specs.Batches.{magic, frame_of, spell, InRow, Spells}
use Rattle.dl_journal.proofs.Bytes.{drop_past, front_of, length-front, split_front, spell-append}
use Rattle.dl_journal.proofs.OneWay.{body_is}

-- each batch of a journal in a row has its body in the file, behind the gate and the head of its frame
pub in_place : (bytes : List ℕ) (gate next : ℕ) (before : List Batch) (batch : Batch) (later : List Batch) → InRow gate next before
    → Spells bytes (before ++ batch ∷ later)
    → take (length batch.body) (drop (gate + 1 + 12) bytes) ≡ batch.body
in_place bytes gate next before batch later row s =
    let frame = frame_of batch.number batch.body in
    let free = s.gate ∷ s.free in
    let back = spell later ++ free in
    let whole : bytes ≡ front_of before ++ 1 ∷ (frame ++ back) =
    s.spelled
    ∙ ap (λ (l : List ℕ). magic ++ l) (spell-append before (batch ∷ later) free)
    ∙ ap (λ (l : List ℕ). magic ++ (spell before ++ 1 ∷ l)) (append_assoc frame (spell later) free)
    ∙ split_front before (1 ∷ (frame ++ back)) in
    let place : gate + 1 + 12 ≡ length (front_of before) + 13 = omega (arith, row.place, length-front before) in
    ap (λ (l : List ℕ). take (length batch.body) (drop (gate + 1 + 12) l)) whole
    ∙ ap (λ (n : ℕ). take (length batch.body) (drop n (front_of before ++ 1 ∷ (frame ++ back)))) place
    ∙ ap (λ (l : List ℕ). take (length batch.body) l) (drop_past (front_of before) (1 ∷ (frame ++ back)) 13)
    ∙ body_is batch.number batch.body back
