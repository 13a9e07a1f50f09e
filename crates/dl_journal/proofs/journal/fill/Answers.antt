use Rattle.std.proofs.Common.{◌≡◌, ◌<◌, ◌+◌, ◌-◌, ◌++◌, [], ◌∷◌, ℕ, zero, suc, List, length, take, drop, set}
use Rattle.std.proofs.Common.{refl, sym, ◌∙◌, ap, arith, append_assoc, length-append, length-drop, length-take}
use Rattle.std.specs.Int.{w32, w64, to_be_bytes}
use Rattle.std.proofs.lemmas.List.{take_at, drop_at, set-append_right, drop-drop}
use Rattle.dl_journal.specs.Batches.{frame_of}
use Rattle.dl_journal.specs.Commits.{body_of}
use Rattle.dl_journal.proofs.journal.fill.Goals as goal

-- the last place of a list set
set_last : (ys : List ℕ) (n : ℕ) → length ys ≡ n + 1 → set ys n 0 ≡ take n ys ++ 0 ∷ []
set_last [] n long = absurd (omega (arith, long))
set_last (y ∷ []) zero long = refl
set_last (y ∷ z ∷ ys) zero long = absurd (omega (arith, long))
set_last (y ∷ ys) (suc n) long = ap (λ (l : List ℕ). y ∷ l) (set_last ys n (omega (arith, long)))

filled : (xs h l : List ℕ) → 13 < length xs → length h ≡ 8 → length l ≡ 4
    → set (take 8 (h ++ drop 8 xs) ++ (l ++ drop 4 (drop 8 (h ++ drop 8 xs)))) (length xs - 1) 0 ≡ (h ++ (l ++ take (length xs - 13) (drop 12 xs))) ++ 0 ∷ []
filled xs h l some eight four =
    let parts : take 8 (h ++ drop 8 xs) ++ (l ++ drop 4 (drop 8 (h ++ drop 8 xs))) ≡ (h ++ l) ++ drop 12 xs =
    ap (λ (a : List ℕ). a ++ (l ++ drop 4 (drop 8 (h ++ drop 8 xs)))) (take_at h (drop 8 xs) 8 eight)
    ∙ ap (λ (a : List ℕ). h ++ (l ++ drop 4 a)) (drop_at h (drop 8 xs) 8 eight)
    ∙ ap (λ (a : List ℕ). h ++ (l ++ a)) (drop-drop 4 8 xs) ∙ sym (append_assoc h l (drop 12 xs)) in
    let place : length xs - 1 - 12 ≡ length xs - 13 = omega arith in
    ap (λ (a : List ℕ). set a (length xs - 1) 0) parts
    ∙ set-append_right (h ++ l) (drop 12 xs) 12 (length xs - 1) 0 (omega (arith, length-append h l, eight, four)) (omega (arith, some))
    ∙ ap (λ (n : ℕ). (h ++ l) ++ set (drop 12 xs) n 0) place
    ∙ ap (λ (a : List ℕ). (h ++ l) ++ a) (set_last (drop 12 xs) (length xs - 13) (omega (arith, some, length-drop 12 xs)))
    ∙ sym (append_assoc (h ++ l) (take (length xs - 13) (drop 12 xs)) (0 ∷ []))
    ∙ ap (λ (a : List ℕ). a ++ 0 ∷ []) (append_assoc h l (take (length xs - 13) (drop 12 xs)))

pub returns : goal.returns
unfolding frame_of
returns c =
    let xs = c.args.frame.now in
    let first : c.copy_from_slice.new.self ≡ to_be_bytes w64 c.args.number = c.copy_from_slice.ensures.after ∙ c.to_be_bytes.ensures in
    let size : length xs - 1 - 12 ≡ length (body_of xs) = omega (arith, c.requires.some, length-take (length xs - 13) (drop 12 xs), length-drop 12 xs) in
    let second : c.copy_from_slice-2.new.self ≡ to_be_bytes w32 (length (body_of xs)) = c.copy_from_slice-2.ensures.after ∙ c.to_be_bytes-2.ensures
    ∙ ap (λ (n : ℕ). to_be_bytes w32 n) size in
    filled xs c.copy_from_slice.new.self c.copy_from_slice-2.new.self c.requires.some (ap length first) (ap length second)
    ∙ ap (λ (a : List ℕ). (a ++ (c.copy_from_slice-2.new.self ++ body_of xs)) ++ 0 ∷ []) first
    ∙ ap (λ (a : List ℕ). (to_be_bytes w64 c.args.number ++ (a ++ body_of xs)) ++ 0 ∷ []) second
