-- The places of the letters of a file.
use Rattle.std.proofs.Common.{◌≡◌, ℕ, zero, suc, ◌+◌, ◌-◌, Bool, true, false, not, cond, ◌==◌, List, [], ◌∷◌, ◌++◌, length, Option, Some, slice_get, refl, ◌∙◌, ap, arith, eqb-true}
use Rattle.dl_types.specs.declared.address.Address.{Address}
use Rattle.dl_msg.specs.declared.letter.Letter.{Letter}
use Rattle.dl_machine.specs.Lines.{place_from, is_on}
use Rattle.dl_links.specs.declared.file.File.{File}
use Rattle.dl_links.specs.declared.file.File.TheVariants.{Link}
use Rattle.dl_links.specs.Filing.{is_filed, places_from}

-- a place before those that come, with one more behind them or without
push_step : (b t : Bool) (place n m : ℕ) (old new : List ℕ) → new ≡ cond t (old ++ n ∷ []) old → n ≡ m
    → cond b (place ∷ new) new ≡ cond t (cond b (place ∷ old) old ++ m ∷ []) (cond b (place ∷ old) old)
push_step true true place n m old new e is = ap (λ ps. place ∷ ps) (e ∙ ap (λ k. old ++ k ∷ []) is)
push_step true false place n m old new e is = ap (λ ps. place ∷ ps) e
push_step false true place n m old new e is = e ∙ ap (λ k. old ++ k ∷ []) is
push_step false false place n m old new e is = e

-- the places of letters with one more
pub places_push : (f : File) (place : ℕ) (ls : List Letter) (l : Letter)
    → places_from f place (ls ++ l ∷ [])
    ≡ cond (is_filed f l) (places_from f place ls ++ (place + length ls) ∷ []) (places_from f place ls)
places_push f place [] l = ap (λ n. cond (is_filed f l) (n ∷ []) []) (omega arith)
places_push f place (y ∷ ys) l =
    push_step (is_filed f y) (is_filed f l) place (suc place + length ys) (place + length (y ∷ ys)) (places_from f (suc place) ys)
    (places_from f (suc place) (ys ++ l ∷ [])) (places_push f (suc place) ys l) (omega arith)

-- a number with one before it isn't 0
suc_not_zero : (n : ℕ) → (suc n == 0) ≡ false
suc_not_zero n = go (suc n == 0) refl
  where
    go : (b : Bool) → (suc n == 0) ≡ b → b ≡ false
    go false w = refl
    go true w = let is : suc n ≡ 0 = eqb-true (suc n) 0 w in absurd (omega arith)

-- a letter that is on the link or isn't, and the places behind it
place_step : (b : Bool) (n place : ℕ) (rest behind : Option ℕ) (places : List ℕ) → rest ≡ slice_get places n
    → ((m : ℕ) → n ≡ suc m → behind ≡ slice_get places m)
    → cond (not b) rest (cond (n == 0) (Some place) behind) ≡ slice_get (cond b (place ∷ places) places) n
place_step false n place rest behind places e h = e
place_step true zero place rest behind places e h = refl
place_step true (suc n) place rest behind places e h = ap (λ b. cond b (Some place) behind) (suc_not_zero n) ∙ h n refl

-- the letter of a link before which so many others stand is at that place of its places
pub place_is : (from to : Address) (place n : ℕ) (ls : List Letter)
    → place_from from to place n ls ≡ slice_get (places_from (Link from to) place ls) n
unfolding place_from
place_is from to place zero [] = refl
place_is from to place (suc n) [] = refl
place_is from to place n (l ∷ ls) =
    place_step (is_on from to l) n place (place_from from to (suc place) n ls) (place_from from to (suc place) (n - 1) ls)
    (places_from (Link from to) (suc place) ls) (place_is from to (suc place) n ls)
    (λ m is. ap (λ k. place_from from to (suc place) (k - 1) ls) is ∙ ap (λ k. place_from from to (suc place) k ls) (one_less m)
    ∙ place_is from to (suc place) m ls)
  where
    one_less : (m : ℕ) → suc m - 1 ≡ m
    one_less m = omega arith
