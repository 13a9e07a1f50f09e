-- The first of several files.
use Rattle.std.proofs.Common.{◌≡◌, ℕ, ◌+◌, ◌<◌, Bool, List, [], ◌∷◌, ◌++◌, length, take, get_or, Option, Some, None, refl, sym, ◌∙◌, ap, arith, add-one}
use Rattle.std.proofs.Math.Seq.{take-suc}
use Rattle.dl_links.specs.declared.file.File.{File}
use Rattle.dl_links.specs.declared.filed.Filed.{Filed}
use Rattle.dl_links.specs.Waiting.{first_waiting, earlier}
use Rattle.dl_links.specs.Tables.{places_in, first_in}

-- nothing is later than what is there
earlier_none : (a : Option ℕ) → earlier a None ≡ a
earlier_none None = refl
earlier_none (Some p) = refl

-- the earlier of three
earlier_assoc : (a b d : Option ℕ) → earlier (earlier a b) d ≡ earlier a (earlier b d)
earlier_assoc None b d = refl
earlier_assoc (Some p) None d = refl
earlier_assoc (Some p) (Some q) None = refl
earlier_assoc (Some p) (Some q) (Some r) = ap Some (omega arith)

-- the first of files with one more
first_in_push : (delivered : List Bool) (entries : List (File × Filed)) (fs : List File) (f : File)
    → first_in delivered entries (fs ++ f ∷ []) ≡ earlier (first_in delivered entries fs) (first_waiting delivered (places_in entries f))
first_in_push delivered entries [] f = earlier_none (first_waiting delivered (places_in entries f))
first_in_push delivered entries (g ∷ fs) f =
    ap (earlier (first_waiting delivered (places_in entries g))) (first_in_push delivered entries fs f)
    ∙ sym (earlier_assoc (first_waiting delivered (places_in entries g)) (first_in delivered entries fs) (first_waiting delivered (places_in entries f)))

-- the first of the files up to one more
pub first_in_take : (delivered : List Bool) (entries : List (File × Filed)) (fs : List File) (k : ℕ) (f : File) → k < length fs → get_or fs k f ≡ f
    → first_in delivered entries (take (k + 1) fs) ≡ earlier (first_in delivered entries (take k fs)) (first_waiting delivered (places_in entries f))
first_in_take delivered entries fs k f inside is =
    ap (λ n. first_in delivered entries (take n fs)) (add-one k)
    ∙ ap (first_in delivered entries) (take-suc fs k f inside ∙ ap (λ g. take k fs ++ g ∷ []) is)
    ∙ first_in_push delivered entries (take k fs) f
