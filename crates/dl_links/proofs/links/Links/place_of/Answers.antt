use Rattle.std.proofs.Common.{◌≡◌, ℕ, zero, suc, ◌-◌, List, slice_get, refl, ap, sym, ◌∙◌, arith}
use Rattle.dl_types.specs.declared.address.Address.{Address}
use Rattle.dl_msg.specs.declared.letter.Letter.{Letter}
use Rattle.dl_machine.specs.Lines.{place_of, place_from}
use Rattle.dl_links.specs.declared.file.File.{File}
use Rattle.dl_links.specs.declared.file.File.TheVariants.{Link}
use Rattle.dl_links.specs.declared.filed.Filed.{Filed}
use Rattle.dl_links.specs.Filing.{places_from}
use Rattle.dl_links.specs.Tables.{places_in}
use Rattle.dl_links.specs.Sent.{Sent}
use Rattle.dl_links.proofs.PlaceLemmas.{place_is}
use Rattle.dl_links.proofs.links.Links.place_of.Goals as goal

-- numbers count from 1
numbered : (letters : List Letter) (from to : Address) (number : ℕ) → (number ≡ 0 → ⊥)
    → place_from from to 0 (number - 1) letters ≡ place_of letters from to number
numbered letters from to zero some = absurd (some refl)
numbered letters from to (suc n) some = let less : suc n - 1 ≡ n = omega arith in ap (λ k. place_from from to 0 k letters) less

-- the place that the link's file has is that of the letter with the number
place_there : (letters : List Letter) (entries : List (File × Filed)) (from to : Address) (number : ℕ) → (number ≡ 0 → ⊥)
    → ((f : File) → places_in entries f ≡ places_from f 0 letters)
    → slice_get (places_in entries (Link from to)) (number - 1) ≡ place_of letters from to number
place_there letters entries from to number some places =
    ap (λ ps. slice_get ps (number - 1)) (places (Link from to)) ∙ sym (place_is from to 0 (number - 1) letters) ∙ numbered letters from to number some

pub returns-in-Some : goal.returns-in-Some
returns-in-Some c =
    c.in-Some.ensures
    ∙ place_there c.self.inside.letters.items c.self.inside.files c.args.from c.args.to c.args.number c.if-number-eq0.false c.self.invariant.places
    ∙ ap (λ (x : Sent). place_of x.letters c.args.from c.args.to c.args.number) c.self.view_is

pub returns-in-None : goal.returns-in-None
returns-in-None c =
    c.in-None.ensures
    ∙ place_there c.self.inside.letters.items c.self.inside.files c.args.from c.args.to c.args.number c.if-number-eq0.false c.self.invariant.places
    ∙ ap (λ (x : Sent). place_of x.letters c.args.from c.args.to c.args.number) c.self.view_is
