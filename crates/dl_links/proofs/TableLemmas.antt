-- What is kept of files after one of them is written.
use Rattle.std.proofs.Common.{◌≡◌, ℕ, Bool, true, false, cond, ◌&&◌, List, [], ◌∷◌, ◌++◌, Option, Some, None, true≢false, length, ◌≤◌, vec_capacity, arith, refl, sym, ◌∙◌, ap, subst}
use Rattle.std.specs.Map.{lookup}
use Rattle.dl_types.specs.declared.address.Address.{Address}
use Rattle.dl_types.specs.declared.address.Address.TheVariants.{Client, Bookie, Meta}
use Rattle.dl_types.specs.contracts.address.AddressPartialEq.TheImpl as address
use Rattle.dl_machine.specs.Lines.{is_end}
use Rattle.dl_links.specs.declared.file.File.{File}
use Rattle.dl_links.specs.declared.file.File.TheVariants.{Link, Inbox}
use Rattle.dl_links.specs.declared.filed.Filed.{Filed}
use Rattle.dl_links.specs.contracts.file.FilePartialEq.TheImpl as file
use Rattle.dl_links.specs.Filing.{is_file}
use Rattle.dl_links.specs.Waiting.{AreGone}
use Rattle.dl_links.specs.Tables.{filed_at, places_of, gone_of, HasRoomFor, HasRoom, Stays, Pushes, Passes}
use Rattle.dl_links.proofs.FileLemmas.{file_same, file_self}

-- the test of ends that code makes
pub end_test : (a b : Address) → (address.eq-value).it a b ≡ is_end a b
end_test (Client c) (Client d) = refl
end_test (Client c) (Bookie d) = refl
end_test (Client c) Meta = refl
end_test (Bookie b) (Client d) = refl
end_test (Bookie b) (Bookie d) = refl
end_test (Bookie b) Meta = refl
end_test Meta (Client d) = refl
end_test Meta (Bookie d) = refl
end_test Meta Meta = refl

-- the test of files that code makes
file_test : (f g : File) → (file.eq-value).it f g ≡ is_file f g
file_test (Link a b) (Link c d) = λ i. end_test a c i && end_test b d i
file_test (Link a b) (Inbox c t) = refl
file_test (Inbox a s) (Link c d) = refl
file_test (Inbox a s) (Inbox c t) = ap (λ x. x && Rattle.std.proofs.Common.eqb s t) (end_test a c)

-- both tests are one
same_test : (file.eq-value).it ≡ is_file
same_test i f g = file_test f g i

-- what code finds of a file is kept of it
pub found : (entries start : List (File × Filed)) (f : File) (was : Option Filed) → entries ≡ start
    → was ≡ lookup ((file.eq-value).it f) entries → filed_at start f ≡ was
found entries start f was is had =
    ap (λ (es : List (File × Filed)). filed_at es f) (sym is)
    ∙ sym (subst (λ (e : File → File → Bool). was ≡ lookup (e f) entries) same_test had)

-- One file was written, and no other one.
pub record Written (old new : List (File × Filed)) (f : File) (was now : Option Filed) : Type 0 where
  pub had : filed_at old f ≡ was
  pub each : (q : File) → filed_at new q ≡ cond (is_file f q) now (filed_at old q)

-- what code writes of a file
pub written : (old new start : List (File × Filed)) (f : File) (was now : Option Filed) → old ≡ start
    → was ≡ lookup ((file.eq-value).it f) old
    → ((q : File) → lookup ((file.eq-value).it q) new ≡ cond ((file.eq-value).it f q) now (lookup ((file.eq-value).it q) old))
    → Written start new f was now
written old new start f was now is had each =
    record {
      had = found old start f was is had;
      each = λ q. subst (λ (e : File → File → Bool). lookup (e q) new ≡ cond (e f q) now (lookup (e q) old)) same_test (each q)
          ∙ ap (λ (es : List (File × Filed)). cond (is_file f q) now (filed_at es q)) is;
    }

-- what holds of the file that was written, and of each that stays, holds of all
pub each_file : (old new : List (File × Filed)) (f : File) (was now : Option Filed) (P : Bool → Option Filed → Option Filed → Type 0)
    → Written old new f was now → P true was now → ((o : Option Filed) → P false o o)
    → (q : File) → P (is_file f q) (filed_at old q) (filed_at new q)
each_file old new f was now P h here others q = go (is_file f q) refl
  where
    go : (b : Bool) → is_file f q ≡ b → P b (filed_at old q) (filed_at new q)
    go true w =
        let before : was ≡ filed_at old q = sym h.had ∙ ap (filed_at old) (file_same f q w) in
        let after : now ≡ filed_at new q = sym (h.each q ∙ ap (λ b. cond b now (filed_at old q)) w) in
        subst (λ (o : Option Filed). P true (filed_at old q) o) after (subst (λ (o : Option Filed). P true o now) before here)
    go false w =
        let after : filed_at old q ≡ filed_at new q = sym (h.each q ∙ ap (λ b. cond b now (filed_at old q)) w) in
        subst (λ (o : Option Filed). P false (filed_at old q) o) after (others (filed_at old q))

-- room was made in a file
pub stays_written : (old new : List (File × Filed)) (f : File) (was : Option Filed) (now : Filed) → Written old new f was (Some now)
    → now.places.items ≡ places_of was → now.gone ≡ gone_of was → (HasRoomFor was → HasRoomFor (Some now)) → Stays old new
stays_written old new f was now h places gone room =
    record {
      places = each_file old new f was (Some now) (λ b o p. places_of p ≡ places_of o) h places (λ o. refl);
      gone = each_file old new f was (Some now) (λ b o p. gone_of p ≡ gone_of o) h gone (λ o. refl);
      room = each_file old new f was (Some now) (λ b o p. HasRoomFor o → HasRoomFor p) h room (λ o there. there);
    }

-- the file in which room was made has room
pub room_written : (old new : List (File × Filed)) (f : File) (was : Option Filed) (now : Filed) → Written old new f was (Some now)
    → HasRoomFor (Some now) → HasRoom new f
room_written old new f was now h room =
    let after : Some now ≡ filed_at new f = sym (h.each f ∙ ap (λ b. cond b (Some now) (filed_at old f)) (file_self f)) in
    subst HasRoomFor after room

-- a place was put into a file
pub pushes_written : (old new : List (File × Filed)) (f : File) (was now : Filed) (place : ℕ) → Written old new f (Some was) (Some now)
    → now.places.items ≡ was.places.items ++ place ∷ [] → now.gone ≡ was.gone → Pushes old new f place
pushes_written old new f was now place h places gone =
    record {
      places = each_file old new f (Some was) (Some now)
          (λ b o p. places_of p ≡ cond b (places_of o ++ place ∷ []) (places_of o)) h places (λ o. refl);
      gone = each_file old new f (Some was) (Some now) (λ b o p. gone_of p ≡ gone_of o) h gone (λ o. refl);
      room = each_file old new f (Some was) (Some now) (λ b o p. b ≡ false → HasRoomFor o → HasRoomFor p) h
          (λ no there. absurd (true≢false no)) (λ o no there. there);
    }

-- what is past in a file moved up
pub passes_written : (delivered : List Bool) (old new : List (File × Filed)) (f : File) (was now : Filed) → Written old new f (Some was) (Some now)
    → now.places.items ≡ was.places.items → AreGone delivered now.places.items now.gone → Passes delivered old new
passes_written delivered old new f was now h places gone =
    record {
      places = each_file old new f (Some was) (Some now) (λ b o p. places_of p ≡ places_of o) h places (λ o. refl);
      gone = each_file old new f (Some was) (Some now)
          (λ b o p. AreGone delivered (places_of o) (gone_of o) → AreGone delivered (places_of p) (gone_of p)) h (λ before. gone) (λ o before. before);
    }

-- a file that was made with room has room
pub empty_has_room : (now : Filed) → now.places.items ≡ [] → 1 ≤ vec_capacity now.places → HasRoomFor (Some now)
empty_has_room now empty room = omega (arith, room, now.places.ok.0, ap length empty)

-- room is made twice
pub stays_twice : (a b d : List (File × Filed)) → Stays a b → Stays b d → Stays a d
stays_twice a b d first second =
    record {
      places = λ f. second.places f ∙ first.places f;
      gone = λ f. second.gone f ∙ first.gone f;
      room = λ f there. second.room f (first.room f there);
    }

-- what is past moves up twice
pub passes_twice : (delivered : List Bool) (a b d : List (File × Filed)) → Passes delivered a b → Passes delivered b d → Passes delivered a d
passes_twice delivered a b d first second =
    record { places = λ f. second.places f ∙ first.places f; gone = λ f before. second.gone f (first.gone f before) }
