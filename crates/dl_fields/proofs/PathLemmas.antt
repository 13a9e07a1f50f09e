-- Paths and names are read exactly.
use Rattle.std.proofs.Common.{◌≡◌, ℕ, suc, ◌+◌, ◌≤◌, ◌<◌, Bool, true, false, cond, eqb, ltb, not, ◌&&◌, List, [], ◌∷◌}
use Rattle.std.proofs.Common.{◌++◌, length, Option, Some, None, Result, inl, inr, refl, ap, ◌∙◌, arith, length-append}
use Rattle.std.specs.List.{AllByRecursion}
use Rattle.std.specs.Int.{w16}
use Rattle.std.proofs.lemmas.Bool.{eqb-true, cases_eq, ne_eqb}
use Rattle.std.proofs.lemmas.Bool.Decides.{nat_tests}
use Rattle.dl_codec.specs.Fields.{field}
use Rattle.dl_fields.specs.declared.fault.Fault.{Fault}
use Rattle.dl_fields.specs.Readers.{Exact}
use Rattle.dl_fields.specs.Fields.{counted_field_from, counted_field, IsCounted}
use Rattle.dl_fields.specs.Paths.{is_part_byte, IsPart, with_slashes, IsPath, flaw_behind, path_flaw, part_flaw}
use Rattle.dl_fields.specs.Paths.{some_from, path_from, name_from, is_stem, stem_from, IsPathField, IsStemField}
use Rattle.dl_fields.specs.Laws.{PathsAreExact}
use Rattle.dl_fields.proofs.ReaderLemmas.{with_test_exact, without_flaw_exact}
use Rattle.dl_fields.proofs.FieldLemmas.{run16_exact}

-- so many bytes of a part, and the rest of it
record Rest (n : ℕ) (part : List ℕ) : Type 0 where
  pub some : 0 < n + length part
  pub few : n + length part ≤ 80
  pub bytes : AllByRecursion (λ c. is_part_byte c ≡ true) part

-- the rest of a part, and further parts
abbrev Goes : ℕ → List ℕ → Type 0
Goes n path = (part : List ℕ) × (parts : List (List ℕ)) × (path ≡ part ++ with_slashes parts) × Rest n part × AllByRecursion IsPart parts

-- what goes on to its end is a part
part_of : (part : List ℕ) → Rest 0 part → IsPart part
part_of part r = record { some = omega (arith, r.some); few = omega (arith, r.few); bytes = r.bytes }

-- a part goes on to its end
rest_of : (part : List ℕ) → IsPart part → Rest 0 part
rest_of part r = record { some = omega (arith, r.some); few = omega (arith, r.few); bytes = r.bytes }

-- a slash is no byte of a part
slash_is_none : (c : ℕ) → c ≡ 47 → is_part_byte c ≡ false
slash_is_none c e = rw e refl

-- bytes without a flaw go on behind one more byte
goes_step : (n c : ℕ) (cs : List ℕ) → n ≤ 80
    → (flaw_behind 0 cs ≡ None → Goes 0 cs) → (suc n ≤ 80 → flaw_behind (suc n) cs ≡ None → Goes (suc n) cs)
    → (a b t u : Bool) → eqb c 47 ≡ a → eqb n 0 ≡ b → is_part_byte c ≡ t → ltb n 80 ≡ u
    → cond a (cond b (Some (suc (length cs))) (flaw_behind 0 cs)) (cond (t && u) (flaw_behind (suc n) cs) (Some (suc (length cs)))) ≡ None
    → Goes n (c ∷ cs)
goes_step n c cs le ends goes true true t u ea eb et eu e = absurd cc
goes_step n c cs le ends goes true false t u ea eb et eu e =
    let g = ends e in
    let here : c ≡ 47 = eqb-true c 47 ea in
    let some : 0 < n = grind (arith, nat_tests, eb) in
    let text : c ∷ cs ≡ [] ++ with_slashes (g.0 ∷ g.1) = ap (λ (l : List ℕ). c ∷ l) g.2 ∙ ap (λ (x : ℕ). x ∷ (g.0 ++ with_slashes g.1)) here in
    ([], g.0 ∷ g.1, text, record { some = omega (arith, some); few = omega (arith, le); bytes = tt }, (part_of g.0 g.3, g.4))
goes_step n c cs le ends goes false b true true ea eb et eu e =
    let g = goes (grind (arith, nat_tests, eu)) e in
    (c ∷ g.0, g.1, ap (λ (l : List ℕ). c ∷ l) g.2, record { some = omega arith; few = omega (arith, g.3.few); bytes = (et, g.3.bytes) }, g.4)
goes_step n c cs le ends goes false b true false ea eb et eu e = absurd cc
goes_step n c cs le ends goes false b false u ea eb et eu e = absurd cc

-- a part of some bytes may end
goes_end : (n : ℕ) → n ≤ 80 → (b : Bool) → eqb n 0 ≡ b → cond {A = Option ℕ} b (Some 1) None ≡ None → Goes n []
goes_end n le true eb e = absurd cc
goes_end n le false eb e = let some : 0 < n = grind (arith, nat_tests, eb) in
    ([], [], refl, record { some = omega (arith, some); few = omega (arith, le); bytes = tt }, tt)

-- bytes without a flaw go on to their end
flaw_none : (cs : List ℕ) (n : ℕ) → n ≤ 80 → flaw_behind n cs ≡ None → Goes n cs
flaw_none [] n le e = goes_end n le (eqb n 0) refl e
flaw_none (c ∷ cs) n le e =
    goes_step n c cs le (λ h. flaw_none cs 0 (omega arith) h) (λ less h. flaw_none cs (suc n) less h) (eqb c 47) (eqb n 0) (is_part_byte c)
    (ltb n 80) refl refl refl refl e

-- bytes without a flaw behind a first slash are a path
sound_go : (c : ℕ) (cs : List ℕ) (a b : Bool) → eqb c 47 ≡ a → eqb (length cs) 0 ≡ b
    → cond (not a) (Some (suc (length cs))) (cond b None (flaw_behind 0 cs)) ≡ None → IsPath (c ∷ cs)
sound_go c cs false b ea eb e = absurd cc
sound_go c [] true b ea eb e = ([], tt, ap (λ (x : ℕ). x ∷ []) (eqb-true c 47 ea))
sound_go c (d ∷ cs) true true ea eb e = absurd (let wrong : eqb (suc (length cs)) 0 ≡ true = eb in grind (arith, nat_tests, wrong))
sound_go c (d ∷ cs) true false ea eb e =
    let g = flaw_none (d ∷ cs) 0 (omega arith) e in
    (g.0 ∷ g.1, (part_of g.0 g.3, g.4), ap (λ (l : List ℕ). c ∷ l) g.2 ∙ ap (λ (x : ℕ). x ∷ (g.0 ++ with_slashes g.1)) (eqb-true c 47 ea))

-- A path without a flaw has the form.
pub sound : (path : List ℕ) → 0 < length path → path_flaw path ≡ None → IsPath path
sound [] some e = absurd (omega (arith, some))
sound (c ∷ cs) some e = sound_go c cs (eqb c 47) (eqb (length cs) 0) refl refl e

-- a byte of a part is no slash
no_slash : (c : ℕ) → is_part_byte c ≡ true → eqb c 47 ≡ false
no_slash c h = elim (cases_eq c 47) [ inl e ↦ absurd (let wrong = slash_is_none c e in cc) | inr ne ↦ ne_eqb c 47 ne ]

-- a byte of a part has no flaw where the bytes behind it have none
none_go : (n c : ℕ) (cs : List ℕ) → is_part_byte c ≡ true → n < 80 → flaw_behind (suc n) cs ≡ None → flaw_behind n (c ∷ cs) ≡ None
none_go n c cs byte few e = rw (no_slash c byte) (rw byte (rw (let t : ltb n 80 ≡ true = grind (arith, nat_tests, few) in t) e))

-- the rest of a part and further parts have no flaw
goes_none : (part : List ℕ) (parts : List (List ℕ)) (n : ℕ) → Rest n part → AllByRecursion IsPart parts → flaw_behind n (part ++ with_slashes parts) ≡ None
goes_none [] [] n r all = let some : eqb n 0 ≡ false = grind (arith, nat_tests, r.some) in rw some refl
goes_none [] (p ∷ ps) n r all = let some : eqb n 0 ≡ false = grind (arith, nat_tests, r.some) in rw some (goes_none p ps 0 (rest_of p all.0) all.1)
goes_none (c ∷ part) parts n r all =
    none_go n c (part ++ with_slashes parts) r.bytes.0 (omega (arith, r.few))
    (goes_none part parts (suc n) (record { some = omega arith; few = omega (arith, r.few); bytes = r.bytes.1 }) all)

-- The path of parts has no flaw.
pub complete : (path : List ℕ) → IsPath path → path_flaw path ≡ None
complete path ([], all, e) = rw e refl
complete path (p ∷ ps, all, e) = rw e (go p (all.0).some (goes_none p ps 0 (rest_of p all.0) all.1))
  where
    go : (q : List ℕ) → 0 < length q → flaw_behind 0 (q ++ with_slashes ps) ≡ None → path_flaw (47 ∷ (q ++ with_slashes ps)) ≡ None
    go [] some h = absurd (omega (arith, some))
    go (c ∷ q) some h = let more : eqb (suc (length (q ++ with_slashes ps))) 0 ≡ false = grind (arith, nat_tests) in rw more h

-- a flaw stands within the path
back_behind : (cs : List ℕ) (n back : ℕ) → flaw_behind n cs ≡ Some back → back ≤ suc (length cs)
back_behind [] n back e = go (eqb n 0) e
  where
    go : (b : Bool) → cond {A = Option ℕ} b (Some 1) None ≡ Some back → back ≤ 1
    go true h = let is : 1 ≡ back = cc in omega (arith, is)
    go false h = absurd cc
back_behind (c ∷ cs) n back e = go (eqb c 47) (eqb n 0) (is_part_byte c && ltb n 80) e (back_behind cs 0 back) (back_behind cs (suc n) back)
  where
    go : (a b t : Bool) → cond a (cond b (Some (suc (length cs))) (flaw_behind 0 cs))
        (cond t (flaw_behind (suc n) cs) (Some (suc (length cs)))) ≡ Some back → (flaw_behind 0 cs ≡ Some back → back ≤ suc (length cs))
        → (flaw_behind (suc n) cs ≡ Some back → back ≤ suc (length cs)) → back ≤ suc (suc (length cs))
    go true true t h x y = let is : suc (length cs) ≡ back = cc in omega (arith, is)
    go true false t h x y = omega (arith, x h)
    go false b true h x y = omega (arith, y h)
    go false b false h x y = let is : suc (length cs) ≡ back = cc in omega (arith, is)

-- The flaw of a path stands within it.
pub path_back : (path : List ℕ) (back : ℕ) → path_flaw path ≡ Some back → back ≤ length path
path_back [] back e = absurd cc
path_back (c ∷ cs) back e = go (eqb c 47) (eqb (length cs) 0) e
  where
    go : (a b : Bool) → cond (not a) (Some (suc (length cs))) (cond b None (flaw_behind 0 cs)) ≡ Some back → back ≤ suc (length cs)
    go false b h = let is : suc (length cs) ≡ back = cc in omega (arith, is)
    go true true h = absurd cc
    go true false h = back_behind cs 0 back h

-- ---- names

-- a part without a flaw has 80 bytes at most, and all of them may stand in one
part_none : (part : List ℕ) (n : ℕ) → n ≤ 80 → part_flaw n part ≡ None → (n + length part ≤ 80) × AllByRecursion (λ c. is_part_byte c ≡ true) part
part_none [] n le e = (omega (arith, le), tt)
part_none (c ∷ cs) n le e = go (is_part_byte c) (ltb n 80) refl refl e (λ less. part_none cs (suc n) less)
  where
    go : (t u : Bool) → is_part_byte c ≡ t → ltb n 80 ≡ u → cond (t && u) (part_flaw (suc n) cs) (Some (suc (length cs))) ≡ None
        → (suc n ≤ 80 → part_flaw (suc n) cs ≡ None → (suc n + length cs ≤ 80) × AllByRecursion (λ c. is_part_byte c ≡ true) cs)
        → (n + suc (length cs) ≤ 80) × AllByRecursion (λ c. is_part_byte c ≡ true) (c ∷ cs)
    go true true t u h ih = let i = ih (grind (arith, nat_tests, u)) h in (omega (arith, i.0), (t, i.1))
    go true false t u h ih = absurd cc
    go false u' t u h ih = absurd cc

-- 80 bytes at most that may stand in a part have no flaw
part_has_none : (part : List ℕ) (n : ℕ) → n + length part ≤ 80 → AllByRecursion (λ c. is_part_byte c ≡ true) part → part_flaw n part ≡ None
part_has_none [] n le all = refl
part_has_none (c ∷ cs) n le all =
    rw all.0 (rw (let t : ltb n 80 ≡ true = grind (arith, nat_tests, le) in t) (part_has_none cs (suc n) (omega (arith, le)) all.1))

-- the flaw of a part stands within it
part_back : (part : List ℕ) (n back : ℕ) → part_flaw n part ≡ Some back → back ≤ length part
part_back [] n back e = absurd cc
part_back (c ∷ cs) n back e = go (is_part_byte c && ltb n 80) e (part_back cs (suc n) back)
  where
    go : (t : Bool) → cond t (part_flaw (suc n) cs) (Some (suc (length cs))) ≡ Some back → (part_flaw (suc n) cs ≡ Some back → back ≤ length cs)
        → back ≤ suc (length cs)
    go true h ih = omega (arith, ih h)
    go false h ih = let is : suc (length cs) ≡ back = cc in omega (arith, is)

-- ---- the readers

-- a reader that is exact for one condition is exact for another that says the same
pub exact_as : {A : Type 0} {V W : A → Type 0} {p : A → List ℕ} {r : List ℕ → Result (A × List ℕ) Fault} → Exact V p r → ((a : A) → V a → W a)
    → ((a : A) → W a → V a) → Exact W p r
exact_as exact to from = record {
  found = λ bytes a rest fits e. let f = exact.found bytes a rest fits e in (to a f.0, f.1);
  again = λ a rest w. exact.again a rest (from a w);
  within = exact.within;
}

-- bytes behind their length, at least one, are read exactly
some_exact : Exact (λ run. IsCounted w16 run × (not (eqb (length run) 0) ≡ true)) (counted_field w16) some_from
some_exact = with_test_exact (IsCounted w16) (counted_field w16) (counted_field_from w16) (λ run. not (eqb (length run) 0)) run16_exact

-- a number that is not 0 is above it
some_bytes : (n : ℕ) → not (eqb n 0) ≡ true → 0 < n
some_bytes n h = grind (arith, nat_tests, h)

-- a number above 0 is not 0
some_test : (n : ℕ) → 0 < n → not (eqb n 0) ≡ true
some_test n h = grind (arith, nat_tests, h)

-- a path has a byte
path_some : (path : List ℕ) → IsPath path → 0 < length path
path_some path ([], all, e) = rw e (omega arith)
path_some path (p ∷ ps, all, e) = rw e (omega arith)

-- behind its length
counted_field_long : (run : List ℕ) (back : ℕ) → back ≤ length run → back ≤ length (counted_field w16 run)
counted_field_long run back le = omega (arith, le, length-append (field w16 (length run)) run)

-- Paths are read exactly.
pub path_exact : Exact IsPathField (counted_field w16) path_from
path_exact = exact_as (without_flaw_exact _ (counted_field w16) some_from path_flaw (λ a back e. counted_field_long a back (path_back a back e)) some_exact)
    (λ path v. (sound path (some_bytes (length path) v.0.1) v.1, v.0.0))
    (λ path w. ((w.1, some_test (length path) (path_some path w.0)), complete path w.0))

-- Paths to which ten digits may be added are read exactly.
pub stem_exact : Exact IsStemField (counted_field w16) stem_from
stem_exact = with_test_exact IsPathField (counted_field w16) path_from is_stem path_exact

-- Names of listings are read exactly.
pub name_exact : Exact IsPart (counted_field w16) name_from
name_exact = exact_as (without_flaw_exact _ (counted_field w16) some_from (part_flaw 0)
    (λ a back e. counted_field_long a back (part_back a 0 back e)) some_exact)
    (λ part v. let n = part_none part 0 (omega arith) v.1 in record { some = some_bytes (length part) v.0.1; few = omega (arith, n.0); bytes = n.1 })
    (λ part w. ((omega (arith, w.few), some_test (length part) w.some), part_has_none part 0 (omega (arith, w.few)) w.bytes))

-- Paths, stems and names are read exactly, and the flaw of a path is none exactly where it has the form.
pub paths_exact : PathsAreExact
paths_exact = record { path = path_exact; stem = stem_exact; name = name_exact; sound = sound; complete = complete }
