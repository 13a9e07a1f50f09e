-- What a decoder says, where the fields of its node are read exactly.
use Rattle.std.proofs.Common.{◌≡◌, ℕ, ◌<◌, ◌^◌, nat_le, ◌&&◌, true, List, ◌++◌, length, Result, Ok, Err, refl, sym, ap, ◌∙◌, arith, lit<, lit≤}
use Rattle.std.specs.Int.{Width, byte_len, w8, w64}
use Rattle.std.proofs.lemmas.Bool.{and_parts, and_from, leb-true, le-leb}
use Rattle.dl_codec.specs.Fields.{field, IsBytes}
use Rattle.dl_codec.specs.Laws.{HasOneSpelling}
use Rattle.dl_codec.proofs.FieldLaws.{width_8, width_64}
use Rattle.dl_fields.specs.declared.fault.Fault.{Fault}
use Rattle.dl_fields.specs.Readers.{Exact}
use Rattle.dl_fields.specs.Fields.{number_from, Fits}
use Rattle.dl_fields.proofs.ReaderLemmas.{then_exact, made_exact, with_test_exact, whole_found, whole_again}
use Rattle.dl_fields.proofs.FieldLemmas.{number_exact}
use Rattle.dl_fields.proofs.PathLemmas.{exact_as}
use Rattle.dl_formats.specs.declared.fault.MetaBytesFault.{MetaBytesFault}
use Rattle.dl_formats.specs.NodeBytes.{IsBetween, with_version}
use Rattle.dl_formats.specs.Reading.{between_from, node_fields_from, node_from, with_place, node_at, SpellsNone, Decodes}

-- numbers within bounds

-- the test says that the number is within the bounds
test_between : (low high n : ℕ) → (nat_le low n && nat_le n high) ≡ true → IsBetween low high n
test_between low high n h = let p = and_parts (nat_le low n) (nat_le n high) h in record { least = leb-true low n p.0; most = leb-true n high p.1 }

-- a number within the bounds passes the test
between_test : (low high n : ℕ) → IsBetween low high n → (nat_le low n && nat_le n high) ≡ true
between_test low high n h = and_from (nat_le low n) (nat_le n high) (le-leb low n h.least) (le-leb n high h.most)

-- a number within bounds is read exactly
between_exact : (w : Width) → HasOneSpelling w → (low high : ℕ) → high < 256 ^ byte_len w → Exact (IsBetween low high) (field w) (between_from w low high)
between_exact w law low high fits =
    exact_as (with_test_exact (Fits w) (field w) (number_from w) (λ n. nat_le low n && nat_le n high) (number_exact w law))
    (λ n v. test_between low high n v.1) (λ n v. (omega (arith, v.most), between_test low high n v))

-- a byte within bounds is read exactly
pub byte_exact : (low high : ℕ) → high < 256 → Exact (IsBetween low high) (field w8) (between_from w8 low high)
byte_exact low high fits = between_exact w8 width_8 low high fits

-- a number of 64 bits within bounds is read exactly
pub long_exact : (low high : ℕ) → high < 256 ^ 8 → Exact (IsBetween low high) (field w64) (between_from w64 low high)
long_exact low high fits = between_exact w64 width_64 low high fits

-- fields behind a version

-- fields behind the version are read exactly
with_version_exact : {A : Type 0} {V : A → Type 0} {p : A → List ℕ} {r : List ℕ → Result (A × List ℕ) Fault} → Exact V p r
    → Exact V (λ a. with_version (p a)) (node_fields_from r)
with_version_exact {A} {V} {p} {r} exact = made_exact _ _ _ (λ x. x.1) V (λ a. with_version (p a))
    (then_exact (IsBetween 1 1) (field w8) (between_from w8 1 1) (λ n. V) (λ n. p) (λ n. r) (byte_exact 1 1 (lit< tt)) (λ n v. exact))
    (λ x v. let one : 1 ≡ x.0 = omega (arith, v.0.least, v.0.most) in (v.1, ap (λ (n : ℕ). field w8 n ++ p x.1) one))
    (λ a v. ((1, a), (record { least = lit≤ tt; most = lit≤ tt }, v), refl))

-- decoders

-- a place changes nothing that was read
with_place_ok : {A : Type 0} (size : ℕ) (read : Result A Fault) (a : A) → with_place size read ≡ Ok a → read ≡ Ok a
with_place_ok size (Ok b) a e = cc
with_place_ok size (Err fault) a e = absurd cc

-- what is read of a node is valid, and its bytes are the spelling
pub node_found : {A : Type 0} {V : A → Type 0} {p : A → List ℕ} {r : List ℕ → Result (A × List ℕ) Fault} → Exact V p r → (bytes : List ℕ) (a : A)
    → IsBytes bytes → node_at r bytes ≡ Ok a → V a × (bytes ≡ with_version (p a))
node_found {r = r} exact bytes a fits e = whole_found (with_version_exact exact) bytes a fits (with_place_ok (length bytes) (node_from r bytes) a e)

-- a node is read of its spelling
pub node_again : {A : Type 0} {V : A → Type 0} {p : A → List ℕ} {r : List ℕ → Result (A × List ℕ) Fault} → Exact V p r → (bytes : List ℕ) (a : A)
    → V a → bytes ≡ with_version (p a) → node_at r bytes ≡ Ok a
node_again {p = p} {r = r} exact bytes a v e = ap (node_at r) e ∙ ap (with_place (length (with_version (p a)))) (whole_again (with_version_exact exact) a v)

-- where a node has a fault, its bytes spell nothing valid
pub node_refused : {A : Type 0} {V : A → Type 0} {p : A → List ℕ} {r : List ℕ → Result (A × List ℕ) Fault} → Exact V p r
    → (bytes : List ℕ) (fault : MetaBytesFault) → node_at r bytes ≡ Err fault → SpellsNone V (λ a. with_version (p a)) bytes
node_refused {A} {V} {p} {r} exact bytes fault e a v same = let clash : Ok a ≡ Err fault = sym (node_again exact bytes a v same) ∙ e in cc

-- What a decoder answers that reads a node.
pub decodes : {A : Type 0} {V : A → Type 0} {p : A → List ℕ} {r : List ℕ → Result (A × List ℕ) Fault} → Exact V p r
    → (bytes : List ℕ) (result : Result A MetaBytesFault)
    → IsBytes bytes → result ≡ node_at r bytes → Decodes V (λ a. with_version (p a)) (node_at r) bytes result
decodes exact bytes (Ok a) fits e = record {
  found = node_found exact bytes a fits (sym e);
  only = λ x valid spelt. e ∙ node_again exact bytes x valid spelt;
  refused = tt;
}
decodes exact bytes (Err fault) fits e = record {
  found = tt;
  only = λ x valid spelt. e ∙ node_again exact bytes x valid spelt;
  refused = (sym e, node_refused exact bytes fault (sym e));
}
