-- The stream of whose nodes a path names one.
use Rattle.std.proofs.Common.{◌≡◌, ℕ, ◌≤◌, Bool, true, false, cond, ◌==◌, List, [], ◌∷◌, Option, Some, None, refl, sym, ap, ◌∙◌, subst, inl, inr, arith}
use Rattle.std.proofs.Common.{slice_index}
use Rattle.std.proofs.lemmas.Bool.{eqb-false}
use Rattle.std.proofs.lemmas.Slice.Eq.{bytes_eq-Decides}
use Rattle.std.specs.Prelude.{bytes_eq}
use Rattle.std.specs.List.{AllByRecursion}
use Rattle.dl_text.specs.NameFields.{IsName}
use Rattle.dl_formats.specs.Keys as key
use Rattle.dl_formats.specs.Keys.{path_of, NoSlash, IsNodeKey}
use Rattle.dl_formats.specs.NodeBytes.{ten_nines}
use Rattle.dl_formats.proofs.FormLemmas.{their_form}
use Rattle.dl_formats.proofs.KeyLemmas.{same_key}
use Rattle.dl_rules_client.proofs.RangeLists.{AllSome}
use Rattle.dl_machine.specs.Growth.{onto_part, parts_in, stream_by, stream_in}
use Rattle.dl_machine.proofs.TreeRanges.{IsTreePath}

-- a byte that is no slash in front of parts without one
onto_no_slash : (b : ℕ) (parts : List (List ℕ)) → (b ≡ 47 → ⊥) → AllByRecursion NoSlash parts → AllByRecursion NoSlash (onto_part b parts)
onto_no_slash b [] other each = ((other, tt), tt)
onto_no_slash b (part ∷ parts) other each = ((other, each.0), each.1)

-- no part of a path has a slash
pub parts_no_slash : (path : List ℕ) → AllByRecursion NoSlash (parts_in path)
parts_no_slash [] = tt
parts_no_slash (b ∷ bytes) = go (b == 47) refl (parts_no_slash bytes)
  where
    go : (t : Bool) → (b == 47) ≡ t → AllByRecursion NoSlash (parts_in bytes)
        → AllByRecursion NoSlash (cond t ([] ∷ parts_in bytes) (onto_part b (parts_in bytes)))
    go true e rest = (tt, rest)
    go false e rest = onto_no_slash b (parts_in bytes) (eqb-false b 47 e) rest

-- the stream of these parts of a path
stream_of_parts : (node : List ℕ → key.Key) (P : List ℕ → Type 0) (path : List ℕ) (parts : List (List ℕ)) → AllByRecursion NoSlash parts
    → ((stream : List ℕ) → NoSlash stream → path_of (node stream) ≡ path → P stream) → AllSome P (stream_by node path parts)
stream_of_parts node P path [] apart h = tt
stream_of_parts node P path (before ∷ []) apart h = tt
stream_of_parts node P path (before ∷ top ∷ []) apart h = tt
stream_of_parts node P path (before ∷ top ∷ stream ∷ more) apart h = go (bytes_eq (path_of (node stream)) path) refl
  where
    go : (t : Bool) → bytes_eq (path_of (node stream)) path ≡ t → AllSome P (cond t (Some stream) None)
    go true e = h stream apart.1.1.0 ((bytes_eq-Decides (path_of (node stream)) path).0 e)
    go false e = tt

-- the stream that a path names has no slash, and its node has that path
pub stream_such : (node : List ℕ → key.Key) (P : List ℕ → Type 0) (path : List ℕ)
    → ((stream : List ℕ) → NoSlash stream → path_of (node stream) ≡ path → P stream) → AllSome P (stream_in node path)
stream_such node P path h = stream_of_parts node P path (parts_in path) (parts_no_slash path) h

-- the stream of a segment in progress is a name, where the segment stands at a path of the tree
pub progress_named : (path : List ℕ) (segment : ℕ) → IsTreePath path → segment ≤ ten_nines
    → AllSome IsName (stream_in (λ s. key.Progress s segment) path)
unfolding path_of
progress_named path segment (inl at_root) few =
    stream_such (λ s. key.Progress s segment) IsName path
    (λ s apart e. let bad : 115 ≡ 0 = ap (λ (p : List ℕ). slice_index p 1) (e ∙ at_root) in absurd (omega (arith, bad)))
progress_named path segment (inr is) few =
    stream_such (λ s. key.Progress s segment) IsName path (λ s apart e.
    let same : key.Progress s segment ≡ is.key =
    same_key (key.Progress s segment) is.key (apart, omega (arith, few)) (their_form.key is.key is.is) (e ∙ sym is.same) in
    (subst IsNodeKey (sym same) is.is).0)
