-- The spellings of the paths of streams, and of what stands in them.
use Rattle.std.proofs.Common.{◌≡◌, ℕ, List, [], ◌∷◌, ◌++◌, codes, Result, Ok, Err, IfOk, refl, sym, ap, ap₂, ◌∙◌, append_assoc}
use Rattle.std.proofs.lemmas.List.{append-nil}
use Rattle.dl_types.specs.declared.memory.NoMemory.{NoMemory}
use Rattle.dl_fields.specs.Digits.{digits}
use Rattle.dl_formats.specs.Keys.{Conf, Ledger, Stream, MaxSeq, Cut, Alloc, Locks, Segs, Progress, Completed, path_of, ledger_stem, member_stem, name_of}
use Rattle.dl_formats.proofs.KeyLemmas.{by_parents}

-- The path of the configuration.
pub conf_spelt : path_of Conf ≡ codes "/conf"
unfolding path_of
conf_spelt = refl

-- The stem of ledgers.
pub ledger_stem_spelt : ledger_stem ≡ codes "/ledgers/L"
unfolding ledger_stem
ledger_stem_spelt = refl

-- The path of a stream.
pub stream_spelt : (s : List ℕ) → path_of (Stream s) ≡ codes "/streams/" ++ s
unfolding path_of
stream_spelt s = ap (λ (t : List ℕ). codes "/streams/" ++ t) (append-nil s)

-- a stream's path, and one part more
abbrev in_stream : List ℕ → List ℕ → List ℕ
in_stream s more = path_of (Stream s) ++ more

-- The path of a stream's greatest segment.
pub maxseq_spelt : (s : List ℕ) → path_of (MaxSeq s) ≡ in_stream s (codes "/maxseq")
maxseq_spelt s = by_parents.parent (MaxSeq s)

-- The path of a stream's cut.
pub cut_spelt : (s : List ℕ) → path_of (Cut s) ≡ in_stream s (codes "/cut")
cut_spelt s = by_parents.parent (Cut s)

-- The path of a stream's allocation.
pub alloc_spelt : (s : List ℕ) → path_of (Alloc s) ≡ in_stream s (codes "/alloc")
alloc_spelt s = by_parents.parent (Alloc s)

-- The path of a stream's lock.
pub lock_spelt : (s : List ℕ) → path_of (Locks s) ≡ in_stream s (codes "/lock")
lock_spelt s = by_parents.parent (Locks s)

-- The path above a stream's segments.
pub segs_spelt : (s : List ℕ) → path_of (Segs s) ≡ in_stream s (codes "/segs")
segs_spelt s = by_parents.parent (Segs s)

-- two parts more, of which the second ends with digits
deeper : (front a b d : List ℕ) → (front ++ a) ++ (b ++ d) ≡ (front ++ (a ++ b)) ++ d
deeper front a b d = sym (append_assoc (front ++ a) b d) ∙ ap (λ (t : List ℕ). t ++ d) (append_assoc front a b)

-- The path of a segment in progress.
pub progress_spelt : (s : List ℕ) (k : ℕ) → path_of (Progress s k) ≡ in_stream s (codes "/segs/p") ++ digits 10 k
progress_spelt s k =
    by_parents.parent (Progress s k) ∙ ap (λ (t : List ℕ). t ++ 47 ∷ name_of (Progress s k)) (segs_spelt s)
    ∙ deeper (path_of (Stream s)) (codes "/segs") (codes "/p") (digits 10 k)

-- The path of a completed segment.
pub completed_spelt : (s : List ℕ) (k : ℕ) → path_of (Completed s k) ≡ in_stream s (codes "/segs/c") ++ digits 10 k
completed_spelt s k =
    by_parents.parent (Completed s k) ∙ ap (λ (t : List ℕ). t ++ 47 ∷ name_of (Completed s k)) (segs_spelt s)
    ∙ deeper (path_of (Stream s)) (codes "/segs") (codes "/c") (digits 10 k)

-- The stem of a lock's members.
pub member_stem_spelt : (s : List ℕ) → member_stem s ≡ in_stream s (codes "/lock/m-")
unfolding member_stem
member_stem_spelt s = sym (append_assoc (codes "/streams/") s (codes "/lock/m-")) ∙ ap (λ (t : List ℕ). t ++ codes "/lock/m-") (sym (stream_spelt s))

-- The path of a ledger.
pub ledger_spelt : (n : ℕ) → path_of (Ledger n) ≡ codes "/ledgers/L" ++ digits 10 n
ledger_spelt n = by_parents.ledger n ∙ ap (λ (t : List ℕ). t ++ digits 10 n) ledger_stem_spelt

-- the parts that are put one behind the other
pub stream_put : (s t more a b c d : List ℕ) → t ≡ s → a ≡ [] → b ≡ a ++ codes "/streams/" → c ≡ b ++ t → d ≡ c ++ more → d ≡ path_of (Stream s) ++ more
stream_put s t more a b c d same ea eb ec ed =
    let front : b ≡ codes "/streams/" = eb ∙ ap (λ (x : List ℕ). x ++ codes "/streams/") ea in
    let path : c ≡ path_of (Stream s) = ec ∙ ap₂ (λ (x y : List ℕ). x ++ y) front same ∙ sym (stream_spelt s) in
    ed ∙ ap (λ (x : List ℕ). x ++ more) path

-- The stem and the digits, put one behind the other, are the ledger's path.
pub ledger_put : (n : ℕ) (a b c : List ℕ) (result : Result (List ℕ) NoMemory) → a ≡ [] → b ≡ a ++ codes "/ledgers/L" → c ≡ b ++ digits 10 n
    → IfOk result (λ p. p ≡ c) → IfOk result (λ p. p ≡ path_of (Ledger n))
ledger_put n a b c (Err fault) ea eb ec ok = tt
ledger_put n a b c (Ok p) ea eb ec ok =
    let front : b ≡ codes "/ledgers/L" = eb ∙ ap (λ (x : List ℕ). x ++ codes "/ledgers/L") ea in
    ok ∙ ec ∙ ap (λ (x : List ℕ). x ++ digits 10 n) front ∙ sym (ledger_spelt n)
