-- What a decoder answers is what the rules read.
use Rattle.std.proofs.Common.{◌≡◌, ℕ, List, Result, Ok, Err, sym}
use Rattle.dl_fields.specs.declared.fault.Fault.{Fault}
use Rattle.dl_fields.specs.Readers.{Exact}
use Rattle.dl_formats.specs.declared.fault.MetaBytesFault.{MetaBytesFault}
use Rattle.dl_formats.specs.NodeBytes.{with_version}
use Rattle.dl_formats.specs.Reading.{node_at, Decodes}
use Rattle.dl_formats.proofs.DecodeLemmas.{node_again}

-- where the fields of a node are read exactly, the decoder's answer is what its bytes spell, or the first fault
pub read_same : {A : Type 0} {V : A → Type 0} {p : A → List ℕ} {r : List ℕ → Result (A × List ℕ) Fault} → Exact V p r
    → (bytes : List ℕ) (result : Result A MetaBytesFault) → Decodes V (λ a. with_version (p a)) (node_at r) bytes result
    → result ≡ node_at r bytes
read_same exact bytes (Ok a) d = let f = d.found in sym (node_again exact bytes a f.0 f.1)
read_same exact bytes (Err fault) d = sym d.refused.0
