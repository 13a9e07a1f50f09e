-- Places past the last byte of a name.
use Rattle.std.proofs.Common.{◌≡◌, ℕ, ◌≤◌, ◌<◌, List, [], ◌∷◌, length, drop, Some, arith, length-drop, refl}
use Rattle.std.proofs.lemmas.Bool.{le-leb}
use Rattle.dl_types.specs.Names.{bad_from}

-- from the 65th byte on any byte is one too many
bad_far : (at : ℕ) (bytes : List ℕ) → 64 ≤ at → 0 < length bytes → bad_from at bytes ≡ Some 64
bad_far at [] far some = absurd (omega arith)
bad_far at (c ∷ cs) far some = rw (le-leb 64 at far) refl

-- of a list of more than 64 bytes, the bytes from any place past the 64th on are refused at 64
pub bad_at : (i : ℕ) (bytes : List ℕ) → 64 ≤ i → i < length bytes → bad_from i (drop i bytes) ≡ Some 64
bad_at i bytes far within = bad_far i (drop i bytes) far (omega (arith, length-drop i bytes))
