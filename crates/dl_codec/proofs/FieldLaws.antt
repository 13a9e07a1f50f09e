-- The laws of fields of each width.
use Rattle.std.proofs.Common.{◌≡◌, ℕ, ◌%◌, List, [], ◌∷◌, length, refl, ap, arith}
use Rattle.std.specs.Int.{w8, w16, w32, w64, from_be_bytes, to_be_bytes}
use Rattle.std.proofs.lemmas.Nat.{be_bytes_2, be_bytes_4, be_bytes_8, from_be_bytes-to_be_bytes_2, from_be_bytes-to_be_bytes_4, from_be_bytes-to_be_bytes_8}
use Rattle.dl_codec.specs.Fields.{field, number_of, IsBytes}
use Rattle.dl_codec.specs.Laws.{HasOneSpelling}

-- a byte spells the number that is read from it
spelt_8 : (bytes : List ℕ) → length bytes ≡ 1 → IsBytes bytes → to_be_bytes w8 (from_be_bytes w8 bytes) ≡ bytes
spelt_8 [] len fits = absurd (omega arith)
spelt_8 (b ∷ []) len fits = let e : b % 256 ≡ b = omega (arith, fits 0) in ap (λ (x : ℕ). x ∷ []) e
spelt_8 (b ∷ c ∷ bs) len fits = absurd (omega arith)

-- Numbers of 8 bits have one spelling.
pub width_8 : HasOneSpelling w8
unfolding field number_of
width_8 = record {
  len = λ n. refl;
  again = λ n lt. omega arith;
  spelt = λ bytes len fits. spelt_8 bytes len fits;
  below = λ bytes fits. omega (arith, fits 0);
}

-- Numbers of 16 bits have one spelling.
pub width_16 : HasOneSpelling w16
unfolding field number_of
width_16 = record {
  len = λ n. refl;
  again = λ n lt. from_be_bytes-to_be_bytes_2 n lt;
  spelt = λ bytes len fits. be_bytes_2 bytes _ len fits refl;
  below = λ bytes fits. omega (arith, fits 0, fits 1);
}

-- Numbers of 32 bits have one spelling.
pub width_32 : HasOneSpelling w32
unfolding field number_of
width_32 = record {
  len = λ n. refl;
  again = λ n lt. from_be_bytes-to_be_bytes_4 n lt;
  spelt = λ bytes len fits. be_bytes_4 bytes _ len fits refl;
  below = λ bytes fits. omega (arith, fits 0, fits 1, fits 2, fits 3);
}

-- Numbers of 64 bits have one spelling.
pub width_64 : HasOneSpelling w64
unfolding field number_of
width_64 = record {
  len = λ n. refl;
  again = λ n lt. from_be_bytes-to_be_bytes_8 n lt;
  spelt = λ bytes len fits. be_bytes_8 bytes _ len fits refl;
  below = λ bytes fits. omega (arith, fits 0, fits 1, fits 2, fits 3, fits 4, fits 5, fits 6, fits 7);
}
