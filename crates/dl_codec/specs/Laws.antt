-- The laws of numbers as fields.
use Rattle.std.specs.Prelude.{◌≡◌, ℕ, ◌^◌, ◌<◌, List, length}
use Rattle.std.specs.Int.{Width, byte_len}
use Rattle.dl_codec.specs.Fields.{field, number_of, IsBytes}

-- Numbers of a width have one spelling each: a field is as long as the width says, a number is read from what spells
-- it, and bytes spell the number that is read from them.
pub record HasOneSpelling (w : Width) : Type 0 where
  pub len : (n : ℕ) → length (field w n) ≡ byte_len w
  pub again : (n : ℕ) → n < 256 ^ byte_len w → number_of w (field w n) ≡ n
  pub spelt : (bytes : List ℕ) → length bytes ≡ byte_len w → IsBytes bytes → field w (number_of w bytes) ≡ bytes
  pub below : (bytes : List ℕ) → IsBytes bytes → number_of w bytes < 256 ^ byte_len w
