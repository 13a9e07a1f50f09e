-- What a reading of two gives, and the one value or fault of a reading.
use Rattle.std.proofs.Common.{◌≡◌, Result, Ok, Err, ◌⊎◌, inl, inr, refl}
use Rattle.dl_reading.specs.Readings.{◌>>=◌}

-- Where a reading of two has a value, both have one.
pub bind_ok : {A B F : Type 0} (r : Result A F) (f : A → Result B F) (y : B) → (r >>= f) ≡ Ok y → (x : A) × (r ≡ Ok x) × (f x ≡ Ok y)
bind_ok (Ok x) f y e = (x, refl, e)
bind_ok (Err d) f y e = absurd cc

-- Where a reading of two has a fault, it is that of the first that has one.
pub bind_err : {A B F : Type 0} (r : Result A F) (f : A → Result B F) (fault : F) → (r >>= f) ≡ Err fault
    → (r ≡ Err fault) ⊎ ((x : A) × (r ≡ Ok x) × (f x ≡ Err fault))
bind_err (Ok x) f fault e = inr (x, refl, e)
bind_err (Err d) f fault e = inl cc

-- The value of a reading is one.
pub ok_is : {A B : Type 0} (x y : A) → (let r : Result A B = Ok x in r) ≡ Ok y → x ≡ y
ok_is x y e = cc

-- The fault of a reading is one.
pub err_is : {A B : Type 0} (x y : B) → (let r : Result A B = Err x in r) ≡ Err y → x ≡ y
err_is x y e = cc
