-- What a depot means at one moment, file by file, and what work on a file keeps of the rest.
use Rattle.std.specs.Prelude.{◌≡◌, ◌≢◌, ◌↔◌, ◌≤◌, ℕ, List, Option, Some, is_some, length}
use Rattle.dl_depot.specs.declared.device_call.DeviceCall.{DeviceCall}
use Rattle.dl_depot.specs.declared.fuse.Fuse.{Fuse}

-- all that is meant by a depot at one moment
pub record View : Type 1 where
  -- the bytes that reads give, and those of the last sync; None where they aren't told
  pub shown : ℕ → Option (List ℕ)
  pub synced : ℕ → Option (List ℕ)
  -- one clock for all files
  pub moment : ℕ
  -- what a stop at a moment up to now may leave of a file
  pub image : ℕ → ℕ → List ℕ → Type 0
  -- the writing calls; the fuse that is set, if there is one; None where they aren't told
  pub calls : ℕ → Option (List DeviceCall)
  pub fuse : ℕ → Option (Option Fuse)
  -- how many calls failed
  pub faults : ℕ → ℕ

-- a place is no further than the file's end, where its bytes are told
abbrev pub AtMost : ℕ → View → ℕ → Type 0
AtMost at v file = (bytes : List ℕ) → v.shown file ≡ Some bytes → at ≤ length bytes

-- what any work on one file keeps
pub record Keeps (file : ℕ) (old new : View) : Type 0 where
  pub later : old.moment ≤ new.moment
  -- the images of a past moment stay
  pub past : (f t : ℕ) (c : List ℕ) → t ≤ old.moment → new.image f t c ↔ old.image f t c
  -- other files stay, and at each moment of the work their images are those at its start
  pub others : (f t : ℕ) (c : List ℕ) → f ≢ file → old.moment ≤ t → t ≤ new.moment → new.image f t c ↔ old.image f old.moment c
  pub told : (f : ℕ) → is_some (new.shown f) ≡ is_some (old.shown f)
  pub shown : (f : ℕ) → f ≢ file → new.shown f ≡ old.shown f
  pub synced : (f : ℕ) → f ≢ file → new.synced f ≡ old.synced f
  pub calls : (f : ℕ) → f ≢ file → new.calls f ≡ old.calls f
  pub fuse : (f : ℕ) → f ≢ file → new.fuse f ≡ old.fuse f
  pub faults : (f : ℕ) → f ≢ file → new.faults f ≡ old.faults f
  pub no_fewer : old.faults file ≤ new.faults file

-- at each moment of the work each image of the file has P
abbrev pub LeavesOnly : ℕ → View → View → (List ℕ → Type 0) → Type 0
LeavesOnly file old new P = (t : ℕ) (c : List ℕ) → old.moment ≤ t → t ≤ new.moment → new.image file t c → P c

-- at each moment of the work each pair of images of two files has P
abbrev pub LeavesPairs : ℕ → ℕ → View → View → (List ℕ → List ℕ → Type 0) → Type 0
LeavesPairs f g old new P = (t : ℕ) (x y : List ℕ) → old.moment ≤ t → t ≤ new.moment → new.image f t x → new.image g t y → P x y

-- what work on several files keeps
pub record KeepsBut (Mine : ℕ → Type 0) (old new : View) : Type 0 where
  pub later : old.moment ≤ new.moment
  pub past : (f t : ℕ) (c : List ℕ) → t ≤ old.moment → new.image f t c ↔ old.image f t c
  pub others : (f t : ℕ) (c : List ℕ) → (Mine f → ⊥) → old.moment ≤ t → t ≤ new.moment → new.image f t c ↔ old.image f old.moment c
  pub told : (f : ℕ) → is_some (new.shown f) ≡ is_some (old.shown f)
  pub shown : (f : ℕ) → (Mine f → ⊥) → new.shown f ≡ old.shown f
  pub synced : (f : ℕ) → (Mine f → ⊥) → new.synced f ≡ old.synced f
  pub calls : (f : ℕ) → (Mine f → ⊥) → new.calls f ≡ old.calls f
  pub fuse : (f : ℕ) → (Mine f → ⊥) → new.fuse f ≡ old.fuse f
  pub faults : (f : ℕ) → (Mine f → ⊥) → new.faults f ≡ old.faults f
  pub no_fewer : (f : ℕ) → old.faults f ≤ new.faults f
