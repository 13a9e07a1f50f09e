-- What a fuse does with the next writing call.
use Rattle.std.proofs.Common.{◌≡◌, ◌≢◌, ◌+◌, ◌-◌, ℕ, List, Option, Some, Bool, true, false, cond, ◌==◌, ◌||◌, sym, ◌∙◌, ap, refl, arith}
use Rattle.std.proofs.lemmas.Bool.Decides.{nat_tests}
use Rattle.dl_depot.specs.declared.device_call.DeviceCall.{DeviceCall}
use Rattle.dl_depot.specs.declared.device_call.DeviceCall.TheVariants.{Write, Cut}
use Rattle.dl_depot.specs.declared.logged_call.End.{End}
use Rattle.dl_depot.specs.declared.logged_call.End.TheVariants.{Passed, StoppedBefore, StoppedAfter}
use Rattle.dl_depot.specs.declared.fuse.Fuse.{Fuse}
use Rattle.dl_depot.specs.declared.fuse.Outcome.{Outcome}
use Rattle.dl_depot.specs.declared.fuse.Outcome.TheVariants.{Before, After}
use Rattle.dl_depot.specs.Device.{effect_of, left_by}
use Rattle.dl_depot.specs.Held.{Held, has_stopped, is_refused, stop_of, end_by, fuse_after, shown_by, synced_by}

-- a call that is not refused is made under a fuse that has stopped none
pub alive_is : (h : Held) (f : Fuse) → h.fuse ≡ Some f → is_refused h ≡ false → f.stopped ≡ false
alive_is h f set alive = go (h.due == 1) (has_stopped h.fuse) alive (ap (λ (o : Option Fuse). has_stopped o) set)
  where
    go : (a b : Bool) → (a || b) ≡ false → b ≡ f.stopped → f.stopped ≡ false
    go true b is same = absurd (cc is)
    go false b is same = sym same ∙ is

-- what a stopped call leaves is never the end of a call that passed
not_passed : (o : Outcome) → stop_of o ≢ Passed
not_passed Before is = absurd (cc is)
not_passed After is = absurd (cc is)

-- a fuse that lets the next call pass
pub record LetsPass (f : Fuse) : Type 0 where
  pub rest : ℕ
  pub one_less : f.left ≡ rest + 1
  pub burns : fuse_after f ≡ record f { left = rest }

-- a fuse by which a call passes lets it pass, and is set on if it counts
pub lets_pass : (f : Fuse) → end_by f ≡ Passed → LetsPass f
lets_pass f passed = go (f.left == 0) refl passed
  where
    go : (b : Bool) → (f.left == 0) ≡ b → cond b (stop_of f.outcome) Passed ≡ Passed → LetsPass f
    go true is passes = absurd (not_passed f.outcome passes)
    go false is passes = record {
      rest = f.left - 1;
      one_less = grind (arith, nat_tests);
      burns = ap (λ (b : Bool). cond b (record f { stopped = true }) (record f { left = f.left - 1 })) is;
    }

-- a fuse that stops the next call
pub record StopsNext (f : Fuse) : Type 0 where
  pub due : f.left ≡ 0
  pub end_is : end_by f ≡ stop_of f.outcome
  pub burns : fuse_after f ≡ record f { stopped = true }

-- a fuse by which a call doesn't pass stops the next call
pub stops_next : (f : Fuse) → end_by f ≢ Passed → StopsNext f
stops_next f stops = go (f.left == 0) refl
  where
    go : (b : Bool) → (f.left == 0) ≡ b → StopsNext f
    go true is = record {
      due = grind (arith, nat_tests);
      end_is = ap (λ (b : Bool). cond b (stop_of f.outcome) Passed) is;
      burns = ap (λ (b : Bool). cond b (record f { stopped = true }) (record f { left = f.left - 1 })) is;
    }
    go false is = absurd (stops (ap (λ (b : Bool). cond b (stop_of f.outcome) Passed) is))

-- what is left shown where it stopped the call
pub stop_shows : (o : Outcome) (call : DeviceCall) (bytes was last : List ℕ)
    → shown_by call bytes (stop_of o) was last ≡ left_by o (effect_of call bytes was) last
stop_shows Before call bytes was last = refl
stop_shows After call bytes was last = refl

-- only a sync that passed changes the bytes of the last sync
pub write_keeps : (at n : ℕ) (end : End) (was last : List ℕ) → synced_by (Write at n) end was last ≡ last
write_keeps at n Passed was last = refl
write_keeps at n StoppedAfter was last = refl
write_keeps at n StoppedBefore was last = refl

-- a cut leaves the bytes that were synced last
pub cut_keeps : (size : ℕ) (end : End) (was last : List ℕ) → synced_by (Cut size) end was last ≡ last
cut_keeps size Passed was last = refl
cut_keeps size StoppedAfter was last = refl
cut_keeps size StoppedBefore was last = refl

-- a call that a fuse stopped leaves the bytes that were synced last
pub stop_keeps : (call : DeviceCall) (end : End) (was last : List ℕ) → end ≢ Passed → synced_by call end was last ≡ last
stop_keeps call Passed was last stops = absurd (stops refl)
stop_keeps call StoppedAfter was last stops = refl
stop_keeps call StoppedBefore was last stops = refl
