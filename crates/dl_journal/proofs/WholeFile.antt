-- A sync, the size, and a read of all.
use Rattle.std.proofs.Common.{◌≡◌, inl, inr, ℕ, ◌≤◌, ◌<◌, List, [], ◌∷◌, ◌++◌, length, take, drop, Some, None, Vec, Result, Ok, Err, sym, ◌∙◌, subst, arith}
use Rattle.std.specs.declared.alloc.Global.{Global}
use Rattle.std.proofs.lemmas.List.{take_all}
use Rattle.dl_depot.specs.View.{View, Keeps}
use Rattle.dl_depot.specs.Device.{Synced, Sized, Read, Looks, Rose}
use Rattle.dl_depot.specs.declared.device_call.DeviceCall.{DeviceCall}
use Rattle.dl_depot.specs.declared.device_call.DeviceCall.TheVariants.{Sync}
use Rattle.dl_depot.specs.declared.device_fault.DeviceFault.{DeviceFault}
use Rattle.dl_depot.proofs.Moments.{keeps_trans, ordered}
use Rattle.dl_journal.specs.declared.load_fault.LoadFault.TheVariants.{Device, TooLarge, NoMemory}
use Rattle.dl_journal.specs.Limits.{journal_limit}
use Rattle.dl_journal.specs.Settled.{OnDisk}
use Rattle.dl_journal.specs.Load.{Fetched}
use Rattle.dl_journal.proofs.Staging.{some_inj}
use Rattle.dl_journal.proofs.Through.{rose_on, front_one}

-- after a sync that succeeded, and calls that only look
pub record Reached (a b : View) (file : ℕ) : Type 0 where
  pub keeps : Keeps file a b
  pub same_count : b.faults file ≡ a.faults file
  pub images : (t : ℕ) (c : List ℕ) → a.moment ≤ t → t ≤ b.moment → b.image file t c → a.image file a.moment c
  pub disk : (was : List ℕ) → a.shown file ≡ Some was → OnDisk b file was
  pub told : (calls : List DeviceCall) → a.calls file ≡ Some calls → b.calls file ≡ Some (calls ++ Sync ∷ [])
  pub unset : a.fuse file ≡ Some None → b.fuse file ≡ Some None

-- at each moment of a sync an image of the file is one from before it
pub synced_images : (a m : View) (file : ℕ) (result : Result (Unit {0}) DeviceFault) → Synced a m file result → (t : ℕ) (x : List ℕ) → a.moment ≤ t
    → t ≤ m.moment → m.image file t x → a.image file a.moment x
synced_images a m file result s t x from to image =
    let left = s.writes.images t x from to image in subst (λ (c : List ℕ). a.image file a.moment c) (sym left.2) left.1

-- a sync that passed reaches the disk
pub reached : (a m : View) (file : ℕ) (v : Unit {0}) → Synced a m file (Ok v) → Reached a m file
reached a m file v s = record {
  keeps = s.writes.keeps;
  same_count = s.writes.counts.passed;
  images = synced_images a m file (Ok v) s;
  disk = λ was is.
      let here : m.shown file ≡ Some was = s.writes.shown was is in
      record { shown = here; only = λ c image. some_inj _ _ (sym (s.only c image) ∙ here); last = s.last ∙ here };
  told = λ calls are. s.writes.told calls are;
  unset = s.writes.unset;
}

-- at each moment of a look after a sync an image of the file is one from before the sync
looks_images : (a b c : View) (file : ℕ) → Reached a b file → Looks b c file → (t : ℕ) (x : List ℕ) → a.moment ≤ t → t ≤ c.moment → c.image file t x
    → a.image file a.moment x
looks_images a b c file r looks t x from to image = elim (ordered t b.moment) [
  | inl early ↦ r.images t x from early ((looks.keeps.past file t x early).0 image)
  | inr late ↦ r.images b.moment x r.keeps.later (omega arith) ((looks.images t x (omega (arith, late)) to).0 image)
]

-- a look that counts no fault keeps what a sync reached
pub looks_on : (a b c : View) (file : ℕ) → Reached a b file → Looks b c file → c.faults file ≡ b.faults file → Reached a c file
looks_on a b c file r looks same = record {
  keeps = keeps_trans file a b c r.keeps looks.keeps;
  same_count = same ∙ r.same_count;
  images = looks_images a b c file r looks;
  disk = λ was is.
      let before = r.disk was is in
      record {
        shown = looks.same_shown ∙ before.shown;
        only = λ x image. before.only x ((looks.images c.moment x looks.keeps.later (omega arith)).0 image);
        last = looks.same_synced ∙ before.last;
      };
  told = λ calls are. looks.same_calls ∙ r.told calls are;
  unset = λ none. looks.same_fuse ∙ r.unset none;
}

-- the sync failed
pub sync_failed : (a b : View) (file : ℕ) (e : DeviceFault) → Synced a b file (Err e) → Fetched a b file (Err Device)
sync_failed a b file e s = record {
  reads = record {
    keeps = s.writes.keeps;
    images = synced_images a b file (Err e) s;
    counts = s.writes.counts.failed;
    calls = record {
      told = λ calls are. tt;
      fronts = λ calls are. front_one b file Sync [] calls (s.writes.maybe_told calls are);
      unset = s.writes.unset;
    };
    too_large = λ n is. absurd (cc is);
    no_memory = λ is. absurd (cc is);
  };
  most = tt;
  bytes = λ was shown. tt;
  not_damaged = λ at is. cc is;
}

-- a later call failed
pub look_failed : (a b c : View) (file : ℕ) → Reached a b file → Looks b c file → Rose (b.faults file) (c.faults file) → Fetched a c file (Err Device)
look_failed a b c file r looks rose = record {
  reads = record {
    keeps = keeps_trans file a b c r.keeps looks.keeps;
    images = looks_images a b c file r looks;
    counts = rose_on _ _ _ r.same_count rose;
    calls = record {
      told = λ calls are. tt;
      fronts = λ calls are. (1, looks.same_calls ∙ r.told calls are);
      unset = λ none. looks.same_fuse ∙ r.unset none;
    };
    too_large = λ n is. absurd (cc is);
    no_memory = λ is. absurd (cc is);
  };
  most = tt;
  bytes = λ was shown. tt;
  not_damaged = λ at is. cc is;
}

-- the file has more bytes than a journal may have
pub too_long : (a m b : View) (file size : ℕ) → Reached a m file → Sized m b file (Ok size) → journal_limit < size → Fetched a b file (Err (TooLarge size))
too_long a m b file size r z more = let on = looks_on a m b file r z.looks z.counts.passed in record {
  reads = record {
    keeps = on.keeps;
    images = on.images;
    counts = on.same_count;
    calls = record { told = λ calls are. tt; fronts = λ calls are. (1, on.told calls are); unset = on.unset };
    too_large = λ n is. let same : n ≡ size = cc is in (omega (arith, same, more), λ was shown. same ∙ z.size was (r.disk was shown).shown);
    no_memory = λ is. absurd (cc is);
  };
  most = tt;
  bytes = λ was shown. tt;
  not_damaged = λ at is. cc is;
}

-- memory ran out
pub no_room : (a m b : View) (file size : ℕ) → Reached a m file → Sized m b file (Ok size) → size ≤ journal_limit → Fetched a b file (Err NoMemory)
no_room a m b file size r z most = let on = looks_on a m b file r z.looks z.counts.passed in record {
  reads = record {
    keeps = on.keeps;
    images = on.images;
    counts = on.same_count;
    calls = record { told = λ calls are. tt; fronts = λ calls are. (1, on.told calls are); unset = on.unset };
    too_large = λ n is. absurd (cc is);
    no_memory = λ is was shown. let n = z.size was (r.disk was shown).shown in omega (arith, n, most);
  };
  most = tt;
  bytes = λ was shown. tt;
  not_damaged = λ at is. cc is;
}

-- all was read
pub fetched : (a m n b : View) (file size count : ℕ) (into : List ℕ) (vec : Vec ℕ Global) → Reached a m file → Sized m n file (Ok size)
    → Read n b file 0 into (Ok count) → length into ≡ size → size ≤ journal_limit → vec.items ≡ take count into → length vec.items ≤ size
    → Fetched a b file (Ok vec)
fetched a m n b file size count into vec r z l long most is short =
    let on = looks_on a n b file (looks_on a m n file r z.looks z.counts.passed) l.looks l.counts.passed in record {
      reads = record {
        keeps = on.keeps;
        images = on.images;
        counts = on.same_count;
        calls = record { told = on.told; fronts = λ calls are. (1, on.told calls are); unset = on.unset };
        too_large = λ k is. absurd (cc is);
        no_memory = λ is. absurd (cc is);
      };
      most = omega (arith, most, short);
      bytes = λ was shown.
          let still : n.shown file ≡ Some was = z.looks.same_shown ∙ (r.disk was shown).shown in
          let given = l.bytes was still in
          let all : count ≡ length was = omega (arith, given.whole, long, z.size was (r.disk was shown).shown) in
          (is ∙ given.same ∙ take_all count (drop 0 was) (omega (arith, all)), on.disk was shown);
      not_damaged = λ at is. cc is;
    }
