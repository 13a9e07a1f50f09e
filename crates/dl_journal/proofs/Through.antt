-- A write that is on the device.
use Rattle.std.proofs.Common.{◌≡◌, ◌⊎◌, inl, inr, ℕ, ◌+◌, List, [], ◌∷◌, ◌++◌, length, take, Some, Bool}
use Rattle.std.proofs.Common.{true, false, Result, Ok, Err, sym, ◌∙◌, ap, subst, arith, append_assoc, OnOk}
use Rattle.std.proofs.lemmas.List.{append-nil}
use Rattle.dl_depot.specs.declared.device_fault.DeviceFault.{DeviceFault}
use Rattle.dl_depot.specs.declared.device_call.DeviceCall.{DeviceCall}
use Rattle.dl_depot.specs.declared.device_call.DeviceCall.TheVariants.{Write, Sync}
use Rattle.dl_depot.specs.declared.fuse.Fuse.{Fuse}
use Rattle.dl_depot.specs.View.{View}
use Rattle.dl_depot.specs.Device.{Wrote, Synced, IsTorn, with_bytes, Rose, CountsFault, left_by, Passes}
use Rattle.dl_depot.proofs.Moments.{keeps_trans, ordered}
use Rattle.dl_journal.specs.Calls.{Stores, Spends, store_calls}

-- what holds and fails gives anything
pub differ : {A : Type 0} (b : Bool) → b ≡ false → b ≡ true → A
differ b is is_too = absurd (cc (is, is_too))

-- the first of some calls, or none
pub front_one : (b : View) (file : ℕ) (call : DeviceCall) (more calls : List DeviceCall)
    → (b.calls file ≡ Some calls) ⊎ (b.calls file ≡ Some (calls ++ call ∷ [])) → (n : ℕ) × (b.calls file ≡ Some (calls ++ take n (call ∷ more)))
front_one b file call more calls maybe = elim maybe [
  | inl none ↦ (0, none ∙ sym (ap (λ (l : List DeviceCall). Some l) (append-nil calls)))
  | inr one ↦ (1, one)
]

-- the write alone, where it fails
pub through_err : (a b : View) (file at : ℕ) (bytes : List ℕ) (e : DeviceFault) → Wrote a b file at bytes (Err e) → Stores a b file at bytes (Err e)
through_err a b file at bytes e w = record {
  keeps = w.writes.keeps;
  images = w.writes.images;
  only = tt;
  shown = λ was is. tt;
  last = tt;
  counts = w.writes.counts;
  calls = record {
    told = λ calls are. tt;
    fronts = λ calls are. front_one b file (Write at (length bytes)) (Sync ∷ []) calls (w.writes.maybe_told calls are);
    unset = w.writes.unset;
  };
  spends = λ f was last set is synced. elim (w.writes.burns f set) [
    | inl same ↦ record { now = f; fuse = same; at_stop = λ alive stopped. differ f.stopped alive stopped }
    | inr stops ↦ record {
      now = record f { stopped = true };
      fuse = stops.fuse;
      at_stop = λ alive stopped. record {
        behind = omega (arith, stops.due);
        told = λ calls are. stops.told calls are ∙ ap (λ (n : ℕ). Some (calls ++ take (n + 1) (store_calls at bytes))) (sym stops.due);
        holds = stops.shown was last is synced;
      };
    }
  ];
}

-- a call that succeeded leaves the count to the next one
pub rose_on : (a b c : ℕ) → b ≡ a → Rose b c → Rose a c
rose_on a b c same rose = omega (arith, same, rose)

-- a count of faults goes on from an equal count
counts_on : (a b c : ℕ) (result : Result (Unit {0}) DeviceFault) → b ≡ a → CountsFault b c result → CountsFault a c result
counts_on a b c result same counts = subst (λ (n : ℕ). CountsFault n c result) same counts

-- the write, and then the sync
pub through : (a m b : View) (file at : ℕ) (bytes : List ℕ) (v : Unit {0}) (result : Result (Unit {0}) DeviceFault) → Wrote a m file at bytes (Ok v)
    → Synced m b file result → Stores a b file at bytes result
through a m b file at bytes v result w s = record {
  keeps = keeps_trans file a m b w.writes.keeps s.writes.keeps;
  images = λ t c from to image. elim (ordered t m.moment) [
    | inl early ↦ w.writes.images t c from early ((s.writes.keeps.past file t c early).0 image)
    | inr late ↦
        let left = s.writes.images t c (omega (arith, late)) to image in
        let torn = w.writes.images m.moment left.0 w.writes.keeps.later (omega arith) left.1 in
        (torn.0, torn.1, subst (λ (x : List ℕ). IsTorn at (length bytes) torn.0 x) (sym left.2) torn.2)
  ];
  only = s.only;
  shown = λ was is. s.writes.shown (with_bytes at bytes was) (w.writes.shown was is);
  last = s.last;
  counts = counts_on _ _ _ result w.writes.counts.passed s.writes.counts;
  calls = record {
    told = λ calls are. told result calls (s.writes.told (calls ++ Write at (length bytes) ∷ []) (w.writes.told calls are));
    fronts = λ calls are. elim (s.writes.maybe_told (calls ++ Write at (length bytes) ∷ []) (w.writes.told calls are)) [
      | inl none ↦ (1, none)
      | inr one ↦ (2, one ∙ both_calls calls)
    ];
    unset = λ none. s.writes.unset (w.writes.unset none);
  };
  spends = λ f was last set is synced. spends result s f was last is synced (w.writes.burns f set);
}
  where
    both_calls : (calls : List DeviceCall) → Some ((calls ++ Write at (length bytes) ∷ []) ++ Sync ∷ []) ≡ Some (calls ++ store_calls at bytes)
    both_calls calls = ap (λ (l : List DeviceCall). Some l) (append_assoc calls (Write at (length bytes) ∷ []) (Sync ∷ []))

    told : (result : Result (Unit {0}) DeviceFault) (calls : List DeviceCall)
        → OnOk result (b.calls file ≡ Some ((calls ++ Write at (length bytes) ∷ []) ++ Sync ∷ []))
        → OnOk result (b.calls file ≡ Some (calls ++ store_calls at bytes))
    told (Ok u) calls are = are ∙ both_calls calls
    told (Err e) calls are = tt

    spends : (result : Result (Unit {0}) DeviceFault) → Synced m b file result → (f : Fuse) (was last : List ℕ) → a.shown file ≡ Some was
        → a.synced file ≡ Some last
        → Passes m file f → Spends a b file (store_calls at bytes)
        (λ outcome left. b.shown file ≡ Some (left_by outcome (with_bytes at bytes was) last)) f result
    spends (Ok u) s f was last is synced burnt =
        let next = s.writes.burns (record f { left = burnt.rest }) burnt.fuse in
        record { alive = burnt.whole; rest = next.rest; fewer = omega (arith, burnt.one_less, next.one_less); fuse = next.fuse }
    spends (Err e) s f was last is synced burnt = elim (s.writes.burns (record f { left = burnt.rest }) burnt.fuse) [
      | inl same ↦ record { now = record f { left = burnt.rest }; fuse = same; at_stop = λ alive stopped. differ f.stopped alive stopped }
      | inr stops ↦ record {
        now = record f { left = burnt.rest; stopped = true };
        fuse = stops.fuse;
        at_stop = λ alive stopped.
            let one : f.left ≡ 1 = omega (arith, burnt.one_less, stops.due) in
            record {
              behind = omega (arith, one);
              told =
                  λ calls are. stops.told (calls ++ Write at (length bytes) ∷ []) (w.writes.told calls are) ∙ both_calls calls
                  ∙ ap (λ (n : ℕ). Some (calls ++ take (n + 1) (store_calls at bytes))) (sym one);
              holds = stops.shown (with_bytes at bytes was) last (w.writes.shown was is) (w.last ∙ synced);
            };
      }
    ]
