-- A journal that is made, and then has one body.
use Rattle.std.proofs.Common.{◌≡◌, ℕ, zero, suc, ◌+◌, List, [], ◌∷◌, ◌++◌, length, take, Some, Bool, false, true, Result, Ok, Err, OnOk, IsErrOf, sym, ap, ap₂}
use Rattle.std.proofs.Common.{◌∙◌, subst, refl, arith, append_assoc, lit<}
use Rattle.std.proofs.lemmas.List.{append-nil}
use Rattle.dl_depot.specs.View.{View, Keeps}
use Rattle.dl_depot.specs.declared.device_call.DeviceCall.{DeviceCall}
use Rattle.dl_depot.specs.declared.device_call.DeviceCall.TheVariants.{Write, Sync}
use Rattle.dl_depot.specs.declared.device_fault.DeviceFault.{DeviceFault}
use Rattle.dl_depot.specs.Device.{Rose}
use Rattle.dl_depot.proofs.Moments.{keeps_refl, keeps_trans}
use Rattle.dl_journal.specs.declared.commit_fault.CommitFault.{CommitFault}
use Rattle.dl_journal.specs.declared.commit_fault.CommitFault.TheVariants as commit
use Rattle.dl_journal.specs.State.{JournalState}
use Rattle.dl_journal.specs.Calls.{MakesCalls, store_calls}
use Rattle.dl_journal.specs.Settled.{IsSettled}
use Rattle.dl_journal.specs.Commits.{Made, Committed, CountsCommit, start, new_journal, batch_of, body_of, state_after, commit_calls}
use Rattle.dl_journal.proofs.Through.{rose_on}
use Rattle.dl_formats.specs.declared.conf.Conf.{Conf}
use Rattle.dl_formats.specs.NodeBytes.{IsConf}
use Rattle.dl_rules_nodes.specs.Items.{Setup, meta_item_bytes}
use Rattle.dl_rules_nodes.specs.Metadata.{Meta, MetaNode, meta_from, meta_of, meta_gate, does, nothing, first_tree}
use Rattle.dl_rules_nodes.specs.MetaOrder.{IsDue}
use Rattle.dl_session.specs.Sessions.{Known, no_sessions}
use Rattle.dl_tree.specs.Trees.{Nodes}
use Rattle.dl_meta.specs.declared.meta_fault.MetaFault.{MetaFault}
use Rattle.dl_meta.specs.declared.meta_fault.MetaFault.TheVariants as fault
use Rattle.dl_meta.specs.State.{MetaState, meta_in}
use Rattle.dl_meta.specs.Standing.{meta_file, batches_of, StandsFor, OnFile}
use Rattle.dl_meta.specs.Making.{made_node, first_calls, MakesJournal, Makes}
use Rattle.dl_meta.specs.Storing.{framed}
use Rattle.dl_meta.proofs.Frames.{length-conf, body_framed}

-- calls of two works, one behind the other
behind : (a m b : View) (more : List DeviceCall) (j : JournalState) (r : Result (Unit {0}) CommitFault) (s : Result JournalState MetaFault)
    → MakesCalls {X = JournalState} {E = DeviceFault} a m meta_file (store_calls 0 start) (Ok j) → MakesCalls m b meta_file more r
    → ((calls : List DeviceCall) → OnOk r (b.calls meta_file ≡ Some (calls ++ more)) → OnOk s (b.calls meta_file ≡ Some (calls ++ more)))
    → MakesCalls a b meta_file (store_calls 0 start ++ more) s
behind a m b more j r s first second on = record {
  told = λ calls are. told s calls (on (calls ++ store_calls 0 start) (second.told (calls ++ store_calls 0 start) (first.told calls are)));
  fronts = λ calls are.
      let n = second.fronts (calls ++ store_calls 0 start) (first.told calls are) in
      (suc (suc n.0), n.1 ∙ ap (λ (l : List DeviceCall). Some l) (append_assoc calls (store_calls 0 start) (take n.0 more)));
  unset = λ none. second.unset (first.unset none);
}
  where
    told : (s : Result JournalState MetaFault) (calls : List DeviceCall) → OnOk s (b.calls meta_file ≡ Some ((calls ++ store_calls 0 start) ++ more))
        → OnOk s (b.calls meta_file ≡ Some (calls ++ (store_calls 0 start ++ more)))
    told (Ok k) calls are = are ∙ ap (λ (l : List DeviceCall). Some l) (append_assoc calls (store_calls 0 start) more)
    told (Err e) calls are = tt

-- the first of a work's calls are among those of both works
few : (n : ℕ) (more : List DeviceCall) → (k : ℕ) × (take n (store_calls 0 start) ≡ take k (store_calls 0 start ++ more))
few zero more = (0, refl)
few (suc zero) more = (1, refl)
few (suc (suc zero)) more = (2, refl)
few (suc (suc (suc n))) more = (2, refl)

-- the first calls alone
pub make_failed : (a b : View) (body : List ℕ) (e : DeviceFault) → Made a b meta_file (Err e) → MakesJournal a b body (Err fault.Device)
make_failed a b body e made = record {
  keeps = made.keeps;
  calls = record {
    told = λ calls are. tt;
    fronts = λ calls are. fewer calls (made.calls.fronts calls are);
    unset = made.calls.unset;
  };
  counts = made.counts.failed;
  stop = tt;
  state = tt;
  stands = tt;
  settled = λ was is. tt;
}
  where
    fewer : (calls : List DeviceCall) → (n : ℕ) × (b.calls meta_file ≡ Some (calls ++ take n (store_calls 0 start)))
        → (n : ℕ) × (b.calls meta_file ≡ Some (calls ++ take n (first_calls body)))
    fewer calls n =
        let k = few n.0 (commit_calls (new_journal meta_file) body) in
        (k.0, n.1 ∙ ap (λ (l : List DeviceCall). Some (calls ++ l)) k.1)

-- a commit into the new journal
pub commit_failed : (a m b : View) (k : JournalState) (body : List ℕ) (e : CommitFault) → Made a m meta_file (Ok (new_journal meta_file))
    → Committed m b (new_journal meta_file) k body (Err e) → MakesJournal a b body (Err fault.Device)
commit_failed a m b k body e made c = record {
  keeps = keeps_trans meta_file a m b made.keeps c.keeps;
  calls = behind a m b (commit_calls (new_journal meta_file) body) (new_journal meta_file) (Err e) (Err fault.Device) made.calls c.calls (λ calls none. tt);
  counts = rises e c.failed.0 c.counts;
  stop = tt;
  state = tt;
  stands = tt;
  settled = λ was is. tt;
}
  where
    rises : (e : CommitFault) → (IsErrOf {T = Unit {0}} {E = CommitFault} (Err e) commit.Failed → false ≡ true)
        → CountsCommit (m.faults meta_file) (b.faults meta_file) (Err e) → Rose (a.faults meta_file) (b.faults meta_file)
    rises commit.Device never counts = rose_on _ _ _ made.counts.passed counts
    rises commit.Failed never counts = absurd (let wrong = never refl in cc)

-- a commit that succeeds
pub commit_made : (a m b : View) (k : JournalState) (body : List ℕ) → Made a m meta_file (Ok (new_journal meta_file))
    → Committed m b (new_journal meta_file) k body (Ok tt) → MakesJournal a b body (Ok k)
commit_made a m b k body made c = record {
  keeps = keeps_trans meta_file a m b made.keeps c.keeps;
  calls = behind a m b (commit_calls (new_journal meta_file) body) (new_journal meta_file) (Ok tt) (Ok k) made.calls c.calls (λ calls all. all);
  counts = c.counts ∙ made.counts.passed;
  stop = tt;
  state = c.state;
  stands = c.stands made.stands;
  settled = λ was is. c.ok start [] (made.settled was is);
}

-- ---- the store

-- memory ran out before any call
pub make_stopped : (a : View) (conf : Conf) → Makes a a conf (Err fault.NoMemory)
make_stopped a conf = record {
  keeps = keeps_refl meta_file a;
  calls = record {
    told = λ calls are. tt;
    fronts = λ calls are. (0, are ∙ ap (λ (l : List DeviceCall). Some l) (sym (append-nil calls)));
    unset = λ none. none;
  };
  counts = refl;
  stop = tt;
  stands = tt;
  journal = tt;
  on_file = λ was is. tt;
}

-- the journal was not made
pub journal_failed : (a b : View) (conf : Conf) (e : MetaFault) → MakesJournal a b (meta_item_bytes (Setup conf)) (Err e) → Makes a b conf (Err e)
journal_failed a b conf e made = record {
  keeps = made.keeps;
  calls = record { told = λ calls are. tt; fronts = made.calls.fronts; unset = made.calls.unset };
  counts = made.counts;
  stop = made.stop;
  stands = tt;
  journal = tt;
  on_file = λ was is. tt;
}

-- a new store stands for a new node
made_stands : (conf : Conf) (j : JournalState) → IsConf conf → j ≡ state_after (new_journal meta_file) (meta_item_bytes (Setup conf))
    → StandsFor (made_node conf) (record { tree = first_tree conf; sessions = no_sessions; journal = j })
unfolding meta_from meta_gate does
made_stands conf j valid e = record {
  meta = refl;
  file = ap (λ (k : JournalState). k.file) e;
  gate = ap (λ (k : JournalState). k.gate) e
      ∙ (let n : 8 + (length (meta_item_bytes (Setup conf)) + 13) ≡ 8 + 13 + length (meta_item_bytes (Setup conf)) = omega arith in n);
  next = ap (λ (k : JournalState). k.next) e;
  works = ap (λ (k : JournalState). k.failed) e;
  in_order = (record { kind = (0, lit< tt, refl); spelt = valid; fits = tt }, tt);
  some = lit< tt;
}

-- a new store stands for a new node, and is on its file
pub store_made : (a b : View) (conf : Conf) (j : JournalState) → IsConf conf → MakesJournal a b (meta_item_bytes (Setup conf)) (Ok j)
    → Makes a b conf (Ok (record { tree = first_tree conf; sessions = no_sessions; journal = j }))
unfolding batches_of
store_made a b conf j valid made = record {
  keeps = made.keeps;
  calls = record { told = made.calls.told; fronts = made.calls.fronts; unset = made.calls.unset };
  counts = made.counts;
  stop = tt;
  stands = made_stands conf j valid made.state;
  journal = made.stands;
  on_file = λ was is now shown.
      let s = made.settled was is in
      let at : j.file ≡ meta_file = ap (λ (k : JournalState). k.file) made.state in
      let same : s.0 ≡ now = some_is s.0 now (sym s.1.on_disk.shown ∙ ap b.shown at ∙ shown) in
      subst (λ (bytes : List ℕ). IsSettled b j bytes (batches_of (made_node conf))) same s.1;
}
  where
    some_is : (x y : List ℕ) → Some x ≡ Some y → x ≡ y
    some_is x y e = cc

-- ---- the same, of the file that has the metadata file's number

-- a journal that was made in the metadata file
made_first : (a m : View) (f : ℕ) (j : JournalState) → f ≡ meta_file → Made a m f (Ok j)
    → (j ≡ new_journal meta_file) × Made a m meta_file (Ok (new_journal meta_file))
made_first a m f j at made =
    let k : Made a m meta_file (Ok j) = subst (λ (n : ℕ). Made a m n (Ok j)) at made in
    (k.state, subst (λ (x : JournalState). Made a m meta_file (Ok x)) k.state k)

-- a journal that was not made
pub make_failed_at : (a b : View) (f : ℕ) (body : List ℕ) (e : DeviceFault) → f ≡ meta_file → Made a b f (Err e) → MakesJournal a b body (Err fault.Device)
make_failed_at a b f body e at made = make_failed a b body e (subst (λ (n : ℕ). Made a b n (Err e)) at made)

-- a commit that succeeds
pub commit_made_at : (a m b : View) (f : ℕ) (j k : JournalState) (body : List ℕ) → f ≡ meta_file → Made a m f (Ok j) → Committed m b j k body (Ok tt)
    → MakesJournal a b body (Ok k)
commit_made_at a m b f j k body at made c =
    let first = made_first a m f j at made in
    commit_made a m b k body first.1 (subst (λ (x : JournalState). Committed m b x k body (Ok tt)) first.0 c)

-- a commit that fails
pub commit_failed_at : (a m b : View) (f : ℕ) (j k : JournalState) (body : List ℕ) (e : CommitFault) → f ≡ meta_file → Made a m f (Ok j)
    → Committed m b j k body (Err e)
    → MakesJournal a b body (Err fault.Device)
commit_failed_at a m b f j k body e at made c =
    let first = made_first a m f j at made in
    commit_failed a m b k body e first.1 (subst (λ (x : JournalState). Committed m b x k body (Err e)) first.0 c)

-- ---- the same, of the frame that was committed

-- the body of the configuration's frame
body_is : (conf : Conf) (frame : List ℕ) → frame ≡ framed (meta_item_bytes (Setup conf)) → body_of frame ≡ meta_item_bytes (Setup conf)
body_is conf frame is = ap body_of is ∙ body_framed (meta_item_bytes (Setup conf))

-- the journal was not made
pub journal_failed_by : (a b : View) (conf : Conf) (frame : List ℕ) (e : MetaFault) → frame ≡ framed (meta_item_bytes (Setup conf))
    → MakesJournal a b (body_of frame) (Err e)
    → Makes a b conf (Err e)
journal_failed_by a b conf frame e is made = journal_failed a b conf e (subst (λ (l : List ℕ). MakesJournal a b l (Err e)) (body_is conf frame is) made)

-- the store was made
pub store_made_by : (a b : View) (conf : Conf) (frame : List ℕ) (tree : Nodes) (sessions : Known) (j : JournalState) (s : MetaState)
    → frame ≡ framed (meta_item_bytes (Setup conf)) → IsConf conf → tree ≡ first_tree conf → sessions ≡ no_sessions → MakesJournal a b (body_of frame) (Ok j)
    → s ≡ record { tree = tree; sessions = sessions; journal = j } → Makes a b conf (Ok s)
store_made_by a b conf frame tree sessions j s is valid grown none made whole =
    let same : record { tree = first_tree conf; sessions = no_sessions; journal = j } ≡ s =
    sym (whole ∙ ap₂ (λ (t : Nodes) (k : Known). record { tree = t; sessions = k; journal = j }) grown none) in
    subst (λ (x : MetaState). Makes a b conf (Ok x)) same
    (store_made a b conf j valid (subst (λ (l : List ℕ). MakesJournal a b l (Ok j)) (body_is conf frame is) made))
