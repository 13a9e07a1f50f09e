-- What the requests on ledgers met and leave.
use Rattle.std.proofs.Common.{◌≡◌, ℕ, ◌+◌, List, [], ◌∷◌, ◌++◌, Option, Some, None, Ok, refl, ap, ◌∙◌, subst}
use Rattle.dl_types.specs.declared.mode.Mode.TheVariants.{Counted}
use Rattle.dl_types.specs.declared.one_op.OneOp.TheVariants.{Create, Set, Check}
use Rattle.dl_types.specs.declared.one_answer.OneAnswer.{OneAnswer}
use Rattle.dl_types.specs.declared.one_answer.OneAnswer.TheVariants.{Version}
use Rattle.dl_types.specs.declared.meta_answer.MetaAnswer.TheVariants as answer
use Rattle.dl_quorum.specs.Sizes.{Sizes}
use Rattle.dl_fields.specs.Digits.{HasTenDigits}
use Rattle.dl_tree.specs.Trees.{Nodes, outcome_of, run_of}
use Rattle.dl_formats.specs.declared.ledger.LedgerState.TheVariants.{Writing}
use Rattle.dl_formats.specs.Keys.{Ledger, Alloc, path_of, ledger_stem, NoSlash}
use Rattle.dl_rules_stream.specs.Requests.{ledger_node, alloc_node, drops_old}
use Rattle.dl_law_meta.specs.Effects.{LedgerMade, LedgerTaken, LedgerSet, MayHaveTenDigits}
use Rattle.dl_law_meta.proofs.Done.{goes, ends, set_told}
use Rattle.dl_law_meta.proofs.Keyed.{SetAt, DeletedAt, FoundAt, set_at, delete_at, check_at, ledger_at, found_there, put_before, put_behind}
use Rattle.dl_law_meta.proofs.Keyed.{nothing_changed, set_by, gone_by, counted_by, kid_by, counted_others}

-- what the request to make a ledger leaves
pub ledger_made : (t : Nodes) (session : ℕ) (q : Sizes) (r : OneAnswer × Nodes)
    → outcome_of t session (Create ledger_stem (ledger_node Writing q 0) Counted) ≡ Ok r
    → LedgerMade t r.1 q (answer.One r.0)
ledger_made t session q r e =
    let x = ledger_at t session (ledger_node Writing q 0) r e in
    record {
      number = x.number;
      ledgers = counted_by x tt refl;
      ledger = kid_by x x.room;
      told = ap (λ (a : OneAnswer). answer.One a) x.answer;
      others = counted_others x;
    }

-- what a request that sets a ledger's node leaves
pub ledger_set : (t : Nodes) (session ledger version : ℕ) (bytes : List ℕ) (r : OneAnswer × Nodes) → HasTenDigits ledger
    → outcome_of t session (Set (path_of (Ledger ledger)) bytes (Some version)) ≡ Ok r → LedgerSet t r.1 ledger version bytes (answer.One r.0)
ledger_set t session ledger version bytes r h e =
    let d = set_at t session (Ledger ledger) bytes (Some version) h r e in
    record {
      now = set_by nothing_changed d nothing_changed h refl refl;
      told = ap (λ (a : OneAnswer). answer.One a)
          (set_told t session (path_of (Ledger ledger)) bytes (Some version) r e d.old d.was ∙ ap (λ (v : ℕ). Version (v + 1)) d.fitting);
      others = put_before d.puts nothing_changed;
    }

-- a ledger is allocated, and another is dropped or none is

-- what it leaves that a ledger is named, where none was named before
alone_by : (t u v : Nodes) (s member : List ℕ) (version ledger : ℕ) → NoSlash s → FoundAt t u member None
    → SetAt u v (Alloc s) (Some version) (alloc_node (Some ledger)) → LedgerTaken t v s member None version ledger
alone_by t u v s member version ledger name c d =
    let e = subst (λ (x : Nodes). SetAt x v (Alloc s) (Some version) (alloc_node (Some ledger))) c.same d in
    record {
      owner = found_there t u member None c;
      dropped = tt;
      alloc = set_by nothing_changed e nothing_changed name refl refl;
      others = put_before e.puts nothing_changed;
    }

-- the same where the ledger that was named before is deleted
both_by : (t u v w : Nodes) (s member : List ℕ) (old version ledger : ℕ) → NoSlash s → HasTenDigits old → FoundAt t u member None
    → DeletedAt u v (Ledger old) None → SetAt v w (Alloc s) (Some version) (alloc_node (Some ledger))
    → LedgerTaken t w s member (Some old) version ledger
both_by t u v w s member old version ledger name h c g d =
    let f = subst (λ (x : Nodes). DeletedAt x v (Ledger old) None) c.same g in
    let after = put_before d.puts nothing_changed in
    record {
      owner = found_there t u member None c;
      dropped = gone_by nothing_changed f after h refl refl;
      alloc = set_by (put_behind nothing_changed f.puts) d nothing_changed name refl refl;
      others = put_before f.puts after;
    }

-- what the request to name a ledger leaves
pub ledger_taken : (t : Nodes) (session : ℕ) (s member : List ℕ) (old : Option ℕ) (version ledger : ℕ) (r : List OneAnswer × Nodes) → NoSlash s
    → MayHaveTenDigits old
    → run_of t session 0 (Check member None ∷ (drops_old old ++ Set (path_of (Alloc s)) (alloc_node (Some ledger)) (Some version) ∷ [])) ≡ Ok r
    → LedgerTaken t r.1 s member old version ledger
ledger_taken t session s member None version ledger r name h e =
    let a = goes (λ u. FoundAt t u member None) t session 0 _ _ r (check_at t session member None) e in
    let b = goes (λ u. SetAt a.next u (Alloc s) (Some version) (alloc_node (Some ledger))) a.next session 1 _ _ (a.answers, r.1)
    (set_at a.next session (Alloc s) (alloc_node (Some ledger)) (Some version) name) a.rest in
    ends (λ u. LedgerTaken t u s member None version ledger) b.next session 2 b.answers r.1
    (alone_by t a.next b.next s member version ledger name a.met b.met) b.rest
ledger_taken t session s member (Some old) version ledger r name h e =
    let a = goes (λ u. FoundAt t u member None) t session 0 _ _ r (check_at t session member None) e in
    let b = goes (λ u. DeletedAt a.next u (Ledger old) None) a.next session 1 _ _ (a.answers, r.1) (delete_at a.next session (Ledger old) None h) a.rest in
    let c = goes (λ u. SetAt b.next u (Alloc s) (Some version) (alloc_node (Some ledger))) b.next session 2 _ _ (b.answers, r.1)
    (set_at b.next session (Alloc s) (alloc_node (Some ledger)) (Some version) name) b.rest in
    ends (λ u. LedgerTaken t u s member (Some old) version ledger) c.next session 3 c.answers r.1
    (both_by t a.next b.next c.next s member old version ledger name h a.met b.met c.met) c.rest
