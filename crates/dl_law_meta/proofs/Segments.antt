-- What the requests on segments met and leave.
use Rattle.std.proofs.Common.{◌≡◌, ℕ, ◌+◌, List, [], ◌∷◌, ◌++◌, Option, Some, None, Ok, refl, sym, subst}
use Rattle.dl_types.specs.declared.one_op.OneOp.{OneOp}
use Rattle.dl_types.specs.declared.one_op.OneOp.TheVariants.{Delete, Set}
use Rattle.dl_types.specs.declared.one_answer.OneAnswer.{OneAnswer}
use Rattle.dl_fields.specs.Digits.{HasTenDigits}
use Rattle.dl_tree.specs.Trees.{Nodes, run_of}
use Rattle.dl_formats.specs.declared.segment.SegmentMeta.TheVariants as meta
use Rattle.dl_formats.specs.NodeBytes.{segment_bytes}
use Rattle.dl_formats.specs.Keys.{Ledger, MaxSeq, Alloc, Segs, Progress, Completed, path_of, NoSlash, IsKey}
use Rattle.dl_rules_stream.specs.Requests.{Completion, Beginning, makes, maxseq_node, alloc_node, completed_node, checks_member, starts, completes}
use Rattle.dl_law_meta.specs.Keyed.{lasting}
use Rattle.dl_law_meta.specs.Effects.{IsBeginning, IsCompletion, MemberMayBeThere, SegmentStarted, SegmentCompleted, SegmentDropped}
use Rattle.dl_law_meta.proofs.Done.{goes, ends}
use Rattle.dl_law_meta.proofs.Keyed.{SetAt, MadeAt, DeletedAt, FoundAt, set_at, make_at, delete_at, check_at, found_there, put_before, put_behind}
use Rattle.dl_law_meta.proofs.Keyed.{nothing_changed, new_by, set_by, gone_by, parent_by, there_by}

-- a segment is started

-- the node of the segment that is started
abbrev progress_node : Beginning → List ℕ
progress_node b = segment_bytes (meta.InProgress b.segment b.ledger)

-- what the operations of a start leave
started_by : (t u v w x y : Nodes) (b : Beginning) → IsBeginning b → FoundAt t u b.member None
    → SetAt u v (MaxSeq b.stream) (Some b.version) (maxseq_node b.segment b.last)
    → MadeAt v w (Progress b.stream b.segment) (Segs b.stream) (lasting (progress_node b)) → FoundAt w x (path_of (Ledger b.ledger)) (Some 0)
    → SetAt x y (Alloc b.stream) (Some b.alloc_version) (alloc_node None) → SegmentStarted t y b
started_by t u v w x y b form c d m l e =
    let d1 = subst (λ (z : Nodes). SetAt z v (MaxSeq b.stream) (Some b.version) (maxseq_node b.segment b.last)) c.same d in
    let e1 = subst (λ (z : Nodes). SetAt z y (Alloc b.stream) (Some b.alloc_version) (alloc_node None)) l.same e in
    let b1 = put_behind nothing_changed d1.puts in
    let b2 = put_behind b1 m.puts in
    let a2 = put_before e1.puts nothing_changed in
    let a1 = put_before m.puts a2 in
    let small = form.number.1 in
    record {
      owner = found_there t u b.member None c;
      maxseq = set_by nothing_changed d1 a1 form.name refl refl;
      parent = parent_by b1 m form.name refl;
      segment = new_by b1 m a2 (form.name, small) refl refl;
      ledger = there_by b2 l form.ten refl;
      alloc = set_by b2 e1 nothing_changed form.name refl refl;
      others = put_before d1.puts a1;
    }

-- what the request to start a segment leaves
pub segment_started : (t : Nodes) (session : ℕ) (b : Beginning) (r : List OneAnswer × Nodes) → IsBeginning b → run_of t session 0 (starts b) ≡ Ok r
    → SegmentStarted t r.1 b
segment_started t session b r form e =
    let c = goes (λ u. FoundAt t u b.member None) t session 0 _ _ r (check_at t session b.member None) e in
    let d = goes (λ u. SetAt c.next u (MaxSeq b.stream) (Some b.version) (maxseq_node b.segment b.last)) c.next session 1 _ _ (c.answers, r.1)
    (set_at c.next session (MaxSeq b.stream) (maxseq_node b.segment b.last) (Some b.version) form.name) c.rest in
    let m = goes (λ u. MadeAt d.next u (Progress b.stream b.segment) (Segs b.stream) (lasting (progress_node b))) d.next session 2 _ _ (d.answers, r.1)
    (make_at d.next session (Progress b.stream b.segment) (Segs b.stream) (progress_node b) (form.name, form.number.1) form.name refl) d.rest in
    let l = goes (λ u. FoundAt m.next u (path_of (Ledger b.ledger)) (Some 0)) m.next session 3 _ _ (m.answers, r.1)
    (check_at m.next session (path_of (Ledger b.ledger)) (Some 0)) m.rest in
    let f = goes (λ u. SetAt l.next u (Alloc b.stream) (Some b.alloc_version) (alloc_node None)) l.next session 4 _ _ (l.answers, r.1)
    (set_at l.next session (Alloc b.stream) (alloc_node None) (Some b.alloc_version) form.name) l.rest in
    ends (λ u. SegmentStarted t u b) f.next session 5 f.answers r.1
    (started_by t c.next d.next m.next l.next f.next b form c.met d.met m.met l.met f.met) f.rest

-- a segment is completed

-- what the operations of a completion leave
completed_by : (t v w x : Nodes) (c : Completion) → IsCompletion c → MemberMayBeThere t c.member → DeletedAt t v (Progress c.stream c.segment) (Some 0)
    → MadeAt v w (Completed c.stream c.segment) (Segs c.stream) (lasting (completed_node c))
    → SetAt w x (MaxSeq c.stream) (Some c.version) (maxseq_node c.greatest c.last) → SegmentCompleted t x c
completed_by t v w x c form owner d m e =
    let b1 = put_behind nothing_changed d.puts in
    let b2 = put_behind b1 m.puts in
    let a2 = put_before e.puts nothing_changed in
    let a1 = put_before m.puts a2 in
    let key : IsKey (Progress c.stream c.segment) = (form.name, form.number.1) in
    record {
      owner = owner;
      progress = gone_by nothing_changed d a1 key refl refl;
      parent = parent_by b1 m form.name refl;
      completed = new_by b1 m a2 key refl refl;
      maxseq = set_by b2 e nothing_changed form.name refl refl;
      others = put_before d.puts a1;
    }

-- the operations of a completion behind the check of the member
abbrev completes_behind : Completion → List OneOp
completes_behind c =
    Delete (path_of (Progress c.stream c.segment)) (Some 0) ∷ makes (Completed c.stream c.segment) (completed_node c) ∷ Set (path_of (MaxSeq c.stream))
    (maxseq_node c.greatest c.last) (Some c.version) ∷ []

-- what they leave
completed_behind : (t : Nodes) (session place : ℕ) (c : Completion) (r : List OneAnswer × Nodes) → IsCompletion c → MemberMayBeThere t c.member
    → run_of t session place (completes_behind c) ≡ Ok r → SegmentCompleted t r.1 c
completed_behind t session place c r form owner e =
    let key : IsKey (Progress c.stream c.segment) = (form.name, form.number.1) in
    let d = goes (λ u. DeletedAt t u (Progress c.stream c.segment) (Some 0)) t session place _ _ r
    (delete_at t session (Progress c.stream c.segment) (Some 0) key) e in
    let m = goes (λ u. MadeAt d.next u (Completed c.stream c.segment) (Segs c.stream) (lasting (completed_node c))) d.next session (place + 1) _ _
    (d.answers, r.1)
    (make_at d.next session (Completed c.stream c.segment) (Segs c.stream) (completed_node c) key form.name refl) d.rest in
    let f = goes (λ u. SetAt m.next u (MaxSeq c.stream) (Some c.version) (maxseq_node c.greatest c.last)) m.next session (place + 1 + 1) _ _ (m.answers, r.1)
    (set_at m.next session (MaxSeq c.stream) (maxseq_node c.greatest c.last) (Some c.version) form.name) m.rest in
    ends (λ u. SegmentCompleted t u c) f.next session (place + 1 + 1 + 1) f.answers r.1
    (completed_by t d.next m.next f.next c form owner d.met m.met f.met) f.rest

-- the same behind the check of a member, where there is one
by_member : (t : Nodes) (session : ℕ) (c : Completion) (r : List OneAnswer × Nodes) (o : Option (List ℕ)) → c.member ≡ o → IsCompletion c
    → run_of t session 0 (checks_member o ++ completes_behind c) ≡ Ok r → SegmentCompleted t r.1 c
by_member t session c r None is form e = completed_behind t session 0 c r form (subst (MemberMayBeThere t) (sym is) tt) e
by_member t session c r (Some member) is form e =
    let a = goes (λ u. FoundAt t u member None) t session 0 _ _ r (check_at t session member None) e in
    completed_behind t session 1 c (a.answers, r.1) form (subst (MemberMayBeThere t) (sym is) (found_there t a.next member None a.met))
    (subst (λ (u : Nodes). run_of u session 1 (completes_behind c) ≡ Ok (a.answers, r.1)) a.met.same a.rest)

-- what the request to complete a segment leaves
pub segment_completed : (t : Nodes) (session : ℕ) (c : Completion) (r : List OneAnswer × Nodes) → IsCompletion c → run_of t session 0 (completes c) ≡ Ok r
    → SegmentCompleted t r.1 c
segment_completed t session c r form e = by_member t session c r c.member refl form e

-- a segment is deleted with its ledger

-- what the operations of a drop leave
dropped_by : (t u v : Nodes) (s : List ℕ) (segment ledger : ℕ) → NoSlash s → HasTenDigits segment → HasTenDigits ledger
    → DeletedAt t u (Completed s segment) None → DeletedAt u v (Ledger ledger) None → SegmentDropped t v s segment ledger
dropped_by t u v s segment ledger name k l d e =
    let after = put_before e.puts nothing_changed in
    record {
      completed = gone_by nothing_changed d after (name, k) refl refl;
      ledger_gone = gone_by (put_behind nothing_changed d.puts) e nothing_changed l refl refl;
      others = put_before d.puts after;
    }

-- what the request to drop a segment leaves
pub segment_dropped : (t : Nodes) (session : ℕ) (s : List ℕ) (segment ledger : ℕ) (r : List OneAnswer × Nodes) → NoSlash s → HasTenDigits segment
    → HasTenDigits ledger
    → run_of t session 0 (Delete (path_of (Completed s segment)) None ∷ Delete (path_of (Ledger ledger)) None ∷ []) ≡ Ok r
    → SegmentDropped t r.1 s segment ledger
segment_dropped t session s segment ledger r name k l e =
    let a = goes (λ u. DeletedAt t u (Completed s segment) None) t session 0 _ _ r (delete_at t session (Completed s segment) None (name, k)) e in
    let b = goes (λ u. DeletedAt a.next u (Ledger ledger) None) a.next session 1 _ _ (a.answers, r.1)
    (delete_at a.next session (Ledger ledger) None l) a.rest in
    ends (λ u. SegmentDropped t u s segment ledger) b.next session 2 b.answers r.1 (dropped_by t a.next b.next s segment ledger name k l a.met b.met) b.rest
