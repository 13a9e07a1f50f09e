-- What the requests on a stream and on its lock met and leave.
use Rattle.std.proofs.Common.{◌≡◌, ℕ, ◌+◌, List, [], ◌∷◌, Some, None, Ok, refl, sym, ap, ◌∙◌}
use Rattle.dl_types.specs.declared.mode.Mode.TheVariants.{EphemeralCounted}
use Rattle.dl_types.specs.declared.one_op.OneOp.TheVariants.{Create, Delete, Set}
use Rattle.dl_types.specs.declared.one_answer.OneAnswer.{OneAnswer}
use Rattle.dl_types.specs.declared.one_answer.OneAnswer.TheVariants.{Version}
use Rattle.dl_types.specs.declared.meta_answer.MetaAnswer.TheVariants as answer
use Rattle.dl_types.specs.Places.{first_place}
use Rattle.dl_types.specs.declared.dlsn.Dlsn.{Dlsn}
use Rattle.dl_tree.specs.Trees.{Nodes, outcome_of, run_of}
use Rattle.dl_formats.specs.Keys.{Streams, Stream, MaxSeq, Cut, Alloc, Locks, Member, Segs, Progress, Completed, path_of, member_stem, NoSlash, IsKey}
use Rattle.dl_rules_stream.specs.Requests.{makes, maxseq_node, cut_node, alloc_node}
use Rattle.dl_law_meta.specs.Keyed.{lasting}
use Rattle.dl_law_meta.specs.Effects.{StreamMade, StreamMadeAgain, StreamRemoved, MemberMade, MemberLeft, CutSet}
use Rattle.dl_law_meta.proofs.Done.{goes, ends, set_told}
use Rattle.dl_law_meta.proofs.Keyed.{MadeAt, DeletedAt, make_at, delete_at, set_at, member_at, put_before, put_behind, nothing_changed, new_by, gone_by}
use Rattle.dl_law_meta.proofs.Keyed.{set_by, counted_by, kid_by, counted_others}
use Rattle.dl_law_meta.proofs.Children.{none_below}

-- a stream is made

-- what the operations of a new stream leave
made_by : (t a b c d e f : Nodes) (s : List ℕ) → NoSlash s → MadeAt t a (Stream s) Streams (lasting [])
    → MadeAt a b (MaxSeq s) (Stream s) (lasting (maxseq_node 0 0)) → MadeAt b c (Cut s) (Stream s) (lasting (cut_node first_place))
    → MadeAt c d (Alloc s) (Stream s) (lasting (alloc_node None)) → MadeAt d e (Locks s) (Stream s) (lasting []) → MadeAt e f (Segs s) (Stream s) (lasting [])
    → StreamMade t f s
made_by t a b c d e f s name m1 m2 m3 m4 m5 m6 =
    let b1 = put_behind nothing_changed m1.puts in
    let b2 = put_behind b1 m2.puts in
    let b3 = put_behind b2 m3.puts in
    let b4 = put_behind b3 m4.puts in
    let b5 = put_behind b4 m5.puts in
    let a5 = put_before m6.puts nothing_changed in
    let a4 = put_before m5.puts a5 in
    let a3 = put_before m4.puts a4 in
    let a2 = put_before m3.puts a3 in
    let a1 = put_before m2.puts a2 in
    record {
      parent = m1.parent;
      stream = new_by nothing_changed m1 a1 name refl refl;
      maxseq = new_by b1 m2 a2 name refl refl;
      cut = new_by b2 m3 a3 name refl refl;
      alloc = new_by b3 m4 a4 name refl refl;
      locks = new_by b4 m5 a5 name refl refl;
      segs = new_by b5 m6 nothing_changed name refl refl;
      others = put_before m1.puts a1;
    }

-- what the request to make a stream leaves
pub stream_made : (t : Nodes) (session : ℕ) (s : List ℕ) (r : List OneAnswer × Nodes) → NoSlash s
    → run_of t session 0 (makes (Stream s) [] ∷ makes (MaxSeq s) (maxseq_node 0 0) ∷ makes (Cut s) (cut_node first_place)
    ∷ makes (Alloc s) (alloc_node None) ∷ makes (Locks s) [] ∷ makes (Segs s) [] ∷ []) ≡ Ok r
    → StreamMade t r.1 s
stream_made t session s r name e =
    let a = goes (λ u. MadeAt t u (Stream s) Streams (lasting [])) t session 0 _ _ r (make_at t session (Stream s) Streams [] name tt refl) e in
    let b = goes (λ u. MadeAt a.next u (MaxSeq s) (Stream s) (lasting (maxseq_node 0 0))) a.next session 1 _ _ (a.answers, r.1)
    (make_at a.next session (MaxSeq s) (Stream s) (maxseq_node 0 0) name name refl) a.rest in
    let c = goes (λ u. MadeAt b.next u (Cut s) (Stream s) (lasting (cut_node first_place))) b.next session 2 _ _ (b.answers, r.1)
    (make_at b.next session (Cut s) (Stream s) (cut_node first_place) name name refl) b.rest in
    let d = goes (λ u. MadeAt c.next u (Alloc s) (Stream s) (lasting (alloc_node None))) c.next session 3 _ _ (c.answers, r.1)
    (make_at c.next session (Alloc s) (Stream s) (alloc_node None) name name refl) c.rest in
    let f = goes (λ u. MadeAt d.next u (Locks s) (Stream s) (lasting [])) d.next session 4 _ _ (d.answers, r.1)
    (make_at d.next session (Locks s) (Stream s) [] name name refl) d.rest in
    let g = goes (λ u. MadeAt f.next u (Segs s) (Stream s) (lasting [])) f.next session 5 _ _ (f.answers, r.1)
    (make_at f.next session (Segs s) (Stream s) [] name name refl) f.rest in
    ends (λ u. StreamMade t u s) g.next session 6 g.answers r.1
    (made_by t a.next b.next c.next d.next f.next g.next s name a.met b.met c.met d.met f.met g.met) g.rest

-- a stream is made again

-- what the operations leave by which a stream is made again
again_by : (t a b : Nodes) (s : List ℕ) → NoSlash s → MadeAt t a (Locks s) (Stream s) (lasting []) → MadeAt a b (Segs s) (Stream s) (lasting [])
    → StreamMadeAgain t b s
again_by t a b s name m1 m2 =
    let after = put_before m2.puts nothing_changed in
    record {
      parent = m1.parent;
      locks = new_by nothing_changed m1 after name refl refl;
      segs = new_by (put_behind nothing_changed m1.puts) m2 nothing_changed name refl refl;
      others = put_before m1.puts after;
    }

-- what the request to make a stream again leaves
pub stream_made_again : (t : Nodes) (session : ℕ) (s : List ℕ) (r : List OneAnswer × Nodes) → NoSlash s
    → run_of t session 0 (makes (Locks s) [] ∷ makes (Segs s) [] ∷ []) ≡ Ok r → StreamMadeAgain t r.1 s
stream_made_again t session s r name e =
    let a = goes (λ u. MadeAt t u (Locks s) (Stream s) (lasting [])) t session 0 _ _ r (make_at t session (Locks s) (Stream s) [] name name refl) e in
    let b = goes (λ u. MadeAt a.next u (Segs s) (Stream s) (lasting [])) a.next session 1 _ _ (a.answers, r.1)
    (make_at a.next session (Segs s) (Stream s) [] name name refl) a.rest in
    ends (λ u. StreamMadeAgain t u s) b.next session 2 b.answers r.1 (again_by t a.next b.next s name a.met b.met) b.rest

-- a stream is removed

-- what the operations of a removal leave
removed_by : (t a b : Nodes) (s : List ℕ) → NoSlash s → DeletedAt t a (Locks s) None → DeletedAt a b (Segs s) None → StreamRemoved t b s
removed_by t a b s name d1 d2 =
    let after = put_before d2.puts nothing_changed in
    let before = put_behind nothing_changed d1.puts in
    record {
      locks = gone_by nothing_changed d1 after name refl refl;
      segs = gone_by before d2 nothing_changed name refl refl;
      no_member = λ n h. none_below t (Member s n) (Locks s) _ _ (name, h) refl refl d1.childless;
      none_in_progress = λ k h. sym (before.same (Progress s k) (name, h) refl) ∙ none_below a (Progress s k) (Segs s) _ _ (name, h) refl refl d2.childless;
      none_completed = λ k h. sym (before.same (Completed s k) (name, h) refl) ∙ none_below a (Completed s k) (Segs s) _ _ (name, h) refl refl d2.childless;
      others = put_before d1.puts after;
    }

-- what the request to remove a stream leaves
pub stream_removed : (t : Nodes) (session : ℕ) (s : List ℕ) (r : List OneAnswer × Nodes) → NoSlash s
    → run_of t session 0 (Delete (path_of (Locks s)) None ∷ Delete (path_of (Segs s)) None ∷ []) ≡ Ok r → StreamRemoved t r.1 s
stream_removed t session s r name e =
    let a = goes (λ u. DeletedAt t u (Locks s) None) t session 0 _ _ r (delete_at t session (Locks s) None name) e in
    let b = goes (λ u. DeletedAt a.next u (Segs s) None) a.next session 1 _ _ (a.answers, r.1) (delete_at a.next session (Segs s) None name) a.rest in
    ends (λ u. StreamRemoved t u s) b.next session 2 b.answers r.1 (removed_by t a.next b.next s name a.met b.met) b.rest

-- members of a lock

-- what the request to make a member leaves
pub member_made : (t : Nodes) (session : ℕ) (s : List ℕ) (r : OneAnswer × Nodes) → NoSlash s
    → outcome_of t session (Create (member_stem s) [] EphemeralCounted) ≡ Ok r → MemberMade t r.1 session s (answer.One r.0)
member_made t session s r name e =
    let x = member_at t session s name r e in
    record {
      number = x.number;
      locks = counted_by x name refl;
      member = kid_by x (name, x.room);
      told = ap (λ (a : OneAnswer). answer.One a) x.answer;
      others = counted_others x;
    }

-- what the request to leave a lock leaves
pub member_left : (t : Nodes) (session : ℕ) (s : List ℕ) (n : ℕ) (r : OneAnswer × Nodes) → IsKey (Member s n)
    → outcome_of t session (Delete (path_of (Member s n)) None) ≡ Ok r → MemberLeft t r.1 s n
member_left t session s n r h e =
    let d = delete_at t session (Member s n) None h r e in
    record { member = gone_by nothing_changed d nothing_changed h refl refl; others = put_before d.puts nothing_changed }

-- the cut

-- what the request to set a point leaves
pub cut_set : (t : Nodes) (session : ℕ) (s : List ℕ) (point : Dlsn) (version : ℕ) (r : OneAnswer × Nodes) → NoSlash s
    → outcome_of t session (Set (path_of (Cut s)) (cut_node point) (Some version)) ≡ Ok r → CutSet t r.1 s point version (answer.One r.0)
cut_set t session s point version r name e =
    let d = set_at t session (Cut s) (cut_node point) (Some version) name r e in
    record {
      cut = set_by nothing_changed d nothing_changed name refl refl;
      told = ap (λ (a : OneAnswer). answer.One a)
          (set_told t session (path_of (Cut s)) (cut_node point) (Some version) r e d.old d.was ∙ ap (λ (v : ℕ). Version (v + 1)) d.fitting);
      others = put_before d.puts nothing_changed;
    }
