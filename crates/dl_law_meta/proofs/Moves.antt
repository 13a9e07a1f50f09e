-- How each item moves each node.
use Rattle.std.proofs.Common.{◌≡◌, ◌≢◌, ℕ, ◌+◌, Bool, true, false, cond, not, ◌==◌, List, [], ◌∷◌, Option, Some, None, refl, sym, ap, ◌∙◌, subst, inl, inr, ◌⊎◌}
use Rattle.std.proofs.lemmas.Bool.{cond-false, cases_Bool, and_from}
use Rattle.std.proofs.lemmas.Option.{same_Some, none-some}
use Rattle.std.specs.List.{AllByRecursion}
use Rattle.std.specs.Cmp.Lexicographic.{slice_cmp, nat_list_cmp_total}
use Rattle.std.specs.Ordering.{nat_cmp}
use Rattle.std.specs.FinMap.{empty, get-insert, get-empty}
use Rattle.dl_types.specs.declared.meta_op.MetaOp.{MetaOp}
use Rattle.dl_types.specs.declared.meta_answer.MetaAnswer.{MetaAnswer}
use Rattle.dl_types.specs.declared.meta_answer.MetaAnswer.TheVariants as answer
use Rattle.dl_formats.specs.declared.conf.Conf as conf
use Rattle.dl_formats.specs.NodeBytes.{conf_bytes}
use Rattle.dl_formats.specs.Keys.{Key, Conf, Streams, Ledgers, Ledger, Stream, MaxSeq, Cut, Alloc, Locks, Member, Segs, Progress, Completed, path_of}
use Rattle.dl_formats.specs.Keys.{is_key, IsKey}
use Rattle.dl_formats.proofs.KeyLemmas.{insert_by_key}
use Rattle.dl_tree.specs.declared.node.Node.{Node}
use Rattle.dl_tree.specs.Paths.{root}
use Rattle.dl_tree.specs.Laws.{set_node}
use Rattle.dl_tree.specs.Trees.{Nodes, root_alone, after_request, is_owned, is_owner, without_session}
use Rattle.dl_tree.proofs.MapLemmas.{path_other}
use Rattle.dl_tree.proofs.LawLemmas.{get-without_session}
use Rattle.dl_rules_nodes.specs.Items.{MetaItem, Setup, Connect, Expire, Ask}
use Rattle.dl_rules_nodes.specs.Metadata.{with_node, first_tree, does, meta_from}
use Rattle.dl_rules_stream.specs.Requests.{Request, MakeStream, MakeAgain, RemoveStream, MakeMember, ListMembers, LeaveLock, Look, MakeLedger, TakeLedger}
use Rattle.dl_rules_stream.specs.Requests.{StartSegment, GetSegment, GetLedger, MarkLedger, CloseLedger, CompleteSegment, ListCut, LookCut, SetCut}
use Rattle.dl_rules_stream.specs.Requests.{DropSegment}
use Rattle.dl_law_meta.specs.Keyed.{node, is_apart, OthersStay, lasting, with_count, IsNew, IsSet, IsCounted, IsGone}
use Rattle.dl_law_meta.specs.Effects.{answer_to, tree_after, IsInForm, Leaves, LeavesBy}
use Rattle.dl_law_meta.specs.Histories.{tree_of, node_after, AreRequests}
use Rattle.dl_law_meta.specs.Laws.{ConfigurationMakes, IsMemberKey, MayBeSet, Counts, counter_in, WasSet, HasNextNumber, MayBeMade, MayGo, Moves, stays}
use Rattle.dl_law_meta.specs.Laws.{is_made, joins, is_set, is_counted, goes, MovesAt, EachItemMoves, MembersAloneHaveOwners}
use Rattle.dl_law_meta.proofs.Keyed.{key_is}
use Rattle.dl_law_meta.proofs.Children.{no_root}
use Rattle.dl_law_meta.proofs.Requests.{each_leaves}

-- ---- from a list of keys to all

-- a key is apart from these, or one of them, of which a fact is known
pub apart_or : (P : Key → Type 0) (m : Key) (ks : List Key) → AllByRecursion P ks → (is_apart m ks ≡ true) ⊎ P m
apart_or P m [] h = inl refl
apart_or P m (k ∷ ks) h = go (is_key m k) refl (apart_or P m ks h.1)
  where
    go : (b : Bool) → is_key m k ≡ b → (is_apart m ks ≡ true) ⊎ P m → (is_apart m (k ∷ ks) ≡ true) ⊎ P m
    go true e rest = inr (subst P (sym (key_is m k e)) h.0)
    go false e (inl a) = inl (and_from (not (is_key m k)) (is_apart m ks) (ap not e) a)
    go false e (inr p) = inr p

-- a node that stays as it is moves as it may
same_moves : (t u : Nodes) (m : Key) → node u m ≡ node t m → MovesAt t u m
same_moves t u m e = subst (λ (o : Option Node). Moves t u m (node t m) o) (sym e) (stays (node t m))

-- where some keys alone change, and each as it may, so do all
moves_by : (t u : Nodes) (ks : List Key) → OthersStay t u ks → AllByRecursion (MovesAt t u) ks → (m : Key) → IsKey m → MovesAt t u m
moves_by t u ks others each m h = go (apart_or (MovesAt t u) m ks each)
  where
    go : (is_apart m ks ≡ true) ⊎ MovesAt t u m → MovesAt t u m
    go (inl a) = same_moves t u m (others.same m h a)
    go (inr p) = p

-- a move between the nodes of two trees is one of those trees
between : {t u : Nodes} {k : Key} {o p : Option Node} → node t k ≡ o → node u k ≡ p → Moves t u k o p → MovesAt t u k
between {t = t} {u = u} {k = k} {o = o} a b m =
    subst (λ (x : Option Node). Moves t u k x (node u k)) (sym a) (subst (λ (x : Option Node). Moves t u k o x) (sym b) m)

-- a node that is new moves as it may
new_moves : {t u : Nodes} {k : Key} (bytes : List ℕ) → IsNew t u k (lasting bytes) → MayBeMade t u k → MovesAt t u k
new_moves bytes x w = between x.free x.now (is_made bytes w)

-- a node that is set moves as it may
set_moves : {t u : Nodes} {k : Key} {named : ℕ} {bytes : List ℕ} → IsSet t u k named bytes → MayBeSet k → MovesAt t u k
set_moves {bytes = bytes} x w = between x.was x.now (is_set x.old bytes w)

-- a node that is gone moves as it may
gone_moves : {t u : Nodes} {k : Key} {named : Option ℕ} → IsGone t u k named → MayGo t u k → MovesAt t u k
gone_moves x w = between x.was x.now (goes x.old w)

-- a node that counts moves as it may
counted_moves : {t u : Nodes} {k : Key} {number : ℕ} → IsCounted t u k number → Counts k → MovesAt t u k
counted_moves x w = between x.was x.now (is_counted x.old w)

-- a node that is set was set
was_set : {t u : Nodes} {k : Key} {named : ℕ} {bytes : List ℕ} → IsSet t u k named bytes → WasSet t u k
was_set {bytes = bytes} x = record { old = x.old; bytes = bytes; was = x.was; now = x.now }

-- the node of ledgers gives the next number
next_number : {t u : Nodes} {number : ℕ} → IsCounted t u Ledgers number → HasNextNumber t u number
next_number x = (ap counter_in x.was ∙ x.given, ap counter_in x.now ∙ ap (λ (n : ℕ). n + 1) x.given)

-- ---- one request

-- what a request leaves moves each node as it may
leaves_moves : (t u : Nodes) (session : ℕ) (r : Request) (a : MetaAnswer) → IsInForm r → Leaves t session r a u → (m : Key) → IsKey m → MovesAt t u m
leaves_moves t u session (MakeStream s) a f x m h =
    moves_by t u _ x.others (
      new_moves _ x.stream tt,
      (new_moves _ x.maxseq tt, (new_moves _ x.cut tt, (new_moves _ x.alloc tt, (new_moves _ x.locks tt, (new_moves _ x.segs tt, tt))))),
    ) m h
leaves_moves t u session (MakeAgain s) a f x m h = moves_by t u _ x.others (new_moves _ x.locks tt, (new_moves _ x.segs tt, tt)) m h
leaves_moves t u session (RemoveStream s) a f x m h = moves_by t u _ x.others (gone_moves x.locks tt, (gone_moves x.segs tt, tt)) m h
leaves_moves t u session (MakeMember s) a f x m h =
    moves_by t u _ x.others (counted_moves x.locks tt, (between x.member.free x.member.now (joins session tt), tt)) m h
leaves_moves t u session (ListMembers s) a f x m h = same_moves t u m (ap (λ (v : Nodes). node v m) x.same)
leaves_moves t u session (LeaveLock member) a f x m h = let y = x f.stream f.number f.key f.path in moves_by t u _ y.others (gone_moves y.member tt, tt) m h
leaves_moves t u session (Look s) a f x m h = same_moves t u m (ap (λ (v : Nodes). node v m) x.same)
leaves_moves t u session (MakeLedger q) a f x m h = moves_by t u _ x.others (counted_moves x.ledgers tt, (new_moves _ x.ledger (next_number x.ledgers), tt)) m h
leaves_moves t u session (TakeLedger s member None version ledger) a f x m h = moves_by t u _ x.others (set_moves x.alloc tt, tt) m h
leaves_moves t u session (TakeLedger s member (Some old) version ledger) a f x m h =
    moves_by t u _ x.others (gone_moves x.dropped tt, (set_moves x.alloc tt, tt)) m h
leaves_moves t u session (StartSegment b) a f x m h =
    moves_by t u _ x.others (set_moves x.maxseq tt, (new_moves _ x.segment (was_set x.maxseq), (set_moves x.alloc tt, tt))) m h
leaves_moves t u session (GetSegment s segment) a f x m h = same_moves t u m (ap (λ (v : Nodes). node v m) x.same)
leaves_moves t u session (GetLedger ledger) a f x m h = same_moves t u m (ap (λ (v : Nodes). node v m) x.same)
leaves_moves t u session (MarkLedger ledger q version) a f x m h = moves_by t u _ x.others (set_moves x.now tt, tt) m h
leaves_moves t u session (CloseLedger ledger q count version) a f x m h = moves_by t u _ x.others (set_moves x.now tt, tt) m h
leaves_moves t u session (CompleteSegment c) a f x m h =
    moves_by t u _ x.others (gone_moves x.progress (was_set x.maxseq), (new_moves _ x.completed (was_set x.maxseq), (set_moves x.maxseq tt, tt))) m h
leaves_moves t u session (ListCut s) a f x m h = same_moves t u m (ap (λ (v : Nodes). node v m) x.same)
leaves_moves t u session (LookCut s) a f x m h = same_moves t u m (ap (λ (v : Nodes). node v m) x.same)
leaves_moves t u session (SetCut s point version) a f x m h = moves_by t u _ x.others (set_moves x.cut tt, tt) m h
leaves_moves t u session (DropSegment s segment ledger) a f x m h = moves_by t u _ x.others (gone_moves x.completed tt, (gone_moves x.ledger_gone tt, tt)) m h

-- the same of a request with its answer
answer_moves : (t u : Nodes) (session : ℕ) (r : Request) (a : MetaAnswer) → IsInForm r → LeavesBy t session r a u → (m : Key) → IsKey m → MovesAt t u m
answer_moves t u session r (answer.One y) f x m h = leaves_moves t u session r (answer.One y) f x m h
answer_moves t u session r (answer.Many ys) f x m h = leaves_moves t u session r (answer.Many ys) f x m h
answer_moves t u session r (answer.Failed place why) f x m h = same_moves t u m (ap (λ (v : Nodes). node v m) x)

-- the same of the tree that a request leaves
request_moves : (t : Nodes) (session : ℕ) (r : Request) → IsInForm r → (m : Key) → IsKey m → MovesAt t (tree_after t session r) m
request_moves t session r f m h = answer_moves t (tree_after t session r) session r (answer_to t session r) f (each_leaves t session r f) m h

-- ---- the configuration

-- the root alone has no node of a key
pub root_none : (k : Key) → node root_alone k ≡ None
root_none k =
    get-insert nat_list_cmp_total (empty {X = Node} {R = slice_cmp nat_cmp}) root (record { bytes = []; version = 0; owner = None; counter = 0 }) (path_of k)
    ∙ cond-false _ _ _ (path_other (path_of k) root (no_root k)) ∙ get-empty (slice_cmp nat_cmp) (path_of k)

-- the nodes of the tree with which a configuration begins
first_at : (c : conf.Conf) (k : Key) → IsKey k
    → node (first_tree c) k
    ≡ cond (is_key k Ledgers) (Some (lasting [])) (cond (is_key k Streams) (Some (lasting [])) (cond (is_key k Conf) (Some (lasting (conf_bytes c))) None))
first_at c k h =
    insert_by_key (with_node (with_node root_alone Conf (conf_bytes c)) Streams []) Ledgers (lasting []) k tt h
    ∙ ap (cond (is_key k Ledgers) (Some (lasting [])))
    (insert_by_key (with_node root_alone Conf (conf_bytes c)) Streams (lasting []) k tt h
    ∙ ap (cond (is_key k Streams) (Some (lasting [])))
    (insert_by_key root_alone Conf (lasting (conf_bytes c)) k tt h ∙ ap (cond (is_key k Conf) (Some (lasting (conf_bytes c)))) (root_none k)))

-- keys that are not the same are told apart
not_key : (k m : Key) → k ≢ m → is_key k m ≡ false
not_key k m apart = go (cases_Bool (is_key k m))
  where
    go : (is_key k m ≡ true) ⊎ (is_key k m ≡ false) → is_key k m ≡ false
    go (inl e) = absurd (apart (key_is k m e))
    go (inr e) = e

-- what a configuration makes
pub configuration : ConfigurationMakes
configuration c = record {
  configuration = first_at c Conf tt;
  streams = first_at c Streams tt;
  ledgers = first_at c Ledgers tt;
  others = λ k h a b d. first_at c k h ∙ cond-false _ _ _ (not_key k Ledgers d) ∙ cond-false _ _ _ (not_key k Streams b) ∙ cond-false _ _ _ (not_key k Conf a);
}

-- the first tree moves each node as it may
first_moves : (u : Nodes) (c : conf.Conf) (k : Key) → IsKey k → node u k ≡ node (first_tree c) k → MovesAt root_alone u k
first_moves u c k h e = go k h (is_key k Ledgers) (is_key k Streams) (is_key k Conf) (e ∙ first_at c k h) refl refl refl
  where
    go : (k : Key) → IsKey k → (a b d : Bool)
        → node u k ≡ cond (is_key k Ledgers) (Some (lasting []))
        (cond (is_key k Streams) (Some (lasting [])) (cond (is_key k Conf) (Some (lasting (conf_bytes c))) None))
        → is_key k Ledgers ≡ a → is_key k Streams ≡ b → is_key k Conf ≡ d → MovesAt root_alone u k
    go Conf h a b d w x y z = between (root_none Conf) w (is_made (conf_bytes c) tt)
    go Streams h a b d w x y z = between (root_none Streams) w (is_made [] tt)
    go Ledgers h a b d w x y z = between (root_none Ledgers) w (is_made [] tt)
    go (Ledger n) h a b d w x y z = between (root_none (Ledger n)) w (stays None)
    go (Stream s) h a b d w x y z = between (root_none (Stream s)) w (stays None)
    go (MaxSeq s) h a b d w x y z = between (root_none (MaxSeq s)) w (stays None)
    go (Cut s) h a b d w x y z = between (root_none (Cut s)) w (stays None)
    go (Alloc s) h a b d w x y z = between (root_none (Alloc s)) w (stays None)
    go (Locks s) h a b d w x y z = between (root_none (Locks s)) w (stays None)
    go (Member s n) h a b d w x y z = between (root_none (Member s n)) w (stays None)
    go (Segs s) h a b d w x y z = between (root_none (Segs s)) w (stays None)
    go (Progress s n) h a b d w x y z = between (root_none (Progress s n)) w (stays None)
    go (Completed s n) h a b d w x y z = between (root_none (Completed s n)) w (stays None)

-- ---- a session's end

-- members alone have owners
abbrev pub OwnersAreMembers : Nodes → Type 0
OwnersAreMembers t = (k : Key) (n : Node) (session : ℕ) → IsKey k → node t k ≡ Some n → n.owner ≡ Some session → IsMemberKey k

-- the node of a member may go
member_goes : (t u : Nodes) (k : Key) → IsMemberKey k → MayGo t u k
member_goes t u (Member s n) h = tt
member_goes t u _ h = absurd h

-- the end of a session takes the nodes that it owns alone
ended_by : (t u : Nodes) (session : ℕ) (k : Key) (n : Node) (owner : Option ℕ) → n.owner ≡ owner → ((j : ℕ) → owner ≡ Some j → IsMemberKey k)
    → Moves t u k (Some n) (cond (not (is_owner session owner)) (Some n) None)
ended_by t u session k n None is member = stays (Some n)
ended_by t u session k n (Some j) is member = go (j == session)
  where
    go : (b : Bool) → Moves t u k (Some n) (cond (not b) (Some n) None)
    go true = goes n (member_goes t u k (member j refl))
    go false = stays (Some n)

-- the same of the node of a key
ended_at : (t u : Nodes) (session : ℕ) (k : Key) (o : Option Node) → node t k ≡ o → OwnersAreMembers t → IsKey k
    → Moves t u k o (cond (not (is_owned session o)) o None)
ended_at t u session k None is owners h = stays None
ended_at t u session k (Some n) is owners h = ended_by t u session k n n.owner refl (λ j e. owners k n j h is e)

-- the end of a session moves each node as it may
end_moves : (t : Nodes) (session : ℕ) (k : Key) → OwnersAreMembers t → IsKey k → MovesAt t (without_session t session) k
end_moves t session k owners h =
    between refl (get-without_session t session (path_of k)) (ended_at t (without_session t session) session k (node t k) refl owners h)

-- ---- one item

-- each item moves each node as it may
pub item_moves : (x : MetaItem) (older : List MetaItem) → OwnersAreMembers (tree_of older) → AreRequests (x ∷ older) → (k : Key) → IsKey k
    → MovesAt (tree_of older) (tree_of (x ∷ older)) k
unfolding meta_from does
item_moves (Setup c) older owners h k g =
    subst (λ (ys : List MetaItem). MovesAt (tree_of ys) (first_tree c) k) (sym h.0) (first_moves (first_tree c) c k g refl)
item_moves (Connect session) older owners h k g = stays (node (tree_of older) k)
item_moves (Expire session) older owners h k g = end_moves (tree_of older) session k owners g
item_moves (Ask session number o) older owners h k g =
    subst (λ (p : MetaOp). MovesAt (tree_of older) (after_request (tree_of older) session p).1 k) (sym h.0.is)
    (request_moves (tree_of older) session h.0.request h.0.form k g)

-- a node that has an owner later is a member's, where it was before
owner_kept : (t u : Nodes) (k : Key) (o p : Option Node) → Moves t u k o p → (session : ℕ) → ((n : Node) → o ≡ Some n → n.owner ≡ Some session → IsMemberKey k)
    → (m : Node) → p ≡ Some m → m.owner ≡ Some session → IsMemberKey k
owner_kept t u k _ _ (stays o) session old m e f = old m e f
owner_kept t u k _ _ (is_made bytes w) session old m e f = absurd (none-some session (ap (λ (n : Node). n.owner) (same_Some (lasting bytes) m e) ∙ f))
owner_kept t u k _ _ (joins j w) session old m e f = w
owner_kept t u k _ _ (is_set n bytes w) session old m e f = old n refl (ap (λ (x : Node). x.owner) (same_Some (set_node bytes n) m e) ∙ f)
owner_kept t u k _ _ (is_counted n w) session old m e f = old n refl (ap (λ (x : Node). x.owner) (same_Some (with_count n) m e) ∙ f)
owner_kept t u k _ _ (goes n w) session old m e f = absurd (none-some m e)

-- members alone have owners, behind all items
pub owners_are : (items : List MetaItem) → AreRequests items → OwnersAreMembers (tree_of items)
unfolding meta_from
owners_are [] h k n session g e f = absurd (none-some n (sym (root_none k) ∙ e))
owners_are (x ∷ older) h k n session g e f = by (owners_are older h.1)
  where
    by : OwnersAreMembers (tree_of older) → IsMemberKey k
    by owners =
        owner_kept (tree_of older) (tree_of (x ∷ older)) k (node_after older k) (node_after (x ∷ older) k) (item_moves x older owners h k g) session
        (λ m a b. owners k m session g a b) n e f

-- so the law says
pub members_alone : MembersAloneHaveOwners
members_alone items k n session h g e f = owners_are items h k n session g e f

-- each item moves each node as it may, which is the law
pub each_moves : EachItemMoves
each_moves x older k h g = item_moves x older (owners_are older h.1) h k g
