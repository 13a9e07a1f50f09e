-- Items that were read, and what they ask of the tree and of the sessions.
use Rattle.std.proofs.Common.{◌≡◌, ℕ, ◌+◌, ◌-◌, ◌^◌, ◌<◌, ◌≤◌, ◌==◌, Bool, true, false, List, [], length, Option, Some, None, Result, Ok, Err, sym, ap, ap₂}
use Rattle.std.proofs.Common.{◌∙◌, subst, refl, arith}
use Rattle.dl_types.specs.declared.meta_op.MetaOp.{MetaOp}
use Rattle.dl_types.specs.declared.meta_op.MetaOp.TheVariants as op
use Rattle.dl_codec.specs.Fields.{IsBytes}
use Rattle.dl_fields.specs.declared.fault.Fault.{Fault}
use Rattle.dl_fields.specs.Readers.{whole_from}
use Rattle.dl_fields.proofs.ReaderLemmas.{whole_found}
use Rattle.dl_types.specs.declared.meta_answer.MetaAnswer.{MetaAnswer}
use Rattle.dl_tree.specs.Trees.{Nodes, HasPlaces, after_request, without_session}
use Rattle.dl_tree_msg.specs.Requests.{IsRequest}
use Rattle.dl_session.specs.declared.admit.Admit.TheVariants as admit
use Rattle.dl_session.specs.Sessions.{Known, number_in, admission, after_connect, after_expiry, after_run}
use Rattle.dl_rules_nodes.specs.Items.{MetaItem, Connect, Expire, Ask}
use Rattle.dl_rules_nodes.specs.Metadata.{Meta, does, answer_of}
use Rattle.dl_rules_nodes.specs.Reading.{left_of, with_place}
use Rattle.dl_rules_nodes.specs.MetaReading.{is_above, meta_item_from, meta_item_in}
use Rattle.dl_rules_nodes.specs.MetaOrder.{IsDue}
use Rattle.dl_rules_nodes.proofs.MetaItemLaws.{meta_items_are_exact}
use Rattle.dl_meta.specs.declared.change.Change.{Change}
use Rattle.dl_meta.specs.declared.change.Change.TheVariants as change
use Rattle.dl_meta.specs.declared.meta_fault.MetaFault.TheVariants as fault
use Rattle.dl_meta.specs.Changes.{item_for}
use Rattle.dl_meta.specs.Loading.{meta_with, DoesItem, DoesBody}

-- a request that has a spelling has no more operations than there are places
pub has_places : (o : MetaOp) → IsRequest o → HasPlaces o
has_places (op.One x) valid = tt
has_places (op.Multi ops) valid = let few : length ops < 256 ^ 2 = valid.0.0 in omega (arith, few)

-- a number above the last one of a session runs
above_runs : (o : Option ℕ) (number : ℕ) → is_above o number ≡ true → admission o number ≡ admit.Run
above_runs None number e = absurd cc
above_runs (Some last) number e = rw e refl

-- what a change asks that may come
pub change_connects : (is_first : Bool) (known : Known) (c : Change) (session : ℕ) → c ≡ change.Connect session → IsDue is_first known (item_for c)
    → known.last < 2 ^ 64 - 1
change_connects is_first known c session e due =
    let d : IsDue is_first known (Connect session) = subst (λ (x : Change). IsDue is_first known (item_for x)) e due in
    let few : session < 256 ^ 8 = d.spelt in
    let next : session ≡ known.last + 1 = d.fits in
    omega (arith, few, next)

-- a request runs
pub change_runs : (is_first : Bool) (known : Known) (c : Change) (session number : ℕ) (o : MetaOp) → c ≡ change.Ask session number o
    → IsDue is_first known (item_for c)
    → admission (number_in known.live session) number ≡ admit.Run
change_runs is_first known c session number o e due =
    let d : IsDue is_first known (Ask session number o) = subst (λ (x : Change). IsDue is_first known (item_for x)) e due in
    above_runs (number_in known.live session) number d.fits.1.0

-- and has no more operations than there are places
pub change_has_places : (is_first : Bool) (known : Known) (c : Change) (session number : ℕ) (o : MetaOp) → c ≡ change.Ask session number o
    → IsDue is_first known (item_for c)
    → HasPlaces o
change_has_places is_first known c session number o e due =
    let d : IsDue is_first known (Ask session number o) = subst (λ (x : Change). IsDue is_first known (item_for x)) e due in
    has_places o d.spelt.1.1

-- ---- bodies

-- an item that is all of a body, by a test of the bytes behind it
pub is_whole_by : (is_first : Bool) (known : Known) (body rest : List ℕ) (x : MetaItem) (t : Bool) → meta_item_from is_first known body ≡ Ok (x, rest)
    → t ≡ (length rest == 0) → t ≡ true → meta_item_in is_first known body ≡ Ok x
is_whole_by is_first known body rest x t e is so = let none : (length rest == 0) ≡ true = sym is ∙ so in rw e (rw none refl)

-- may come
pub may_come : (is_first : Bool) (known : Known) (body : List ℕ) (x : MetaItem) → IsBytes body → meta_item_in is_first known body ≡ Ok x
    → IsDue is_first known x
may_come is_first known body x fits e = (whole_found (meta_items_are_exact is_first known) body x fits e).0

-- a body whose item was read and done
pub body_done : (end : ℕ) (is_first : Bool) (body : List ℕ) (old new : Meta) (x : MetaItem) → IsBytes body → meta_item_in is_first old.sessions body ≡ Ok x
    → new ≡ does old x
    → DoesItem end is_first body old new
body_done end is_first body old new x fits e done =
    let found = whole_found (meta_items_are_exact is_first old.sessions) body x fits e in
    record { item = x; read = ap (with_place end) e; due = found.0; spelt = found.1; meta = done }

-- a body that is refused
pub body_refused : (end : ℕ) (is_first : Bool) (body : List ℕ) (old new : Meta) (f : Fault) (left : ℕ) → meta_item_in is_first old.sessions body ≡ Err f
    → left ≡ left_of f
    → DoesBody end is_first body old new (Err (fault.Damaged (end - left)))
body_refused end is_first body old new f left e is = ap (with_place end) e ∙ ap (λ (n : ℕ). Err (end - n)) (sym is)

-- ---- what an item does, part by part

-- a connection
pub does_connect : (m : Meta) (t : Nodes) (k : Known) (session : ℕ) → t ≡ m.tree → k ≡ after_connect m.sessions → meta_with t k ≡ does m (Connect session)
unfolding does
does_connect m t k session e f = ap₂ meta_with e f

-- the end of a session
pub does_expire : (m : Meta) (t : Nodes) (k : Known) (session : ℕ) → t ≡ without_session m.tree session → k ≡ after_expiry m.sessions session
    → meta_with t k ≡ does m (Expire session)
unfolding does
does_expire m t k session e f = ap₂ meta_with e f

-- a request
pub does_ask : (m : Meta) (t : Nodes) (k : Known) (session number : ℕ) (o : MetaOp) (answer : MetaAnswer) → after_request m.tree session o ≡ (answer, t)
    → k ≡ after_run m.sessions session number → meta_with t k ≡ does m (Ask session number o)
unfolding does
does_ask m t k session number o answer e f = ap₂ meta_with (sym (ap (λ (p : MetaAnswer × Nodes). p.1) e)) f

-- and its answer
pub answer_is : (m : Meta) (t : Nodes) (session : ℕ) (o : MetaOp) (answer : MetaAnswer) → after_request m.tree session o ≡ (answer, t)
    → answer ≡ answer_of m session o
answer_is m t session o answer e = sym (ap (λ (p : MetaAnswer × Nodes). p.0) e)
