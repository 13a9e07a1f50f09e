-- Where promises meet: what is stored isn't denied for good, so a ledger that is sealed at an entry has no more than those before it stored.
use Rattle.std.proofs.Common.{◌≡◌, ℕ, ◌<◌, ◌≤◌, Bool, true, false, ◌&&◌, ◌==◌, List, [], ◌∷◌, ◌++◌, refl, sym, ap, ◌∙◌, subst, inl, inr, ◌⊎◌, leb-true, arith, Option, Some, None}
use Rattle.std.specs.List.{list_any}
use Rattle.std.proofs.lemmas.Bool.{true≢false, and_parts, and_from, or_cases, not-true, cases_lt}
use Rattle.std.proofs.lemmas.Bool.{cond-true, false_from_ne_true, not_from_false, eqb-true, eq-eqb}
use Rattle.dl_quorum.specs.Pieces.{Piece, Pieces, members, acks}
use Rattle.dl_quorum.specs.WriteSets.{is_acked}
use Rattle.dl_quorum.proofs.PieceLemmas.{acks-meets-blocks}
use Rattle.dl_msg.specs.declared.msg.Msg.{Msg}
use Rattle.dl_msg.specs.declared.msg.Msg.TheVariants as msg
use Rattle.dl_rules_nodes.specs.Items.{Item, is_add, is_fence, is_entry}
use Rattle.dl_rules_nodes.specs.Bookies.{Bookie, durable, queued_items}
use Rattle.dl_machine.specs.States.{Node}
use Rattle.dl_law_nodes.specs.Disks.{Nodes, stores, holds, fences, denies, disk_has, disk_passes, other_passes, adds_nowhere, lacks_add}
use Rattle.dl_law_nodes.specs.Promises.{Shapes, AnswerHolds, NodeHolds, with_piece}
use Rattle.dl_law_nodes.specs.Laws.{tells_fence, AllFencesLast, CoversSeal, SealsEndStoring, StoredIsReplicated}
use Rattle.dl_law_nodes.proofs.Items.{any_weaker, none_behind, add_is_entry}
use Rattle.dl_law_nodes.proofs.Placement.{write_sets_differ, write_sets_stay, covers_block, acks_more, blocks_more}

-- ---- one node

-- an entry on a disk that is added nowhere is none
apart_here : (l e : ℕ) (n : Node) → disk_has (is_add l e) n ≡ true → adds_nowhere l e n ≡ true → ⊥
apart_here l e n a h =
    let there = (and_parts (list_any (is_add l e) (durable n.bookie)) _ a).0 in
    let disk = (and_parts (disk_passes (lacks_add l e) n) _ h).0 in
    let none = (and_parts (lacks_add l e (durable n.bookie)) _ disk).0 in
    true≢false (sym there ∙ not-true _ none)

-- an entry that is added is held, in each list that a disk may hold
other_held : (l e : ℕ) (n : Node) → disk_has (is_add l e) n ≡ true → disk_has (is_entry l e) n ≡ true
other_held l e n h = go n.other h
  where
    weaker : (xs : List Item) → list_any (is_add l e) xs ≡ true → list_any (is_entry l e) xs ≡ true
    weaker xs = any_weaker (is_add l e) (is_entry l e) (add_is_entry l e) xs

    go : (o : Option Bookie) → (list_any (is_add l e) (durable n.bookie) && other_passes (list_any (is_add l e)) o) ≡ true
        → (list_any (is_entry l e) (durable n.bookie) && other_passes (list_any (is_entry l e)) o) ≡ true
    go None a =
        let d = and_parts (list_any (is_add l e) (durable n.bookie)) true a in
        and_from (list_any (is_entry l e) (durable n.bookie)) true (weaker (durable n.bookie) d.0) refl
    go (Some b) a =
        let d = and_parts (list_any (is_add l e) (durable n.bookie)) (list_any (is_add l e) (durable b)) a in
        and_from (list_any (is_entry l e) (durable n.bookie)) (list_any (is_entry l e) (durable b)) (weaker (durable n.bookie) d.0) (weaker (durable b) d.1)

-- behind a fence on the disk no item waits that adds an entry
pub none_waits : (shape : Shapes) (k : Nodes) (l e : ℕ) (n : Node) → NodeHolds shape k n → disk_has (is_fence l) n ≡ true
    → list_any (is_add l e) (queued_items n.bookie) ≡ false
none_waits shape k l e n h f =
    none_behind l (durable n.bookie) (queued_items n.bookie) h.items.fences_last (and_parts (list_any (is_fence l) (durable n.bookie)) _ f).0 e

-- ---- fences

-- what a bookie says of a fence
told_fence : (shape : Shapes) (k : Nodes) (b l : ℕ) (m : Msg) → AnswerHolds shape k b m → tells_fence l m ≡ true → fences k l b ≡ true
told_fence shape k b l (msg.AddFenced i e) h w = subst (λ x. fences k x b ≡ true) (eqb-true i l w) h
told_fence shape k b l (msg.LacIs t i true n) h w = subst (λ x. fences k x b ≡ true) (eqb-true i l w) h.0
told_fence shape k b l (msg.LacIs t i false n) h w = absurd (true≢false (sym w))
told_fence shape k b l (msg.NoEntry t i e true) h w =
    subst (λ x. fences k x b ≡ true) (eqb-true i l w) (and_parts (fences k i b) (adds_nowhere i e (k b)) h).0
told_fence shape k b l (msg.NoEntry t i e false) h w = absurd (true≢false (sym w))
told_fence shape k b l _ h w = absurd (true≢false (sym w))

-- fences are last
pub all_fences_last : AllFencesLast
all_fences_last shape k = record {
  told = told_fence shape k;
  behind = λ b h. (h b).items.fences_last;
  waiting = λ b l e h f. none_waits shape k l e (k b) (h b) f;
  denied = λ m g l e b h.
      false_from_ne_true (stores m l e b)
      (λ a. apart_here l e (m b) a (and_parts (fences m l b) (adds_nowhere l e (m b)) (g.denied l e b h)).1);
}

-- where a cover is fenced, what is on none of its disks is sealed
pub covers_seal : CoversSeal
covers_seal shape k h l e placed cover from none = record {
  blocked =
      blocks_more (shape l) e (fences k l) (denies k l e)
      (λ b f. and_from (fences k l b) _ f (and_from _ _ (none b f) (not_from_false _ (none_waits shape k l e (k b) (h b) f))))
      (covers_block (shape l) (fences k l) placed cover e from);
}

-- ---- seals

-- two tests that no number passes both pass none of a list
none_shared : (p r : ℕ → Bool) → ((b : ℕ) → p b ≡ true → r b ≡ true → ⊥) → (xs : List ℕ) → list_any (λ b. p b && r b) xs ≡ true → ⊥
none_shared p r apart [] h = true≢false (sym h)
none_shared p r apart (x ∷ xs) h = go (or_cases (p x && r x) (list_any (λ b. p b && r b) xs) h) (none_shared p r apart xs)
  where
    go : ((p x && r x) ≡ true) ⊎ (list_any (λ b. p b && r b) xs ≡ true) → (list_any (λ b. p b && r b) xs ≡ true → ⊥) → ⊥
    go (inl a) rest = let d = and_parts (p x) (r x) a in apart x d.0 d.1
    go (inr a) rest = rest a

-- an ack quorum and so many denials share a bookie
pub seals_end_storing : SealsEndStoring
seals_end_storing shape k l count entry placed s z = go (cases_lt entry count)
  where
    go : (entry < count) ⊎ (count ≤ entry) → count ≤ entry
    go (inr h) = h
    go (inl h) =
        absurd (none_shared (stores k l entry) (denies k l entry)
        (λ b a d. apart_here l entry (k b) a (and_parts (fences k l b) (adds_nowhere l entry (k b)) d).1) (members (shape l) entry)
        (acks-meets-blocks (shape l) entry (stores k l entry) (denies k l entry) placed.sizes (s.each entry h) z.blocked))

-- ---- copies

-- the pieces of a ledger that has a further one
piece_there : (shape : Shapes) (l : ℕ) (x : Piece) → with_piece shape l x l ≡ record (shape l) { later = (shape l).later ++ x ∷ [] }
piece_there shape l x = cond-true (l == l) _ (shape l) (eq-eqb l l refl)

-- an ack quorum of an entry before a further piece
acks_stay : (w : Pieces) (x : Piece) (entry : ℕ) (has : ℕ → Bool) → entry < x.from → acks w entry has ≡ true
    → acks (record w { later = w.later ++ x ∷ [] }) entry has ≡ true
acks_stay w x entry has before a = ap (is_acked w.q has) (write_sets_stay w x entry before) ∙ a

-- what is stored is replicated
pub stored_is_replicated : StoredIsReplicated
stored_is_replicated shape k l n s = record {
  replicated = λ placed e below. record {
    differ = write_sets_differ (shape l) placed e;
    enough = leb-true _ _ (s.each e below);
  };
  held = record { each = λ e below. acks_more (shape l) e (stores k l e) (holds k l e) (λ b. other_held l e (k b)) (s.each e below) };
  stays = λ x from. record {
    each = λ e below.
        subst (λ w. acks w e (stores k l e) ≡ true) (sym (piece_there shape l x)) (acks_stay (shape l) x e (stores k l e) (omega arith) (s.each e below));
  };
}
