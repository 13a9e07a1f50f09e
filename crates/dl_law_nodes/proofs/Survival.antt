-- What is promised of storage nodes stays so as they go on: one lemma for each kind of thing, by its cases.
use Rattle.std.proofs.Common.{◌≡◌, ℕ, Bool, true, false, List}
use Rattle.std.proofs.lemmas.Option.{IfSome_then}
use Rattle.dl_msg.specs.declared.letters.Told.{Told}
use Rattle.dl_msg.specs.declared.msg.Msg.{Msg}
use Rattle.dl_msg.specs.declared.msg.Msg.TheVariants as msg
use Rattle.dl_rules_ledger.specs.Recoveries.{Phase, Fencing, Reading, Copying, Ended, Exhausted}
use Rattle.dl_rules_ledger.specs.Writers.{WriterView}
use Rattle.dl_rules_nodes.specs.Items.{Item, AddItem, CopyItem, FenceItem}
use Rattle.dl_rules_nodes.specs.Bookies.{Bookie, durable, all_items}
use Rattle.dl_machine.specs.States.{Node}
use Rattle.dl_law_nodes.specs.Disks.{Nodes, stores, holds, fences, denies, Grows}
use Rattle.dl_law_nodes.specs.Promises.{Shapes, Stored, Held, Sealed, LastPiecesFollow, FencedIf, DeniedIf, AskHolds, AnswerHolds, ToldHold, ItemHolds}
use Rattle.dl_law_nodes.specs.Promises.{ItemsHold, OtherHolds, NodeHolds, FoundUpTo, EndsAt, PhaseHolds, WriterHolds}
use Rattle.dl_law_nodes.specs.Laws.{AllPromisesLast}
use Rattle.dl_law_nodes.proofs.Items.{all_weaker}
use Rattle.dl_law_nodes.proofs.Placement.{acks_more, blocks_more, covers_more}

-- who said that a ledger is fenced, and with which count
abbrev pub AnswerKept : Shapes → Nodes → ℕ → ℕ × ℕ → Type 0
AnswerKept shape k l x = (fences k l x.0 ≡ true) × Stored shape k l x.1

module _ (shape : Shapes) (k m : Nodes) (g : Grows k m) where
  -- ---- ledgers

  -- what is stored
  pub stored_lasts : (l n : ℕ) → Stored shape k l n → Stored shape m l n
  stored_lasts l n h = record { each = λ e below. acks_more (shape l) e (stores k l e) (stores m l e) (g.stored l e) (h.each e below) }

  -- what is held
  pub held_lasts : (l n : ℕ) → Held shape k l n → Held shape m l n
  held_lasts l n h = record { each = λ e below. acks_more (shape l) e (holds k l e) (holds m l e) (g.held l e) (h.each e below) }

  -- where a ledger is sealed
  pub sealed_lasts : (l n : ℕ) → Sealed shape k l n → Sealed shape m l n
  sealed_lasts l n h = record { blocked = blocks_more (shape l) n (denies k l n) (denies m l n) (g.denied l n) h.blocked }

  -- that last pieces follow what is stored
  pub last_pieces_last : LastPiecesFollow shape k → LastPiecesFollow shape m
  last_pieces_last h l = stored_lasts l _ (h l)

  -- ---- messages and items

  -- a fence that is told
  fenced_if_lasts : (f : Bool) (l b : ℕ) → FencedIf f k l b → FencedIf f m l b
  fenced_if_lasts true l b h = g.fenced l b h
  fenced_if_lasts false l b h = tt

  -- a denial
  denied_if_lasts : (f : Bool) (l e b : ℕ) → DeniedIf f k l e b → DeniedIf f m l e b
  denied_if_lasts true l e b h = g.denied l e b h
  denied_if_lasts false l e b h = tt

  -- a message for a bookie
  pub ask_lasts : (x : Msg) → AskHolds shape k x → AskHolds shape m x
  ask_lasts (msg.Add l e n bytes) h = stored_lasts l n h
  ask_lasts (msg.Copy t l e n bytes) h = stored_lasts l n h
  ask_lasts (msg.AskLac t l f) h = tt
  ask_lasts (msg.AskEntry t l e) h = tt
  ask_lasts _ h = absurd h

  -- a message of a bookie
  pub answer_lasts : (b : ℕ) (x : Msg) → AnswerHolds shape k b x → AnswerHolds shape m b x
  answer_lasts b (msg.AddOk l e) h = g.stored l e b h
  answer_lasts b (msg.AddFenced l e) h = g.fenced l b h
  answer_lasts b (msg.Full what l e) h = tt
  answer_lasts b (msg.CopyOk t l e) h = g.held l e b h
  answer_lasts b (msg.LacIs t l f n) h = (fenced_if_lasts f l b h.0, stored_lasts l n h.1)
  answer_lasts b (msg.EntryIs t l e bytes) h = tt
  answer_lasts b (msg.NoEntry t l e f) h = denied_if_lasts f l e b h
  answer_lasts b _ h = absurd h

  -- an item
  pub item_lasts : (x : Item) → ItemHolds shape k x → ItemHolds shape m x
  item_lasts (AddItem l e n bytes) h = stored_lasts l n h
  item_lasts (CopyItem l e n bytes) h = stored_lasts l n h
  item_lasts (FenceItem l) h = tt

  -- messages that are told
  pub told_lasts : (told : List Told) → ToldHold shape k told → ToldHold shape m told
  told_lasts told h = all_weaker (λ (t : Told). AskHolds shape k t.msg) (λ (t : Told). AskHolds shape m t.msg) (λ (t : Told). ask_lasts t.msg) told h

  -- ---- storage nodes

  -- the items of a node
  pub items_last : (items : List Item) → ItemsHold shape k items → ItemsHold shape m items
  items_last items h = record { each = all_weaker (ItemHolds shape k) (ItemHolds shape m) item_lasts items h.each; fences_last = h.fences_last }

  -- the other list of a disk
  other_lasts : (b : Bookie) → OtherHolds shape k b → OtherHolds shape m b
  other_lasts b h = record { items = items_last (durable b) h.items; idle = h.idle }

  -- a storage node
  pub node_lasts : (n : Node) → NodeHolds shape k n → NodeHolds shape m n
  node_lasts n h = record {
    items = items_last (all_items n.bookie) h.items;
    waiting = h.waiting;
    other = IfSome_then n.other h.other other_lasts;
    settled = h.settled;
    idle = h.idle;
  }

  -- ---- tasks

  -- what a recovery has found
  found_lasts : (l start e : ℕ) → FoundUpTo shape k l start e → FoundUpTo shape m l start e
  found_lasts l start e h = record {
    fenced = covers_more (shape l) (fences k l) (fences m l) (g.fenced l) h.fenced;
    start = stored_lasts l start h.start;
    found = held_lasts l e h.found;
  }

  -- the end of a recovery
  end_lasts : (l count : ℕ) → EndsAt shape k l count → EndsAt shape m l count
  end_lasts l count h = record {
    fenced = covers_more (shape l) (fences k l) (fences m l) (g.fenced l) h.fenced;
    found = held_lasts l count h.found;
    sealed = sealed_lasts l count h.sealed;
  }

  -- a phase of a recovery
  pub phase_lasts : (l : ℕ) (p : Phase) → PhaseHolds shape k l p → PhaseHolds shape m l p
  phase_lasts l (Fencing answers) h =
      all_weaker (AnswerKept shape k l) (AnswerKept shape m l) (λ x a. (g.fenced l x.0 a.0, stored_lasts l x.1 a.1)) answers h
  phase_lasts l (Reading start e denials) h =
      (found_lasts l start e h.0, all_weaker (λ b. denies k l e b ≡ true) (λ b. denies m l e b ≡ true) (g.denied l e) denials h.1)
  phase_lasts l (Copying start e copied) h =
      (found_lasts l start e h.0, all_weaker (λ b. holds k l e b ≡ true) (λ b. holds m l e b ≡ true) (g.held l e) copied h.1)
  phase_lasts l (Ended count) h = end_lasts l count h
  phase_lasts l Exhausted h = tt

  -- a writer
  pub writer_lasts : (v : WriterView) → WriterHolds k v → WriterHolds m v
  writer_lasts v h = record {
    acked = λ e b a. g.stored v.ledger e b (h.acked e b a);
    fenced = λ b a. g.fenced v.ledger b (h.fenced b a);
  }

-- what is promised stays so
pub all_promises_last : AllPromisesLast
all_promises_last shape k m g = record {
  stored = stored_lasts shape k m g;
  held = held_lasts shape k m g;
  sealed = sealed_lasts shape k m g;
  asks = ask_lasts shape k m g;
  answers = answer_lasts shape k m g;
  phases = phase_lasts shape k m g;
  writers = writer_lasts shape k m g;
}
