-- What is known of sessions, requests and replies lasts as items come and sessions are given.
use Rattle.std.proofs.Common.{◌≡◌, ℕ, false, ◌≤◌, List, [], ◌∷◌, Option, Some, None, ap, ◌∙◌, inl, inr, arith}
use Rattle.std.specs.List.{AllByRecursion}
use Rattle.dl_types.specs.declared.address.Address.{Address}
use Rattle.dl_types.specs.declared.address.Address.TheVariants.{Client, Bookie as AtBookie, Meta as AtMeta}
use Rattle.dl_types.specs.declared.meta_answer.MetaAnswer.{MetaAnswer}
use Rattle.dl_msg.specs.declared.letter.Letter.{Letter}
use Rattle.dl_msg.specs.declared.meta_reply.MetaReply.{MetaReply}
use Rattle.dl_msg.specs.declared.meta_reply.MetaReply.TheVariants as reply
use Rattle.dl_msg.specs.declared.msg.Msg.{Msg}
use Rattle.dl_rules_nodes.specs.Bookies.{Bookie, Waiting}
use Rattle.dl_session.specs.Sessions.{is_live}
use Rattle.dl_rules_nodes.specs.Items.{MetaItem}
use Rattle.dl_rules_nodes.specs.Metadata.{meta_of}
use Rattle.dl_rules_client.specs.EventRanges.{AllSome}
use Rattle.dl_machine.specs.States.{Node, Joined}
use Rattle.dl_machine.specs.Laws.{OneItemMore}
use Rattle.dl_laws.specs.Served.{IsOwn, EndsOwn, RanThen, ReplySays, HeardSays, LetterSays, IsServed, WaitsOwn, QueueOwn}
use Rattle.dl_laws.specs.Served.{ProcessOwn, PartsServed}

-- Sessions that were given keep their owners, those that have ended stay so, and there may be an item more.
pub record Grows (who now : ℕ → ℕ) (last more : ℕ) (items newer : List MetaItem) : Type 0 where
  pub given : last ≤ more
  pub owners : (k : ℕ) → k ≤ last → now k ≡ who k
  pub gone : (k : ℕ) → k ≤ last → is_live (meta_of items).sessions k ≡ false → is_live (meta_of newer).sessions k ≡ false
  pub item : OneItemMore items newer

-- the session of a letter was given
pub ends_within : (who : ℕ → ℕ) (last k : ℕ) (from to : Address) → EndsOwn who last k from to → k ≤ last
ends_within who last k (Client c) (Client d) h = absurd h
ends_within who last k (Client c) (AtBookie b) h = h.within
ends_within who last k (Client c) AtMeta h = h.within
ends_within who last k (AtBookie b) (Client c) h = h.within
ends_within who last k (AtBookie b) (AtBookie d) h = absurd h
ends_within who last k (AtBookie b) AtMeta h = absurd h
ends_within who last k AtMeta (Client c) h = h.within
ends_within who last k AtMeta (AtBookie b) h = absurd h
ends_within who last k AtMeta AtMeta h = absurd h

module _ (who now : ℕ → ℕ) (last more : ℕ) (items newer : List MetaItem) (g : Grows who now last more items newer) where
  -- an owner stays
  own_later : (k c : ℕ) → IsOwn who last k c → IsOwn now more k c
  own_later k c h = record { given = h.given; within = omega (arith, h.within, g.given); owner = g.owners k h.within ∙ h.owner }

  -- the ends of a letter
  ends_later : (k : ℕ) (from to : Address) → EndsOwn who last k from to → EndsOwn now more k from to
  ends_later k (Client c) (Client d) h = h
  ends_later k (Client c) (AtBookie b) h = own_later k c h
  ends_later k (Client c) AtMeta h = own_later k c h
  ends_later k (AtBookie b) (Client c) h = own_later k c h
  ends_later k (AtBookie b) (AtBookie d) h = h
  ends_later k (AtBookie b) AtMeta h = h
  ends_later k AtMeta (Client c) h = own_later k c h
  ends_later k AtMeta (AtBookie b) h = h
  ends_later k AtMeta AtMeta h = h

  -- a run stays
  ran_later : (k n : ℕ) (a : MetaAnswer) → OneItemMore items newer → RanThen items k n a → RanThen newer k n a
  ran_later k n a (inl e) h = record { newer = h.newer; older = h.older; op = h.op; parts = e ∙ h.parts; answers = h.answers }
  ran_later k n a (inr m) h = record {
    newer = m.0 ∷ h.newer;
    older = h.older;
    op = h.op;
    parts = m.1 ∙ ap (λ (xs : List MetaItem). m.0 ∷ xs) h.parts;
    answers = h.answers;
  }

  -- what a reply says
  reply_later : (k n : ℕ) (r : MetaReply) → k ≤ last → ReplySays items k n r → ReplySays newer k n r
  reply_later k n reply.Expired le h = g.gone k le h
  reply_later k n (reply.Answer a) le h = ran_later k n a g.item h

  -- what a client hears
  heard_later : (k : ℕ) (m : Msg) (from : Address) → k ≤ last → HeardSays items k m from → HeardSays newer k m from
  heard_later k m AtMeta le h = record { number = h.number; given = h.given; is = h.is; says = reply_later k h.number h.given le h.says }
  heard_later k m (AtBookie b) le h = h
  heard_later k m (Client c) le h = h

  -- what a letter says
  says_later : (k : ℕ) (m : Msg) (from to : Address) → k ≤ last → LetterSays items k m from to → LetterSays newer k m from to
  says_later k m from AtMeta le h = h
  says_later k m from (AtBookie b) le h = h
  says_later k m from (Client c) le h = heard_later k m from le h

  -- letters
  letters_later : (ls : List Letter) → AllByRecursion (IsServed who last items) ls → AllByRecursion (IsServed now more newer) ls
  letters_later [] each = tt
  letters_later (l ∷ ls) each = (
    record {
      own = ends_later l.session l.from l.to each.0.own;
      says = says_later l.session l.msg l.from l.to (ends_within who last l.session l.from l.to each.0.own) each.0.says;
    },
    letters_later ls each.1,
  )

  -- replies that wait
  queue_later : (ws : List Waiting) → AllByRecursion (WaitsOwn who last) ws → AllByRecursion (WaitsOwn now more) ws
  queue_later [] each = tt
  queue_later (w ∷ ws) each = (record { own = own_later w.session w.client each.0.own; says = each.0.says }, queue_later ws each.1)

  -- the other list of a storage node
  other_later : (o : Option Bookie) → AllSome (QueueOwn who last) o → AllSome (QueueOwn now more) o
  other_later None h = tt
  other_later (Some b) h = queue_later b.queue h

  -- a client's process
  process_later : (c : ℕ) (o : Option Joined) → AllSome (ProcessOwn who last c) o → AllSome (ProcessOwn now more c) o
  process_later c None h = tt
  process_later c (Some me) h = own_later me.session c h

  -- all parts
  pub parts_later : (letters : List Letter) (nodes : ℕ → Node) (clients : ℕ → Option Joined) → PartsServed who last items letters nodes clients
      → PartsServed now more newer letters nodes clients
  parts_later letters nodes clients h = record {
    letters_served = letters_later letters h.letters_served;
    nodes_own = λ b. record { bookie = queue_later (nodes b).bookie.queue (h.nodes_own b).bookie; other = other_later (nodes b).other (h.nodes_own b).other };
    clients_own = λ c. process_later c (clients c) (h.clients_own c);
  }
