-- What an order and its client do at what they hear, lifted to the rules.
use Rattle.std.proofs.Common.{◌≡◌, ℕ, ◌&&◌, ◌==◌, Bool, true, false, List, Option, Some, None, refl, sym, subst}
use Rattle.dl_types.specs.declared.meta_answer.MetaAnswer.{MetaAnswer}
use Rattle.dl_msg.specs.declared.heard.Heard.{Heard}
use Rattle.dl_msg.specs.declared.meta_reply.MetaReply.{MetaReply}
use Rattle.dl_msg.specs.declared.meta_reply.MetaReply.TheVariants.{Expired, Answer}
use Rattle.dl_msg.specs.declared.msg.Msg.{Msg}
use Rattle.dl_msg.specs.declared.heard.Heard.TheVariants.{Reply, From}
use Rattle.dl_msg.specs.declared.turn.Turn.{Turn}
use Rattle.dl_msg.specs.declared.turn.Turn.TheVariants as turn
use Rattle.dl_transcript.specs.declared.event.Event.{Event}
use Rattle.dl_transcript.specs.declared.event.Event.TheVariants as event
use Rattle.dl_requests.specs.Tasks.{View, HearsBy}
use Rattle.dl_rules_stream.specs.Truncates.{TruncateArgs}
use Rattle.dl_rules_client.specs.Acts.{ClientArgs, no_acts}
use Rattle.dl_rules_client.specs.Moves.{goes_on, ends_with}
use Rattle.dl_rules_client.specs.Clients.{meta_hears, reply_hears, tagged_hears}
use Rattle.dl_rules_client.specs.Views as rule
use Rattle.dl_rules_client.specs.Views.{ClientNow, stays, order_doing}
use Rattle.dl_acts.specs.declared.parts.Parts.{Parts}
use Rattle.dl_acts.specs.declared.front.Front.TheVariants.{Nothing}
use Rattle.dl_namespace.specs.Facts.{MakeFacts, RemoveFacts}
use Rattle.dl_namespace.specs.Making.{make_order, MakesFor}
use Rattle.dl_namespace.specs.Removing.{remove_order, RemovesFor}
use Rattle.dl_trunc.specs.Facts.{TruncateFacts, PurgeFacts}
use Rattle.dl_trunc.specs.Truncating.{truncate_order, TruncatesFor}
use Rattle.dl_trunc.specs.Purging.{purge_order, PurgesFor}
use Rattle.dl_client.specs.declared.doing.Doing.TheVariants as kept
use Rattle.dl_client.specs.declared.order.Order.{Order}
use Rattle.dl_client.specs.Facts.{ClientFacts}
use Rattle.dl_client.specs.Hearing.{DoingGoes, OrderGoes, hears_in, replied, going_of}
use Rattle.dl_client.specs.Moves.{after_turn, is_tag, parts_at, with_order}
use Rattle.dl_client.specs.Standing.{BothStand, Does, IsThere, NowStands, OrderStands, IsMaking, IsRemoving, IsTruncating, IsPurging}
use Rattle.dl_client.proofs.Going.{goes_on_does, hears_by_doing}

-- ---- tasks

-- an order that makes its stream goes on as its task does
pub make_goes : (me : ClientArgs) (o : rule.Order) (h : Heard) (t : Turn Event) (client : ℕ) (s : List ℕ) (old new : MakeFacts)
    → client ≡ me.number → s ≡ o.stream → IsMaking o old
    → ((v : View (List ℕ)) → MakesFor v old → HearsBy (λ u. event.Created client s) make_order MakesFor v h t new)
    → DoingGoes me o h t (kept.Makes new)
make_goes me o h t client s old new who where_ k goes =
    let x = goes (record { given = o.stream; heard = k.heard }) k.stands in
    record { turn = rw k.is (rw (who, where_) at x.turn); stands = rw k.is (record { heard = _; is = refl; stands = x.stands }) }

-- an order that removes its stream goes on as its task does
pub remove_goes : (me : ClientArgs) (o : rule.Order) (h : Heard) (t : Turn Event) (client : ℕ) (s : List ℕ) (old new : RemoveFacts)
    → client ≡ me.number → s ≡ o.stream → IsRemoving o old
    → ((v : View (List ℕ)) → RemovesFor v old → HearsBy (λ u. event.Removed client s) remove_order RemovesFor v h t new)
    → DoingGoes me o h t (kept.Removes new)
remove_goes me o h t client s old new who where_ k goes =
    let x = goes (record { given = o.stream; heard = k.heard }) k.stands in
    record { turn = rw k.is (rw (who, where_) at x.turn); stands = rw k.is (record { heard = _; is = refl; stands = x.stands }) }

-- an order that moves the point of its stream goes on as its task does
pub truncate_goes : (me : ClientArgs) (o : rule.Order) (h : Heard) (t : Turn Event) (client : ℕ) (s : List ℕ) (old new : TruncateFacts)
    → client ≡ me.number → s ≡ o.stream → IsTruncating o old
    → ((v : View TruncateArgs) → TruncatesFor v old → HearsBy (event.Truncated client s) truncate_order TruncatesFor v h t new)
    → DoingGoes me o h t (kept.Truncates new)
truncate_goes me o h t client s old new who where_ k goes =
    let x = goes (record { given = rule.truncate_args o k.to; heard = k.heard }) k.stands in
    record { turn = rw k.is (rw (who, where_) at x.turn); stands = rw k.is (record { to = k.to; heard = _; is = refl; stands = x.stands }) }

-- an order that deletes the segments below the point of its stream goes on as its task does
pub purge_goes : (me : ClientArgs) (o : rule.Order) (h : Heard) (t : Turn Event) (client : ℕ) (s : List ℕ) (old new : PurgeFacts)
    → client ≡ me.number → s ≡ o.stream → IsPurging o old
    → ((v : View (List ℕ)) → PurgesFor v old → HearsBy (event.Purged client s) purge_order PurgesFor v h t new)
    → DoingGoes me o h t (kept.Purges new)
purge_goes me o h t client s old new who where_ k goes =
    let x = goes (record { given = o.stream; heard = k.heard }) k.stands in
    record { turn = rw k.is (rw (who, where_) at x.turn); stands = rw k.is (record { heard = _; is = refl; stands = x.stands }) }

-- ---- the client

-- a client whose order is another one stands for that
pub with_order_stands : (me : ClientArgs) (n : ClientNow) (o : rule.Order) (c : ClientFacts) (k : Order)
    → NowStands me n c → OrderStands me o k → NowStands me (record n { order = Some o }) (with_order c k)
with_order_stands me n o c k h stands = record {
  number = h.number;
  session = h.session;
  conf = h.conf;
  asked = h.asked;
  awaits = h.awaits;
  taken = h.taken;
  order = record { value = o; is = refl; stands = stands };
  writer = h.writer;
  reader = h.reader;
}

-- a client whose order heard something does what the rules say
pub order_does : (me : ClientArgs) (n : ClientNow) (h : Heard) (c : ClientFacts) (k next : Order) (t : Turn Event) (order : Option rule.Order)
    → NowStands me n c → IsThere (OrderStands me) order k → ((o : rule.Order) → OrderStands me o k → OrderGoes me o h t next)
    → Does me (hears_in me n h order) (parts_at (with_order c next) Nothing t) (after_turn (with_order c next) t)
order_does me n h c k next t order now there goes =
    let o = there.value in
    let g : OrderGoes me o h t next = goes o there.stands in
    let P : rule.ClientMove → Type 0 = λ m. Does me m (parts_at (with_order c next) Nothing t) (after_turn (with_order c next) t) in
    let d : P (goes_on me n (order_doing o (going_of me o h).doing) no_acts (going_of me o h).next (ends_with n o no_acts)) =
    rw g.turn
    (goes_on_does me n (order_doing o (going_of me o h).doing) o (with_order c next) (going_of me o h).next
    (with_order_stands me n (order_doing o (going_of me o h).doing) c next now g.stands)) in
    rw there.is (subst P (sym (hears_by_doing me n o h k.doing there.stands.doing)) d)

-- a client does nothing
pub quiet_does : (me : ClientArgs) (n : ClientNow) (c : ClientFacts) → NowStands me n c → Does me (stays n no_acts) (parts_at c Nothing turn.Wait) c
quiet_does me n c h = record { acts_are = refl; stands = h }

-- a client without an order hears nothing
pub free_hears : (me : ClientArgs) (n : ClientNow) (h : Heard) (c : ClientFacts) (order : Option rule.Order) → NowStands me n c → order ≡ None
    → Does me (hears_in me n h order) (parts_at c Nothing turn.Wait) c
free_hears me n h c order now free = rw free (quiet_does me n c now)

-- a client whose request waits for no reply stands for that
pub replied_stands : (me : ClientArgs) (n : ClientNow) (c : ClientFacts) → NowStands me n c → NowStands me (replied n) (record c { awaits = false })
replied_stands me n c h = record {
  number = h.number;
  session = h.session;
  conf = h.conf;
  asked = h.asked;
  awaits = refl;
  taken = h.taken;
  order = h.order;
  writer = h.writer;
  reader = h.reader;
}

-- whether a reply is that to the present request, by what is kept
present_is : (me : ClientArgs) (n : ClientNow) (c : ClientFacts) (session number : ℕ) (b : Bool) → NowStands me n c
    → (session == c.session && number == c.asked && c.awaits) ≡ b → (session == me.session && number == n.asked && n.awaits) ≡ b
present_is me n c session number b h e = rw (h.session, h.asked, h.awaits) at e

-- a reply to another request changes nothing
pub other_reply : (me : ClientArgs) (n : ClientNow) (c : ClientFacts) (session number : ℕ) (r : MetaReply) → NowStands me n c
    → (session == c.session && number == c.asked && c.awaits) ≡ false → Does me (meta_hears me n session number r) (parts_at c Nothing turn.Wait) c
other_reply me n c session number r h e = rw (present_is me n c session number false h e) (quiet_does me n c h)

-- the answer to the present request is heard by the order
pub present_answer : (me : ClientArgs) (n : ClientNow) (after : ClientFacts) (o : Option rule.Order) (a : MetaAnswer) (parts : Parts)
    → Does me (hears_in me n (Reply a) o) parts after → Does me (reply_hears me n o (Answer a)) parts after
present_answer me n after None a parts d = d
present_answer me n after (Some o) a parts d = d

-- the reply to the present request is heard
pub present_reply : (me : ClientArgs) (n : ClientNow) (c after : ClientFacts) (session number : ℕ) (r : MetaReply) (parts : Parts) → NowStands me n c
    → (session == c.session && number == c.asked && c.awaits) ≡ true → Does me (reply_hears me (replied n) n.order r) parts after
    → Does me (meta_hears me n session number r) parts after
present_reply me n c after session number r parts h e d = rw (present_is me n c session number true h e) d

-- a message with another tag changes nothing
pub other_tag : (me : ClientArgs) (n : ClientNow) (c : ClientFacts) (tag b : ℕ) (m : Msg) (o : Option rule.Order) (order : Option Order) → NowStands me n c
    → BothStand (OrderStands me) o order → is_tag tag order ≡ false → Does me (tagged_hears me n o tag b m) (parts_at c Nothing turn.Wait) c
other_tag me n c tag b m o None h there e = rw there (quiet_does me n c h)
other_tag me n c tag b m o (Some k) h there e =
    let other : (tag == there.value.line) ≡ false = rw there.stands.line at e in
    rw (there.is, other) (quiet_does me n c h)

-- a message with the tag of the order is heard by it
pub own_tag : (me : ClientArgs) (n : ClientNow) (after : ClientFacts) (tag b : ℕ) (m : Msg) (o : Option rule.Order) (order : Option Order) (parts : Parts)
    → BothStand (OrderStands me) o order → is_tag tag order ≡ true → Does me (hears_in me n (From b m) o) parts after
    → Does me (tagged_hears me n o tag b m) parts after
own_tag me n after tag b m o None parts there e d = cc
own_tag me n after tag b m o (Some k) parts there e d =
    let own : (tag == there.value.line) ≡ true = rw there.stands.line at e in
    let d : Does me (hears_in me n (From b m) (Some there.value)) parts after = rw there.is at d in
    rw (there.is, own) d
