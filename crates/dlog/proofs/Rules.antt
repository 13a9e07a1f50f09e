-- The rule of each event as facts.
use Rattle.std.proofs.Common.{◌≡◌, ℕ, ◌+◌, ◌≤◌, true, false, List, length, map, ap, eq-eqb, le-leb}
use Rattle.std.specs.List.{list_any, list_all}
use Rattle.std.proofs.lemmas.Bool.{and_from, not_from_false}
use Rattle.dl_types.specs.declared.refusal.Refusal.{Refusal}
use Rattle.dl_types.specs.declared.row.Row.{Row}
use Rattle.dl_types.specs.Places.{is_before, is_at_most}
use Rattle.dl_transcript.specs.declared.event.Event.TheVariants.{Joined, Writer, Took, Refused}
use Rattle.dl_transcript.specs.Legal.{History, Leaves, effect_on_read, may_refuse, after_refusal, keeps}
use Rattle.dl_transcript.specs.Legal.{sees, has, last_or, is_from, is_taken, taken_at, stands_at}
use Rattle.dlog.specs.Machine.{grow, ack}

-- a session is one more than the last
pub record MayJoin (s : History) (session : ℕ) : Type 0 where
  pub next : session ≡ s.sessions + 1

-- so the session keeps its rule
pub keeps_joined : (s : History) (c session : ℕ) → MayJoin s session → keeps s (Joined c session) ≡ true
unfolding keeps
keeps_joined s c session h = eq-eqb session (s.sessions + 1) h.next

-- a record's number is one more than the client's records
pub record MayTake (s : History) (c call : ℕ) : Type 0 where
  pub next : call ≡ length (s.clients c).taken + 1

-- so the record keeps its rule
pub keeps_took : (s : History) (c call : ℕ) (stream : List ℕ) (txid : ℕ) (payload : List ℕ) → MayTake s c call
    → keeps s (Took c call stream txid payload) ≡ true
unfolding keeps
keeps_took s c call stream txid payload h = eq-eqb call (length (s.clients c).taken + 1) h.next

-- a segment has one writer, and none beyond the first that isn't closed
pub record MayWrite (s : History) (stream : List ℕ) (segment : ℕ) : Type 0 where
  pub counted : 1 ≤ segment
  pub within : segment ≤ (s.streams stream).closed + 1
  pub fresh : has segment (s.streams stream).writers ≡ false

-- so the writer keeps its rule
pub keeps_writer : (s : History) (c : ℕ) (stream : List ℕ) (segment : ℕ) → MayWrite s stream segment → keeps s (Writer c stream segment) ≡ true
unfolding keeps
keeps_writer s c stream segment h = and_from _ _ (and_from _ _ (le-leb _ _ h.counted) (le-leb _ _ h.within)) (not_from_false _ h.fresh)

-- a row grows in the segment under way, above all rows, not below the mark, its id not below the last one, as the
-- record that was taken, and once
pub record MayGrow (s : History) (stream : List ℕ) (r : Row) : Type 0 where
  pub segment : r.place.segment ≡ (s.streams stream).closed + 1
  pub above : list_all (λ x. is_before x.place r.place) (s.streams stream).rows ≡ true
  pub mark : is_at_most (s.streams stream).mark r.place ≡ true
  pub txid : last_or 0 (map (λ x. x.txid) (s.streams stream).rows) ≤ r.txid
  pub taken : is_taken (taken_at s r.origin.client r.origin.call) stream r.txid r.payload ≡ true
  pub fresh : list_any (is_from r.origin.client r.origin.call) (s.streams stream).rows ≡ false

-- so the row keeps its rule
pub keeps_grow : (s : History) (stream : List ℕ) (r : Row) → MayGrow s stream r → keeps s (grow stream r) ≡ true
unfolding keeps
keeps_grow s stream r h =
    and_from _ _ (and_from _ _ (and_from _ _ (and_from _ _ (and_from _ _ (eq-eqb _ _ h.segment) h.above) h.mark) (le-leb _ _ h.txid)) h.taken)
    (not_from_false _ h.fresh)

-- an acknowledgement names the place where its record stands, and comes once
pub record MayAck (s : History) (r : Row) : Type 0 where
  pub stands : stands_at s (taken_at s r.origin.client r.origin.call) r.origin.client r.origin.call r.place ≡ true
  pub fresh : has r.origin.call (s.clients r.origin.client).acked ≡ false

-- so the acknowledgement keeps its rule
pub keeps_ack : (s : History) (r : Row) → MayAck s r → keeps s (ack r) ≡ true
unfolding keeps
keeps_ack s r h = and_from _ _ h.stands (not_from_false _ h.fresh)

-- a refusal that leaves reads keeps its rule
pub keeps_refused : (s : History) (c : ℕ) (why : Refusal) → effect_on_read why ≡ Leaves → keeps s (Refused c why) ≡ true
unfolding keeps
keeps_refused s c why leaves = ap (may_refuse s (s.clients c).reader) leaves

-- and leaves what was seen
pub sees_refused : (s : History) (c : ℕ) (why : Refusal) → effect_on_read why ≡ Leaves → sees s (Refused c why) ≡ s
unfolding sees
sees_refused s c why leaves = ap (after_refusal s c) leaves
