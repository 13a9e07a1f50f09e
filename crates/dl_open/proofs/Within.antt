-- Where an order goes at the turn of a part.
use Rattle.std.proofs.Common.{◌≡◌, List, refl, sym, subst}
use Rattle.dl_types.specs.declared.meta_op.MetaOp.{MetaOp}
use Rattle.dl_types.specs.declared.refusal.Refusal.{Refusal}
use Rattle.dl_msg.specs.declared.letters.Told.{Told}
use Rattle.dl_msg.specs.declared.turn.Turn.{Turn}
use Rattle.dl_msg.specs.declared.turn.Turn.TheVariants as turn
use Rattle.dl_rules_stream.specs.Requests.{Request, op_of}
use Rattle.dl_rules_stream.specs.Orders.{Next, Wait, Ask, Tell, Done, Refused, within}
use Rattle.dl_requests.specs.Turns.{turn_of, next_by, IsTurn}

-- an order that asks for a request has the turn that asks for its operation
pub is_asked : {A B : Type 0} (P : A → B → Type 0) (r : Request) (t : Turn B) → t ≡ turn.Ask (op_of r) → IsTurn P (Ask r) t
is_asked {B = B} P r t e = subst (λ (u : Turn B). IsTurn P (Ask r) u) (sym e) refl

-- the turn of a part whose value is the rule's
pub own_value : {A : Type 0} (next : Next A) (t : Turn A) → t ≡ turn_of next → t ≡ turn_of (next_by (λ a. a) next)
own_value Wait t e = e
own_value (Ask r) t e = e
own_value (Tell letters) t e = e
own_value (Done a) t e = e
own_value (Refused r) t e = e

-- it waits
pub within_wait : {S T A A2 B : Type 0} (f : A → A2) (wrap : S → T) (ended : T) (go_on : A → T × Next B) (P : T × Next B → Type 0) (s : S)
    (next : Next A) → turn.Wait ≡ turn_of (next_by f next) → P (wrap s, Wait) → P (within wrap ended go_on (s, next))
within_wait f wrap ended go_on P s Wait e p = p
within_wait f wrap ended go_on P s (Ask r) e p = absurd cc
within_wait f wrap ended go_on P s (Tell letters) e p = absurd cc
within_wait f wrap ended go_on P s (Done a) e p = absurd cc
within_wait f wrap ended go_on P s (Refused r) e p = absurd cc

-- it asks
pub within_ask : {S T A A2 B : Type 0} (f : A → A2) (wrap : S → T) (ended : T) (go_on : A → T × Next B) (P : T × Next B → Type 0) (s : S)
    (next : Next A) (op : MetaOp) → turn.Ask op ≡ turn_of (next_by f next) → ((r : Request) → op ≡ op_of r → P (wrap s, Ask r))
    → P (within wrap ended go_on (s, next))
within_ask f wrap ended go_on P s Wait op e p = absurd cc
within_ask f wrap ended go_on P s (Ask r) op e p = p r cc
within_ask f wrap ended go_on P s (Tell letters) op e p = absurd cc
within_ask f wrap ended go_on P s (Done a) op e p = absurd cc
within_ask f wrap ended go_on P s (Refused r) op e p = absurd cc

-- it tells
pub within_tell : {S T A A2 B : Type 0} (f : A → A2) (wrap : S → T) (ended : T) (go_on : A → T × Next B) (P : T × Next B → Type 0) (s : S)
    (next : Next A) (told : List Told) → turn.Tell told ≡ turn_of (next_by f next) → P (wrap s, Tell told) → P (within wrap ended go_on (s, next))
within_tell f wrap ended go_on P s Wait told e p = absurd cc
within_tell f wrap ended go_on P s (Ask r) told e p = absurd cc
within_tell f wrap ended go_on P s (Tell letters) told e p = let same : told ≡ letters = cc in subst (λ l. P (wrap s, Tell l)) same p
within_tell f wrap ended go_on P s (Done a) told e p = absurd cc
within_tell f wrap ended go_on P s (Refused r) told e p = absurd cc

-- the part is done
pub within_done : {S T A A2 B : Type 0} (f : A → A2) (wrap : S → T) (ended : T) (go_on : A → T × Next B) (P : T × Next B → Type 0) (s : S)
    (next : Next A) (b : A2) → turn.Done b ≡ turn_of (next_by f next) → ((a : A) → b ≡ f a → P (go_on a)) → P (within wrap ended go_on (s, next))
within_done f wrap ended go_on P s Wait b e p = absurd cc
within_done f wrap ended go_on P s (Ask r) b e p = absurd cc
within_done f wrap ended go_on P s (Tell letters) b e p = absurd cc
within_done f wrap ended go_on P s (Done a) b e p = p a cc
within_done f wrap ended go_on P s (Refused r) b e p = absurd cc

-- the part is refused
pub within_refused : {S T A A2 B : Type 0} (f : A → A2) (wrap : S → T) (ended : T) (go_on : A → T × Next B) (P : T × Next B → Type 0) (s : S)
    (next : Next A) (refusal : Refusal) → turn.Refused refusal ≡ turn_of (next_by f next) → P (ended, Refused refusal)
    → P (within wrap ended go_on (s, next))
within_refused f wrap ended go_on P s Wait refusal e p = absurd cc
within_refused f wrap ended go_on P s (Ask r) refusal e p = absurd cc
within_refused f wrap ended go_on P s (Tell letters) refusal e p = absurd cc
within_refused f wrap ended go_on P s (Done a) refusal e p = absurd cc
within_refused f wrap ended go_on P s (Refused r) refusal e p = let same : refusal ≡ r = cc in subst (λ q. P (ended, Refused q)) same p
