-- What an order hears, and what one that is done hands on, also through the parts of an order.
use Rattle.std.proofs.Common.{Result, Ok, Err}
use Rattle.dl_types.specs.declared.refusal.Refusal.{Refusal}
use Rattle.dl_msg.specs.declared.heard.Heard.{Heard}
use Rattle.dl_msg.specs.declared.heard.Heard.TheVariants.{Reply, From}
use Rattle.dl_rules_client.specs.EventRanges.{AnswerFits, MsgFits}
use Rattle.dl_rules_client.proofs.RangeLists.{Any, AllOk}
use Rattle.dl_rules_stream.specs.Orders.{Next, Wait, Ask, Tell, Done, Refused, within, or_refused}

-- what an order hears fits
abbrev pub HeardFits : Heard → Type 0
HeardFits (Reply a) = AnswerFits a
HeardFits (From b m) = MsgFits m

-- what an order that is done hands on
abbrev pub NextFits : {A : Type 0} → (A → Type 0) → Next A → Type 0
NextFits P Wait = Unit {0}
NextFits P (Ask r) = Unit {0}
NextFits P (Tell letters) = Unit {0}
NextFits P (Done a) = P a
NextFits P (Refused r) = Unit {0}

-- any next step will do, where nothing is asked of what it hands on
pub any_next : {A : Type 0} (next : Next A) → NextFits (Any {A = A}) next
any_next Wait = tt
any_next (Ask r) = tt
any_next (Tell letters) = tt
any_next (Done a) = tt
any_next (Refused r) = tt

-- a stage of an order, and what it hands on
abbrev pub PairFits : {T B : Type 0} → (T → Type 0) → (B → Type 0) → T × Next B → Type 0
PairFits P Q move = P move.0 × NextFits Q move.1

-- a part of an order, which goes on with what the part hands on
pub within_such : {S T A B : Type 0} (O : S → Type 0) (R : A → Type 0) (P : T → Type 0) (Q : B → Type 0) (wrap : S → T) (ended : T)
    (go_on : A → T × Next B) (move : S × Next A) → ((s : S) → O s → P (wrap s)) → P ended → ((a : A) → R a → PairFits P Q (go_on a))
    → PairFits O R move → PairFits P Q (within wrap ended go_on move)
within_such O R P Q wrap ended go_on (stage, Wait) each last later is = (each stage is.0, tt)
within_such O R P Q wrap ended go_on (stage, Ask r) each last later is = (each stage is.0, tt)
within_such O R P Q wrap ended go_on (stage, Tell letters) each last later is = (each stage is.0, tt)
within_such O R P Q wrap ended go_on (stage, Done x) each last later is = later x is.1
within_such O R P Q wrap ended go_on (stage, Refused r) each last later is = (last, tt)

-- a part of an order of which nothing is asked
pub within_fits : {S T A B : Type 0} (P : T → Type 0) (Q : B → Type 0) (wrap : S → T) (ended : T) (go_on : A → T × Next B) (move : S × Next A)
    → ((s : S) → P (wrap s)) → P ended → ((a : A) → PairFits P Q (go_on a)) → PairFits P Q (within wrap ended go_on move)
within_fits P Q wrap ended go_on move each last later =
    within_such Any Any P Q wrap ended go_on move (λ s u. each s) last (λ a u. later a) (tt, any_next move.1)

-- a value with which an order goes on, where it isn't refused
pub refused_such : {T A B : Type 0} (P : T → Type 0) (Q : B → Type 0) (ended : T) (go_on : A → T × Next B) (r : Result A Refusal) → P ended
    → AllOk r (λ a. PairFits P Q (go_on a)) → PairFits P Q (or_refused ended go_on r)
refused_such P Q ended go_on (Ok x) last later = later
refused_such P Q ended go_on (Err r) last later = (last, tt)

-- the same of what it hands on alone
pub refused_fits : {T A B : Type 0} (Q : B → Type 0) (ended : T) (go_on : A → T × Next B) (r : Result A Refusal)
    → ((a : A) → NextFits Q (go_on a).1) → NextFits Q (or_refused ended go_on r).1
refused_fits Q ended go_on (Ok x) later = later x
refused_fits Q ended go_on (Err r) later = tt
