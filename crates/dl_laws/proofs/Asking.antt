-- Each atomic step keeps the requests of each process numbered.
use Rattle.std.proofs.Common.{◌≡◌, ℕ, suc, ◌+◌, ◌≤◌, Bool, true, false, cond, ◌&&◌, ◌==◌, List, [], ◌∷◌, ◌++◌, map, Option, Some, None}
use Rattle.std.proofs.Common.{refl, sym, ap, ◌∙◌, subst, arith, eq-eqb, eqb-true, ne_eqb, is_none, is_some, slice_get, true≢false, append-nil}
use Rattle.std.specs.List.{AllByRecursion}
use Rattle.std.proofs.lemmas.Bool.{and_from, and_left, and_right, cond-true, cond-false}
use Rattle.dl_types.specs.declared.address.Address.{Address}
use Rattle.dl_types.specs.declared.address.Address.TheVariants.{Client, Bookie as AtBookie, Meta as AtMeta}
use Rattle.dl_msg.specs.declared.letter.Letter.{Letter}
use Rattle.dl_msg.specs.declared.msg.Msg.{Msg}
use Rattle.dl_session.specs.declared.admit.Admit.{Admit}
use Rattle.dl_session.specs.declared.admit.Admit.TheVariants as admit
use Rattle.dl_session.specs.Sessions.{is_live}
use Rattle.dl_formats.specs.declared.conf.Conf.{Conf}
use Rattle.dl_rules_nodes.specs.Bookies.{table_row, answer_now, replies_of, Reply}
use Rattle.dl_rules_nodes.specs.Items.{Setup, Ask, Expire}
use Rattle.dl_rules_nodes.specs.Metadata.{answer_of, reply_of}
use Rattle.dl_transcript.specs.Legal.{History}
use Rattle.dl_rules_client.specs.Acts.{Input, Line, Came, ClientArgs, Acts}
use Rattle.dl_rules_client.specs.Clients.{client_of, acts_of}
use Rattle.dl_machine.specs.States.{State, Outcome, Joined, blank, with_value, with_client, with_letters, with_meta_item, marks, quietly, can_take, args_of}
use Rattle.dl_machine.specs.Growth.{with_sent, confirms}
use Rattle.dl_machine.specs.Lines.{is_end}
use Rattle.dl_machine.specs.Atoms.{Atom, SetUp, Join, Crash, End, Order, Deliver, Commit, Stop, StopMeta, Faint, Kill, KillMeta, Rise, RiseMeta, Loosen}
use Rattle.dl_machine.specs.Atoms.{Lose, Shows, MetaRequest, meta_in, request_in, admit_in, sets_up, new_process, joins, joins_in, acts_on}
use Rattle.dl_machine.specs.Atoms.{client_takes, answer_to, with_answer, runs, admits, reply_msg, meta_takes, takes_letter, delivers, reply_letter}
use Rattle.dl_machine.specs.Atoms.{faints_at, faints, stops_run, stops_request, stops_msg, stops_meta, atom}
use Rattle.dl_machine.proofs.Movements.{cond_both, put_each, ButLedgers, but_then, but_sent, but_confirms, but_run}
use Rattle.dl_law_client.specs.Seen.{IsLetterOf, AsksOn}
use Rattle.dl_law_client.proofs.Moves.{asks-append}
use Rattle.dl_law_client.proofs.Clients.{each_client_leads}
use Rattle.dl_laws.specs.Coupled.{ProcessSeen, Coupled}
use Rattle.dl_laws.specs.Served.{IsServed, Served}
use Rattle.dl_laws.proofs.Later.{ends_within}
use Rattle.dl_laws.specs.Asking.{is_from, letters_of, ProcessAsks, AllAsk}

-- ---- letters of a client

-- letters in a row
of-append : (c k : ℕ) (xs ys : List Letter) → letters_of c k (xs ++ ys) ≡ letters_of c k xs ++ letters_of c k ys
of-append c k [] ys = refl
of-append c k (x ∷ xs) ys = go (is_from c k x) (of-append c k xs ys)
  where
    go : (b : Bool) → letters_of c k (xs ++ ys) ≡ letters_of c k xs ++ letters_of c k ys
        → cond b (x ∷ letters_of c k (xs ++ ys)) (letters_of c k (xs ++ ys)) ≡ cond b (x ∷ letters_of c k xs) (letters_of c k xs) ++ letters_of c k ys
    go true ih = ap (λ (zs : List Letter). x ∷ zs) ih
    go false ih = ih

-- a letter is from another client or a node, or in another session
abbrev IsApart : ℕ → ℕ → Letter → Type 0
IsApart c k l = is_from c k l ≡ false

-- letters that are from others
none_of : (c k : ℕ) (ls : List Letter) → AllByRecursion (IsApart c k) ls → letters_of c k ls ≡ []
none_of c k [] each = refl
none_of c k (l ∷ ls) each = cond-false (is_from c k l) (l ∷ letters_of c k ls) (letters_of c k ls) each.0 ∙ none_of c k ls each.1

-- behind letters of others stand the same
of_apart : (c k : ℕ) (xs ys : List Letter) → AllByRecursion (IsApart c k) ys → letters_of c k (xs ++ ys) ≡ letters_of c k xs
of_apart c k xs ys each = of-append c k xs ys ∙ ap (λ (zs : List Letter). letters_of c k xs ++ zs) (none_of c k ys each) ∙ append-nil (letters_of c k xs)

-- letters of the client's own
own_of : (me : ClientArgs) (ls : List Letter) → AllByRecursion (IsLetterOf me) ls → letters_of me.number me.session ls ≡ ls
own_of me [] each = refl
own_of me (l ∷ ls) each =
    cond-true (is_from me.number me.session l) (l ∷ letters_of me.number me.session ls) (letters_of me.number me.session ls)
    (and_from (is_end (Client me.number) l.from) (l.session == me.session)
    (ap (is_end (Client me.number)) each.0.from ∙ eq-eqb me.number me.number refl) (eq-eqb l.session me.session each.0.session))
    ∙ ap (λ (zs : List Letter). l ∷ zs) (own_of me ls each.1)

-- another client's letters are apart
others_apart : (me : ClientArgs) (d k : ℕ) (ls : List Letter) → (d ≡ me.number → ⊥) → AllByRecursion (IsLetterOf me) ls → AllByRecursion (IsApart d k) ls
others_apart me d k [] other each = tt
others_apart me d k (l ∷ ls) other each = (
  and_left (is_end (Client d) l.from) (l.session == k) (ap (is_end (Client d)) each.0.from ∙ ne_eqb d me.number other),
  others_apart me d k ls other each.1,
)

-- letters of sessions that were given are apart from a later session
all_earlier : (s : State) (c k : ℕ) (h : Served s) (ls : List Letter) → suc (meta_in s).sessions.last ≤ k
    → AllByRecursion (IsServed h.who (meta_in s).sessions.last s.meta.items) ls → AllByRecursion (IsApart c k) ls
all_earlier s c k h [] le each = tt
all_earlier s c k h (l ∷ ls) le each =
    let within = ends_within h.who (meta_in s).sessions.last l.session l.from l.to each.0.own in (
      and_right (is_end (Client c) l.from) (l.session == k) (ne_eqb l.session k (λ e. omega (arith, e, within, le))),
      all_earlier s c k h ls le each.1,
    )

-- ---- what a process asked

-- letters of others leave it
asks_apart : (conf : Option Conf) (c : ℕ) (me : Option Joined) (xs ys : List Letter) → ((k : ℕ) → AllByRecursion (IsApart c k) ys) → ProcessAsks conf c me xs
    → ProcessAsks conf c me (xs ++ ys)
asks_apart conf c None xs ys apart h = tt
asks_apart None c (Some me) xs ys apart h = absurd h
asks_apart (Some conf) c (Some me) xs ys apart h =
    subst (λ (zs : List Letter). AsksOn 0 zs (client_of (args_of conf c me) me.view).asked) (sym (of_apart c me.session xs ys (apart me.session))) h

-- letters of nodes leave all
more_ask : (s : State) (ls : List Letter) → ((c k : ℕ) → AllByRecursion (IsApart c k) ls) → AllAsk s → AllAsk (with_letters s ls)
more_ask s ls apart h c = asks_apart s.conf c (s.clients c) s.letters ls (apart c) (h c)

-- ledgers are no part of it
but_ask : (s t : State) → ButLedgers s t → AllAsk s → AllAsk t
but_ask s t e h = subst AllAsk (sym e) h

-- an answer of a node
answer_ask : (s : State) (l : Letter) (reply : Option Msg) → ((c k : ℕ) → is_end (Client c) l.to ≡ false) → AllAsk s → AllAsk (with_answer s l reply)
answer_ask s l None apart h = h
answer_ask s l (Some m) apart h =
    more_ask s (answer_to l m ∷ []) (λ c k. (and_left (is_end (Client c) l.to) (l.session == k) (apart c k), tt)) h

-- ---- the world and sessions

-- before a setup there was no process
set_up_asks : (o : Option Conf) (conf : Conf) (c : ℕ) (me : Option Joined) (ls : List Letter) → is_none o ≡ true → ProcessAsks o c me ls
    → ProcessAsks (Some conf) c me ls
set_up_asks None conf c None ls e p = tt
set_up_asks None conf c (Some me) ls e p = absurd p
set_up_asks (Some old) conf c me ls e p = absurd cc

-- the world is set up
set_up_ask : (s : State) (conf : Conf) → AllAsk s → AllAsk (sets_up s conf)
set_up_ask s conf h = go (is_none s.conf) refl
  where
    go : (b : Bool) → is_none s.conf ≡ b → AllAsk (cond b (record (with_meta_item s (Setup conf)) { conf = Some conf; meta_up = true }) s)
    go true w = λ c. set_up_asks s.conf conf c (s.clients c) s.letters w (h c)
    go false w = h

-- a process that begins has asked nothing
new_asks : (conf : Option Conf) (s : State) (c k : ℕ) (ls : List Letter) → is_some conf ≡ true → letters_of c k ls ≡ []
    → ProcessAsks conf c (Some (new_process s c k)) ls
unfolding client_of
new_asks None s c k ls e none = absurd cc
new_asks (Some conf) s c k ls e none = subst (λ (zs : List Letter). AsksOn 0 zs 0) (sym none) refl

-- a client joins
join_ask : (s : State) (c : ℕ) (seen : History) → Coupled s seen → Served s → AllAsk s → AllAsk (joins s c).state
join_ask s c seen f g h = go s.meta_up refl
  where
    k : ℕ
    k = suc (meta_in s).sessions.last

    go : (b : Bool) → s.meta_up ≡ b → AllAsk (cond b (joins_in s c k) (quietly s)).state
    go true up =
        put_each s.clients c (Some (new_process s c k)) (λ d me. ProcessAsks s.conf d me s.letters)
        (new_asks s.conf s c k s.letters (f.world up) (none_of c k s.letters (all_earlier s c k g s.letters (omega arith) g.parts.letters_served))) h
    go false up = h

-- ---- clients

-- a client does something
acts_ask : (s : State) (c : ℕ) (conf : Conf) (me : Joined) (x : Input) (seen : History) → s.conf ≡ Some conf → s.clients c ≡ Some me → Coupled s seen
    → AllAsk s → AllAsk (acts_on s c me x (acts_of (args_of conf c me) me.view x)).state
acts_ask s c conf me x seen is there f h =
    but_ask told (confirms sent acts.confirmed).state
    (but_then told sent (confirms sent acts.confirmed).state (but_sent told acts.sent) (but_confirms sent acts.confirmed))
    (λ d. go d (d == c) refl)
  where
    args : ClientArgs
    args = args_of conf c me

    acts : Acts
    acts = acts_of args me.view x

    process : Joined
    process = record me { view = x ∷ me.view }

    told : State
    told = record (with_letters (with_client s c (Some process)) acts.letters) { calls = with_value s.calls c (s.calls c + acts.taken) }

    sent : State
    sent = with_sent told acts.sent

    before : ProcessSeen (Some conf) c (Some me) (seen.clients c)
    before =
        subst (λ (o : Option Conf). ProcessSeen o c (Some me) (seen.clients c)) is
        (subst (λ (o : Option Joined). ProcessSeen s.conf c o (seen.clients c)) there (f.clients c).process)

    asked : ProcessAsks (Some conf) c (Some me) s.letters
    asked =
        subst (λ (o : Option Conf). ProcessAsks o c (Some me) s.letters) is
        (subst (λ (o : Option Joined). ProcessAsks s.conf c o s.letters) there (h c))

    here : ProcessAsks s.conf c (Some process) (s.letters ++ acts.letters)
    here =
        let lead = each_client_leads args me.view x seen before in
        let now : ℕ = (client_of args (x ∷ me.view)).asked in
        let split = of-append c me.session s.letters acts.letters in
        let own = ap (λ (zs : List Letter). letters_of c me.session s.letters ++ zs) (own_of args acts.letters lead.letters) in
        subst (λ (o : Option Conf). ProcessAsks o c (Some process) (s.letters ++ acts.letters)) (sym is)
        (subst (λ (zs : List Letter). AsksOn 0 zs now) (sym (split ∙ own))
        (asks-append 0 (client_of args me.view).asked now (letters_of c me.session s.letters) acts.letters asked lead.asks))

    go : (d : ℕ) (b : Bool) → (d == c) ≡ b → ProcessAsks s.conf d (cond b (Some process) (s.clients d)) (s.letters ++ acts.letters)
    go d true w = subst (λ j. ProcessAsks s.conf j (Some process) (s.letters ++ acts.letters)) (sym (eqb-true d c w)) here
    go d false w =
        asks_apart s.conf d (s.clients d) s.letters acts.letters
        (λ k. others_apart args d k acts.letters (λ i. true≢false (sym (eq-eqb d c i) ∙ w)) (each_client_leads args me.view x seen before).letters) (h d)

-- a client takes something
takes_ask : (s : State) (c : ℕ) (conf : Option Conf) (me : Option Joined) (x : Input) (seen : History) → s.conf ≡ conf → s.clients c ≡ me
    → Coupled s seen → AllAsk s → AllAsk (client_takes s c conf me x).state
takes_ask s c (Some conf) (Some me) x seen is there f h = acts_ask s c conf me x seen is there f h
takes_ask s c (Some conf) None x seen is there f h = h
takes_ask s c None me x seen is there f h = h

-- ---- nodes

-- the replies that leave with a commit
replies_apart : (b c k : ℕ) (rs : List Reply) → AllByRecursion (IsApart c k) (map (reply_letter b) rs)
replies_apart b c k [] = tt
replies_apart b c k (r ∷ rs) = (refl, replies_apart b c k rs)

-- a request runs
runs_ask : (s : State) (r : MetaRequest) → AllAsk s → AllAsk (runs s r).state
runs_ask s r h =
    let asked : State = with_meta_item s (Ask r.session r.number r.op) in
    but_ask asked (runs s r).state (but_run (meta_in s).tree r.op (answer_of (meta_in s) r.session r.op) asked) h

-- a request is admitted
admits_ask : (s : State) (r : MetaRequest) (a : Admit) → AllAsk s → AllAsk (admits s r a).state
admits_ask s r admit.Run h = runs_ask s r h
admits_ask s r admit.Old h = h
admits_ask s r admit.Expired h = h

-- a letter to the metadata node
meta_ask : (s : State) (l : Letter) (r : Option MetaRequest) → l.to ≡ AtMeta → AllAsk s → AllAsk (meta_takes s l r).state
meta_ask s l None to h = h
meta_ask s l (Some r) to h =
    answer_ask (admits s r (admit_in s r)).state l (reply_msg r (reply_of (meta_in s) r.session r.number r.op))
    (λ c k. ap (is_end (Client c)) to) (admits_ask s r (admit_in s r) h)

-- a letter is taken
letter_ask : (s : State) (l : Letter) (to from : Address) (seen : History) → l.to ≡ to → Coupled s seen → AllAsk s → AllAsk (takes_letter s l to from).state
letter_ask s l (AtBookie b) (Client c) seen to f h =
    answer_ask _ l (answer_now (s.nodes b).bookie l.msg (table_row (s.nodes b).bookie l.msg)) (λ d k. ap (is_end (Client d)) to) h
letter_ask s l (AtBookie b) (AtBookie d) seen to f h = h
letter_ask s l (AtBookie b) AtMeta seen to f h = h
letter_ask s l AtMeta from seen to f h = meta_ask s l (request_in l.msg) to h
letter_ask s l (Client c) from seen to f h = takes_ask s c s.conf (s.clients c) (Came l) seen refl refl f h

-- the letter at a place is delivered
deliver_ask : (s : State) (place : ℕ) (l : Option Letter) (seen : History) → Coupled s seen → AllAsk s → AllAsk (delivers s place l).state
deliver_ask s place None seen f h = h
deliver_ask s place (Some l) seen f h =
    cond_both (λ (o : Outcome). AllAsk o.state) (can_take s l l.to) (takes_letter (marks s place) l l.to l.from) (quietly s)
    (letter_ask (marks s place) l l.to l.from seen refl (record { sessions = f.sessions; world = f.world; clients = f.clients }) h) h

-- a storage node goes down on a letter
faint_at_ask : (s : State) (to : Address) → AllAsk s → AllAsk (faints_at s to)
faint_at_ask s (AtBookie b) h = h
faint_at_ask s (Client c) h = h
faint_at_ask s AtMeta h = h

-- the same of the letter at a place
faint_ask : (s : State) (place : ℕ) (l : Option Letter) → AllAsk s → AllAsk (faints s place l)
faint_ask s place None h = h
faint_ask s place (Some l) h = cond_both AllAsk (can_take s l l.to) (faints_at (marks s place) l.to) s (faint_at_ask (marks s place) l.to h) h

-- a request whose commit stops
stop_run_ask : (s : State) (r : MetaRequest) (kept : Bool) → AllAsk s → AllAsk (stops_run s r kept).state
stop_run_ask s r true h = runs_ask s r h
stop_run_ask s r false h = h

-- the same of a request that is admitted so
stop_request_ask : (s : State) (place : ℕ) (r : MetaRequest) (kept : Bool) (a : Admit) → AllAsk s → AllAsk (stops_request s place r kept a).state
stop_request_ask s place r kept admit.Run h = stop_run_ask (marks s place) r kept h
stop_request_ask s place r kept admit.Old h = h
stop_request_ask s place r kept admit.Expired h = h

-- the same of a message
stop_msg_ask : (s : State) (place : ℕ) (kept : Bool) (r : Option MetaRequest) → AllAsk s → AllAsk (stops_msg s place kept r).state
stop_msg_ask s place kept None h = h
stop_msg_ask s place kept (Some r) h = stop_request_ask s place r kept (admit_in s r) h

-- the same of the letter at a place
stop_meta_ask : (s : State) (place : ℕ) (kept : Bool) (l : Option Letter) → AllAsk s → AllAsk (stops_meta s place kept l).state
stop_meta_ask s place kept None h = h
stop_meta_ask s place kept (Some l) h =
    cond_both (λ (o : Outcome). AllAsk o.state) s.meta_up (stops_msg s place kept (request_in l.msg)) (quietly s)
    (stop_msg_ask s place kept (request_in l.msg) h) h

-- ---- atomic steps

-- each atomic step
pub atom_ask : (s : State) (a : Atom) (seen : History) → Coupled s seen → Served s → AllAsk s → AllAsk (atom s a).state
unfolding atom
atom_ask s (SetUp conf) seen f g h = set_up_ask s conf h
atom_ask s (Join c) seen f g h = join_ask s c seen f g h
atom_ask s (Crash c) seen f g h = put_each s.clients c None (λ d me. ProcessAsks s.conf d me s.letters) tt h
atom_ask s (End k) seen f g h =
    cond_both (λ (o : Outcome). AllAsk o.state) (s.meta_up && is_live (meta_in s).sessions k) (record { state = with_meta_item s (Expire k); events = _ })
    (quietly s) h h
atom_ask s (Order c line step) seen f g h = takes_ask s c s.conf (s.clients c) (Line line step) seen refl refl f h
atom_ask s (Deliver place) seen f g h = deliver_ask s place (slice_get s.letters place) seen f h
atom_ask s (Commit b) seen f g h =
    more_ask s (map (reply_letter b) (replies_of (s.nodes b).bookie)) (λ c k. replies_apart b c k (replies_of (s.nodes b).bookie)) h
atom_ask s (Stop b kept) seen f g h = h
atom_ask s (StopMeta place kept) seen f g h = stop_meta_ask s place kept (slice_get s.letters place) h
atom_ask s (Faint place) seen f g h = faint_ask s place (slice_get s.letters place) h
atom_ask s (Kill b) seen f g h = h
atom_ask s KillMeta seen f g h = h
atom_ask s (Rise b) seen f g h = h
atom_ask s RiseMeta seen f g h = h
atom_ask s (Loosen b other) seen f g h = h
atom_ask s (Lose b) seen f g h = h
atom_ask s (Shows e) seen f g h = h

-- before a setup
pub blank_asks : AllAsk blank
blank_asks c = tt
