-- Each atomic step keeps letters, deliveries, items and durable items.
use Rattle.std.proofs.Common.{◌≡◌, ℕ, suc, ◌≤◌, Bool, true, ◌&&◌, ◌==◌, List, [], ◌∷◌, length, Option, Some, None, refl, sym, ap, ◌∙◌, subst, inl, arith}
use Rattle.std.proofs.Common.{slice_get}
use Rattle.std.specs.Prelude.{is_none, slice_index_or}
use Rattle.std.proofs.lemmas.List.{length-append}
use Rattle.dl_msg.specs.declared.letter.Letter.{Letter}
use Rattle.dl_session.specs.declared.admit.Admit.{Admit}
use Rattle.dl_session.specs.declared.admit.Admit.TheVariants as admit
use Rattle.dl_session.specs.Sessions.{is_live}
use Rattle.dl_formats.specs.declared.conf.Conf.{Conf}
use Rattle.dl_rules_nodes.specs.Bookies.{Bookie}
use Rattle.dl_rules_nodes.specs.Items.{Setup, Connect, Expire}
use Rattle.dl_rules_nodes.specs.Metadata.{MetaNode}
use Rattle.dl_rules_client.specs.Acts.{Line}
use Rattle.dl_machine.specs.States.{State, Node, Outcome, loaded_node, marks, quietly, can_take}
use Rattle.dl_machine.specs.Atoms.{Atom, SetUp, Join, Crash, End, Order, Deliver, Commit, Stop, StopMeta, Faint, Kill, KillMeta, Rise, RiseMeta, Loosen}
use Rattle.dl_machine.specs.Atoms.{Lose, Shows, MetaRequest, meta_in, request_in, admit_in, sets_up, joins, joins_in, ends, takes_letter, delivers}
use Rattle.dl_machine.specs.Atoms.{stops_request, stops_msg, stops_meta, faints_at, faints, atom}
use Rattle.dl_machine.specs.Runs.{after}
use Rattle.dl_machine.specs.Laws.{Extends, Stays, LettersStay, UpIsSettled, UpAreSettled, DurableItemsStay}
use Rattle.dl_machine.proofs.Movements.{extends_same, cond_both, NodeKeeps, node_same, node_stopped, node_killed, node_risen, node_loosened, node_lost}
use Rattle.dl_machine.proofs.Movements.{Moves, moves_same, item_moves, node_moves, client_moves, taken_moves, faints_moves, stops_moves, commit_moves}

-- What an atomic step keeps.
pub record Keeps (s t : State) : Type 0 where
  pub stays : Stays s t
  pub nodes : (b : ℕ) → NodeKeeps (s.nodes b) (t.nodes b)

-- a step that marks no letter
keeps_moves : (s t : State) → Moves s t → Keeps s t
keeps_moves s t m = record {
  stays = record { letters = m.letters; delivered = λ place e. ap (λ (f : ℕ → Bool). f place) m.delivered ∙ e; items = m.items };
  nodes = m.nodes;
}

-- a step that leaves the state keeps all of it
keeps_same : (s : State) → Keeps s s
keeps_same s = keeps_moves s s (moves_same s)

-- a letter that was delivered is so when another is marked
still_marked : (s : State) (place at : ℕ) → s.delivered at ≡ true → (marks s place).delivered at ≡ true
still_marked s place at e = cond_both (λ t. t ≡ true) (at == place) true (s.delivered at) refl e

-- a step that marks a letter
keeps_marked : (s t : State) (place : ℕ) → Moves (marks s place) t → Keeps s t
keeps_marked s t place m = record {
  stays = record { letters = m.letters; delivered = λ at e. ap (λ (f : ℕ → Bool). f at) m.delivered ∙ still_marked s place at e; items = m.items };
  nodes = m.nodes;
}

-- ---- atomic steps by their kinds

-- what a setup keeps
set_up_keeps : (s : State) (conf : Conf) → Keeps s (sets_up s conf)
set_up_keeps s conf = cond_both (Keeps s) (is_none s.conf) _ s (keeps_moves s _ (item_moves s _ (Setup conf) refl refl refl refl)) (keeps_same s)

-- what a join keeps
join_keeps : (s : State) (c : ℕ) → Keeps s (joins s c).state
join_keeps s c =
    let k : ℕ = suc (meta_in s).sessions.last in
    cond_both (λ (o : Outcome). Keeps s o.state) s.meta_up (joins_in s c k) (quietly s)
    (keeps_moves s _ (item_moves s _ (Connect k) refl refl refl refl))
    (keeps_same s)

-- what the end of a session keeps
end_keeps : (s : State) (k : ℕ) → Keeps s (ends s k).state
end_keeps s k =
    cond_both (λ (o : Outcome). Keeps s o.state) (s.meta_up && is_live (meta_in s).sessions k) _ (quietly s)
    (keeps_moves s _ (item_moves s _ (Expire k) refl refl refl refl))
    (keeps_same s)

-- what the delivery of a letter keeps
deliver_keeps : (s : State) (place : ℕ) (l : Option Letter) → Keeps s (delivers s place l).state
deliver_keeps s place None = keeps_same s
deliver_keeps s place (Some l) =
    cond_both (λ (o : Outcome). Keeps s o.state) (can_take s l l.to) (takes_letter (marks s place) l l.to l.from) (quietly s)
    (keeps_marked s _ place (taken_moves (marks s place) l l.to l.from))
    (keeps_same s)

-- what a storage node keeps that goes down on a letter
faint_keeps : (s : State) (place : ℕ) (l : Option Letter) → Keeps s (faints s place l)
faint_keeps s place None = keeps_same s
faint_keeps s place (Some l) =
    cond_both (Keeps s) (can_take s l l.to) (faints_at (marks s place) l.to) s
    (keeps_marked s _ place (faints_moves (marks s place) l.to))
    (keeps_same s)

-- what a request keeps whose commit stops
stop_request_keeps : (s : State) (place : ℕ) (r : MetaRequest) (kept : Bool) (a : Admit) → Keeps s (stops_request s place r kept a).state
stop_request_keeps s place r kept admit.Run = keeps_marked s _ place (stops_moves (marks s place) r kept)
stop_request_keeps s place r kept admit.Old = keeps_same s
stop_request_keeps s place r kept admit.Expired = keeps_same s

-- the same of a message
stop_msg_keeps : (s : State) (place : ℕ) (kept : Bool) (r : Option MetaRequest) → Keeps s (stops_msg s place kept r).state
stop_msg_keeps s place kept None = keeps_same s
stop_msg_keeps s place kept (Some r) = stop_request_keeps s place r kept (admit_in s r)

-- the same of the letter at a place
stop_meta_keeps : (s : State) (place : ℕ) (kept : Bool) (l : Option Letter) → Keeps s (stops_meta s place kept l).state
stop_meta_keeps s place kept None = keeps_same s
stop_meta_keeps s place kept (Some l) =
    cond_both (λ (o : Outcome). Keeps s o.state) s.meta_up (stops_msg s place kept (request_in l.msg)) (quietly s)
    (stop_msg_keeps s place kept (request_in l.msg))
    (keeps_same s)

-- a step that changes neither letters nor nodes' lists
rest_keeps : (s t : State) → t.letters ≡ s.letters → t.delivered ≡ s.delivered → t.nodes ≡ s.nodes → t.meta ≡ s.meta → Keeps s t
rest_keeps s t letters delivered nodes meta = keeps_moves s t (record {
  letters = subst (λ (ls : List Letter). Extends s.letters ls) (sym letters) (extends_same _);
  delivered = delivered;
  items = inl (ap (λ (m : MetaNode). m.items) meta);
  nodes = λ b. subst (λ (f : ℕ → Node). NodeKeeps (s.nodes b) (f b)) (sym nodes) (node_same (s.nodes b));
})

-- each atomic step
pub atom_keeps : (s : State) (a : Atom) → Keeps s (atom s a).state
unfolding atom
atom_keeps s (SetUp conf) = set_up_keeps s conf
atom_keeps s (Join c) = join_keeps s c
atom_keeps s (Crash c) = rest_keeps s _ refl refl refl refl
atom_keeps s (End k) = end_keeps s k
atom_keeps s (Order c line step) = keeps_moves s _ (client_moves s c s.conf (s.clients c) (Line line step))
atom_keeps s (Deliver place) = deliver_keeps s place (slice_get s.letters place)
atom_keeps s (Commit b) = keeps_moves s _ (commit_moves s b)
atom_keeps s (Stop b kept) = keeps_moves s _ (node_moves s b _ (node_stopped (s.nodes b) kept))
atom_keeps s (StopMeta place kept) = stop_meta_keeps s place kept (slice_get s.letters place)
atom_keeps s (Faint place) = faint_keeps s place (slice_get s.letters place)
atom_keeps s (Kill b) = keeps_moves s _ (node_moves s b _ (node_killed (s.nodes b)))
atom_keeps s KillMeta = rest_keeps s _ refl refl refl refl
atom_keeps s (Rise b) = keeps_moves s _ (node_moves s b _ (node_risen (s.nodes b) (s.nodes b).mode))
atom_keeps s RiseMeta = rest_keeps s _ refl refl refl refl
atom_keeps s (Loosen b other) = keeps_moves s _ (node_moves s b _ (node_loosened (s.nodes b) (s.nodes b).mode other))
atom_keeps s (Lose b) = keeps_moves s _ (node_moves s b _ (node_lost (s.nodes b)))
atom_keeps s (Shows event) = keeps_same s

-- letters, deliveries and items stay, which is the law
pub letters_stay : LettersStay
letters_stay s a = (atom_keeps s a).stays

-- ---- all atomic steps in a row

-- what each atomic step keeps, all in a row keep
pub kept_by_all : (P : State → Type 0) → ((s : State) (a : Atom) → P s → P (atom s a).state) → (s : State) (xs : List Atom) → P s → P (after s xs)
unfolding after
kept_by_all P each s [] p = p
kept_by_all P each s (a ∷ xs) p = kept_by_all P each (atom s a).state xs (each s a p)

-- there are at least as many letters as before
pub atom_letters : (s : State) (a : Atom) → length s.letters ≤ length (atom s a).state.letters
atom_letters s a =
    let e = (atom_keeps s a).stays.letters in
    subst (λ n. length s.letters ≤ n) (sym (ap length e.same ∙ length-append s.letters e.more)) (omega arith)

-- no atomic step makes the letters fewer
pub letters_grow : (s : State) (xs : List Atom) → length s.letters ≤ length (after s xs).letters
unfolding after
letters_grow s [] = omega arith
letters_grow s (a ∷ xs) = omega (arith, atom_letters s a, letters_grow (atom s a).state xs)

-- ---- durable items

-- nodes that are up and settled stay so
up_stay : (s : State) (a : Atom) → UpAreSettled s → UpAreSettled (atom s a).state
up_stay s a h b = ((atom_keeps s a).nodes b).settled (h b)

-- a node of a file is settled
loaded_settled : (b : Option Bookie) → UpIsSettled (loaded_node b)
loaded_settled None e = refl
loaded_settled (Some b) e = refl

-- durable items only grow, which is the law
pub durable_items_only_grow : DurableItemsStay
durable_items_only_grow = record {
  grow = λ s a b e. ((atom_keeps s a).nodes b).grows e;
  begun = λ b e. refl;
  files = λ bookies meta b. loaded_settled (slice_index_or bookies b None);
  reached = kept_by_all UpAreSettled up_stay;
}
