-- What the bytes of a ledger's node say.
use Rattle.std.proofs.Common.{◌≡◌, ℕ, ◌<◌, ◌≤◌, nat_le, cond, List, Result, Ok, Err, ap, ◌∙◌, le-leb}
use Rattle.std.proofs.lemmas.Bool.{cond-true, cond-false, lt-leb}
use Rattle.dl_types.specs.declared.refusal.Refusal.{Refusal}
use Rattle.dl_types.specs.declared.refusal.Refusal.TheVariants.{GaveUp}
use Rattle.dl_quorum.specs.Sizes.{sizes_of}
use Rattle.dl_formats.specs.declared.conf.Conf.{Conf}
use Rattle.dl_formats.specs.declared.fault.MetaBytesFault.{MetaBytesFault}
use Rattle.dl_formats.specs.declared.ledger.LedgerMeta.{LedgerMeta}
use Rattle.dl_formats.specs.Keys.{Ledger, path_of}
use Rattle.dl_formats.specs.NodeBytes.{fields_of}
use Rattle.dl_formats.specs.Reading.{ledger_at}
use Rattle.dl_rules_stream.specs.Nodes.{LedgerNode, node_with}
use Rattle.dl_rules_stream.specs.Orders.{◌>>=◌, or_gave_up}
use Rattle.dl_rules_stream.specs.Listings.{ledger_node_of}
use Rattle.dl_requests.specs.LedgerNodes.{node_of_meta}

-- a value that was read goes on
read_on : {A B : Type 0} (path : List ℕ) (r : Result A MetaBytesFault) (a : A) (k : A → Result B Refusal) → r ≡ Ok a → (or_gave_up path r >>= k) ≡ k a
read_on path r a k read = ap (λ t. or_gave_up path t >>= k) read

-- a fault gives up
gave_up : {A B : Type 0} (path : List ℕ) (r : Result A MetaBytesFault) (fault : MetaBytesFault) (k : A → Result B Refusal) → r ≡ Err fault
    → (or_gave_up path r >>= k) ≡ Err (GaveUp path)
gave_up path r fault k read = ap (λ t. or_gave_up path t >>= k) read

-- a ledger whose ensemble is at most that of all bookies
pub node_read : (conf : Conf) (ledger : ℕ) (bytes : List ℕ) (m : LedgerMeta) → ledger_at bytes ≡ Ok (fields_of m) → m.q.e ≤ conf.b
    → ledger_node_of conf ledger bytes ≡ Ok (node_of_meta m)
node_read conf ledger bytes m read within =
    let path = path_of (Ledger ledger) in
    read_on path (ledger_at bytes) (fields_of m)
    (λ f. cond (nat_le f.e conf.b) (Ok (node_with f.state (record { e = f.e; qw = f.qw; qa = f.qa }) f.count)) (Err (GaveUp path))) read
    ∙ cond-true (nat_le m.q.e conf.b) (Ok (node_of_meta m)) (Err (GaveUp path)) (le-leb m.q.e conf.b within)

-- a ledger whose ensemble is larger
pub node_too_wide : (conf : Conf) (ledger : ℕ) (bytes : List ℕ) (m : LedgerMeta) → ledger_at bytes ≡ Ok (fields_of m) → conf.b < m.q.e
    → ledger_node_of conf ledger bytes ≡ Err (GaveUp (path_of (Ledger ledger)))
node_too_wide conf ledger bytes m read past =
    let path = path_of (Ledger ledger) in
    read_on path (ledger_at bytes) (fields_of m)
    (λ f. cond (nat_le f.e conf.b) (Ok (node_with f.state (record { e = f.e; qw = f.qw; qa = f.qa }) f.count)) (Err (GaveUp path))) read
    ∙ cond-false (nat_le m.q.e conf.b) (Ok (node_of_meta m)) (Err (GaveUp path)) (lt-leb m.q.e conf.b past)

-- bytes that are not in the form of the node
pub node_unread : (conf : Conf) (ledger : ℕ) (bytes : List ℕ) (fault : MetaBytesFault) → ledger_at bytes ≡ Err fault
    → ledger_node_of conf ledger bytes ≡ Err (GaveUp (path_of (Ledger ledger)))
node_unread conf ledger bytes fault read =
    let path = path_of (Ledger ledger) in
    gave_up path (ledger_at bytes) fault
    (λ f. cond (nat_le f.e conf.b) (Ok (node_with f.state (record { e = f.e; qw = f.qw; qa = f.qa }) f.count)) (Err (GaveUp path))) read
