use Rattle.std.proofs.Common.{◌≡◌, IfOk, Result, Ok, sym, ap, subst}
use Rattle.dl_types.specs.declared.refusal.Refusal.{Refusal}
use Rattle.dl_formats.specs.declared.conf.Conf.{Conf}
use Rattle.dl_rules_stream.specs.Nodes.{LedgerNode}
use Rattle.dl_rules_stream.specs.Orders.{or_refused}
use Rattle.dl_rules_stream.specs.Listings.{ledger_node_of, ledger_of}
use Rattle.dl_rules_stream.specs.LogReaders as rule
use Rattle.dl_requests.specs.LedgerNodes.{node_of_meta}
use Rattle.dl_reader.specs.Steps.{IsStep}
use Rattle.dl_reader.proofs.ledgers.after_bytes.Goals as goal

pub returns-in-Some : goal.returns-in-Some
returns-in-Some c =
    let x = c.args.given.now in
    let r = c.args.reading.now.read in
    let left = c.args.reading.now.left in
    let s = c.args.segment in
    let node : ledger_node_of x.conf (ledger_of s) c.args.bytes.now ≡ Ok (node_of_meta c.in-Some.meta) =
    subst (λ (k : Conf). ledger_node_of k (ledger_of s) c.args.bytes.now ≡ Ok (node_of_meta c.in-Some.meta))
    (ap (λ (g : rule.ReaderArgs). g.conf) c.given.view_is) (c.in-Some.ensures.value (ledger_of s)) in
    subst (λ (read : Result LedgerNode Refusal).
    IfOk c.after_meta.result (λ step. IsStep x r left (or_refused rule.NoRead (rule.after_ledger x r s left) read) step))
    (sym node) c.after_meta.ensures
