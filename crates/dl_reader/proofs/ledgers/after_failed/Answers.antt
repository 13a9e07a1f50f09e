use Rattle.std.proofs.Common.{ℕ, sym, subst, ap, ◌∙◌}
use Rattle.dl_rules_stream.specs.Requests.{GetLedger, op_of}
use Rattle.dl_rules_stream.specs.Listings.{ledger_of}
use Rattle.dl_rules_stream.specs.LogReaders.{ReadMove}
use Rattle.dl_reader.specs.Steps.{IsStep}
use Rattle.dl_reader.proofs.Failures.{failed_ledger}
use Rattle.dl_reader.proofs.Lifting.{if_ok}
use Rattle.dl_reader.proofs.ledgers.after_failed.Goals as goal

pub returns-in_ok-get_ledger-in_default : goal.returns-in_ok-get_ledger-in_default
returns-in_ok-get_ledger-in_default c =
    let x = c.args.given.now in
    let r = c.args.reading.now.read in
    let left = c.args.reading.now.left in
    let m = c.args.segment in
    if_ok c.gives_up.result c.gives_up.ensures (λ step gives number.
    subst (λ (move : ReadMove). IsStep x r left move step) (sym (failed_ledger x r m number left c.args.place c.args.why c.in_default.not-NoNode))
    (gives x r left (GetLedger (ledger_of m)) (c.in_ok-get_ledger-in_default.ensures ∙ ap (λ (n : ℕ). op_of (GetLedger n)) c.ledger_of-ledger.ensures.value)))
