use Rattle.std.proofs.Common.{IfOk, sym, ap, ◌∙◌, subst}
use Rattle.dl_rules_ledger.specs.Readers.{hears}
use Rattle.dl_rules_stream.specs.Orders.{Next}
use Rattle.dl_rules_stream.specs.SegmentRecoveries as rule
use Rattle.dl_lread.specs.declared.got.Got.TheVariants as got
use Rattle.dl_lread.specs.Standing.{StandsAt}
use Rattle.dl_segrecover.specs.Standing.{IsMove}
use Rattle.dl_segrecover.proofs.Moves.{entry_came, no_entry}
use Rattle.dl_segrecover.proofs.answers.after_message.Goals as goal

pub returns-in-Entry : goal.returns-in-Entry
returns-in-Entry c from m s fetching =
    let x = c.args.given.now in
    let about = rule.end_subject x c.args.ledger m in
    let next = hears about s c.args.bookie c.args.msg.now in
    let told = c.in_ok-bytes.ensures.goes about s (subst (StandsAt about s) (sym c.in_ok-reader.ensures.cases) fetching.stands) in
    subst (λ (to : rule.SegmentStage × Next rule.Recovered). IfOk c.after_entry.result (IsMove x from to))
    (entry_came x c.args.ledger c.args.entries m next _ _ (c.in-Entry.is ∙ ap got.Entry (sym c.as_slice.ensures)) told.got fetching.entries_are)
    (c.after_entry.ensures from)

pub returns-in_default : goal.returns-in_default
returns-in_default c from m s fetching =
    let x = c.args.given.now in
    let about = rule.end_subject x c.args.ledger m in
    let next = hears about s c.args.bookie c.args.msg.now in
    let told = c.in_ok-bytes.ensures.goes about s (subst (StandsAt about s) (sym c.in_ok-reader.ensures.cases) fetching.stands) in
    subst (λ (to : rule.SegmentStage × Next rule.Recovered). IsMove x from to c.reads_on.result)
    (no_entry x c.args.ledger m next _ c.in_default.not-Entry told.got)
    (c.reads_on.ensures x from m next (record { ledger_is = fetching.ledger_is; entries_are = fetching.entries_are; stands = told.stands }))
