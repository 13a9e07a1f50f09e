use Rattle.std.proofs.Common.{◌≡◌, refl, ap, ap₂, sym, subst, ◌∙◌, ◌-◌, take}
use Rattle.std.specs.List.{flat_map}
use Rattle.dl_msg.specs.declared.msg.Msg.{Msg}
use Rattle.dl_rules_ledger.specs.Writers.{WriterView, Hears, with_call}
use Rattle.dl_lwrite.specs.Standing as lwrite
use Rattle.dl_lwrite.specs.Steps.{HasHeard}
use Rattle.dl_writer.specs.Facts.{LogFacts}
use Rattle.dl_writer.specs.Moves.{GoesBy, with_ledger}
use Rattle.dl_writer.specs.Going.{going}
use Rattle.dl_writer.proofs.Ending.{hearing}
use Rattle.dl_writer.proofs.writer.LogWriter.hear.Goals as goal

pub returns-clause-heard : goal.returns-clause-heard
returns-clause-heard c = λ v h.
    hearing v c.args.self.now h c.args.bookie (c.hear-confirmed.result - c.confirmed-before.result) c.args.msg.now c.in_ok-ledger.ledger
    c.hear-confirmed.new.self c.in_ok-letters.letters c.go_on-2.new.self
    (c.in_ok-ledger.ensures.cases ∙ ap (λ (f : LogFacts). f.ledger) c.self.view_is)
    (λ x s. subst (λ b. lwrite.StandsFor (with_call x (Hears b c.args.msg.now)) c.hear-confirmed.new.self) c.number.ensures.value
    (c.hear-confirmed.ensures.stands x s))
    c.number.result c.hear-confirmed.ensures.counts
    (ap₂ (λ m n. m - n) c.hear-confirmed.ensures.value c.confirmed-before.ensures.value)
    (subst (λ m. GoesBy (going c.hear-confirmed.new.self m)
    (with_ledger c.args.self.now c.hear-confirmed.new.self (c.hear-confirmed.result - c.confirmed-before.result) m) c.in_ok-letters.letters c.go_on-2.new.self)
    (ap (λ (f : LogFacts). f.mode) c.go_on.view_is) c.in_ok-letters.ensures.goes)
    _ c.hear-confirmed.ensures.value
    (c.in_ok-rows.ensures ∙ ap (λ (f : LogFacts). flat_map (λ x. x) (take (c.hear-confirmed.result - c.confirmed-before.result) f.waiting)) c.self.view_is)
    refl
