use Rattle.std.proofs.Common.{subst, sym, ◌∙◌}
use Rattle.dl_writer.specs.Moves.{GoesBy, with_ledger}
use Rattle.dl_writer.proofs.writer.LogWriter.go_on.Goals as goal

pub returns-in_ok-letters-in-SendsControl-clause-goes : goal.returns-in_ok-letters-in-SendsControl-clause-goes
returns-in_ok-letters-in-SendsControl-clause-goes c =
    subst (λ g. GoesBy g (with_ledger c.args.self.now c.args.ledger c.args.passed c.args.mode) c.in_ok-letters-in-SendsControl.letters c.send_control.new.self)
    (sym c.in-SendsControl.is ∙ c.next_going.ensures) (c.in_ok-letters-in-SendsControl.ensures.sent c.args.mode)
