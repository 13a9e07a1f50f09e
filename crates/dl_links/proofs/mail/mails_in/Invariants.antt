use Rattle.std.proofs.Common.{◌≡◌, ◌-◌, length, drop}
use Rattle.dl_machine.specs.Lines.{links}
use Rattle.dl_links.specs.Mails.{mails_of}
use Rattle.dl_links.proofs.mail.mails_in.Given as goal

-- the links of the last letters
abbrev pub invariant-loop-step : goal.invariant-loop-step
invariant-loop-step l = mails_of l.mails.items ≡ links (drop (length l.letters - l.step) l.letters)
