-- The modes that a writer keeps.
use Rattle.std.specs.Prelude.{Some, None}
use Rattle.dl_rules_stream.specs.LogWriters as rule
use Rattle.dl_writer.specs.declared.mode.Mode.{Mode}
use Rattle.dl_writer.specs.declared.mode.Mode.TheVariants as kept

-- the rule's mode for which a kept mode stands
abbrev pub log_mode : Mode → rule.LogMode
log_mode kept.Open = rule.Open
log_mode kept.Awaiting = rule.Committing None
log_mode (kept.Committing control) = rule.Committing (Some control)
log_mode (kept.Committed control) = rule.Committed control
log_mode kept.Closing = rule.Closing
log_mode kept.Closable = rule.Closable

-- a call but hearing ends the notice of a commit
abbrev pub past_notice : Mode → Mode
past_notice (kept.Committed control) = kept.Open
past_notice mode = mode
