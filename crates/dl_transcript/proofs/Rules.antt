-- Each rule of a legal transcript binds.
use Rattle.dl_transcript.specs.Laws.{EachRuleBinds}
use Rattle.dl_transcript.proofs.WritingRules.{sessions_bind, rows_bind}
use Rattle.dl_transcript.proofs.SegmentRules.{segments_bind, ends_bind}
use Rattle.dl_transcript.proofs.ReadingRules.{reads_bind, rows_read_bind, ends_read_bind, refusals_bind}

-- all of them
pub rules_bind : EachRuleBinds
rules_bind = record {
  sessions = sessions_bind;
  rows = rows_bind;
  segments = segments_bind;
  ends = ends_bind;
  reads = reads_bind;
  rows_read = rows_read_bind;
  ends_read = ends_read_bind;
  refusals = refusals_bind;
}
