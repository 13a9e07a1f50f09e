use Rattle.std.proofs.Common.{sym, ap, ◌∙◌}
use Rattle.dl_record.specs.Reading.{entry_at}
use Rattle.dl_reading.proofs.ReadingLemmas.{ok_is}
use Rattle.dl_record.proofs.Entries.{entry_again}
use Rattle.dl_record.proofs.laws.entries_have_one_spelling.Goals as goal

pub returns : goal.returns
returns c = record {
  again = entry_again;
  one = λ a b is-a is-b same. ok_is a b (sym (entry_again a is-a) ∙ ap entry_at same ∙ entry_again b is-b);
}
