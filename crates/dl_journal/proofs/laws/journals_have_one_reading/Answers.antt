use Rattle.dl_journal.proofs.OneWay.{one_list, not_both, one_place}
use Rattle.dl_journal.proofs.laws.journals_have_one_reading.Goals as goal

pub returns : goal.returns
returns c = record { one_list = one_list; not_both = not_both; one_place = one_place }
