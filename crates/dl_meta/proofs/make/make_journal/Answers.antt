use Rattle.dl_meta.proofs.MakingLemmas.{make_failed_at, commit_failed_at, commit_made_at}
use Rattle.dl_meta.proofs.make.make_journal.Goals as goal

pub returns-in-Err : goal.returns-in-Err
returns-in-Err g c = make_failed_at _ _ _ _ c.in-Err.field-0 c.new.ensures c.in-Err.ensures

pub returns-in-Ok-commit : goal.returns-in-Ok-commit
returns-in-Ok-commit g c = commit_made_at _ _ _ _ _ _ _ c.new.ensures c.in-Ok.ensures c.in-Ok-commit.ensures.committed

pub returns-in-Err-commit : goal.returns-in-Err-commit
returns-in-Err-commit g c = commit_failed_at _ _ _ _ _ _ _ _ c.new.ensures c.in-Ok.ensures c.in-Err-commit.ensures.committed
