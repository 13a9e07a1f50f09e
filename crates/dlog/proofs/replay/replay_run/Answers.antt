use Rattle.std.proofs.Common.{rules}
use Rattle.dlog.proofs.ReplayLemmas.{replays_end, replays_write_fault, replays_read_fault, replays_no_memory}
use Rattle.dlog.proofs.replay.replay_run.Goals as goal

pub returns-in-Err-Fault : goal.returns-in-Err-Fault
returns-in-Err-Fault g c = replays_read_fault _ _ _ c.in-Err-Fault.ensures.front (c.in-Err-Fault.ensures.cause (search rules))

pub returns-in-Err-NoMemory : goal.returns-in-Err-NoMemory
returns-in-Err-NoMemory g c = replays_no_memory _ _ _ c.in-Err-NoMemory.ensures.front

pub returns-in-Err : goal.returns-in-Err
returns-in-Err g c =
    replays_write_fault _ _ _ _ c.args.run.now c.read_run.new.run c.in-Ok.ended c.requires c.in-Ok.ensures.reads
    (rw c.text.ensures at c.in-Err.ensures.some) c.in-Err.ensures.cause.failed

pub returns-in-Ok-give : goal.returns-in-Ok-give
returns-in-Ok-give g c =
    rw c.status_of.ensures
    (replays_end _ _ _ _ c.args.run.now c.read_run.new.run c.in-Ok.ended c.requires c.in-Ok.ensures.reads
    (rw c.text.ensures at c.in-Ok-give.ensures.ok) c.in-Ok-give.ensures.finished)
