use Rattle.std.proofs.Common.{◌≡◌, ◌∙◌, ap, List, ℕ, length, take, arith, length-take}
use Rattle.std.proofs.lemmas.List.{take_at}
use Rattle.dl_journal.proofs.WholeFile.{reached, looks_on, sync_failed, look_failed, no_room, fetched}
use Rattle.dl_journal.proofs.load.fetch.Goals as goal

pub returns-in-Err : goal.returns-in-Err
returns-in-Err g c = sync_failed _ _ c.args.file c.in-Err.field-0 c.in-Err.ensures.synced

pub returns-in-Err-size : goal.returns-in-Err-size
returns-in-Err-size g c =
    let z = c.in-Err-size.ensures.size in
    look_failed _ _ _ c.args.file (reached _ _ c.args.file c.in_default.field-0 c.in_default.ensures.synced) z.looks z.counts.failed

pub returns-in-Err-zeros : goal.returns-in-Err-zeros
returns-in-Err-zeros g c =
    no_room _ _ _ c.args.file c.in-Ok.size (reached _ _ c.args.file c.in_default.field-0 c.in_default.ensures.synced) c.in-Ok.ensures.size (omega arith)

pub returns-in-Ok-read : goal.returns-in-Ok-read
returns-in-Ok-read g c =
    let long : length c.read.new.into ≡ length c.deref_mut.result.now = c.read.auto.into in
    let size : length c.read.new.into ≡ c.in-Ok.size = long ∙ ap length c.deref_mut.ensures.value ∙ c.in-Ok-zeros.ensures in
    let len : length c.read.new.into ≡ c.in-Ok-zeros.bytes.len = long ∙ c.deref_mut.ensures.len in
    let is : c.truncate.new.self.items ≡ take c.in-Ok-read.count c.read.new.into = c.truncate.ensures.items
    ∙ ap (λ (l : List ℕ). take c.in-Ok-read.count l) (take_at c.read.new.into _ c.in-Ok-zeros.bytes.len len) in
    fetched _ _ _ _ c.args.file c.in-Ok.size c.in-Ok-read.count c.read.new.into c.truncate.new.self
    (reached _ _ c.args.file c.in_default.field-0 c.in_default.ensures.synced) c.in-Ok.ensures.size c.in-Ok-read.ensures.read size (omega arith) is
    (omega (arith, ap length is, length-take c.in-Ok-read.count c.read.new.into, size))

pub returns-in-Err-read : goal.returns-in-Err-read
returns-in-Err-read g c =
    let r = c.in-Err-read.ensures.read in
    look_failed _ _ _ c.args.file (looks_on _ _ _ c.args.file (reached _ _ c.args.file c.in_default.field-0 c.in_default.ensures.synced)
    c.in-Ok.ensures.size.looks c.in-Ok.ensures.size.counts.passed) r.looks r.counts.failed
