use Rattle.std.proofs.Common.{subst}
use Rattle.dl_links.specs.declared.file.File.{File}
use Rattle.dl_links.specs.Tables.{Pushes}
use Rattle.dl_links.proofs.PutLemmas.{takes}
use Rattle.dl_links.proofs.files.Files.put.Goals as goal

pub returns-clause-ok : goal.returns-clause-ok
returns-clause-ok c =
    takes c.args.self.now c.reserve.new.self c.reserve-2.new.self c.push.new.self c.push-2.new.self c.args.letter.now c.args.place
    c.reserve.ensures.stays c.reserve-2.ensures.stays
    (subst (λ (f : File). Pushes c.reserve-2.new.self c.push.new.self f c.args.place) c.link_of-2.ensures c.push.ensures)
    (subst (λ (f : File). Pushes c.push.new.self c.push-2.new.self f c.args.place) c.inbox_of-2.ensures c.push-2.ensures)
