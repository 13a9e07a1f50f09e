use Rattle.std.proofs.Common.{◌+◌, ◌-◌, ◌*◌, length, arith}
use Rattle.dl_pool.proofs.PageLemmas.{page_bytes-other}
use Rattle.dl_pool.proofs.pages.overwrite_page.Goals as goal

pub returns-clause-others : goal.returns-clause-others
returns-clause-others c other apart =
    page_bytes-other c.args.page other (c.args.page * 4096 + length c.args.part.now - c.args.page * 4096) c.args.memory.now c.copy_from_slice.new.self
    c.requires.page (omega (arith, c.copy_from_slice.ensures.len)) (omega (arith, c.requires.part)) apart
