use Rattle.std.proofs.Common.{ap, sym, ◌∙◌, take}
use Rattle.dl_links.specs.Waiting.{earlier, first_waiting}
use Rattle.dl_links.specs.Tables.{first_in}
use Rattle.dl_links.proofs.FirstLemmas.{first_in_take}
use Rattle.dl_links.proofs.TableLemmas.{passes_twice}
use Rattle.dl_links.proofs.files.Files.first_in.Goals as goal

pub first_waiting-requires : goal.first_waiting-requires
first_waiting-requires c = c.loop-file.invariant.1.gone c.file-item.result (c.requires c.file-item.result)

pub loop-file-preserved : goal.loop-file-preserved
loop-file-preserved c = (
  c.earlier-first.ensures
      ∙ (λ i. earlier (c.loop-file.invariant.0 i) (c.first_waiting.ensures.first i))
      ∙ ap (λ ps. earlier (first_in c.args.delivered.now c.args.self.now (take c.loop-file.file-index c.args.files.now))
      (first_waiting c.args.delivered.now ps))
      (c.loop-file.invariant.1.places c.file-item.result)
      ∙ sym (first_in_take c.args.delivered.now c.args.self.now c.args.files.now c.loop-file.file-index c.file-item.result
      c.loop-file-test.true (sym c.file-item.is)),
  passes_twice c.args.delivered.now c.args.self.now c.loop-file.self c.first_waiting.new.self c.loop-file.invariant.1 c.first_waiting.ensures.passes,
)
