use Rattle.std.proofs.Common.{ap, drop, length, ◌-◌, ◌∙◌}
use Rattle.std.proofs.lemmas.List.{drop_at}
use Rattle.dl_record.specs.Grammar.{header_bytes}
use Rattle.dl_record.proofs.Sizes.{length-header_bytes}
use Rattle.dl_record.proofs.builder.take_entry.Goals as goal

pub returns-in-Err-clause-err : goal.returns-in-Err-clause-err
returns-in-Err-clause-err c =
    let old = c.args.out.now.items in
    let size = length old - 8 in
    let written = c.in-Err.ensures.value_returned ∙ ap (λ v. v.items) c.replace.ensures.value ∙ c.close_entry.ensures.bytes in
    ap (drop 8) written ∙ drop_at (header_bytes c.args.count size) (drop 8 old) 8 (length-header_bytes c.args.count size)
