use Rattle.std.proofs.Common.{sym, ◌∙◌}
use Rattle.dl_text.proofs.NameLemmas.{letter_name}
use Rattle.dl_text.proofs.name.name_of.Goals as goal

pub returns-then-is_ascii_lowercase-clause-name : goal.returns-then-is_ascii_lowercase-clause-name
returns-then-is_ascii_lowercase-clause-name c =
    letter_name (λ x. x.now) c.name_bytes_of.result c.args.end c.args.bytes.now c.requires (sym c.is_ascii_lowercase.ensures.value
    ∙ c.if-is_ascii_lowercase.true) c.name_bytes_of.ensures
