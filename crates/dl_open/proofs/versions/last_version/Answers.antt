use Rattle.std.proofs.Common.{◌∙◌}
use Rattle.dl_open.proofs.LastVersions.{last_version_is}
use Rattle.dl_open.proofs.versions.last_version.Goals as goal

pub returns-in-Some : goal.returns-in-Some
returns-in-Some c = c.version_in.ensures ∙ last_version_is c.args.answers.now c.in-Some.answer.now c.in-Some.ensures.value
