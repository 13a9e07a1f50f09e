use Rattle.std.proofs.Common.{◌∙◌}
use Rattle.dl_transcript.specs.Legal.{keeps, sees}
use Rattle.dl_shown.proofs.stream.StreamShown.truncate.Goals as goal

pub returns : goal.returns
unfolding keeps sees
returns c = λ d s name h. (c.contains.ensures ∙ h.moved c.args.place, λ yes_way. h)
