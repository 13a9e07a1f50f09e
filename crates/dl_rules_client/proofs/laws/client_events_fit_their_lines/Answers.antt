use Rattle.dl_rules_client.proofs.InputRanges.{input_fits}
use Rattle.dl_rules_client.proofs.laws.client_events_fit_their_lines.Goals as goal

pub returns : goal.returns
returns c = input_fits
