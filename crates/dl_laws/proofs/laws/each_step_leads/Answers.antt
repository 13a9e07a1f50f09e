use Rattle.dl_laws.proofs.RunLaws.{each_step_leads}
use Rattle.dl_laws.proofs.laws.each_step_leads.Goals as goal

pub returns : goal.returns
returns c = each_step_leads
