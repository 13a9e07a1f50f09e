use Rattle.dl_law_client.proofs.Clients.{each_client_leads}
use Rattle.dl_law_client.proofs.laws.each_client_leads.Goals as goal

pub returns : goal.returns
returns c = each_client_leads
