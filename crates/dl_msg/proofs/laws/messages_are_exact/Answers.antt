use Rattle.dl_msg.proofs.MsgLemmas.{msg_exact}
use Rattle.dl_msg.proofs.laws.messages_are_exact.Goals as goal

pub returns : goal.returns
returns c = msg_exact
