use Rattle.std.proofs.Common.{[], refl}
use Rattle.dl_rules_stream.specs.Requests.{LookCut}
use Rattle.dl_rules_client.specs.Views as rule
use Rattle.dl_client.proofs.client.Client.begin_truncate.Goals as goal

pub returns-clause-goes : goal.returns-clause-goes
returns-clause-goes c me n h =
    let s = c.args.stream.now in
    c.begin.ensures me n (record { line = c.args.line; stream = s; doing = rule.Truncates c.args.to [] }) (LookCut s) h
    (record {
      line = refl;
      stream = c.in_ok-stream.ensures;
      doing = record { to = c.args.to; heard = []; is = refl; stands = c.in_ok-task.ensures.stands };
    })
    (c.first_turn-turn.ensures _ c.in_ok-task.ensures.turn)
