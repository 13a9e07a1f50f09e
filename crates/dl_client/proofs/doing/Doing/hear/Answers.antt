use Rattle.std.proofs.lemmas.Result.{IfOk-weaker}
use Rattle.dl_client.proofs.Hearing.{make_goes, purge_goes, remove_goes, truncate_goes}
use Rattle.dl_client.proofs.doing.Doing.hear.Goals as goal

pub returns-in-Makes-clause-goes : goal.returns-in-Makes-clause-goes
returns-in-Makes-clause-goes c =
    IfOk-weaker c.make_hears.result _ _
    (λ turn goes me o who on k. make_goes me o c.args.heard.now turn c.args.client c.args.stream.now c.in-Makes.task c.make_hears.new.task who on
    (rw c.in-Makes.is at k) goes)
    c.make_hears.ensures.goes

pub returns-in-Removes-clause-goes : goal.returns-in-Removes-clause-goes
returns-in-Removes-clause-goes c =
    IfOk-weaker c.remove_hears.result _ _
    (λ turn goes me o who on k. remove_goes me o c.args.heard.now turn c.args.client c.args.stream.now c.in-Removes.task c.remove_hears.new.task who on
    (rw c.in-Removes.is at k) goes)
    c.remove_hears.ensures.goes

pub returns-in-Truncates-clause-goes : goal.returns-in-Truncates-clause-goes
returns-in-Truncates-clause-goes c =
    IfOk-weaker c.truncate_hears.result _ _
    (λ turn goes me o who on k. truncate_goes me o c.args.heard.now turn c.args.client c.args.stream.now c.in-Truncates.task c.truncate_hears.new.task who
    on (rw c.in-Truncates.is at k) goes)
    c.truncate_hears.ensures.goes

pub returns-in-Purges-clause-goes : goal.returns-in-Purges-clause-goes
returns-in-Purges-clause-goes c =
    IfOk-weaker c.purge_hears.result _ _
    (λ turn goes me o who on k. purge_goes me o c.args.heard.now turn c.args.client c.args.stream.now c.in-Purges.task c.purge_hears.new.task who on
    (rw c.in-Purges.is at k) goes)
    c.purge_hears.ensures.goes
