use Rattle.std.proofs.Common.{◌≡◌, ◌^◌, ◌<◌, ◌∙◌, Some, ap, sym, arith}
use Rattle.dl_msg.specs.declared.meta_reply.MetaReply.TheVariants as reply
use Rattle.dl_session.specs.Sessions.{number_in, admission}
use Rattle.dl_rules_nodes.specs.Items.{Ask}
use Rattle.dl_rules_nodes.specs.Metadata.{answer_of}
use Rattle.dl_meta.specs.State.{MetaState, meta_in}
use Rattle.dl_meta.proofs.Asks.{ran_works, serve_ran}
use Rattle.dl_meta.proofs.store.MetaStore.serve.Goals as goal

pub returns-in-Run-clause-works : goal.returns-in-Run-clause-works
returns-in-Run-clause-works g c =
    ran_works (g.D.Depot.view c.args.depot.now) (g.D.Depot.view c.run.new.depot) (c.run.new.depot ≡ c.args.depot.now) c.args.self.now c.run.new.self
    (Ask c.args.session c.args.number c.args.op.now) (Some (reply.Answer (answer_of (meta_in c.args.self.now) c.args.session c.args.op.now))) c.run.result
    (λ e. ap g.D.Depot.view e) (sym (ap (λ (s : MetaState). s.journal.file) c.self.view_is) ∙ c.self.invariant.file)
    (sym (ap (λ (s : MetaState). s.journal.failed) c.self.view_is) ∙ (sym c.self.invariant.flag ∙ c.if-self.false)) c.requires.stands c.run.ensures

pub returns-in-Run-clause-takes : goal.returns-in-Run-clause-takes
returns-in-Run-clause-takes g c =
    let fits : c.args.session < 256 ^ 8 = omega arith in
    let short : c.args.number < 256 ^ 4 = omega arith in
    serve_ran (g.D.Depot.view c.args.depot.now) (g.D.Depot.view c.run.new.depot) (c.run.new.depot ≡ c.args.depot.now) c.args.self.now c.run.new.self
    c.args.session c.args.number c.args.op.now c.run.result (λ e. ap g.D.Depot.view e) fits short c.requires.valid c.requires.conf
    (ap (λ (s : MetaState). admission (number_in s.sessions.live c.args.session) c.args.number) (sym c.self.view_is) ∙ sym c.in-Run.ensures) c.run.ensures
