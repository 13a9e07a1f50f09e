use Rattle.std.proofs.Common.{◌≡◌, ap, refl}
use Rattle.dl_journal.specs.Commits.{spare_of}
use Rattle.dl_meta.proofs.Calls.{connect_full, connect_stored, few_given}
use Rattle.dl_meta.proofs.store.MetaStore.connect.Goals as goal

pub returns-then-not-can_connect-clause-takes : goal.returns-then-not-can_connect-clause-takes
returns-then-not-can_connect-clause-takes g c =
    connect_full (g.D.Depot.view c.args.depot.now) (c.args.depot.now ≡ c.args.depot.now) c.args.self.now c.can_connect.result refl
    c.can_connect.ensures c.if-not-can_connect.true

pub returns-clause-takes : goal.returns-clause-takes
returns-clause-takes g c =
    connect_stored (g.D.Depot.view c.args.depot.now) (g.D.Depot.view c.store_connect.new.depot) (c.store_connect.new.depot ≡ c.args.depot.now)
    c.args.self.now c.store_connect.new.self c.can_connect.result c.store_connect.result (λ e. ap g.D.Depot.view e)
    c.can_connect.ensures c.if-not-can_connect.false
    (few_given c.can_connect.result c.args.self.now.sessions.last (spare_of c.args.self.now.journal) c.can_connect.ensures c.if-not-can_connect.false)
    c.store_connect.ensures
