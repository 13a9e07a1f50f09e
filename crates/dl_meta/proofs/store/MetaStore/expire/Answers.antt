use Rattle.std.proofs.Common.{◌≡◌, ◌^◌, ◌<◌, ◌∙◌, ap, sym, refl, arith}
use Rattle.dl_meta.proofs.Calls.{expire_full, expire_stored}
use Rattle.dl_meta.proofs.store.MetaStore.expire.Goals as goal

pub returns-then-not-has_room-clause-takes : goal.returns-then-not-has_room-clause-takes
returns-then-not-has_room-clause-takes g c =
    expire_full (g.D.Depot.view c.args.depot.now) (c.args.depot.now ≡ c.args.depot.now) c.args.self.now c.args.session refl
    (sym c.is_live.ensures ∙ c.if-not-is_live.false) (sym c.has_room.ensures ∙ c.if-not-has_room.true)

pub returns-clause-takes : goal.returns-clause-takes
returns-clause-takes g c =
    let fits : c.args.session < 256 ^ 8 = omega arith in
    expire_stored (g.D.Depot.view c.args.depot.now) (g.D.Depot.view c.store_expire.new.depot) (c.store_expire.new.depot ≡ c.args.depot.now)
    c.args.self.now c.store_expire.new.self c.args.session c.store_expire.result (λ e. ap g.D.Depot.view e) fits
    (sym c.is_live.ensures ∙ c.if-not-is_live.false) (sym c.has_room.ensures ∙ c.if-not-has_room.false) c.store_expire.ensures
