use Rattle.std.proofs.Common.{List, Some, None, is_some, sym, ap, refl, arith, ◌∙◌}
use Rattle.std.specs.Map.{lookup}
use Rattle.dl_links.specs.contracts.file.FilePartialEq.TheImpl as file
use Rattle.dl_links.specs.declared.file.File.{File}
use Rattle.dl_links.specs.declared.filed.Filed.{Filed}
use Rattle.dl_links.proofs.TableLemmas.{written, stays_written, room_written, empty_has_room}
use Rattle.dl_links.proofs.files.Files.reserve.Goals as goal

pub returns-in_err-reserve-clause-stays : goal.returns-in_err-reserve-clause-stays
returns-in_err-reserve-clause-stays c =
    let now : Filed = record { places = c.reserve.new.self; gone = c.in-Some.filed.now.gone } in
    let entries : List (File × Filed) = (c.get_mut.follows.lender now).entries in
    stays_written c.args.self.now entries c.args.file (Some c.in-Some.filed.now) now
    (written c.self.inside.map.entries entries c.args.self.now c.args.file (Some c.in-Some.filed.now) (Some now) c.self.view_is
    c.in-Some.ensures.value (((c.get_mut.follows.holds now).3 (ap is_some (sym c.in-Some.ensures.value))).0))
    c.reserve.ensures.items refl (λ room. omega (arith, room, c.reserve.ensures.len, c.reserve.ensures.capacity))

pub returns-in-Some-clause-stays : goal.returns-in-Some-clause-stays
returns-in-Some-clause-stays c =
    let now : Filed = record { places = c.reserve.new.self; gone = c.in-Some.filed.now.gone } in
    let entries : List (File × Filed) = (c.get_mut.follows.lender now).entries in
    stays_written c.args.self.now entries c.args.file (Some c.in-Some.filed.now) now
    (written c.self.inside.map.entries entries c.args.self.now c.args.file (Some c.in-Some.filed.now) (Some now) c.self.view_is
    c.in-Some.ensures.value (((c.get_mut.follows.holds now).3 (ap is_some (sym c.in-Some.ensures.value))).0))
    c.reserve.ensures.items refl (λ room. omega (arith, room, c.reserve.ensures.len, c.reserve.ensures.capacity))

pub returns-in-Some-clause-ok : goal.returns-in-Some-clause-ok
returns-in-Some-clause-ok c =
    let now : Filed = record { places = c.reserve.new.self; gone = c.in-Some.filed.now.gone } in
    let entries : List (File × Filed) = (c.get_mut.follows.lender now).entries in
    room_written c.args.self.now entries c.args.file (Some c.in-Some.filed.now) now
    (written c.self.inside.map.entries entries c.args.self.now c.args.file (Some c.in-Some.filed.now) (Some now) c.self.view_is
    c.in-Some.ensures.value (((c.get_mut.follows.holds now).3 (ap is_some (sym c.in-Some.ensures.value))).0))
    (omega (arith, c.in_ok-reserve.ensures.ok))

pub returns-clause-ok : goal.returns-clause-ok
returns-clause-ok c =
    room_written c.args.self.now c.insert.new.self.entries c.args.file None c.in_ok-filed.filed
    (written c.get_mut.follows.lender-at-none.entries c.insert.new.self.entries c.args.self.now c.args.file None (Some c.in_ok-filed.filed)
    (ap (λ m. m.entries) c.get_mut.follows.holds-at-none ∙ c.self.view_is)
    (c.in_default.ensures.value ∙ ap (λ m. lookup ((file.eq-value).it c.args.file) m.entries) (sym c.get_mut.follows.holds-at-none))
    (λ q. c.in_ok-insert.ensures.updates.0 q))
    (empty_has_room c.in_ok-filed.filed c.in_ok-filed.ensures.places c.in_ok-filed.ensures.room)

pub returns-clause-stays : goal.returns-clause-stays
returns-clause-stays c =
    stays_written c.args.self.now c.insert.new.self.entries c.args.file None c.in_ok-filed.filed
    (written c.get_mut.follows.lender-at-none.entries c.insert.new.self.entries c.args.self.now c.args.file None (Some c.in_ok-filed.filed)
    (ap (λ m. m.entries) c.get_mut.follows.holds-at-none ∙ c.self.view_is)
    (c.in_default.ensures.value ∙ ap (λ m. lookup ((file.eq-value).it c.args.file) m.entries) (sym c.get_mut.follows.holds-at-none))
    (λ q. c.in_ok-insert.ensures.updates.0 q))
    c.in_ok-filed.ensures.places c.in_ok-filed.ensures.gone (λ room. absurd room)
