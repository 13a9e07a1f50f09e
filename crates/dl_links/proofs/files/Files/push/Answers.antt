use Rattle.std.proofs.Common.{List, Some, None, is_some, sym, ap, subst, refl}
use Rattle.dl_links.specs.declared.file.File.{File}
use Rattle.dl_links.specs.declared.filed.Filed.{Filed}
use Rattle.dl_links.specs.declared.files.Files.TheInside.{Inside}
use Rattle.dl_links.specs.Tables.{HasRoomFor, Pushes}
use Rattle.dl_links.proofs.TableLemmas.{found, written, pushes_written}
use Rattle.dl_links.proofs.files.Files.push.Goals as goal
use Rattle.dl_links.proofs.files.Files.push.Goals.{in-Some, in_default}

pub push_reserved-requires : goal.push_reserved-requires
push_reserved-requires c =
    subst HasRoomFor
    (found c.self.inside.map.entries c.args.self.now c.args.file (Some c.in-Some.filed.now) c.self.view_is c.in-Some.ensures.value) c.requires

pub returns : goal.returns
returns c =
    elim c.match-get_mut.branch [
      | in-Some w ↦
          let now : Filed = record { places = w.push_reserved.new.self; gone = w.in-Some.filed.now.gone } in
          let entries : List (File × Filed) = (c.get_mut.follows.lender now).entries in
          subst (λ (s : Inside). Pushes c.args.self.now s.map.entries c.args.file c.args.place) (sym w.self-inside-is)
          (pushes_written c.args.self.now entries c.args.file w.in-Some.filed.now now c.args.place
          (written c.self.inside.map.entries entries c.args.self.now c.args.file (Some w.in-Some.filed.now) (Some now) c.self.view_is
          w.in-Some.ensures.value (((c.get_mut.follows.holds now).3 (ap is_some (sym w.in-Some.ensures.value))).0))
          w.push_reserved.ensures.items refl)
      | in_default w ↦
          absurd (subst HasRoomFor
          (found c.self.inside.map.entries c.args.self.now c.args.file None c.self.view_is w.in_default.ensures.value) c.requires)
    ]
