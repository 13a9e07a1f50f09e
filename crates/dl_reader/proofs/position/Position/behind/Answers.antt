use Rattle.std.proofs.Common.{◌≡◌, ◌<◌, length, sym, ap, subst, arith}
use Rattle.dl_types.specs.declared.read_row.ReadRow.{ReadRow}
use Rattle.dl_formats.specs.NodeBytes.{max_u64}
use Rattle.dl_rules_stream.specs.Seeks.{Position}
use Rattle.dl_reader.proofs.Rows.{behind_last, low_last}
use Rattle.dl_reader.proofs.position.Position.behind.Goals as goal

pub after_place-requires : goal.after_place-requires
after_place-requires c =
    let last = c.last-item.result in
    subst (λ (row : ReadRow). row.place.entry < max_u64) (sym c.last-item.is) (low_last c.args.rows.now last c.requires (omega arith))

pub returns-in-len1-up : goal.returns-in-len1-up
returns-in-len1-up c =
    let rows = c.args.rows.now in
    let some : 0 < length rows = omega arith in
    let behind = behind_last c.args.self rows c.last-item.result some in
    let floor : c.self.inside.floor ≡ c.args.self.floor = ap (λ (p : Position). p.floor) c.self.view_is in
    let is = c.last-item.is in
    let after = c.after_place.ensures in cc
