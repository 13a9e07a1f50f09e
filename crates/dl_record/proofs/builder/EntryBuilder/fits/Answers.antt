use Rattle.std.proofs.Common.{arith}
use Rattle.dl_record.proofs.BuildingLaws.{fits_room}
use Rattle.dl_record.proofs.builder.EntryBuilder.fits.Goals as goal

pub returns : goal.returns
returns c = fits_room c.self.inside.count c.self.inside.rows c.self.inside.bytes.items _ c.len.result c.args.size c.self.invariant c.self.view_is (omega arith)
