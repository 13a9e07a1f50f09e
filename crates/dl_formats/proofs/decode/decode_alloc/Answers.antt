use Rattle.std.proofs.Common.{arith}
use Rattle.dl_formats.proofs.DecodeLemmas.{decodes}
use Rattle.dl_formats.proofs.Exactness.{alloc_exact}
use Rattle.dl_formats.proofs.decode.decode_alloc.Goals as goal

pub returns : goal.returns
returns c = decodes alloc_exact c.args.bytes.now c.read_node.result (λ i. omega (arith, c.type_inv.bytes i)) c.read_node.ensures
