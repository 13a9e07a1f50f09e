use Rattle.dl_formats.proofs.PathLemmas.{stream_put}
use Rattle.dl_formats.proofs.paths.stream_bytes.Goals as goal

pub returns : goal.returns
returns c =
    stream_put c.args.stream.now _ _ _ _ _ _ c.as_slice.ensures.value c.new-bytes.ensures.items c.in_ok-extend_from_slice.ensures.items
    c.in_ok-extend_from_slice-2.ensures.items c.in_ok-extend_from_slice-3.ensures.items
