use Rattle.dl_events.proofs.PathExactness.{path_read}
use Rattle.dl_events.proofs.path.path_of.Goals as goal

pub slice_bounds-result-end : goal.slice_bounds-result-end
slice_bounds-result-end c = (path_read c.args.end c.args.bytes.now c.in_ok-found-in-len1-up.found.now c.in_ok-found-in-len1-up.rest.now
    c.in-len1-up.len_at_least c.if-first-ne47.false c.in_ok-found-in-len1-up.ensures).1

pub returns-in_ok-found-in-len1-up : goal.returns-in_ok-found-in-len1-up
returns-in_ok-found-in-len1-up c = (path_read c.args.end c.args.bytes.now c.in_ok-found-in-len1-up.found.now c.in_ok-found-in-len1-up.rest.now
    c.in-len1-up.len_at_least c.if-first-ne47.false c.in_ok-found-in-len1-up.ensures).0
