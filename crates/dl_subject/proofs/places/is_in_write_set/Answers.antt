use Rattle.std.proofs.Common.{sym, ap, ◌∙◌}
use Rattle.std.specs.List.{list_any}
use Rattle.dl_quorum.specs.Sizes.{sizes_of}
use Rattle.dl_quorum.specs.WriteSets.{write_set}
use Rattle.dl_subject.specs.Places.{is_at}
use Rattle.dl_subject.proofs.PlaceLemmas.{among_write_set, any_at_place, any_no_place}
use Rattle.dl_subject.proofs.places.is_in_write_set.Goals as goal

pub returns-in-Some : goal.returns-in-Some
returns-in-Some c =
    let set = write_set (sizes_of c.args.q) c.args.entry in
    c.contains.ensures ∙ c.write_set.ensures c.in-Some.place ∙ sym (any_at_place c.in-Some.place set)
    ∙ sym (ap (λ o. list_any (λ place. is_at o place) set) c.in-Some.is)
    ∙ sym (among_write_set (sizes_of c.args.q) c.args.ensemble.now c.args.entry c.args.bookie c.place_of.result c.args.q.rule c.requires
    c.place_of.ensures.exact)

pub returns-in-None : goal.returns-in-None
returns-in-None c =
    let set = write_set (sizes_of c.args.q) c.args.entry in
    sym (any_no_place set)
    ∙ sym (ap (λ o. list_any (λ place. is_at o place) set) c.in-None.is)
    ∙ sym (among_write_set (sizes_of c.args.q) c.args.ensemble.now c.args.entry c.args.bookie c.place_of.result c.args.q.rule c.requires
    c.place_of.ensures.exact)
