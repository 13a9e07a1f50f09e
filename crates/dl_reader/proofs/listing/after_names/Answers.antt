use Rattle.std.proofs.Common.{◌≡◌, ℕ, List, Result, Err, refl, sym, ap, ◌∙◌, subst}
use Rattle.dl_types.specs.declared.dlsn.Dlsn.{Dlsn}
use Rattle.dl_types.specs.declared.refusal.Refusal.{Refusal}
use Rattle.dl_msg.specs.declared.turn.Turn.TheVariants as turn
use Rattle.dl_rules_stream.specs.Orders.{or_refused}
use Rattle.dl_rules_stream.specs.Listings.{point_of, segments_of}
use Rattle.dl_rules_stream.specs.LogReaders as rule
use Rattle.dl_reader.specs.declared.stage.Stage.TheVariants as kept
use Rattle.dl_reader.specs.Steps.{IsGoing}
use Rattle.dl_reader.proofs.listing.after_names.Goals as goal

pub returns-in-Err : goal.returns-in-Err
returns-in-Err c =
    let x = c.args.given.now in
    let r = c.args.reading.now.read in
    let left = c.args.reading.now.left in
    let cut = c.args.cut.now in
    let refusal = c.in-Err.refusal in
    let stream : c.given.inside.stream ≡ x.stream = ap (λ (g : rule.ReaderArgs). g.stream) c.given.view_is in
    let read : point_of x.stream cut ≡ Err refusal =
    sym (c.in_ok-point.ensures ∙ ap (λ (s : List ℕ). point_of s cut) stream) ∙ c.in-Err.is in
    subst (λ (point : Result Dlsn Refusal).
    IsGoing r left (or_refused rule.NoRead (rule.after_list x r (segments_of c.args.names.now)) point) kept.NoRead (turn.Refused refusal))
    (sym read) (record { stage = tt; turn = refl; quiet = λ p. refl })
