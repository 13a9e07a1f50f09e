use Rattle.std.proofs.Common.{ℕ, IfOk, sym, ap, ◌∙◌, subst}
use Rattle.dl_rules_stream.specs.Allocations.{allocation_hears}
use Rattle.dl_rules_stream.specs.Opens.{allocation_args, allocation_goes, alloc_version_in}
use Rattle.dl_requests.specs.Turns.{move_of}
use Rattle.dl_alloc.specs.Standing.{allocation_stage_of}
use Rattle.dl_open.specs.declared.open_stage.OpenStage.TheVariants.{Allocating}
use Rattle.dl_open.specs.Opening.{args_of, IsStep}
use Rattle.dl_open.proofs.Going.{allocation_stays}
use Rattle.dl_open.proofs.open_answers.at_allocating.Goals as goal

pub returns-in-Stays : goal.returns-in-Stays
returns-in-Stays c l s is =
    let x = args_of c.args.given.now in
    let y = allocation_args x c.args.member.now l in
    let to = allocation_hears y s c.args.heard.now in
    allocation_stays x c.args.member.now l s c.args.next.now c.args.allocation.now (alloc_version_in c.args.heard.now) to is
    (sym (ap (move_of allocation_stage_of s) c.in-Stays.is) ∙ c.in_ok-step.ensures y s is.stands)

pub returns-in-Goes : goal.returns-in-Goes
returns-in-Goes c l s is =
    let x = args_of c.args.given.now in
    let m = c.args.member.now in
    let f = c.args.allocation.now in
    let y = allocation_args x m l in
    let to = allocation_hears y s c.args.heard.now in
    let e = sym (ap (move_of allocation_stage_of s) c.in-Goes.is) ∙ c.in_ok-step.ensures y s is.stands in
    subst (λ (v : ℕ). IfOk c.allocation_goes_on.result (IsStep x (Allocating m c.args.next.now f) (allocation_goes x m l v to)))
    c.alloc_version_in.ensures
    (c.allocation_goes_on.ensures l f to.0 to.1 is.next_is (record { given = is.stands.given; at = ap (λ y. y.0) e }) (ap (λ y. y.1) e))
