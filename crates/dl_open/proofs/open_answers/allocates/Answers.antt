use Rattle.std.proofs.Common.{List, ℕ, sym, subst, arith}
use Rattle.dl_rules_stream.specs.Nodes.{new_sizes}
use Rattle.dl_rules_stream.specs.Opens as rule
use Rattle.dl_rules_stream.specs.Requests.{MakeLedger, op_of}
use Rattle.dl_open.specs.declared.open_stage.OpenStage.TheVariants as kept
use Rattle.dl_open.specs.declared.open_step.OpenStep.TheVariants as to
use Rattle.dl_open.specs.Opening.{args_of, IsStep}
use Rattle.dl_open.proofs.Allocating.{begins_next, next_in}
use Rattle.dl_open.proofs.open_answers.allocates.Goals as goal

pub returns : goal.returns
returns c from l told =
    let x = args_of c.args.given.now in
    let m = c.args.member.now in
    let looked = c.args.looked.now in
    let a = c.in_ok-allocation.allocation in
    let t = c.first_turn.result in
    subst (λ (p : List ℕ). IsStep x from (rule.allocates x m l) (to.Goes (kept.Allocating p (next_in looked) a) t)) (sym c.in_ok-share.ensures)
    (begins_next x m l looked from a t told (omega arith) c.in_ok-allocation.ensures.stands
    (c.first_turn.ensures (op_of (MakeLedger (new_sizes x.conf))) c.in_ok-allocation.ensures.turn))
