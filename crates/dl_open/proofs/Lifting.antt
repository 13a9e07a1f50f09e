-- A step of an order leads to where its rule goes.
use Rattle.std.proofs.Common.{◌≡◌, Option, sym, ◌∙◌, subst}
use Rattle.dl_types.specs.declared.dlsn.Dlsn.{Dlsn}
use Rattle.dl_msg.specs.declared.heard.Heard.{Heard}
use Rattle.dl_msg.specs.declared.turn.Turn.{Turn}
use Rattle.dl_rules_stream.specs.Opens as opening
use Rattle.dl_rules_stream.specs.Orders.{stage_after}
use Rattle.dl_rules_stream.specs.Recovers as recovering
use Rattle.dl_requests.specs.Tasks.{View, GoesBy, HearsBy, stage_by}
use Rattle.dl_requests.specs.Turns.{goes_by, IsTurn}
use Rattle.dl_open.specs.declared.found.Found.{Found}
use Rattle.dl_open.specs.declared.new_writer.NewWriter.{NewWriter}
use Rattle.dl_open.specs.declared.open_step.OpenStep.{OpenStep}
use Rattle.dl_open.specs.declared.open_stage.OpenStage.{OpenStage}
use Rattle.dl_open.specs.declared.open_turn.OpenTurn.{OpenTurn}
use Rattle.dl_open.specs.declared.recover_stage.RecoverStage.{RecoverStage}
use Rattle.dl_open.specs.declared.recover_step.RecoverStep.{RecoverStep}
use Rattle.dl_open.specs.Opening as opens
use Rattle.dl_open.specs.Recovering as recovers

-- ---- the recovery of a stream

-- it takes a step
pub recover_takes : (x : recovering.RecoverArgs) (stage : recovering.RecoverStage) (old new : recovers.RecoverFacts) (h : Heard) (s : RecoverStep)
    (t : Turn Found) → recovers.RecoversAt x stage old → recovers.IsStep old.stage (recovering.recover_hears old.given stage h) s
    → new.given ≡ old.given → new.stage ≡ recovers.stage_behind old.stage s → t ≡ recovers.turn_in s
    → GoesBy (recovers.RecoversAt x) (goes_by recovers.found_of (recovering.recover_hears x stage h)) t new
recover_takes x stage old new h s t stands is given kept turn_is =
    let m = subst (λ (y : recovering.RecoverArgs). recovers.IsStep old.stage (recovering.recover_hears y stage h) s) stands.given is in
    record {
      turn = turn_is ∙ m.turn;
      stands = record {
        given = given ∙ stands.given;
        at = subst (λ (k : RecoverStage). recovers.StageStands (recovering.recover_hears x stage h).0 k) (sym kept) m.stage;
      };
    }

-- what it does at the stage of a view is what the view says
pub recover_viewed : (v : View recovering.RecoverArgs) (h : Heard) (t : Turn Found) (new : recovers.RecoverFacts)
    → GoesBy (recovers.RecoversAt v.given)
    (goes_by recovers.found_of (recovering.recover_hears v.given (stage_by recovers.recover_order v) h)) t new
    → HearsBy recovers.found_of recovers.recover_order recovers.RecoversFor v h t new
unfolding stage_after
recover_viewed v h t new goes = record { turn = goes.turn; stands = goes.stands }

-- ---- the opening of a stream

-- it takes a step
pub open_takes : (x : opening.OpenArgs) (stage : opening.OpenStage) (old new : opens.OpenFacts) (h : Heard) (s : OpenStep) (t : Turn NewWriter)
    (r : Option Dlsn) → opens.OpensAt x stage old
    → (opens.StageStands old.given stage old.stage → opens.IsStep old.given old.stage (opening.open_hears old.given stage h) s)
    → (opens.StageStands old.given stage old.stage → r ≡ opening.open_recovers stage h)
    → new.given ≡ old.given → new.stage ≡ opens.stage_behind old.stage s → t ≡ opens.turn_in s
    → opens.OpensBy x stage h (record { turn = t; recovered = r }) new
open_takes x stage old new h s t r stands steps tells given kept turn_is =
    let at = subst (λ (y : opening.OpenArgs). opens.StageStands y stage old.stage) (sym stands.given) stands.at in
    let m = subst (λ (y : opening.OpenArgs). opens.IsStep y old.stage (opening.open_hears y stage h) s) stands.given (steps at) in
    record {
      turn = subst (λ (u : Turn NewWriter). IsTurn (opens.IsNewWriter x) (opening.open_hears x stage h).1 u) (sym turn_is) m.turn;
      recovered = tells at;
      stands = record {
        given = given ∙ stands.given;
        at = subst (λ (k : OpenStage). opens.StageStands x (opening.open_hears x stage h).0 k) (sym kept) m.stage;
      };
    }

-- what it does at the stage of a view is what the view says
pub open_viewed : (v : View opening.OpenArgs) (h : Heard) (t : OpenTurn) (new : opens.OpenFacts)
    → opens.OpensBy v.given (stage_by opens.open_order v) h t new → opens.Hears v h t new
unfolding stage_after
open_viewed v h t new goes = record { turn = goes.turn; recovered = goes.recovered; stands = goes.stands }
