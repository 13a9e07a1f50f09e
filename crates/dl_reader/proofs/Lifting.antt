-- A step of a read leads to the state behind the rule's move.
use Rattle.std.proofs.Common.{◌≡◌, List, Result, Ok, Err, IfOk, refl, sym, ap, ◌∙◌, subst}
use Rattle.dl_types.specs.declared.read_row.ReadRow.{ReadRow}
use Rattle.dl_msg.specs.declared.turn.Turn.{Turn}
use Rattle.dl_msg.specs.declared.heard.Heard.{Heard}
use Rattle.dl_msg.specs.declared.turn.Turn.TheVariants as turn
use Rattle.dl_rules_stream.specs.Orders.{Wait}
use Rattle.dl_rules_stream.specs.LogReaders as rule
use Rattle.dl_reader.specs.declared.step.After.{After}
use Rattle.dl_reader.specs.declared.step.After.TheVariants as after
use Rattle.dl_reader.specs.declared.step.Step.{Step}
use Rattle.dl_reader.specs.declared.step.Step.TheVariants as step
use Rattle.dl_reader.specs.Facts.{ReaderFacts}
use Rattle.dl_reader.specs.Standing.{StageStands}
use Rattle.dl_reader.specs.Steps.{IsStep, IsAfter}
use Rattle.dl_reader.specs.Views.{ReaderView, StandsAt, GoesBy, IsAnswer, after_step, now_in, with_gathered}

-- what follows from what holds of a result
pub if_ok : {A E : Type 0} {P Q : A → Type 0} (r : Result A E) → IfOk r P → ((x : A) → P x → Q x) → IfOk r Q
if_ok (Ok x) h f = f x h
if_ok (Err e) h f = h

-- it takes a step
stepped : (x : rule.ReaderArgs) (n : rule.ReaderNow) (move : rule.ReadMove) (f : ReaderFacts) (s : Step) → f.args ≡ x → f.position ≡ n.position
    → IsStep x f.reading.read f.reading.left move s → GoesBy x n move (after_step f s).1 (after_step f s).0
stepped x n move f (step.Goes stage turn way) args position is = record {
  turn = is.turn;
  stands = record { args = args; position = position ∙ sym (is.quiet n.position); stage = is.stage };
}
stepped x n move f (step.Begins gone request) args position is =
    subst (λ (m : rule.ReadMove). GoesBy x n m (turn.Ask request) (after_step f (step.Begins gone request)).0)
    (sym is.0) (record { turn = ap (λ o. turn.Ask o) is.1; stands = record { args = args; position = position; stage = refl } })
stepped x n move f step.Ends args position is = subst (λ (m : rule.ReadMove). GoesBy x n m (turn.Done f.reading.read.rows) (after_step f step.Ends).0)
    (sym is) (record { turn = refl; stands = record { args = args; position = ap (λ p. rule.behind p f.reading.read.rows) position; stage = tt } })

-- it waits where it is
waited : (x : rule.ReaderArgs) (n : rule.ReaderNow) (move : rule.ReadMove) (f : ReaderFacts) → StandsAt x n f → move ≡ (n.stage, Wait)
    → GoesBy x n move turn.Wait f
waited x n move f stands is = subst (λ (m : rule.ReadMove). GoesBy x n m turn.Wait f) (sym is) (record { turn = refl; stands = stands })

-- what a read does at what it hears, by the stage at which it stands
abbrev pub AnswersBy : ReaderFacts → Heard → After → Type 0
AnswersBy f heard a = (s : rule.ReadStage) → StageStands f.reading.read f.reading.left s f.stage
    → IsAfter f.args f.reading.read f.reading.left s (rule.read_hears f.args s heard) a

-- the rule's move from where a reader stands
moves : (x : rule.ReaderArgs) (n : rule.ReaderNow) (f : ReaderFacts) (heard : Heard) (a b : After) → StandsAt x n f → AnswersBy f heard a → a ≡ b
    → IsAfter x f.reading.read f.reading.left n.stage (rule.read_hears x n.stage heard) b
moves x n f heard a b stands answers is =
    subst (λ (k : After). IsAfter x f.reading.read f.reading.left n.stage (rule.read_hears x n.stage heard) k) is
    (subst (λ (y : rule.ReaderArgs). IsAfter y f.reading.read f.reading.left n.stage (rule.read_hears y n.stage heard) a) stands.args
    (answers n.stage stands.stage))

-- a reader that hears what it doesn't need
pub stays : (x : rule.ReaderArgs) (n : rule.ReaderNow) (f : ReaderFacts) (heard : Heard) (a : After) → StandsAt x n f → AnswersBy f heard a → a ≡ after.Stays
    → GoesBy x n (rule.read_hears x n.stage heard) turn.Wait f
stays x n f heard a stands answers is = waited x n (rule.read_hears x n.stage heard) f stands (moves x n f heard a after.Stays stands answers is)

-- one that takes a step
pub takes : (x : rule.ReaderArgs) (n : rule.ReaderNow) (f : ReaderFacts) (heard : Heard) (a : After) (s : Step) (t : Turn (List ReadRow)) (new : ReaderFacts)
    → StandsAt x n f → AnswersBy f heard a → a ≡ after.Takes s → (new, t) ≡ after_step f s → GoesBy x n (rule.read_hears x n.stage heard) t new
takes x n f heard a s t new stands answers is steps =
    subst (λ (p : ReaderFacts × Turn (List ReadRow)). GoesBy x n (rule.read_hears x n.stage heard) p.1 p.0) (sym steps)
    (stepped x n (rule.read_hears x n.stage heard) f s stands.args stands.position (moves x n f heard a (after.Takes s) stands answers is))

-- one that gathers rows first
pub gathers : (x : rule.ReaderArgs) (n : rule.ReaderNow) (f : ReaderFacts) (heard : Heard) (a : After) (rows : List ReadRow) (s : Step)
    (t : Turn (List ReadRow)) (mid new : ReaderFacts) → StandsAt x n f → AnswersBy f heard a → a ≡ after.Gathers rows s → mid ≡ with_gathered f rows
    → (new, t) ≡ after_step mid s
    → GoesBy x n (rule.read_hears x n.stage heard) t new
gathers x n f heard a rows s t mid new stands answers is gathered steps =
    subst (λ (p : ReaderFacts × Turn (List ReadRow)). GoesBy x n (rule.read_hears x n.stage heard) p.1 p.0)
    (sym (steps ∙ ap (λ (k : ReaderFacts). after_step k s) gathered))
    (stepped x n (rule.read_hears x n.stage heard) (with_gathered f rows) s stands.args stands.position
    (moves x n f heard a (after.Gathers rows s) stands answers is))

-- from the state of a view to the view
pub viewed : (v : ReaderView) (call : rule.LogReaderCall) (t : Turn (List ReadRow)) (f : ReaderFacts)
    → GoesBy v.args (now_in v) (rule.reader_move v.args (now_in v) call) t f → IsAnswer v call t f
unfolding rule.reader_of rule.after_reader_call
viewed v call t f goes = record { turn = goes.turn; stands = goes.stands }
