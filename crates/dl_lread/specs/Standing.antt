-- A reader stands for a view: what it reads, and the calls since it was made.
use Rattle.std.specs.Prelude.{◌≡◌, List, [], ◌∷◌, Option, Some, None}
use Rattle.dl_msg.specs.declared.letters.Told.{Told}
use Rattle.dl_rules_ledger.specs.Subjects.{Subject}
use Rattle.dl_rules_ledger.specs.Readers.{ReaderCall, ReaderStage, Idle, Counting, Counted, Fetching, Fetched, stage_of}
use Rattle.dl_subject.specs.Sets.{IsTallyOf}
use Rattle.dl_lread.specs.declared.got.Got.{Got}
use Rattle.dl_lread.specs.declared.got.Got.TheVariants as got
use Rattle.dl_lread.specs.declared.stage.Stage.{Stage}
use Rattle.dl_lread.specs.declared.stage.Stage.TheVariants as kept
use Rattle.dl_lread.specs.Facts.{ReaderFacts}

-- What a reader's messages are about, and the calls since it was made, the newest first.
pub record ReaderView : Type 0 where
  pub subject : Subject
  pub calls : List ReaderCall

-- a reader that was given no call yet
abbrev pub new_view : Subject → ReaderView
new_view x = record { subject = x; calls = [] }

-- a view with one call more
abbrev pub with_call : ReaderView → ReaderCall → ReaderView
with_call v call = record v { calls = call ∷ v.calls }

-- the stage of a view
abbrev pub stage_in : ReaderView → ReaderStage
stage_in v = stage_of v.subject v.calls

-- a kept stage stands for a stage of the view
abbrev pub StageStands : Subject → ReaderStage → Stage → Type 0
StageStands x Idle kept.Idle = Unit {0}
StageStands x (Counting answers) (kept.Counting set greatest) = IsTallyOf x answers set greatest
StageStands x (Counted count) (kept.Counted n) = n ≡ count
StageStands x (Fetching entry) (kept.Fetching e) = e ≡ entry
StageStands x (Fetched bytes) (kept.Fetched b) = b ≡ bytes
StageStands x _ _ = ⊥

-- a reader of this subject stands at a stage of the rule: each thing that it keeps is what the stage says
pub record StandsAt (x : Subject) (s : ReaderStage) (f : ReaderFacts) : Type 0 where
  pub subject : f.subject ≡ x
  pub stage : StageStands x s f.stage

-- a reader stands at the stage of a view
abbrev pub StandsFor : ReaderView → ReaderFacts → Type 0
StandsFor v f = StandsAt v.subject (stage_in v) f

-- another stage, or else this one
abbrev pub stage_or : Stage → Option Stage → Stage
stage_or stage None = stage
stage_or stage (Some next) = next

-- what a reader has got at a kept stage
abbrev pub got_of : Stage → Got
got_of (kept.Counted count) = got.Lac count
got_of (kept.Fetched bytes) = got.Entry bytes
got_of stage = got.NotYet

-- what a reader has got at a stage of its view: the count once a cover has answered, the bytes once they came
abbrev pub got_in : ReaderStage → Got
got_in (Counted count) = got.Lac count
got_in (Fetched bytes) = got.Entry bytes
got_in stage = got.NotYet

-- a reader tells these messages, and stands then at a stage
pub record AsksAt (x : Subject) (next : ReaderStage) (letters told : List Told) (f : ReaderFacts) : Type 0 where
  pub letters_told : told ≡ letters
  pub stands : StandsAt x next f

-- a reader has got what a stage says, and stands then at it
pub record AnswersAt (x : Subject) (next : ReaderStage) (g : Got) (f : ReaderFacts) : Type 0 where
  pub got : g ≡ got_in next
  pub stands : StandsAt x next f

-- a reader asks by what its view says, and stands then for the view with the call
abbrev pub IsAsking : ReaderView → ReaderCall → (letters told : List Told) → ReaderFacts → Type 0
IsAsking v call letters told f = AsksAt v.subject (stage_in (with_call v call)) letters told f

-- a reader answers by what its view says with the call, and stands then for that
abbrev pub IsHearing : ReaderView → ReaderCall → Got → ReaderFacts → Type 0
IsHearing v call g f = AnswersAt v.subject (stage_in (with_call v call)) g f
