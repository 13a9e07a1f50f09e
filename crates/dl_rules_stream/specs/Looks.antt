-- A look at a stream: its segments, its greatest segment, and the ledger that is allocated for the next one.
use Rattle.std.specs.Prelude.{ℕ, zero, List, [], ◌∷◌, Option, Result, Ok}
use Rattle.dl_types.specs.declared.refusal.Refusal.{Refusal}
use Rattle.dl_types.specs.declared.refusal.Refusal.TheVariants as refused
use Rattle.dl_types.specs.declared.why.Why.TheVariants.{NoNode}
use Rattle.dl_types.specs.declared.one_answer.OneAnswer.TheVariants.{Names, Bytes}
use Rattle.dl_types.specs.declared.meta_answer.MetaAnswer.{MetaAnswer}
use Rattle.dl_types.specs.declared.meta_answer.MetaAnswer.TheVariants as answer
use Rattle.dl_msg.specs.declared.heard.Heard.{Heard}
use Rattle.dl_formats.specs.declared.maxseq.MaxSeq.{MaxSeq}
use Rattle.dl_formats.specs.declared.segment_name.SegmentName.{SegmentName}
use Rattle.dl_rules_stream.specs.Requests.{Look}
use Rattle.dl_rules_stream.specs.Orders.{Next, Wait, Ask, Done, Refused, no_way_on, by_reply, or_refused, ◌>>=◌}
use Rattle.dl_rules_stream.specs.Listings.{segments_of, maxseq_of, alloc_of}

-- What a look told: the listed segments, `maxseq` with its version, and the ledger in `alloc` with its version.
pub record Looked : Type 0 where
  pub segments : List SegmentName
  pub maxseq : MaxSeq
  pub version : ℕ
  pub old : Option ℕ
  pub alloc_version : ℕ

-- whether it waits for its request
pub data LookStage : Type 0 where
  Looking : LookStage
  LookDone : LookStage

-- the values of the nodes that were read
abbrev pub look_values : List ℕ → List (List ℕ) → List ℕ → ℕ → List ℕ → ℕ → Result Looked Refusal
look_values s names maxseq version alloc alloc_version =
    maxseq_of s maxseq >>= λ m. alloc_of s alloc >>= λ old.
    Ok (record { segments = segments_of names; maxseq = m; version = version; old = old; alloc_version = alloc_version })

-- what it begins with
abbrev pub look_first : List ℕ → LookStage × Next Looked
look_first s = (Looking, Ask (Look s))

-- what it does at an answer
unfoldable pub look_answers : List ℕ → LookStage → MetaAnswer → LookStage × Next Looked
look_answers s Looking (answer.Many (Names names ∷ Bytes maxseq v ∷ Bytes alloc w ∷ [])) =
    or_refused LookDone (λ x. (LookDone, Done x)) (look_values s names maxseq v alloc w)
look_answers s Looking (answer.Failed zero NoNode) = (LookDone, Refused refused.NoStream)
look_answers s Looking (answer.Failed place w) = (LookDone, Refused (no_way_on (Look s) place w))
look_answers s stage a = (stage, Wait)

-- what it does at what it hears
abbrev pub look_hears : List ℕ → LookStage → Heard → LookStage × Next Looked
look_hears s stage h = by_reply stage (look_answers s stage) h
