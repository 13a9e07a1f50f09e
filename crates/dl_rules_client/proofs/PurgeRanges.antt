-- A purge has deleted no more segments than it has heard answers.
use Rattle.std.proofs.Common.{ℕ, suc, ◌≤◌, List, [], ◌∷◌, length, filter, arith}
use Rattle.dl_types.specs.declared.meta_answer.MetaAnswer.{MetaAnswer}
use Rattle.dl_types.specs.declared.meta_answer.MetaAnswer.TheVariants as answer
use Rattle.dl_types.specs.declared.one_answer.OneAnswer.TheVariants.{Names, Bytes}
use Rattle.dl_types.specs.declared.why.Why.TheVariants.{NoNode}
use Rattle.dl_msg.specs.declared.heard.Heard.{Heard}
use Rattle.dl_msg.specs.declared.heard.Heard.TheVariants.{Reply, From}
use Rattle.dl_formats.specs.declared.segment_name.SegmentName.{SegmentName}
use Rattle.dl_rules_stream.specs.Orders.{Next, stage_after}
use Rattle.dl_rules_stream.specs.Listings.{segments_of, point_of, segment_of}
use Rattle.dl_rules_stream.specs.Purges.{PurgeStage, ListingCut, GettingSegment, Dropping, PurgeDone, is_below, goes_on, after_list, after_get}
use Rattle.dl_rules_stream.specs.Purges.{purge_answers, purge_hears, purge_stage}
use Rattle.dl_rules_client.proofs.RangeLists.{Any}
use Rattle.dl_rules_client.proofs.NextRanges.{NextFits, PairFits, refused_such}
use Rattle.dl_rules_client.proofs.NodeRanges.{any_ok, ok_map}

-- how many segments a purge has deleted
abbrev pub deleted_in : PurgeStage → ℕ
deleted_in ListingCut = 0
deleted_in (GettingSegment segment rest count) = count
deleted_in (Dropping segment ledger rest count) = count
deleted_in PurgeDone = 0

-- a purge that has deleted at most so many
abbrev PurgeFits : ℕ → PurgeStage × Next ℕ → Type 0
PurgeFits most move = PairFits (λ stage. deleted_in stage ≤ most) (λ count. count ≤ most) move

-- the next segment
goes_fit : (most : ℕ) (s : List ℕ) (rest : List SegmentName) (count : ℕ) → count ≤ most → PurgeFits most (goes_on s rest count)
goes_fit most s [] count h = (omega arith, h)
goes_fit most s (segment ∷ rest) count h = (h, tt)

-- what a purge does at an answer
answers_fit : (k : ℕ) (s : List ℕ) (stage : PurgeStage) (a : MetaAnswer) → deleted_in stage ≤ k → PurgeFits (suc k) (purge_answers s stage a)
unfolding purge_answers
answers_fit k s ListingCut (answer.Many (Names names ∷ Bytes cut version ∷ [])) h =
    refused_such (λ stage. deleted_in stage ≤ suc k) (λ count. count ≤ suc k) PurgeDone (after_list s names) (point_of s cut) (omega arith)
    (ok_map (point_of s cut) Any (λ point. PurgeFits (suc k) (after_list s names point)) (any_ok (point_of s cut))
    (λ point u. goes_fit (suc k) s (filter (is_below point.segment) (segments_of names)) 0 (omega arith)))
answers_fit k s ListingCut (answer.Failed place w) h = (omega arith, tt)
answers_fit k s (GettingSegment segment rest count) (answer.One (Bytes bytes version)) h =
    refused_such (λ stage. deleted_in stage ≤ suc k) (λ count. count ≤ suc k) PurgeDone (after_get s segment rest count) (segment_of s segment bytes)
    (omega arith)
    (ok_map (segment_of s segment bytes) Any (λ m. PurgeFits (suc k) (after_get s segment rest count m)) (any_ok (segment_of s segment bytes))
    (λ m u. (omega (arith, h), tt)))
answers_fit k s (GettingSegment segment rest count) (answer.Failed place NoNode) h = goes_fit (suc k) s rest count (omega (arith, h))
answers_fit k s (GettingSegment segment rest count) (answer.Failed place w) h = (omega arith, tt)
answers_fit k s (Dropping segment ledger rest count) (answer.Failed place NoNode) h = goes_fit (suc k) s rest count (omega (arith, h))
answers_fit k s (Dropping segment ledger rest count) (answer.Failed place w) h = (omega arith, tt)
answers_fit k s (Dropping segment ledger rest count) a h = goes_fit (suc k) s rest (suc count) (omega (arith, h))
answers_fit k s stage a h = (omega (arith, h), tt)

-- what a purge does at what it hears
hears_fit : (k : ℕ) (s : List ℕ) (stage : PurgeStage) (h : Heard) → deleted_in stage ≤ k → PurgeFits (suc k) (purge_hears s stage h)
hears_fit k s stage (Reply a) is = answers_fit k s stage a is
hears_fit k s stage (From b m) is = (omega (arith, is), tt)

-- the count that a purge ends with
pub purge_fits : (s : List ℕ) (stage : PurgeStage) (h : Heard) (k : ℕ) → deleted_in stage ≤ k → NextFits (λ count. count ≤ suc k) (purge_hears s stage h).1
purge_fits s stage h k is = (hears_fit k s stage h is).1

-- a purge has deleted no more than it has heard
pub purge_count : (s : List ℕ) (heard : List Heard) → deleted_in (purge_stage s heard) ≤ length heard
unfolding stage_after
purge_count s [] = omega arith
purge_count s (h ∷ heard) = (hears_fit (length heard) s (purge_stage s heard) h (purge_count s heard)).0
