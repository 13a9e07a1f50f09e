-- Answers to requests on the metadata tree are read exactly.
use Rattle.std.proofs.Common.{◌≡◌, ℕ, List, length, refl, ap}
use Rattle.std.specs.List.{AllByRecursion}
use Rattle.std.specs.Int.{w16, w32, w64}
use Rattle.dl_fields.specs.Readers.{Exact}
use Rattle.dl_fields.specs.Fields.{number_from, Fits, counted_field, IsCounted}
use Rattle.dl_fields.specs.Lists.{list_bytes}
use Rattle.dl_fields.specs.Paths.{IsPart, IsPathField, name_from}
use Rattle.dl_fields.proofs.ReaderLemmas.{made_exact}
use Rattle.dl_fields.proofs.FieldLemmas.{u16_exact, u32_exact, u64_exact, run32_exact}
use Rattle.dl_fields.proofs.ListLemmas.{list_exact}
use Rattle.dl_fields.proofs.PathLemmas.{path_exact, name_exact}
use Rattle.dl_types.specs.declared.why.Why.{Why}
use Rattle.dl_types.specs.declared.why.Why.TheVariants as why
use Rattle.dl_types.specs.declared.one_answer.OneAnswer.{OneAnswer}
use Rattle.dl_types.specs.declared.one_answer.OneAnswer.TheVariants as one
use Rattle.dl_types.specs.declared.meta_answer.MetaAnswer.{MetaAnswer}
use Rattle.dl_types.specs.declared.meta_answer.MetaAnswer.TheVariants as meta
use Rattle.dl_tree_msg.specs.declared.answer_kind.AnswerKind.{AnswerKind}
use Rattle.dl_tree_msg.specs.declared.answer_kind.AnswerKind.TheVariants as answer
use Rattle.dl_tree_msg.specs.declared.answer_kind.OutcomeKind.{OutcomeKind}
use Rattle.dl_tree_msg.specs.declared.answer_kind.OutcomeKind.TheVariants as outcome
use Rattle.dl_tree_msg.specs.declared.answer_kind.WhyKind.{WhyKind}
use Rattle.dl_tree_msg.specs.declared.answer_kind.WhyKind.TheVariants as reason
use Rattle.dl_tree_msg.specs.Answers.{why_kind, why_rest, why_bytes, IsWhy, answer_kind, answer_rest, answer_bytes}
use Rattle.dl_tree_msg.specs.Answers.{IsAnswer, outcome_kind, outcome_rest, outcome_bytes, IsOutcome}
use Rattle.dl_tree_msg.specs.AnswerReading.{why_rest_from, why_from, names_from, answer_rest_from, answer_from, answers_from, outcome_rest_from, outcome_from}
use Rattle.dl_fields.proofs.KindLemmas.{also_exact, nothing_exact, kinded_exact}
use Rattle.dl_tree_msg.proofs.KindLemmas.{why_kind_exact, answer_kind_exact, outcome_kind_exact}

-- ---- why an operation fails

-- a reason of this kind
abbrev IsWhyOf : WhyKind → Why → Type 0
IsWhyOf k w = IsWhy w × (why_kind w ≡ k)

-- what stands behind a kind of reason is read exactly
why_rest_exact : (k : WhyKind) → Exact (IsWhyOf k) why_rest (why_rest_from k)
why_rest_exact reason.NoNode = nothing_exact why.NoNode (IsWhyOf reason.NoNode) why_rest (tt, refl) refl from
  where
    from : (w : Why) → IsWhyOf reason.NoNode w → why.NoNode ≡ w
    from why.NoNode v = refl
    from _ v = absurd (let e = v.1 in cc)
why_rest_exact reason.NodeExists = nothing_exact why.NodeExists (IsWhyOf reason.NodeExists) why_rest (tt, refl) refl from
  where
    from : (w : Why) → IsWhyOf reason.NodeExists w → why.NodeExists ≡ w
    from why.NodeExists v = refl
    from _ v = absurd (let e = v.1 in cc)
why_rest_exact reason.BadVersion = made_exact _ _ _ why.BadVersion (IsWhyOf reason.BadVersion) why_rest u64_exact (λ n v. ((v, refl), refl)) from
  where
    from : (w : Why) → IsWhyOf reason.BadVersion w → (n : ℕ) × Fits w64 n × (why.BadVersion n ≡ w)
    from (why.BadVersion n) v = (n, v.0, refl)
    from _ v = absurd (let e = v.1 in cc)
why_rest_exact reason.NotEmpty = made_exact _ _ _ why.NotEmpty (IsWhyOf reason.NotEmpty) why_rest u64_exact (λ n v. ((v, refl), refl)) from
  where
    from : (w : Why) → IsWhyOf reason.NotEmpty w → (n : ℕ) × Fits w64 n × (why.NotEmpty n ≡ w)
    from (why.NotEmpty n) v = (n, v.0, refl)
    from _ v = absurd (let e = v.1 in cc)
why_rest_exact reason.EphemeralParent = nothing_exact why.EphemeralParent (IsWhyOf reason.EphemeralParent) why_rest (tt, refl) refl from
  where
    from : (w : Why) → IsWhyOf reason.EphemeralParent w → why.EphemeralParent ≡ w
    from why.EphemeralParent v = refl
    from _ v = absurd (let e = v.1 in cc)
why_rest_exact reason.Spent = nothing_exact why.Spent (IsWhyOf reason.Spent) why_rest (tt, refl) refl from
  where
    from : (w : Why) → IsWhyOf reason.Spent w → why.Spent ≡ w
    from why.Spent v = refl
    from _ v = absurd (let e = v.1 in cc)

-- a reason is read exactly
why_exact : Exact IsWhy why_bytes why_from
why_exact = kinded_exact why_kind IsWhy why_rest why_rest_from why_kind_exact why_rest_exact

-- ---- the answer to one operation

-- an answer of this kind
abbrev IsAnswerOf : AnswerKind → OneAnswer → Type 0
IsAnswerOf k a = IsAnswer a × (answer_kind a ≡ k)

-- names behind their count are read exactly
names_exact : Exact (λ names. Fits w32 (length names) × AllByRecursion IsPart names) (list_bytes w32 (counted_field w16)) names_from
names_exact = list_exact IsPart (counted_field w16) name_from name_exact (Fits w32) w32 (number_from w32) u32_exact

-- what stands behind a kind of answer is read exactly
answer_rest_exact : (k : AnswerKind) → Exact (IsAnswerOf k) answer_rest (answer_rest_from k)
answer_rest_exact answer.Made = made_exact _ _ _ one.Made (IsAnswerOf answer.Made) answer_rest path_exact (λ x v. ((v, refl), refl)) from
  where
    from : (a : OneAnswer) → IsAnswerOf answer.Made a → (x : List ℕ) × IsPathField x × (one.Made x ≡ a)
    from (one.Made path) w = (path, w.0, refl)
    from _ w = absurd (let e = w.1 in cc)
answer_rest_exact answer.Done = nothing_exact one.Done (IsAnswerOf answer.Done) answer_rest (tt, refl) refl from
  where
    from : (a : OneAnswer) → IsAnswerOf answer.Done a → one.Done ≡ a
    from one.Done w = refl
    from _ w = absurd (let e = w.1 in cc)
answer_rest_exact answer.Version = made_exact _ _ _ one.Version (IsAnswerOf answer.Version) answer_rest u64_exact (λ n v. ((v, refl), refl)) from
  where
    from : (a : OneAnswer) → IsAnswerOf answer.Version a → (n : ℕ) × Fits w64 n × (one.Version n ≡ a)
    from (one.Version n) w = (n, w.0, refl)
    from _ w = absurd (let e = w.1 in cc)
answer_rest_exact answer.Bytes =
    made_exact _ _ _ (λ x. one.Bytes x.0 x.1) (IsAnswerOf answer.Bytes) answer_rest (also_exact run32_exact u64_exact) (λ x v. ((v, refl), refl)) from
  where
    from : (a : OneAnswer) → IsAnswerOf answer.Bytes a → (x : List ℕ × ℕ) × (IsCounted w32 x.0 × Fits w64 x.1) × (one.Bytes x.0 x.1 ≡ a)
    from (one.Bytes bytes version) w = ((bytes, version), w.0, refl)
    from _ w = absurd (let e = w.1 in cc)
answer_rest_exact answer.Names = made_exact _ _ _ one.Names (IsAnswerOf answer.Names) answer_rest names_exact (λ x v. ((v, refl), refl)) from
  where
    from : (a : OneAnswer) → IsAnswerOf answer.Names a → (x : List (List ℕ)) × (Fits w32 (length x) × AllByRecursion IsPart x) × (one.Names x ≡ a)
    from (one.Names names) w = (names, w.0, refl)
    from _ w = absurd (let e = w.1 in cc)

-- An answer to one operation is read exactly.
pub answer_exact : Exact IsAnswer answer_bytes answer_from
answer_exact = kinded_exact answer_kind IsAnswer answer_rest answer_rest_from answer_kind_exact answer_rest_exact

-- ---- the answer to a request

-- answers behind their count are read exactly
answers_exact : Exact (λ answers. Fits w16 (length answers) × AllByRecursion IsAnswer answers) (list_bytes w16 answer_bytes) answers_from
answers_exact = list_exact IsAnswer answer_bytes answer_from answer_exact (Fits w16) w16 (number_from w16) u16_exact

-- an answer to a request of this kind
abbrev IsOutcomeOf : OutcomeKind → MetaAnswer → Type 0
IsOutcomeOf k a = IsOutcome a × (outcome_kind a ≡ k)

-- what stands behind a kind of answer to a request is read exactly
outcome_rest_exact : (k : OutcomeKind) → Exact (IsOutcomeOf k) outcome_rest (outcome_rest_from k)
outcome_rest_exact (outcome.One k) =
    made_exact _ _ _ meta.One (IsOutcomeOf (outcome.One k)) outcome_rest (answer_rest_exact k) (λ a v. ((v.0, ap outcome.One v.1), refl)) from
  where
    from : (r : MetaAnswer) → IsOutcomeOf (outcome.One k) r → (a : OneAnswer) × IsAnswerOf k a × (meta.One a ≡ r)
    from (meta.One a) w = (a, (w.0, (let e : outcome.One (answer_kind a) ≡ outcome.One k = w.1 in cc)), refl)
    from _ w = absurd (let e = w.1 in cc)
outcome_rest_exact outcome.Many = made_exact _ _ _ meta.Many (IsOutcomeOf outcome.Many) outcome_rest answers_exact (λ answers v. ((v, refl), refl)) from
  where
    from : (r : MetaAnswer) → IsOutcomeOf outcome.Many r
        → (answers : List OneAnswer) × (Fits w16 (length answers) × AllByRecursion IsAnswer answers) × (meta.Many answers ≡ r)
    from (meta.Many answers) w = (answers, w.0, refl)
    from _ w = absurd (let e = w.1 in cc)
outcome_rest_exact outcome.Failed =
    made_exact _ _ _ (λ x. meta.Failed x.0 x.1) (IsOutcomeOf outcome.Failed) outcome_rest (also_exact u16_exact why_exact) (λ x v. ((v, refl), refl)) from
  where
    from : (r : MetaAnswer) → IsOutcomeOf outcome.Failed r → (x : ℕ × Why) × (Fits w16 x.0 × IsWhy x.1) × (meta.Failed x.0 x.1 ≡ r)
    from (meta.Failed place w) v = ((place, w), v.0, refl)
    from _ w = absurd (let e = w.1 in cc)

-- An answer to a request is read exactly.
pub outcome_exact : Exact IsOutcome outcome_bytes outcome_from
outcome_exact = kinded_exact outcome_kind IsOutcome outcome_rest outcome_rest_from outcome_kind_exact outcome_rest_exact
