-- Messages are read exactly.
use Rattle.std.proofs.Common.{◌≡◌, ℕ, Bool, true, false, List, Ok, Err, refl, sym, ap, ◌∙◌}
use Rattle.std.specs.Int.{w32, w64}
use Rattle.dl_codec.specs.Fields.{IsBytes}
use Rattle.dl_fields.specs.declared.fault.Fault.{Fault}
use Rattle.dl_fields.specs.Readers.{Exact}
use Rattle.dl_fields.specs.Fields.{Fits, IsCounted}
use Rattle.dl_fields.proofs.ReaderLemmas.{made_exact, whole_found, whole_again, whole_refused}
use Rattle.dl_fields.proofs.FieldLemmas.{u32_exact, u64_exact, run32_exact}
use Rattle.dl_types.specs.declared.meta_op.MetaOp.{MetaOp}
use Rattle.dl_types.specs.declared.meta_answer.MetaAnswer.{MetaAnswer}
use Rattle.dl_msg.specs.declared.kind.MsgKind.{MsgKind}
use Rattle.dl_msg.specs.declared.kind.MsgKind.TheVariants as kind
use Rattle.dl_msg.specs.declared.resource.Resource.{Resource}
use Rattle.dl_msg.specs.declared.meta_reply.MetaReply.{MetaReply}
use Rattle.dl_msg.specs.declared.meta_reply.MetaReply.TheVariants as reply
use Rattle.dl_msg.specs.declared.msg.Msg.{Msg}
use Rattle.dl_msg.specs.declared.msg.Msg.TheVariants as msg
use Rattle.dl_tree_msg.specs.Requests.{IsRequest, request_bytes}
use Rattle.dl_tree_msg.specs.RequestReading.{request_from}
use Rattle.dl_tree_msg.specs.declared.rule.PathRule.TheVariants.{All}
use Rattle.dl_tree_msg.specs.Rules.{allows}
use Rattle.dl_tree_msg.specs.Answers.{IsOutcome}
use Rattle.dl_msg.specs.Messages.{was_run, reply_rest, reply_bytes, IsReply, msg_kind, msg_rest, msg_bytes, IsMsg}
use Rattle.dl_msg.specs.Reading.{add_from, copy_from, ask_lac_from, ask_entry_from, add_ok_from, add_fenced_from}
use Rattle.dl_msg.specs.Reading.{full_from, copy_ok_from, lac_is_from, entry_is_from, no_entry_from, meta_ask_from}
use Rattle.dl_msg.specs.Reading.{reply_rest_from, reply_from, meta_reply_from, msg_rest_from, msg_from, msg_at, SpellsNone}
use Rattle.dl_fields.proofs.KindLemmas.{also_exact, nothing_exact, kinded_exact, flag_exact}
use Rattle.dl_msg.proofs.KindLemmas.{msg_kind_exact, resource_exact}
use Rattle.dl_tree_msg.proofs.RequestLemmas.{request_exact, all_allowed}
use Rattle.dl_fields.proofs.PathLemmas.{exact_as}
use Rattle.dl_tree_msg.proofs.AnswerLemmas.{outcome_exact}

-- ---- the reply to a request

-- a reply behind this flag
abbrev IsReplyOf : Bool → MetaReply → Type 0
IsReplyOf b r = IsReply r × (was_run r ≡ b)

-- a reply behind its flag
reply_rest_exact : (b : Bool) → Exact (IsReplyOf b) reply_rest (reply_rest_from b)
reply_rest_exact false = nothing_exact reply.Expired (IsReplyOf false) reply_rest (tt, refl) refl from
  where
    from : (r : MetaReply) → IsReplyOf false r → reply.Expired ≡ r
    from reply.Expired w = refl
    from (reply.Answer a) w = absurd (let e : true ≡ false = w.1 in cc)
reply_rest_exact true = made_exact _ _ _ reply.Answer (IsReplyOf true) reply_rest outcome_exact (λ a v. ((v, refl), refl)) from
  where
    from : (r : MetaReply) → IsReplyOf true r → (a : MetaAnswer) × IsOutcome a × (reply.Answer a ≡ r)
    from reply.Expired w = absurd (let e : false ≡ true = w.1 in cc)
    from (reply.Answer a) w = (a, w.0, refl)

-- a reply
reply_exact : Exact IsReply reply_bytes reply_from
reply_exact = kinded_exact was_run IsReply reply_rest reply_rest_from flag_exact reply_rest_exact

-- ---- messages

-- a message of this kind
abbrev IsMsgOf : MsgKind → Msg → Type 0
IsMsgOf k m = IsMsg m × (msg_kind m ≡ k)

-- an addition is read exactly
add_exact : Exact (IsMsgOf kind.Add) msg_rest add_from
add_exact = made_exact _ _ _ _ (IsMsgOf kind.Add) msg_rest (also_exact u64_exact (also_exact u64_exact (also_exact u64_exact run32_exact)))
    (λ x v. ((v, refl), refl)) from
  where
    from : (m : Msg) → IsMsgOf kind.Add m
        → (x : ℕ × (ℕ × (ℕ × List ℕ))) × (Fits w64 x.0 × (Fits w64 x.1.0 × (Fits w64 x.1.1.0 × IsCounted w32 x.1.1.1)))
        × (msg.Add x.0 x.1.0 x.1.1.0 x.1.1.1 ≡ m)
    from (msg.Add ledger entry count bytes) w = ((ledger, (entry, (count, bytes))), w.0, refl)
    from _ w = absurd (let e = w.1 in cc)

-- a copy is read exactly
copy_exact : Exact (IsMsgOf kind.Copy) msg_rest copy_from
copy_exact = made_exact _ _ _ _ (IsMsgOf kind.Copy) msg_rest
    (also_exact u32_exact (also_exact u64_exact (also_exact u64_exact (also_exact u64_exact run32_exact)))) (λ x v. ((v, refl), refl)) from
  where
    from : (m : Msg) → IsMsgOf kind.Copy m
        → (x : ℕ × (ℕ × (ℕ × (ℕ × List ℕ)))) × (Fits w32 x.0 × (Fits w64 x.1.0 × (Fits w64 x.1.1.0 × (Fits w64 x.1.1.1.0 × IsCounted w32 x.1.1.1.1))))
        × (msg.Copy x.0 x.1.0 x.1.1.0 x.1.1.1.0 x.1.1.1.1 ≡ m)
    from (msg.Copy tag ledger entry count bytes) w = ((tag, (ledger, (entry, (count, bytes)))), w.0, refl)
    from _ w = absurd (let e = w.1 in cc)

-- a question for the confirmed count is read exactly
ask_lac_exact : Exact (IsMsgOf kind.AskLac) msg_rest ask_lac_from
ask_lac_exact = made_exact _ _ _ _ (IsMsgOf kind.AskLac) msg_rest (also_exact u32_exact (also_exact u64_exact flag_exact))
    (λ x v. (((v.0, v.1.0), refl), refl)) from
  where
    from : (m : Msg) → IsMsgOf kind.AskLac m → (x : ℕ × (ℕ × Bool)) × (Fits w32 x.0 × (Fits w64 x.1.0 × Unit {0})) × (msg.AskLac x.0 x.1.0 x.1.1 ≡ m)
    from (msg.AskLac tag ledger fence) w = ((tag, (ledger, fence)), (w.0.0, (w.0.1, tt)), refl)
    from _ w = absurd (let e = w.1 in cc)

-- a question for an entry is read exactly
ask_entry_exact : Exact (IsMsgOf kind.AskEntry) msg_rest ask_entry_from
ask_entry_exact = made_exact _ _ _ _ (IsMsgOf kind.AskEntry) msg_rest (also_exact u32_exact (also_exact u64_exact u64_exact)) (λ x v. ((v, refl), refl)) from
  where
    from : (m : Msg) → IsMsgOf kind.AskEntry m → (x : ℕ × (ℕ × ℕ)) × (Fits w32 x.0 × (Fits w64 x.1.0 × Fits w64 x.1.1)) × (msg.AskEntry x.0 x.1.0 x.1.1 ≡ m)
    from (msg.AskEntry tag ledger entry) w = ((tag, (ledger, entry)), w.0, refl)
    from _ w = absurd (let e = w.1 in cc)

-- an entry that is stored is read exactly
add_ok_exact : Exact (IsMsgOf kind.AddOk) msg_rest add_ok_from
add_ok_exact = made_exact _ _ _ _ (IsMsgOf kind.AddOk) msg_rest (also_exact u64_exact u64_exact) (λ x v. ((v, refl), refl)) from
  where
    from : (m : Msg) → IsMsgOf kind.AddOk m → (x : ℕ × ℕ) × (Fits w64 x.0 × Fits w64 x.1) × (msg.AddOk x.0 x.1 ≡ m)
    from (msg.AddOk ledger entry) w = ((ledger, entry), w.0, refl)
    from _ w = absurd (let e = w.1 in cc)

-- an entry of a fenced ledger is read exactly
add_fenced_exact : Exact (IsMsgOf kind.AddFenced) msg_rest add_fenced_from
add_fenced_exact = made_exact _ _ _ _ (IsMsgOf kind.AddFenced) msg_rest (also_exact u64_exact u64_exact) (λ x v. ((v, refl), refl)) from
  where
    from : (m : Msg) → IsMsgOf kind.AddFenced m → (x : ℕ × ℕ) × (Fits w64 x.0 × Fits w64 x.1) × (msg.AddFenced x.0 x.1 ≡ m)
    from (msg.AddFenced ledger entry) w = ((ledger, entry), w.0, refl)
    from _ w = absurd (let e = w.1 in cc)

-- a want of room is read exactly
full_exact : Exact (IsMsgOf kind.Full) msg_rest full_from
full_exact = made_exact _ _ _ _ (IsMsgOf kind.Full) msg_rest (also_exact resource_exact (also_exact u64_exact u64_exact))
    (λ x v. (((v.1.0, v.1.1), refl), refl)) from
  where
    from : (m : Msg) → IsMsgOf kind.Full m → (x : Resource × (ℕ × ℕ)) × (Unit {0} × (Fits w64 x.1.0 × Fits w64 x.1.1)) × (msg.Full x.0 x.1.0 x.1.1 ≡ m)
    from (msg.Full what ledger entry) w = ((what, (ledger, entry)), (tt, (w.0.0, w.0.1)), refl)
    from _ w = absurd (let e = w.1 in cc)

-- a copy that is stored is read exactly
copy_ok_exact : Exact (IsMsgOf kind.CopyOk) msg_rest copy_ok_from
copy_ok_exact = made_exact _ _ _ _ (IsMsgOf kind.CopyOk) msg_rest (also_exact u32_exact (also_exact u64_exact u64_exact)) (λ x v. ((v, refl), refl)) from
  where
    from : (m : Msg) → IsMsgOf kind.CopyOk m → (x : ℕ × (ℕ × ℕ)) × (Fits w32 x.0 × (Fits w64 x.1.0 × Fits w64 x.1.1)) × (msg.CopyOk x.0 x.1.0 x.1.1 ≡ m)
    from (msg.CopyOk tag ledger entry) w = ((tag, (ledger, entry)), w.0, refl)
    from _ w = absurd (let e = w.1 in cc)

-- a confirmed count is read exactly
lac_is_exact : Exact (IsMsgOf kind.LacIs) msg_rest lac_is_from
lac_is_exact = made_exact _ _ _ _ (IsMsgOf kind.LacIs) msg_rest (also_exact u32_exact (also_exact u64_exact (also_exact flag_exact u64_exact)))
    (λ x v. (((v.0, (v.1.0, v.1.1.1)), refl), refl)) from
  where
    from : (m : Msg) → IsMsgOf kind.LacIs m
        → (x : ℕ × (ℕ × (Bool × ℕ))) × (Fits w32 x.0 × (Fits w64 x.1.0 × (Unit {0} × Fits w64 x.1.1.1))) × (msg.LacIs x.0 x.1.0 x.1.1.0 x.1.1.1 ≡ m)
    from (msg.LacIs tag ledger fenced count) w = ((tag, (ledger, (fenced, count))), (w.0.0, (w.0.1.0, (tt, w.0.1.1))), refl)
    from _ w = absurd (let e = w.1 in cc)

-- an entry is read exactly
entry_is_exact : Exact (IsMsgOf kind.EntryIs) msg_rest entry_is_from
entry_is_exact = made_exact _ _ _ _ (IsMsgOf kind.EntryIs) msg_rest (also_exact u32_exact (also_exact u64_exact (also_exact u64_exact run32_exact)))
    (λ x v. ((v, refl), refl)) from
  where
    from : (m : Msg) → IsMsgOf kind.EntryIs m
        → (x : ℕ × (ℕ × (ℕ × List ℕ))) × (Fits w32 x.0 × (Fits w64 x.1.0 × (Fits w64 x.1.1.0 × IsCounted w32 x.1.1.1)))
        × (msg.EntryIs x.0 x.1.0 x.1.1.0 x.1.1.1 ≡ m)
    from (msg.EntryIs tag ledger entry bytes) w = ((tag, (ledger, (entry, bytes))), w.0, refl)
    from _ w = absurd (let e = w.1 in cc)

-- a denial of an entry is read exactly
no_entry_exact : Exact (IsMsgOf kind.NoEntry) msg_rest no_entry_from
no_entry_exact = made_exact _ _ _ _ (IsMsgOf kind.NoEntry) msg_rest (also_exact u32_exact (also_exact u64_exact (also_exact u64_exact flag_exact)))
    (λ x v. (((v.0, (v.1.0, v.1.1.0)), refl), refl)) from
  where
    from : (m : Msg) → IsMsgOf kind.NoEntry m
        → (x : ℕ × (ℕ × (ℕ × Bool))) × (Fits w32 x.0 × (Fits w64 x.1.0 × (Fits w64 x.1.1.0 × Unit {0}))) × (msg.NoEntry x.0 x.1.0 x.1.1.0 x.1.1.1 ≡ m)
    from (msg.NoEntry tag ledger entry fenced) w = ((tag, (ledger, (entry, fenced))), (w.0.0, (w.0.1.0, (w.0.1.1, tt))), refl)
    from _ w = absurd (let e = w.1 in cc)

-- a request that may delete and set all nodes
any_request_exact : Exact IsRequest request_bytes (request_from (allows All))
any_request_exact = exact_as (request_exact (allows All)) (λ r v. v.0) (λ r w. (w, all_allowed r))

-- a request of a session is read exactly
meta_ask_exact : Exact (IsMsgOf kind.MetaAsk) msg_rest meta_ask_from
meta_ask_exact = made_exact _ _ _ _ (IsMsgOf kind.MetaAsk) msg_rest (also_exact u64_exact (also_exact u32_exact any_request_exact))
    (λ x v. ((v, refl), refl)) from
  where
    from : (m : Msg) → IsMsgOf kind.MetaAsk m → (x : ℕ × (ℕ × MetaOp)) × (Fits w64 x.0 × (Fits w32 x.1.0 × IsRequest x.1.1)) × (msg.MetaAsk x.0 x.1.0 x.1.1 ≡ m)
    from (msg.MetaAsk session number op) w = ((session, (number, op)), w.0, refl)
    from _ w = absurd (let e = w.1 in cc)

-- a reply to a session is read exactly
meta_reply_exact : Exact (IsMsgOf kind.MetaReply) msg_rest meta_reply_from
meta_reply_exact = made_exact _ _ _ _ (IsMsgOf kind.MetaReply) msg_rest (also_exact u64_exact (also_exact u32_exact reply_exact))
    (λ x v. ((v, refl), refl)) from
  where
    from : (m : Msg) → IsMsgOf kind.MetaReply m
        → (x : ℕ × (ℕ × MetaReply)) × (Fits w64 x.0 × (Fits w32 x.1.0 × IsReply x.1.1)) × (msg.MetaReply x.0 x.1.0 x.1.1 ≡ m)
    from (msg.MetaReply session number r) w = ((session, (number, r)), w.0, refl)
    from _ w = absurd (let e = w.1 in cc)

-- a message behind its kind
msg_rest_exact : (k : MsgKind) → Exact (IsMsgOf k) msg_rest (msg_rest_from k)
msg_rest_exact kind.Add = add_exact
msg_rest_exact kind.Copy = copy_exact
msg_rest_exact kind.AskLac = ask_lac_exact
msg_rest_exact kind.AskEntry = ask_entry_exact
msg_rest_exact kind.AddOk = add_ok_exact
msg_rest_exact kind.AddFenced = add_fenced_exact
msg_rest_exact kind.Full = full_exact
msg_rest_exact kind.CopyOk = copy_ok_exact
msg_rest_exact kind.LacIs = lac_is_exact
msg_rest_exact kind.EntryIs = entry_is_exact
msg_rest_exact kind.NoEntry = no_entry_exact
msg_rest_exact kind.MetaAsk = meta_ask_exact
msg_rest_exact kind.MetaReply = meta_reply_exact

-- A message is read exactly.
pub msg_exact : Exact IsMsg msg_bytes msg_from
msg_exact = kinded_exact msg_kind IsMsg msg_rest msg_rest_from msg_kind_exact msg_rest_exact

-- ---- a whole message

-- What is read is a message, and the bytes are its spelling.
pub is_found : (bytes : List ℕ) (m : Msg) → IsBytes bytes → msg_at bytes ≡ Ok m → IsMsg m × (bytes ≡ msg_bytes m)
is_found bytes m fits e = whole_found msg_exact bytes m fits e

-- Bytes say one message.
pub is_same : (bytes : List ℕ) (m n : Msg) → msg_at bytes ≡ Ok n → IsMsg m → bytes ≡ msg_bytes m → n ≡ m
is_same bytes m n e valid spelt = let both : Ok n ≡ Ok m = sym e ∙ ap msg_at spelt ∙ whole_again msg_exact m valid in cc

-- Where bytes have a fault, they say no message.
pub is_refused : (bytes : List ℕ) (f : Fault) → msg_at bytes ≡ Err f → SpellsNone bytes
is_refused bytes f e = whole_refused msg_exact bytes f e
