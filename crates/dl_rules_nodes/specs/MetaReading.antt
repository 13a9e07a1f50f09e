-- Reading the items of the metadata node, each after those before it: the first fault in the order of the bytes comes.
use Rattle.std.specs.Prelude.{ℕ, ◌+◌, ◌==◌, Bool, true, false, nat_lt, List, [], ◌∷◌, Option, Some, None, Result}
use Rattle.std.specs.Int.{w32, w64}
use Rattle.dl_fields.specs.declared.fault.Fault.{Fault}
use Rattle.dl_fields.specs.Readers.{then_at, map_at, with_test, whole_from}
use Rattle.dl_fields.specs.Fields.{number_from}
use Rattle.dl_fields.specs.Codes.{code_from}
use Rattle.dl_tree_msg.specs.declared.rule.PathRule.TheVariants.{AllButConf}
use Rattle.dl_tree_msg.specs.Rules.{allows}
use Rattle.dl_tree_msg.specs.RequestReading.{request_from}
use Rattle.dl_session.specs.Sessions.{Known, number_in, is_live}
use Rattle.dl_formats.specs.Reading.{conf_from}
use Rattle.dl_rules_nodes.specs.Items.{MetaItem, Setup, Connect, Expire, Ask, MetaKind, AConf, AConnect, AnExpire, AnAsk, meta_code}

-- ---- an item

-- the kinds that may come: the first item is the configuration, and no other is
abbrev pub kinds_due : Bool → List MetaKind
kinds_due true = AConf ∷ []
kinds_due false = AConnect ∷ AnExpire ∷ AnAsk ∷ []

-- the session that is given next
abbrev pub new_session_from : Known → List ℕ → Result (ℕ × List ℕ) Fault
new_session_from known = with_test (λ session. session == known.last + 1) (number_from w64)

-- a live session
abbrev pub live_session_from : Known → List ℕ → Result (ℕ × List ℕ) Fault
live_session_from known = with_test (is_live known) (number_from w64)

-- whether a number is above the last one run in a session
abbrev pub is_above : Option ℕ → ℕ → Bool
is_above None number = false
is_above (Some last) number = nat_lt last number

-- the number of a request that runs in a session
abbrev pub new_number_from : Known → ℕ → List ℕ → Result (ℕ × List ℕ) Fault
new_number_from known session = with_test (is_above (number_in known.live session)) (number_from w32)

-- an item behind its kind
abbrev pub meta_rest_from : Known → MetaKind → List ℕ → Result (MetaItem × List ℕ) Fault
meta_rest_from known AConf = map_at Setup conf_from
meta_rest_from known AConnect = map_at Connect (new_session_from known)
meta_rest_from known AnExpire = map_at Expire (live_session_from known)
meta_rest_from known AnAsk = map_at (λ (session, (number, request)). Ask session number request)
    (then_at (live_session_from known) (λ session. then_at (new_number_from known session) (λ number. request_from (allows AllButConf))))

-- an item, the first one or a later one, after those that leave these sessions
abbrev pub meta_item_from : Bool → Known → List ℕ → Result (MetaItem × List ℕ) Fault
meta_item_from first known =
    map_at (λ (kind, item). item) (then_at (code_from meta_code (kinds_due first)) (meta_rest_from known))

-- the item that is all of a body
abbrev pub meta_item_in : Bool → Known → List ℕ → Result MetaItem Fault
meta_item_in first known = whole_from (meta_item_from first known)
