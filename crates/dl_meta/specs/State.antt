-- What contracts see of a metadata store.
use Rattle.std.specs.Prelude.{ℕ, Bool, List, refl}
use Rattle.std.specs.Coded.{Coded, code_by, coded×, coded_list, coded_bool, coded_ℕ}
use Rattle.dl_tree.specs.Trees.{Nodes}
use Rattle.dl_tree.specs.Slots.{nodes_code}
use Rattle.dl_session.specs.Sessions.{Live, Known}
use Rattle.dl_journal.specs.State.{JournalState}
use Rattle.dl_rules_nodes.specs.Metadata.{Meta}

-- the tree, the sessions, and the journal in which they are durable
pub record MetaState : Type 0 where
  pub tree : Nodes
  pub sessions : Known
  pub journal : JournalState

-- a live session is stored as the pair of its fields
abbrev pub live_code : Coded Live
live_code = code_by (ℕ × ℕ) (coded× coded_ℕ coded_ℕ) (λ x. (x.session, x.number)) (λ p. record { session = p.0; number = p.1 }) (λ _. refl)

-- sessions are stored likewise
abbrev pub sessions_code : Coded Known
sessions_code = code_by (ℕ × List Live) (coded× coded_ℕ (coded_list live_code)) (λ s. (s.last, s.live)) (λ p. record { last = p.0; live = p.1 }) (λ _. refl)

-- what a journal keeps, of these parts
abbrev pub journal_with : ℕ × (ℕ × (ℕ × Bool)) → JournalState
journal_with (file, (gate, (next, failed))) = record { file = file; gate = gate; next = next; failed = failed }

-- what a journal keeps is stored as the tuple of its parts
abbrev pub journal_code : Coded JournalState
journal_code =
    code_by (ℕ × (ℕ × (ℕ × Bool))) (coded× coded_ℕ (coded× coded_ℕ (coded× coded_ℕ coded_bool)))
    (λ j. (j.file, (j.gate, (j.next, j.failed)))) journal_with (λ _. refl)

-- the store of these parts
abbrev pub state_with : Nodes × (Known × JournalState) → MetaState
state_with (tree, (sessions, journal)) = record { tree = tree; sessions = sessions; journal = journal }

-- a store is stored as the tuple of its parts
abbrev pub state_code : Coded MetaState
state_code =
    code_by (Nodes × (Known × JournalState)) (coded× nodes_code (coded× sessions_code journal_code))
    (λ s. (s.tree, (s.sessions, s.journal))) state_with (λ _. refl)

-- its tree and its sessions, as the definitions see them
abbrev pub meta_in : MetaState → Meta
meta_in s = record { tree = s.tree; sessions = s.sessions }
