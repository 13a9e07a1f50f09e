-- When a table stands for what was shown of a stream, and what its calls say of an event.
use Rattle.std.specs.Prelude.{◌≡◌, ℕ, ◌+◌, ◌<◌, Bool, true, not, ◌&&◌, ◌==◌, nat_le, List, Option, Some, None, length, drop, nat_eq}
use Rattle.std.specs.List.{list_any}
use Rattle.indexmap.specs.IndexMap.{get}
use Rattle.indexmap.specs.IndexSet.{contains, contains_by}
use Rattle.dl_types.specs.declared.dlsn.Dlsn.{Dlsn}
use Rattle.dl_types.specs.Places.{place, is_before, is_same, is_at_most}
use Rattle.dl_transcript.specs.declared.event.Event.{Event}
use Rattle.dl_transcript.specs.Legal.{History, StreamHistory, has, point_of, are_below, are_ends, keeps, sees}
use Rattle.dl_shown.specs.declared.stream.StreamShown.{StreamShown}

-- where a segment begins
abbrev pub first_of : ℕ → Dlsn
first_of segment = place segment 0 0

-- a place in a table is this one, as tables compare places
abbrev pub is_key : Dlsn → Dlsn → Bool
is_key d k = d.segment == k.segment && (d.entry == k.entry && d.slot == k.slot)

-- the segment is counted from 1, is none beyond the first that isn't closed, and had no writer
abbrev pub may_write : StreamShown → ℕ → Bool
may_write t k = nat_le 1 k && nat_le k (t.closed + 1) && not (contains nat_eq t.writers k)

-- the place is a whole number of entries, none beyond the segment under way
abbrev pub may_commit : StreamShown → Dlsn → Bool
may_commit t d = nat_le d.segment (t.closed + 1) && d.slot == 0

-- the place stands above the point, and at most where the segment under way begins
abbrev pub may_move : StreamShown → Dlsn → Bool
may_move t d = is_before t.point d && is_at_most d (first_of (t.closed + 1))

-- each recovery of the place's segment ended at this very place, where the table has one
abbrev pub ends_at : Option Dlsn → Dlsn → Bool
ends_at None d = true
ends_at (Some e) d = is_same e d

-- the same by a table
abbrev pub is_end : StreamShown → Dlsn → Bool
is_end t d = ends_at (get nat_eq t.ends d.segment) d

-- a recovery may end at the place, but for the stream's rows: in a closed segment, at a whole number of entries, where others do
abbrev pub may_recover : StreamShown → Dlsn → Bool
may_recover t d = nat_le 1 d.segment && nat_le d.segment t.closed && d.slot == 0 && is_end t d

-- The table stands for what was shown of a stream: as many segments are closed, the mark and the point are the same, and so are
-- the places to which the point was moved, the segments that had a writer, and where recoveries ended.
pub record StandsFor (t : StreamShown) (x : StreamHistory) : Type 0 where
  pub closed : t.closed ≡ x.closed
  pub mark : t.mark ≡ x.mark
  pub some : 0 < length x.points
  pub point : t.point ≡ point_of x
  pub moved : (d : Dlsn) → contains_by (is_key d) t.moved ≡ list_any (is_same d) (drop 1 x.points)
  pub writers : (k : ℕ) → contains nat_eq t.writers k ≡ has k x.writers
  pub ends : (d : Dlsn) → is_end t d ≡ are_ends d x.ends

-- The answer is whether the event keeps its rule, be the stream's name what it may; where it does, the table stands for what was
-- seen of the stream with it.
abbrev pub Judges : StreamShown → StreamShown → (List ℕ → Event) → Bool → Type 0
Judges old new e ok = (s : History) (name : List ℕ) → StandsFor old (s.streams name)
    → (ok ≡ keeps s (e name)) × (ok ≡ true → StandsFor new ((sees s (e name)).streams name))

-- The same, where it was told whether the place stands above the rows of its segment.
abbrev pub JudgesEnd : StreamShown → StreamShown → Dlsn → Bool → (List ℕ → Event) → Bool → Type 0
JudgesEnd old new d above e ok = (s : History) (name : List ℕ) → StandsFor old (s.streams name) → above ≡ are_below d (s.streams name).rows
    → (ok ≡ keeps s (e name)) × (ok ≡ true → StandsFor new ((sees s (e name)).streams name))
