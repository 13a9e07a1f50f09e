-- Places of a stream, compared by segment, then entry, then slot.
use Rattle.std.specs.Prelude.{ℕ, ◌+◌, ◌-◌, ◌^◌, Bool, not, ◌&&◌, ◌||◌, ◌==◌, nat_lt, if◌then◌else◌}
use Rattle.dl_types.specs.declared.dlsn.Dlsn.{Dlsn}

-- the place of these numbers
abbrev pub place : ℕ → ℕ → ℕ → Dlsn
place segment entry slot = record { segment = segment; entry = entry; slot = slot }

-- whether the first stands before the second
abbrev pub is_before : Dlsn → Dlsn → Bool
is_before a b =
    nat_lt a.segment b.segment
    || (a.segment == b.segment && (nat_lt a.entry b.entry || (a.entry == b.entry && nat_lt a.slot b.slot)))

-- whether both are one place
abbrev pub is_same : Dlsn → Dlsn → Bool
is_same a b = a.segment == b.segment && a.entry == b.entry && a.slot == b.slot

-- whether the first doesn't stand behind the second
abbrev pub is_at_most : Dlsn → Dlsn → Bool
is_at_most a b = not (is_before b a)

-- where a stream begins
abbrev pub first_place : Dlsn
first_place = place 1 0 0

-- the one that stands behind the other
abbrev pub greater : Dlsn → Dlsn → Dlsn
greater a b = if is_before a b then b else a

-- the slot behind a place; past the greatest slot the next entry, and past the greatest entry the next segment
unfoldable pub after_place : Dlsn → Dlsn
after_place d =
    if not (d.slot == 2 ^ 32 - 1) then place d.segment d.entry (d.slot + 1)
    else (if not (d.entry == 2 ^ 64 - 1) then place d.segment (d.entry + 1) 0 else place (d.segment + 1) 0 0)
