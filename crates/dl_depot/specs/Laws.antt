-- What holds of counts of faults.
use Rattle.std.specs.Prelude.{◌<◌, ℕ}
use Rattle.dl_depot.specs.Device.{last_count, Rose}

-- a count that rose is greater than it was, unless it was the last one: so none rises from n to n
abbrev pub RiseIsGreater : Type 0
RiseIsGreater = (before now : ℕ) → before < last_count → Rose before now → before < now
