-- What the failure of a request says.
use Rattle.std.specs.Prelude.{ℕ, zero, Bool, true, false}
use Rattle.dl_types.specs.declared.why.Why.{Why}
use Rattle.dl_types.specs.declared.why.Why.TheVariants.{NoNode}

-- whether a failure says that the node of the first operation isn't there
abbrev pub is_missing : ℕ → Why → Bool
is_missing zero NoNode = true
is_missing place w = false
