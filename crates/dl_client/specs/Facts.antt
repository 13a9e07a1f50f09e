-- What a client keeps.
use Rattle.std.specs.Prelude.{ℕ, Bool, Option}
use Rattle.dl_formats.specs.declared.conf.Conf.{Conf}
use Rattle.dl_rules_client.specs.Acts.{ClientArgs}
use Rattle.dl_client.specs.declared.order.Order.{Order}

-- Who it is: its number, its session and the configuration. How many requests it has made, and whether the last one waits for its
-- reply; how many records were taken; and the order under way, where there is one.
pub record ClientFacts : Type 0 where
  pub number : ℕ
  pub session : ℕ
  pub conf : Conf
  pub asked : ℕ
  pub awaits : Bool
  pub taken : ℕ
  pub order : Option Order

-- the arguments of a client, one by one
abbrev pub args_of : (number session : ℕ) → Conf → (calls : ℕ) → ClientArgs
args_of number session conf calls = record { number = number; session = session; conf = conf; calls = calls }
